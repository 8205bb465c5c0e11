-- `stream::high_bytes::all_low` meets its contract: what the bytes make together is low exactly if each of them is. Assumes nothing.
use borrow.Author.Count.{below_more}
use Prim.Native.Nat.{ℕ, ◌<◌}
use native.Mathlib.Omega.{arith}
use lib.ListN.{get_or}
use lib.Bits.{bit_or, or_add_and, and_le_l, and_le_r, or_lt}
use Rattle.stream.proofs.high_bytes.all_low.Goals as goal

-- what two bytes make together is low exactly if both are
joined-low : (a b : ℕ) → (bit_or a b < 0x80 → (a < 0x80) × (b < 0x80)) × (a < 0x80 → b < 0x80 → bit_or a b < 0x80)
joined-low a b = (λ low. omega (arith, or_add_and a b, and_le_l a b, and_le_r a b), or_lt 7 a b)

pub loop-byte-preserved : goal.loop-byte-preserved
loop-byte-preserved c =
    let loop = c.loop-byte in
    let low = joined-low loop.joined (get_or c.args.s.now loop.byte-index 0) in (
      λ joined. below_more _ _ (loop.invariant.0 (low.0 joined).0) (low.0 joined).1,
      λ all. low.1 (loop.invariant.1 (λ k below. all k (omega arith))) (all loop.byte-index (omega arith)),
    )
