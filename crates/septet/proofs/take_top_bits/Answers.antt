-- `septet::take_top_bits` meets its contract: with i bytes left to the front, the septet and the low bits are those of the bytes from i on.
-- Assumes nothing.
use mathlib.Core.Path.{◌≡◌, ap, ◌∙◌, sym}
use mathlib.Core.List.{List, []}
use Prim.Native.Nat.{ℕ, suc, ◌-◌, ◌%◌, ◌<◌}
use native.Mathlib.Omega.{arith}
use lib.ListN.{length, take, drop, get_or, set, take-append-drop, length-take, drop_of_length-le}
use lib.Seq.{length-take-le, get_or-take}
use Rattle.septet.specs.Septet.{septet_of, low_bits}
use Rattle.septet.proofs.Loops.{septet_of-drop, low_bits-drop}
use Rattle.septet.proofs.take_top_bits.Goals as goal

pub loop-i-init : goal.loop-i-init
unfolding septet_of low_bits
loop-i-init c =
    let count = c.min-count.result in
    let none : drop count (take count c.args.block.now) ≡ [] = drop_of_length-le _ {i = count} (simp length-take (omega arith)) in
    (simp none, simp none (sym (take-append-drop count c.args.low.now)))

pub loop-i-preserved : goal.loop-i-preserved
loop-i-preserved c =
    let bytes = c.args.block.now in
    let low = c.args.low.now in
    let count = c.min-count.result in
    let i = c.loop-i.i in
    let inv = c.loop-i.invariant in
    let block = take count bytes in
    let k : length block ≡ count = length-take-le count bytes (omega arith) in
    let e : i ≡ suc (i - 1) = omega arith in
    let h : i - 1 < length block = omega arith in
    let byte : get_or block (i - 1) 0 ≡ get_or bytes (i - 1) 0 = get_or-take count bytes (i - 1) 0 (omega arith) in (
      omega (arith, inv.0, byte, c.type_inv.block (i - 1), septet_of-drop block i (i - 1) e h),
      ap (λ (l : List ℕ). set l (i - 1) (get_or bytes (i - 1) 0 % 128)) inv.1
          ∙ rw byte at (low_bits-drop block low (drop count low) i (i - 1) e h (omega arith)),
    )
