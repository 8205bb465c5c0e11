-- `recording::read::block` meets its contract: after i turns i bytes have their top bits, and the rest of the septet is what i halvings leave. Assumes nothing.
use mathlib.Core.Path.{◌≡◌, refl, ap, ◌∙◌, sym}
use mathlib.Core.List.{List, ◌++◌}
use Prim.Native.Nat.{ℕ, ◌+◌, ◌*◌, ◌/◌, ◌%◌, ◌<◌}
use native.Mathlib.Nat.{div-one}
use native.Mathlib.Omega.{arith}
use lib.ListN.{length, take, drop, get_or, set}
use lib.Seq.{length-take-le}
use Rattle.basics.proofs.Over.{over-set}
use Rattle.septet.specs.Septet.{with_top_bits}
use Rattle.septet.proofs.Laws.{length-with_top_bits}
use Rattle.septet.proofs.Loops.{with_top_bits-more, unused-more}
use Rattle.recording.proofs.read.block.Goals as goal

pub loop-i-init : goal.loop-i-init
unfolding with_top_bits
loop-i-init c = (sym (div-one _), refl)

pub loop-i-preserved : goal.loop-i-preserved
loop-i-preserved c =
    let args = c.args in
    let s = args.low.now in
    let loop = c.loop-i in
    let i = loop.i in
    let v = get_or s i 0 % 128 + 128 * (loop.rest % 2) in
    let h : i < length s = omega arith in
    let k : length (with_top_bits args.septet (take i s)) ≡ i = length-with_top_bits args.septet (take i s) ∙ length-take-le i s (omega arith) in (
      ap (λ (m : ℕ). m / 2) loop.invariant.0 ∙ unused-more args.septet i,
      ap (λ (l : List ℕ). set l i v) loop.invariant.1
          ∙ over-set (with_top_bits args.septet (take i s)) args.out.now v i k (omega arith)
          ∙ ap (λ (l : List ℕ). l ++ drop (i + 1) args.out.now) (with_top_bits-more args.septet s i loop.rest h loop.invariant.0),
    )
