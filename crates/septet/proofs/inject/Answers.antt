-- `septet::inject` meets its contract: after i turns i bytes have their top bits, the rest of the septet is what i halvings leave, and no byte was high.
-- Assumes nothing.
use borrow.Author.Tests.{le-ltb, lt-leb}
use mathlib.Core.Path.{◌≡◌, refl, ap, ◌∙◌, sym}
use mathlib.Core.Bool.{or-true}
use mathlib.Core.List.{List}
use Prim.Native.Nat.{ℕ, ◌≤◌, ◌+◌, ◌*◌, ◌/◌, ◌%◌, ◌<◌}
use native.Mathlib.Omega.{arith}
use native.Mathlib.Nat.{div-one}
use lib.ListN.{length, take, get_or, set}
use lib.Seq.{get_or-take, length-take-le}
use Rattle.basics.specs.Choice.{choose}
use Rattle.septet.specs.Septet.{with_top_bits}
use Rattle.septet.specs.Answer.{any_high, padded}
use Rattle.septet.proofs.Laws.{length-with_top_bits}
use Rattle.septet.proofs.Loops.{unused-more, with_top_bits-more, any_high-more, any_high-at, padded-set}
use Rattle.septet.proofs.inject.Goals as goal

pub loop-i-init : goal.loop-i-init
unfolding any_high with_top_bits
loop-i-init c = (sym (div-one _), refl, refl)

pub returns-then-bytes-i-ge128 : goal.returns-then-bytes-i-ge128
unfolding choose
returns-then-bytes-i-ge128 c =
    let bytes = c.args.bytes in
    let used = c.args.used in
    let i = c.loop-i.i in
    let h : i < length (take used bytes) = rw (length-take-le used bytes (omega arith)) (omega arith) in
    let k : 0x80 ≤ get_or (take used bytes) i 0 = rw (get_or-take used bytes i 0 (omega arith)) (omega arith) in
    c.refused-then-bytes-i-ge128.ensures ∙ simp (any_high-at (take used bytes) i h k, or-true)

pub loop-i-preserved : goal.loop-i-preserved
loop-i-preserved c =
    let bytes = c.args.bytes in
    let septet = c.args.septet in
    let i = c.loop-i.i in
    let rest = c.loop-i.rest in
    let inv = c.loop-i.invariant in
    let h : i < length bytes = omega arith in
    let byte : get_or bytes i 0 % 128 ≡ get_or bytes i 0 = omega arith in
    let k : length (with_top_bits septet (take i bytes)) ≡ i = length-with_top_bits septet (take i bytes) ∙ length-take-le i bytes (omega arith) in (
      ap (λ (m : ℕ). m / 2) inv.0 ∙ unused-more septet i,
      any_high-more bytes i h (omega arith) inv.1,
      ap (λ (l : List ℕ). set l i (get_or bytes i 0 + 128 * (rest % 2))) inv.2
          ∙ padded-set (with_top_bits septet (take i bytes)) i (get_or bytes i 0 + 128 * (rest % 2)) k (omega arith)
          ∙ ap (padded (i + 1)) (rw byte at (with_top_bits-more septet bytes i rest h inv.0)),
    )

pub returns : goal.returns
unfolding choose
returns c =
    let used = c.args.used in
    let inv = c.loop-i.invariant in
    let e : c.loop-i.i ≡ used = omega arith in
    simp (le-ltb _ _ c.if-used-gt7.false, rw e at inv.1, lt-leb 0x80 c.args.septet (omega arith))
    (ap (λ (l : List ℕ). record { number = 0; bytes = l; length = used; septet = 0 }) (rw e at inv.2))
