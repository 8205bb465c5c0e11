-- `checksum::checksum` meets its contract: the sum, continued over what is left, is the checksum of all, and low enough for that.
-- Assumes nothing.
use Prim.Native.Nat.{ℕ, ◌+◌, ◌-◌, ◌%◌}
use native.Mathlib.Omega.{arith}
use mathlib.Core.Path.{◌≡◌, ◌∙◌, sym, ap}
use mathlib.Core.List.{List, ◌++◌}
use lib.ListN.{length, drop, length-append}
use lib.Seq.{drop-append-add}
use Rattle.std.specs.Slice.Iter.{chunks_exact_rest}
use Rattle.checksum.specs.Checksum.{checksum_from}
use Rattle.checksum.proofs.Laws.{checksum_from-append, checksum_from-below}
use Rattle.checksum.proofs.checksum.Goals as goal

-- what no whole piece takes is the same behind a piece
remainder : (piece rest : List ℕ) → length piece ≡ 256
    → drop (length (piece ++ rest) - length (piece ++ rest) % 256) (piece ++ rest) ≡ drop (length rest - length rest % 256) rest
remainder piece rest whole =
    let e : length (piece ++ rest) - length (piece ++ rest) % 256 ≡ length piece + (length rest - length rest % 256) = simp length-append (omega arith) in
    rw e (drop-append-add piece rest (length rest - length rest % 256))

pub loop-piece-preserved : goal.loop-piece-preserved
loop-piece-preserved c =
    let loop = c.loop-piece in
    let piece = c.in-Some.piece.now in
    let step = c.in-Some.ensures.steps in
    let rest = chunks_exact_rest c.next.new.self in (
      rw c.update-sum.ensures (checksum_from-below _ piece (omega arith)),
      step.0 ∙ loop.invariant.1,
      rw (c.update-sum.ensures, ← checksum_from-append loop.sum piece rest, ← step.1.0) loop.invariant.2,
      sym (remainder piece rest (step.1.1 ∙ loop.invariant.1)) ∙ rw (← step.1.0) loop.invariant.3,
    )

pub returns : goal.returns
returns c =
    let loop = c.loop-piece in
    let left = chunks_exact_rest loop.piece-iterator in
    let none : length left - length left % 256 ≡ 0 = omega (arith, c.in-None.ensures.steps.1.0, loop.invariant.1) in
    c.update.ensures ∙ ap (checksum_from loop.sum) (sym (rw none at loop.invariant.3)) ∙ loop.invariant.2
