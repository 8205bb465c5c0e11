-- `stream::frame::validate` meets its contract: what holds before a right frame holds behind it, and the test of a frame is exact. Assumes nothing.
use Prim.Native.Nat.{ℕ, ◌+◌, ◌-◌, ◌*◌, ◌≤◌}
use native.Mathlib.Nat.{mul-suc}
use native.Mathlib.Numerals.{add-one}
use native.Mathlib.Omega.{arith}
use mathlib.Core.Bool.{true≢false}
use mathlib.Core.List.{List}
use mathlib.Core.Path.{◌≡◌, sym, ◌∙◌}
use lib.ListN.{length, get_or}
use Rattle.septet.specs.Septet.{unused_bits}
use Rattle.stream.specs.Stage.{Clean, CountedFrom}
use Rattle.stream.specs.Validation.{fault_at}
use Rattle.stream.proofs.Frames.{first-clean, counted_next, counted-end, frames-end, frames-stop}
use Rattle.stream.proofs.Reached.{number-faulty, told-whole, told-fault}
use Rattle.stream.proofs.UnusedSeptets.{nonzero-most}
use Rattle.stream.proofs.frame.validate.Goals as goal
use Rattle.stream.proofs.frame.validate.Goals.{then-input-end-via-then-input-end, then-input-end-via-else-input-end+then-not-is_right}

-- where the next frame begins
module _ (s : List ℕ) (start width count frame unused : ℕ) where
  next : CountedFrom s (start + (width + 2) * frame + (width + 2)) width (count - frame - 1) unused → CountedFrom s (start + (width + 2) * (frame + 1)) width (count - (frame + 1)) unused
  next from =
      let place : start + (width + 2) * frame + (width + 2) ≡ start + (width + 2) * (frame + 1) = rw (add-one, mul-suc) (omega arith) in
      let left : count - frame - 1 ≡ count - (frame + 1) = omega arith in
      rw (place, left) at from

pub returns-then-input-end : goal.returns-then-input-end
returns-then-input-end c =
    let s = c.args.input.now in
    let width = c.args.width in
    let at = c.args.start + (width + 2) * c.loop-frame.frame in
    let count = c.args.count - c.loop-frame.frame in
    let frames = c.loop-frame.invariant.frames in
    let wrong : at + (width + 2) ≤ length s → Clean (fault_at s) (at + (width + 2)) → ⊥ =
    λ inside clean. elim c.then-input-end.branch [
      | then-input-end-via-then-input-end w ↦ absurd (omega (arith, w.if-input-end.true))
      | then-input-end-via-else-input-end+then-not-is_right w ↦
          true≢false (sym (w.is_right.ensures.1 ((first-clean s at width count frames (at + (width + 2)) (omega arith)).1 clean)) ∙ w.if-not-is_right.true)
    ] in
    let stop = c.fault-stop.result in
    rw (c.at.ensures.verdict, c.at.ensures.offset)
    (told-fault s (frames-stop s at width count frames (omega arith) wrong c.min.result c.min.ensures c.fault-stop.ensures) (number-faulty stop.verdict stop.faulty))

pub overflow_add-unused_septets : goal.overflow_add-unused_septets
overflow_add-unused_septets c =
    omega (arith, c.in_septet-unused_septets.ensures, nonzero-most (unused_bits c.args.width (get_or c.args.input.now (c.args.start + (c.args.width + 2) * c.loop-frame.frame + c.args.width) 0)))

pub loop-frame-preserved : goal.loop-frame-preserved
loop-frame-preserved c =
    let args = c.args in
    let loop = c.loop-frame in
    let at = args.start + (args.width + 2) * loop.frame in
    let from = loop.invariant in
    let exact = first-clean args.input.now at args.width (args.count - loop.frame) from.frames (at + (args.width + 2)) (omega arith) in
    rw c.in_septet-unused_septets.ensures
    (next args.input.now args.start args.width args.count loop.frame _
    (counted_next args.input.now at args.width (args.count - loop.frame) _ from (omega arith) (omega arith) (exact.0 (c.is_right.ensures.0 c.if-not-is_right.false))))

pub returns : goal.returns
returns c =
    let from = c.loop-frame.invariant in
    let left : c.args.count - c.loop-frame.frame ≡ 0 = omega arith in
    let all : c.loop-frame.frame ≡ c.args.count = omega arith in
    told-whole _ _ (rw all at (frames-end _ _ _ _ from.frames left)) (counted-end _ _ _ _ _ from left)
