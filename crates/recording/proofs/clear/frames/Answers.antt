-- `clear::frames` meets its contract: after some turns the frames begin with those that are done, and what is left makes up the rest.
-- Assumes nothing.
use Prim.Native.Nat.{ℕ, ◌+◌, ◌-◌, ◌*◌, ◌≤◌}
use native.Mathlib.Omega.{arith}
use mathlib.Core.Path.{◌≡◌, sym, ap, ◌∙◌}
use mathlib.Core.List.{List, [], ◌++◌, append_assoc, append-nil}
use lib.ListN.{length, get_or, take, drop, length-append, length-drop}
use lib.Seq.{drop_at, drop-drop, get_or-drop}
use Rattle.basics.specs.Bytes.{over}
use Rattle.basics.proofs.Over.{part, lent}
use Rattle.septet.specs.Septet.{with_top_bits}
use Rattle.record.specs.Record.{with_checksum, with_septet, framed, unframed}
use Rattle.record.proofs.Frames.{rewritten-step}
use Rattle.recording.specs.Stage.{cleared}
use Rattle.recording.proofs.Clearing.{length-cleared, frame-cleared}
use Rattle.recording.proofs.clear.frames.Goals as goal

pub loop-i-preserved : goal.loop-i-preserved
loop-i-preserved c =
    let all = c.args.frames.now in
    let low = c.requires.1 in
    let loop = c.loop-i in
    let at = 6 * loop.i in
    let left = c.args.count - loop.i in
    let done = loop.invariant.0 in
    let x = drop at all in
    let frame = with_checksum (with_septet 0 (with_top_bits (get_or x 4 0) (take 4 x))) in
    let here : take (length loop.frames - at) (drop at loop.frames) ≡ x =
    part loop.frames at ∙ rw loop.invariant.2 (drop_at done (drop (length done) all) at loop.invariant.1 ∙ ap (λ (n : ℕ). drop n all) loop.invariant.1) in
    let long : 6 ≤ length x = rw length-drop (omega arith) in
    let is : cleared 4 16 x ≡ frame = frame-cleared x (omega arith) (λ k h. rw (get_or-drop at all k 0) (low (at + k) (omega arith))) in
    let step = rewritten-step 4 left x (omega arith) (omega arith) in
    let fewer : c.args.count - (loop.i + 1) ≡ left - 1 = omega arith in
    let further : 6 * (loop.i + 1) ≡ at + 6 = omega arith in (
      done ++ frame,
      rw (length-append, ← is, length-cleared 4 16 x (omega arith)) (omega (arith, loop.invariant.1)),
      lent done frame all loop.frames c.septet.new.block at loop.invariant.1 loop.invariant.2
          (c.septet.ensures ∙ ap (λ (q : List ℕ). over q (take (length loop.frames - at) (drop at loop.frames))) (ap (cleared 4 16) here ∙ is)),
      rw (fewer, further, append_assoc done frame, ← drop-drop 6 at all) (ap (λ (r : List ℕ). done ++ r) (sym step) ∙ loop.invariant.3),
    )

pub returns : goal.returns
unfolding framed
returns c =
    let loop = c.loop-i in
    let args = c.args in
    let none : args.count - loop.i ≡ 0 = omega arith in
    let done : loop.invariant.0 ≡ framed 4 args.count [] (unframed 4 args.count args.frames.now) = sym (append-nil loop.invariant.0) ∙ rw none at loop.invariant.3 in
    loop.invariant.2 ∙ ap (λ (l : List ℕ). over l args.frames.now) done
