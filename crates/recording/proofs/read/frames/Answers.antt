-- `recording::read::frames` meets its contract: the buffer begins with what is read, and the frames that are left make up the rest. Assumes nothing.
use mathlib.Core.Path.{◌≡◌, ap, ◌∙◌, sym}
use mathlib.Core.List.{List, ◌++◌, append_assoc, append-nil}
use Prim.Native.Nat.{ℕ, ◌+◌, ◌-◌, ◌*◌, ◌<◌, ◌≤◌}
use native.Mathlib.Omega.{arith}
use Rattle.std.proofs.Math.Nat.{mul-le-mul_left}
use lib.ListN.{length, take, drop, get_or, length-drop, length-append}
use lib.Seq.{drop-drop, length-take-le}
use Rattle.septet.specs.Septet.{with_top_bits}
use Rattle.septet.proofs.Laws.{length-with_top_bits}
use Rattle.record.specs.Record.{unframed}
use Rattle.basics.specs.Bytes.{over}
use Rattle.basics.proofs.Over.{lent, part}
use Rattle.recording.proofs.Reading.{unframed-step}
use Rattle.recording.proofs.read.frames.Goals as goal

pub loop-i-preserved : goal.loop-i-preserved
loop-i-preserved c =
    let args = c.args in
    let loop = c.loop-i in
    let from = (args.width + 2) * loop.i in
    let at = args.width * loop.i in
    let left = args.count - loop.i in
    let done = loop.invariant.0 in
    let x = drop from args.frames.now in
    let block = with_top_bits (get_or x args.width 0) (take args.width x) in
    let pos : 0 < left = omega arith in
    let room : (args.width + 2) * (loop.i + 1) ≤ (args.width + 2) * args.count = mul-le-mul_left (args.width + 2) (omega arith) in
    let full : length block ≡ args.width = length-with_top_bits (get_or x args.width 0) (take args.width x) ∙ length-take-le args.width x (simp length-drop (omega arith)) in
    let fewer : args.count - (loop.i + 1) ≡ left - 1 = omega arith in
    let further : (args.width + 2) * (loop.i + 1) ≡ from + (args.width + 2) = omega arith in (
      done ++ block,
      rw (length-append, full, loop.invariant.1) (omega arith),
      lent done block args.out.now loop.out c.frame.new.out at loop.invariant.1 loop.invariant.2 (rw part at c.frame.ensures),
      rw (fewer, further, append_assoc, ← drop-drop (args.width + 2) from args.frames.now)
          (ap (λ (r : List ℕ). done ++ r) (sym (unframed-step args.width left x pos)) ∙ loop.invariant.3),
    )

pub returns : goal.returns
unfolding unframed
returns c =
    let args = c.args in
    let loop = c.loop-i in
    let none : args.count - loop.i ≡ 0 = omega arith in
    let all : loop.invariant.0 ≡ unframed args.width args.count args.frames.now = sym (append-nil loop.invariant.0) ∙ rw none at loop.invariant.3 in
    loop.invariant.2 ∙ ap (λ (l : List ℕ). over l args.out.now) all
