-- `clear::frames` meets its contract: after some turns the frames begin with those that are done, and what is left makes up the rest.
-- Assumes nothing.
use Prim.Native.Nat.{ℕ, ◌-◌, ◌*◌}
use mathlib.Core.Path.{◌≡◌}
use mathlib.Core.List.{List, [], ◌++◌}
use lib.ListN.{length, drop}
use Rattle.basics.specs.Bytes.{over}
use Rattle.record.specs.Record.{framed, unframed}
use Rattle.recording.proofs.clear.frames.Given as goal

abbrev pub invariant-loop-i : goal.invariant-loop-i
invariant-loop-i l =
    (done : List ℕ)
    × (length done ≡ 6 * l.i)
    × (l.frames ≡ over done l.initial.frames)
    × (done ++ framed 4 (l.count - l.i) [] (unframed 4 (l.count - l.i) (drop (6 * l.i) l.initial.frames)) ≡ framed 4 l.count [] (unframed 4 l.count l.initial.frames))
