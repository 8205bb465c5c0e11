-- `recording::read::frames` meets its contract: the buffer begins with what is read, and the frames that are left make up the rest. Assumes nothing.
use mathlib.Core.Path.{◌≡◌}
use mathlib.Core.List.{List, ◌++◌}
use Prim.Native.Nat.{ℕ, ◌+◌, ◌-◌, ◌*◌}
use lib.ListN.{length, drop}
use Rattle.record.specs.Record.{unframed}
use Rattle.basics.specs.Bytes.{over}
use Rattle.recording.proofs.read.frames.Given as goal

abbrev pub invariant-loop-i : goal.invariant-loop-i
invariant-loop-i l =
    (done : List ℕ)
    × (length done ≡ l.width * l.i)
    × (l.out ≡ over done l.initial.out)
    × (done ++ unframed l.width (l.count - l.i) (drop ((l.width + 2) * l.i) l.frames) ≡ unframed l.width l.count l.frames)
