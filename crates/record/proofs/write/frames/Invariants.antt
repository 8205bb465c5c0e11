-- `write::frames` meets its contract: after i turns the output begins with i frames. Assumes nothing.
use mathlib.Core.Path.{◌≡◌}
use mathlib.Core.List.{[]}
use Rattle.basics.specs.Bytes.{over}
use Rattle.record.specs.Record.{framed}
use Rattle.record.proofs.write.frames.Given as goal

abbrev pub invariant-loop-i : goal.invariant-loop-i
invariant-loop-i l = l.out ≡ over (framed l.width l.i [] l.payload) l.initial.out
