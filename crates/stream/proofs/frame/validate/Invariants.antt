-- `stream::frame::validate` meets its contract: what holds before a right frame holds behind it, and the test of a frame is exact. Assumes nothing.
use Prim.Native.Nat.{◌+◌, ◌-◌, ◌*◌}
use Rattle.stream.specs.Stage.{CountedFrom}
use Rattle.stream.proofs.frame.validate.Given as goal

abbrev pub invariant-loop-frame : goal.invariant-loop-frame
invariant-loop-frame l = CountedFrom l.input (l.start + (l.width + 2) * l.frame) l.width (l.count - l.frame) l.unused_septets
