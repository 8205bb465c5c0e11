-- `stream::frame::sum` meets its contract: the part that is summed up begins the frame. Assumes nothing.
use native.Mathlib.Nat.{sub-zero}
use Rattle.stream.proofs.frame.sum.Goals as goal

pub returns : goal.returns
returns c = rw sub-zero at c.checksum.ensures
