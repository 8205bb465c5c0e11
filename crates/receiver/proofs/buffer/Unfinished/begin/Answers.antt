-- `receiver::buffer::Unfinished::begin` meets its contract. Assumes nothing.
use native.Mathlib.Omega.{arith}
use Rattle.receiver.proofs.Memory.{ends}
use Rattle.receiver.proofs.buffer.Unfinished.begin.Goals as goal

pub returns : goal.returns
returns c = rw c.nothing-2.ensures (ends _ _ (omega arith) (omega arith))
