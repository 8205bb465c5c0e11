-- `receiver::buffer::Unfinished::add` meets its contract. Assumes nothing.
use native.Mathlib.Omega.{arith}
use Rattle.receiver.proofs.Memory.{adds-short, adds-last}
use Rattle.receiver.proofs.buffer.Unfinished.add.Goals as goal

pub returns-then-held-self : goal.returns-then-held-self
returns-then-held-self c =
    adds-short c.args.memory.now c.args.byte c.args.self (omega arith) c.requires.0 c.requires.1.0 c.requires.1.1 (omega arith)

pub returns : goal.returns
returns c =
    adds-last c.args.memory.now c.args.byte c.args.self (omega arith) c.requires.0 c.requires.1.0 c.requires.1.1 (omega arith) c.announced.result c.announced.ensures
