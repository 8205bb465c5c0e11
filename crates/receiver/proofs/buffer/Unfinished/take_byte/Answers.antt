-- `receiver::buffer::Unfinished::take_byte` meets its contract. Assumes nothing.
use native.Mathlib.Omega.{arith}
use lib.ListN.{take}
use Rattle.receiver.proofs.Memory.{high-alone, low-unused}
use Rattle.receiver.proofs.buffer.Unfinished.take_byte.Goals as goal

pub returns-then-byte-ge128 : goal.returns-then-byte-ge128
returns-then-byte-ge128 c =
    let args = c.args in
    let begin = c.begin in
    high-alone (take args.self.held args.memory.now) args.byte begin.new.memory begin.result (omega arith) begin.ensures

pub returns-then-self-eq0 : goal.returns-then-self-eq0
returns-then-self-eq0 c = low-unused c.args.memory.now c.args.byte c.args.self (omega arith) c.if-self-eq0.true c.requires
