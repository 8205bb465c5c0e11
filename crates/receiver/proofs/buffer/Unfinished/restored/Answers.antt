-- `receiver::buffer::Unfinished::restored` meets its contract. Assumes nothing.
use native.Mathlib.Omega.{arith}
use mathlib.Core.Logic.{inl, inr}
use Rattle.receiver.proofs.Memory.{restored-full, restored-uncounted, restored-long, restored-most, restored}
use Rattle.receiver.proofs.buffer.Unfinished.restored.Goals as goal

pub returns-then-held-ge772 : goal.returns-then-held-ge772
returns-then-held-ge772 c =
    rw c.nothing.ensures
    (elim c.then-held-ge772.either [
      | inl full ↦ restored-full c.args.receiver c.args.memory.now c.told-memory full
      | inr uncounted ↦ restored-uncounted c.args.receiver c.args.memory.now uncounted.1
    ])

pub returns-then-least-held : goal.returns-then-least-held
returns-then-least-held c =
    let total = c.announced-least.ensures in
    rw c.nothing-then-least-held.ensures
    (elim c.then-least-held.either [
      | inl long ↦ restored-long c.args.receiver c.args.memory.now (omega arith) (omega (arith, total))
      | inr most ↦ restored-most c.args.receiver c.args.memory.now (omega (arith, total))
    ])

pub returns : goal.returns
returns c =
    let total = c.announced-least.ensures in
    rw total (restored c.args.receiver c.args.memory.now (omega arith) (omega arith) (omega (arith, total)) (omega (arith, total)))
