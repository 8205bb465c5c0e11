-- `transmitted` meets its contract: what goes lies within the queue. Assumes nothing.
use native.Mathlib.Omega.{arith}
use Rattle.sender.proofs.Portion.{portion-there}
use Rattle.sender.proofs.transmitted.Goals as goal

pub overflow_add-end : goal.overflow_add-end
overflow_add-end c =
    let size = c.portion_size-size.ensures in
    omega (arith, portion-there c.args.sender (omega arith))

pub slice_bounds-copy-end : goal.slice_bounds-copy-end
slice_bounds-copy-end c =
    let size = c.portion_size-size.ensures in
    omega (arith, portion-there c.args.sender (omega arith))
