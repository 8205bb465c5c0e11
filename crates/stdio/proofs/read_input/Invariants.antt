-- `read_input` is safe and ends: each turn reads at least a byte, and the measure is what is left of the buffer. Assumes nothing.
use Rattle.std.proofs.Common.{length, ◌-◌, ◌≤◌}
use Rattle.stdio.proofs.read_input.Given as goal

abbrev pub invariant-loop-size : goal.invariant-loop-size
invariant-loop-size g l = l.size ≤ length l.input

abbrev pub decreases-loop-size : goal.decreases-loop-size
decreases-loop-size g l = length l.input - l.size
