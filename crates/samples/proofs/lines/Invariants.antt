-- `lines` ends: each question moves on, and the measure is what is left of the input. Assumes nothing.
use Rattle.std.proofs.Common.{length}
use Rattle.samples.proofs.lines.Given as goal

abbrev pub decreases-loop-rest : goal.decreases-loop-rest
decreases-loop-rest l = length l.rest
