-- `stream::unused::in_septet` meets its contract, by the test. Assumes nothing.
use mathlib.Core.Path.{◌∙◌}
use Rattle.stream.proofs.UnusedSeptets.{bit-nonzero}
use Rattle.stream.proofs.unused.in_septet.Goals as goal

pub returns : goal.returns
returns c = c.from.ensures ∙ bit-nonzero _
