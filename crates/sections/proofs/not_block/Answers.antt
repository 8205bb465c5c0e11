-- `not_block` meets its contract: no block packet passes a test before the last, and only the room is left behind them all. Assumes nothing.
use native.Mathlib.Omega.{arith}
use mathlib.Core.Path.{◌∙◌}
use Rattle.sections.proofs.Finding.{no_block, room-left}
use Rattle.sections.proofs.not_block.Goals as goal

pub returns-then-bytes-ne0 : goal.returns-then-bytes-ne0
returns-then-bytes-ne0 c = c.if-bytes-ne0.true ∙ no_block _ _ (λ b. grind arith)

pub returns-else-bytes-ne0 : goal.returns-else-bytes-ne0
returns-else-bytes-ne0 c = room-left _ _ (grind arith) (grind arith) (grind arith) (grind arith)
