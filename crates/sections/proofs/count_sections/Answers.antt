-- `count_sections` meets its contract: what `not_block` lets through is left to the chain check. Assumes nothing.
use mathlib.Core.Path.{sym, ◌∙◌}
use native.Mathlib.Omega.{arith}
use lib.ListN.{length}
use Rattle.sections.proofs.Finding.{block-exactly, block-counted, block_refused}
use Rattle.sections.proofs.count_sections.Goals as goal

pub returns-then-not_block : goal.returns-then-not_block
returns-then-not_block c = block_refused c.args.header c.args.payload.now (sym c.not_block.ensures ∙ c.if-not_block.true)

pub header_step-requires : goal.header_step-requires
header_step-requires c =
    omega (arith, ((block-exactly c.args.header (length c.args.payload.now)).0 (sym c.not_block.ensures ∙ c.if-not_block.false)).most)

pub returns : goal.returns
returns c =
    rw (c.ok_or.ensures.value, c.header_step.ensures) (block-counted c.args.header c.args.payload.now (sym c.not_block.ensures ∙ c.if-not_block.false))
