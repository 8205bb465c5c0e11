-- `write::payload_text_length` meets its contract. Assumes nothing.
use mathlib.Core.Path.{ap, sym, ◌∙◌}
use lib.ListN.{length}
use Rattle.listing.proofs.Lines.{payload-none, length-some}
use Rattle.listing.proofs.write.payload_text_length.Goals as goal

pub returns-then-is_empty : goal.returns-then-is_empty
returns-then-is_empty c = sym (ap length (payload-none c.args.payload.now (sym c.is_empty.ensures ∙ c.if-is_empty.true)))

pub returns-else-is_empty : goal.returns-else-is_empty
returns-else-is_empty c = sym (length-some c.args.payload.now (sym c.is_empty.ensures ∙ c.if-is_empty.false))
