-- `write::head_length` meets its contract. Assumes nothing.
use mathlib.Core.Path.{sym, ◌∙◌}
use Rattle.listing.proofs.Lines.{command-byte, command-word}
use Rattle.listing.proofs.write.head_length.Goals as goal

pub returns-then-is_byte : goal.returns-then-is_byte
returns-then-is_byte c = rw (command-byte _ _ (sym c.is_byte.ensures ∙ c.if-is_byte.true))

pub returns-else-is_byte : goal.returns-else-is_byte
returns-else-is_byte c = rw (command-word _ _ (sym c.is_byte.ensures ∙ c.if-is_byte.false))
