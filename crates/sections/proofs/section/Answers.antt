-- `section` meets its contract: what was found lies in the payload. Assumes nothing.
use Rattle.sections.proofs.Laws.{section-at, section-within, shows}
use Rattle.sections.proofs.section.Goals as goal

pub show-requires : goal.show-requires
show-requires c = rw c.find_section.ensures (section-within c.args.header c.args.payload.now c.args.k)

pub returns : goal.returns
returns c = shows c.args.payload _ _ _ _ c.find_section.ensures (section-at c.args.header c.args.payload.now c.args.k) c.show.ensures
