-- `element` meets its contract: what was found lies in the payload. Assumes nothing.
use Rattle.sections.proofs.Laws.{element-at, element-within, shows}
use Rattle.sections.proofs.element.Goals as goal

pub show-requires : goal.show-requires
show-requires c = rw c.find_element.ensures (element-within c.args.header c.args.payload.now c.args.k c.args.i)

pub returns : goal.returns
returns c = shows c.args.payload _ _ _ _ c.find_element.ensures (element-at c.args.header c.args.payload.now c.args.k c.args.i) c.show.ensures
