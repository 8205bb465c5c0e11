use Rattle.slaves.proofs.Planned.{check-meets}
use Rattle.slaves.proofs.check_figures.Goals as goal

pub returns : goal.returns
returns c = check-meets c.args.figures c.args.table.now c.count-no.ensures c.count-yes.ensures c.check.ensures
