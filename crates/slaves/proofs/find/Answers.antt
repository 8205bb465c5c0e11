use Rattle.slaves.proofs.Planned.{find-meets}
use Rattle.slaves.proofs.find.Goals as goal

pub returns : goal.returns
returns c = find-meets c.args.owner c.args.address c.args.table.now c.seek-at.ensures c.entry_at-entry.ensures c.find.ensures
