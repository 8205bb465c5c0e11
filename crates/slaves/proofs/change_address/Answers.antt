use Rattle.slaves.proofs.Planned.{change-meets}
use Rattle.slaves.proofs.change_address.Goals as goal

pub returns : goal.returns
returns c =
    let met =
    change-meets c.args.owner c.change-plan.result c.args.from c.args.to c.args.table.now c.seek-at.ensures c.entry_at-entry.ensures
    c.seek-other.ensures c.change-plan.ensures.refused c.change-plan.ensures.placed c.put.ensures.number c.put.ensures.table_after in
    record { value = met.0; table_after = met.1 }
