use Rattle.slaves.proofs.Planned.{remove-meets}
use Rattle.slaves.proofs.remove.Goals as goal

pub returns : goal.returns
returns c =
    let met =
    remove-meets c.args.owner c.remove-plan.result c.args.figures c.args.address c.args.table.now c.seek-at.ensures c.remove-plan.ensures.refused
    c.remove-plan.ensures.placed c.put-number.ensures.number c.put-number.ensures.table_after c.after_remove.ensures in
    record { value = met.0; table_after = met.1 }
