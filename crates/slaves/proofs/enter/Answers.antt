use Rattle.slaves.proofs.Planned.{enter-meets}
use Rattle.slaves.proofs.enter.Goals as goal

pub returns : goal.returns
returns c =
    let met =
    enter-meets c.enter-plan.result c.args.figures c.args.slave c.args.table.now c.seek-at.ensures c.seek-free.ensures c.behind.ensures c.seek-next.ensures
    c.occupancy-occupancy.ensures c.enter-plan.ensures.refused c.enter-plan.ensures.placed c.put-number.ensures.number c.put-number.ensures.table_after
    c.after_enter.ensures in
    record { value = met.0; table_after = met.1 }
