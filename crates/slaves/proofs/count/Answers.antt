use Rattle.std.proofs.Common.{◌≡◌, ℕ, suc, ◌-◌, get_or, ap, ◌∙◌, length, arith, le_antisymm}
use Rattle.slave_plans.specs.Table.{none}
use Rattle.slave_plans.specs.Plan.{occupancy_with}
use Rattle.slave_plans.specs.declared.Occupancy.{Occupancy}
use Rattle.slaves.proofs.Counting.{occupancy-from, counted-with, counting-starts, counting-ends, search-within}
use Rattle.slaves.proofs.count.Goals as goal

pub loop-index-init : goal.loop-index-init
loop-index-init c = record {
  above = search-within (length c.args.table.now) _ c.search_start-first.ensures;
  counted = c.count_start-occupancy.ensures ∙ counting-starts c.args.owner c.args.table.now;
}

pub loop-index-preserved : goal.loop-index-preserved
loop-index-preserved c =
    let table = c.args.table.now in
    let owner = c.args.owner in
    let index = c.loop-index.index - 1 in
    let next : c.loop-index.index ≡ suc index = omega arith in
    let behind = c.loop-index.invariant.counted ∙ ap (λ (n : ℕ). occupancy-from owner n table) next in
    record {
      above = omega arith;
      counted = c.count_entry-occupancy.ensures
          ∙ ap (λ (behind : Occupancy). occupancy_with owner index (get_or table index none) behind) behind
          ∙ counted-with owner table index (omega arith) (omega arith);
    }

pub returns : goal.returns
returns c =
    let known = c.loop-index.invariant in
    known.counted
    ∙ counting-ends c.args.owner c.args.table.now c.loop-index.index (le_antisymm c.loop-index-test.false known.above ∙ c.search_start-first.ensures)
