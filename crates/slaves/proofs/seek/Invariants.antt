-- What `seek` looks for stands where it stands in the rest of the table: from the index on, which goes no further than the table's end.
use Rattle.std.proofs.Common.{◌≡◌, ◌≤◌, max, length}
use Rattle.slave_plans.specs.Table.{lowest_from}
use Rattle.slave_plans.specs.Plan.{is_sought, index_sought}
use Rattle.slaves.proofs.seek.Given as goal

abbrev pub invariant-loop-index : goal.invariant-loop-index
invariant-loop-index l = record {
  rest : index_sought l.start l.sought l.table ≡ lowest_from l.index (is_sought l.sought) l.table;
  most : l.index ≤ max l.first (length l.table);
}
