-- What `count` has counted is the occupancy of the entries from the index on, which doesn't go below the first that is counted.
use Rattle.std.proofs.Common.{◌≡◌, ◌≤◌}
use Rattle.slaves.proofs.Counting.{occupancy-from}
use Rattle.slaves.proofs.count.Given as goal

abbrev pub invariant-loop-index : goal.invariant-loop-index
invariant-loop-index l = record {
  above : l.first ≤ l.index;
  counted : l.occupancy ≡ occupancy-from l.owner l.index l.table;
}
