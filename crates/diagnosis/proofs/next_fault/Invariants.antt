-- The loop of `diagnosis::next_fault`: the faults from here on are those from the start on.
use Prim.Native.Nat.{◌-◌}
use mathlib.Core.Path.{◌≡◌}
use lib.ListN.{length}
use Rattle.diagnosis.specs.Fault.{faults_after}
use Rattle.diagnosis.proofs.next_fault.Given as goal

abbrev pub invariant-loop-at : goal.invariant-loop-at
invariant-loop-at l = faults_after l.recording l.at ≡ faults_after l.recording l.start

abbrev pub decreases-loop-at : goal.decreases-loop-at
decreases-loop-at l = length l.recording - l.at
