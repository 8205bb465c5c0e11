-- `all::lines` meets its contract: the lines of the faults before `place` are written. Assumes nothing.
use Prim.Native.Nat.{◌-◌, ◌≤◌}
use lib.ListN.{length}
use Rattle.listing.proofs.SoFar.{SoFar}
use Rattle.explanation.specs.Explanation.{explanation_of}
use Rattle.explanation.proofs.Following.{lines_after}
use Rattle.explanation.proofs.all.lines.Given as goal

abbrev pub invariant-loop-fault : goal.invariant-loop-fault
invariant-loop-fault l =
    SoFar (explanation_of l.input) (lines_after l.input l.place) l.to l.initial.out l.out × (l.place ≤ length l.input) × (l.to ≤ length l.out)

abbrev pub decreases-loop-fault : goal.decreases-loop-fault
decreases-loop-fault l = length l.input - l.place
