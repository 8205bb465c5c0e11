-- `all::lines` meets its contract: the lines of the records before `at` are written. Assumes nothing.
use Prim.Native.Nat.{◌-◌, ◌≤◌}
use lib.ListN.{length, drop}
use Rattle.listing.specs.Listing.{listing_of}
use Rattle.listing.proofs.SoFar.{SoFar}
use Rattle.listing.proofs.all.lines.Given as goal

abbrev pub invariant-loop-payload : goal.invariant-loop-payload
invariant-loop-payload l =
    SoFar (listing_of l.input) (listing_of (drop l.at l.input)) l.to l.initial.out l.out × (l.at ≤ length l.input) × (l.to ≤ length l.out)

abbrev pub decreases-loop-payload : goal.decreases-loop-payload
decreases-loop-payload l = length l.input - l.at
