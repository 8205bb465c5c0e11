-- `recording::search::first_whole` meets its contract: what is delivered from here on is what is delivered from the start on. Assumes nothing.
use Prim.Native.Nat.{◌-◌}
use mathlib.Core.Path.{◌≡◌}
use lib.ListN.{length}
use Rattle.recording.specs.Recording.{deliveries_after}
use Rattle.recording.proofs.search.first_whole.Given as goal

abbrev pub invariant-loop-at : goal.invariant-loop-at
invariant-loop-at l = deliveries_after l.input l.at ≡ deliveries_after l.input l.start

abbrev pub decreases-loop-at : goal.decreases-loop-at
decreases-loop-at l = length l.input - l.at
