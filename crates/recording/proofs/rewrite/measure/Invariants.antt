-- `recording::rewrite::measure` meets its contract: what is counted and what remains make up the whole. Assumes nothing.
use Prim.Native.Nat.{◌+◌, ◌-◌, ◌≤◌}
use mathlib.Core.Path.{◌≡◌}
use lib.ListN.{length}
use Rattle.recording.specs.Normalize.{normalized}
use Rattle.recording.proofs.Rewriting.{remaining}
use Rattle.recording.proofs.rewrite.measure.Given as goal

abbrev pub invariant-loop-span : goal.invariant-loop-span
invariant-loop-span l = (l.total + length (remaining l.input l.at) ≡ length (normalized l.input)) × (l.at ≤ length l.input)

abbrev pub decreases-loop-span : goal.decreases-loop-span
decreases-loop-span l = length l.input - l.at
