-- `recording::rewrite::all` meets its contract: the output begins with what is written, and what remains makes up the rest. Assumes nothing.
use Prim.Native.Nat.{ℕ, ◌-◌, ◌≤◌}
use mathlib.Core.Path.{◌≡◌}
use mathlib.Core.List.{List, ◌++◌}
use lib.ListN.{length}
use Rattle.basics.specs.Bytes.{over}
use Rattle.recording.specs.Normalize.{normalized}
use Rattle.recording.proofs.Rewriting.{remaining}
use Rattle.recording.proofs.rewrite.all.Given as goal

abbrev pub invariant-loop-span : goal.invariant-loop-span
invariant-loop-span l =
    (done : List ℕ)
    × (length done ≡ l.to)
    × (l.out ≡ over done l.initial.out)
    × (done ++ remaining l.input l.at ≡ normalized l.input)
    × (l.at ≤ length l.input)
    × (length l.out ≡ length l.initial.out)

abbrev pub decreases-loop-span : goal.decreases-loop-span
decreases-loop-span l = length l.input - l.at
