-- `recording::read::block` meets its contract: after i turns i bytes have their top bits, and the rest of the septet is what i halvings leave. Assumes nothing.
use mathlib.Core.Path.{◌≡◌}
use mathlib.Core.List.{◌++◌}
use lib.ListN.{take, drop}
use Rattle.septet.specs.Septet.{with_top_bits, unused_bits}
use Rattle.recording.proofs.read.block.Given as goal

abbrev pub invariant-loop-i : goal.invariant-loop-i
invariant-loop-i l =
    (l.rest ≡ unused_bits l.i l.septet) × (l.out ≡ with_top_bits l.septet (take l.i l.low) ++ drop l.i l.initial.out)
