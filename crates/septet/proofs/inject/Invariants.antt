-- `septet::inject` meets its contract: after i turns i bytes have their top bits, the rest of the septet is what i halvings leave, and no byte was high.
-- Assumes nothing.
use mathlib.Core.Path.{◌≡◌}
use mathlib.Core.Bool.{false}
use lib.ListN.{take}
use Rattle.septet.specs.Septet.{with_top_bits, unused_bits}
use Rattle.septet.specs.Answer.{any_high, padded}
use Rattle.septet.proofs.inject.Given as goal

abbrev pub invariant-loop-i : goal.invariant-loop-i
invariant-loop-i l =
    (l.rest ≡ unused_bits l.i l.septet)
    × (any_high (take l.i l.bytes) ≡ false)
    × (l.full ≡ padded l.i (with_top_bits l.septet (take l.i l.bytes)))
