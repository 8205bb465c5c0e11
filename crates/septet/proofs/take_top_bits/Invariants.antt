-- `septet::take_top_bits` meets its contract: with i bytes left to the front, the septet and the low bits are those of the bytes from i on.
-- Assumes nothing.
use mathlib.Core.Path.{◌≡◌}
use mathlib.Core.List.{◌++◌}
use Prim.Native.Nat.{◌%◌}
use lib.ListN.{take, drop}
use Rattle.septet.specs.Septet.{septet_of, low_bits}
use Rattle.septet.proofs.take_top_bits.Given as goal

abbrev pub invariant-loop-i : goal.invariant-loop-i
invariant-loop-i l =
    (l.septet ≡ septet_of (drop l.i (take l.count l.block)) % 256)
    × (l.low ≡ take l.i l.initial.low ++ (low_bits (drop l.i (take l.count l.block)) ++ drop l.count l.initial.low))
