-- `write::hex_bytes` meets its contract: after i turns the digits of i bytes stand at the start. Assumes nothing.
use mathlib.Core.Path.{◌≡◌}
use lib.ListN.{take}
use Rattle.basics.specs.Bytes.{over}
use Rattle.listing.specs.Line.{hex_bytes}
use Rattle.listing.proofs.write.hex_bytes.Given as goal

abbrev pub invariant-loop-i : goal.invariant-loop-i
invariant-loop-i l = l.out ≡ over (hex_bytes (take l.i l.bytes)) l.initial.out
