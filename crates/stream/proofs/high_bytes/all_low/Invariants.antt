-- `stream::high_bytes::all_low` meets its contract: what the bytes make together is low exactly if each of them is. Assumes nothing.
use Prim.Native.Nat.{ℕ, ◌<◌}
use mathlib.Core.List.{List}
use mathlib.Core.Logic.{◌↔◌}
use lib.ListN.{get_or}
use Rattle.stream.proofs.high_bytes.all_low.Given as goal

abbrev pub LowBelow : List ℕ → ℕ → Type 0
LowBelow s i = (k : ℕ) → k < i → get_or s k 0 < 0x80

abbrev pub invariant-loop-byte : goal.invariant-loop-byte
invariant-loop-byte l = l.joined < 0x80 ↔ LowBelow l.s l.byte-index
