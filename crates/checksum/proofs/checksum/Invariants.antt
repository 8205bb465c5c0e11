-- `checksum::checksum` meets its contract: the sum, continued over what is left, is the checksum of all, and low enough for that.
-- Assumes nothing.
use mathlib.Core.Path.{◌≡◌}
use Prim.Native.Nat.{◌<◌, ◌-◌, ◌%◌}
use lib.ListN.{length, drop}
use Rattle.std.specs.Slice.Iter.{chunks_exact_rest, chunks_exact_size}
use Rattle.checksum.specs.Checksum.{checksum_from, checksum_of}
use Rattle.checksum.proofs.checksum.Given as goal

abbrev pub invariant-loop-piece : goal.invariant-loop-piece
invariant-loop-piece l =
    let left = chunks_exact_rest l.piece-iterator in
    (l.sum < 128)
    × (chunks_exact_size l.piece-iterator ≡ 256)
    × (checksum_from l.sum left ≡ checksum_of l.bytes)
    × (drop (length left - length left % 256) left ≡ l.rest)
