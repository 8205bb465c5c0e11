-- The septet: the top bits of a block's bytes, carried apart so that no byte on the wire has its own.
use Rattle.std.specs.Prelude.{ℕ, ◌+◌, ◌*◌, ◌/◌, ◌%◌, ◌^◌, List, [], ◌∷◌, length}

-- document 01: bit i is the top bit of payload byte i of its block
unfoldable pub septet_of : List ℕ → ℕ
septet_of [] = 0
septet_of (byte ∷ rest) = byte / 128 + 2 * septet_of rest

-- and that top bit is cleared in the byte
unfoldable pub low_bits : List ℕ → List ℕ
low_bits [] = []
low_bits (byte ∷ rest) = (byte % 128) ∷ low_bits rest

-- the bytes with bit i of the septet as the top bit of byte i, in place of its own; its other bits are ignored (request No. 3)
unfoldable pub with_top_bits : ℕ → List ℕ → List ℕ
with_top_bits septet [] = []
with_top_bits septet (byte ∷ rest) = (byte % 128 + 128 * (septet % 2)) ∷ with_top_bits (septet / 2) rest

-- document 01: the septet bits at or above the block's length, here as a number; they stand for no byte
abbrev pub unused_bits : ℕ → ℕ → ℕ
unused_bits width septet = septet / 2 ^ width

-- the septet of a block, with such bits above its own
abbrev pub septet_with : ℕ → List ℕ → ℕ
septet_with unused block = unused * 2 ^ length block + septet_of block
