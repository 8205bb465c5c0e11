-- Unused septet bits: those that stand for no byte. Request No. 3 lets them pass, and counts the blocks of a whole stream that have any.
use Rattle.std.specs.Prelude.{ℕ, zero, suc, ◌+◌, List, [], ◌∷◌, eqb, get_or, drop}
use Rattle.basics.specs.Choice.{choose}
use Rattle.septet.specs.Septet.{unused_bits}
use Rattle.stream.specs.Layout.{kind, header_length, frame_count}
use Rattle.stream.specs.declared.Kind.{Kind}
use Rattle.stream.specs.declared.Kind.TheVariants.{Packet, Datagram, Telegram, Unknown}

-- the payload bytes of a block: as many of its septet's seven bits are in use, so bits 4-6 of a packet's and bit 6 of a datagram's aren't;
-- a stream of no kind has no block
unfoldable pub block_width : Kind → ℕ
block_width Packet = 4
block_width Datagram = 6
block_width Telegram = 7
block_width Unknown = 7

-- the blocks of a stream, by its frames
unfoldable pub block_count : Kind → ℕ → ℕ
block_count Packet frames = frames
block_count Datagram frames = 1
block_count Telegram frames = frames
block_count Unknown frames = 0

-- the unused bits of each of n frames, as a number
unfoldable pub unused_frames : ℕ → ℕ → List ℕ → List ℕ
unused_frames width zero s = []
unused_frames width (suc n) s = unused_bits width (get_or s width 0) ∷ unused_frames width n (drop (width + 2) s)

-- of each block of a stream: a packet's frames, a datagram's one block, a telegram's frames
unfoldable pub unused_in : Kind → List ℕ → List ℕ
unused_in Packet s = unused_frames (block_width Packet) (frame_count Packet s) (drop (header_length Packet) s)
unused_in Datagram s = unused_bits (block_width Datagram) (get_or s 14 0) ∷ []
unused_in Telegram s = unused_frames (block_width Telegram) (frame_count Telegram s) (drop (header_length Telegram) s)
unused_in Unknown s = []

-- 1 for a number that isn't 0
abbrev pub nonzero : ℕ → ℕ
nonzero n = choose (eqb n 0) 0 1

-- how many of the numbers aren't 0
unfoldable pub count_nonzero : List ℕ → ℕ
count_nonzero [] = 0
count_nonzero (n ∷ rest) = nonzero n + count_nonzero rest

-- how many of a stream's blocks have such bits set
unfoldable pub unused_septets_of : List ℕ → ℕ
unused_septets_of s = count_nonzero (unused_in (kind s) s)
