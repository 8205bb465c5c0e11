-- The unfinished stream that a receiver holds, and what one byte does to it.
use Rattle.std.specs.Prelude.{ℕ, Bool, ◌&&◌, List, [], ◌∷◌, ◌++◌, ltb, leb, eqb, length}
use Rattle.basics.specs.Choice.{choose}
use Rattle.stream.specs.Layout.{stream_length}

-- the held bytes with one more: 0xAA begins a stream, and any other byte of 0x80 or more ends the one that is held; where none is
-- held, a byte below 0x80 is of no use
unfoldable pub extended : List ℕ → ℕ → List ℕ
extended held byte =
    choose (eqb byte 0xAA) (byte ∷ [])
    (choose (leb 0x80 byte) []
    (choose (eqb (length held) 0) [] (held ++ (byte ∷ []))))

-- a stream is unfinished as long as it is shorter than it announces; none is longer than 772 bytes
abbrev pub is_unfinished : List ℕ → Bool
is_unfinished s = ltb (length s) (stream_length s) && leb (stream_length s) 772

-- what is held of some bytes: an unfinished stream, or nothing
unfoldable pub kept : List ℕ → List ℕ
kept s = choose (is_unfinished s) s []
