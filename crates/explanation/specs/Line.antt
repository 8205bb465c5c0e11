-- The line of a fault (request No. 4), as bytes.
use Rattle.std.specs.Prelude.{ℕ, Bool, ◌&&◌, List, [], ◌∷◌, ◌++◌, eqb}
use Prim.Native.Char.{code}
use Rattle.basics.specs.Choice.{choose}
use Rattle.basics.specs.declared.Written.{Written}
use Rattle.basics.specs.Output.{answered_for, output_for}
use Rattle.text.specs.Ascii.{ascii}
use Rattle.text.specs.Hex.{hex_byte}
use Rattle.text.specs.Decimal.{decimal}
use Rattle.listing.specs.Line.{spaced}
use Rattle.diagnosis.specs.declared.Fault.{Fault}

-- the verdict as the paper writes it: V and its number
abbrev pub verdict_text : ℕ → List ℕ
verdict_text verdict = code "V" ∷ decimal verdict

-- "place, verdict, offset", "places and offsets decimal", with the lister's space between
unfoldable pub numbers_text : ℕ → ℕ → ℕ → List ℕ
numbers_text place verdict offset = decimal place ++ (spaced (verdict_text verdict) ++ spaced (decimal offset))

-- "byte found and, for V4 and V6, byte wanted": a byte where there is one
unfoldable pub byte_text : Bool → ℕ → List ℕ
byte_text has byte = choose has (spaced (hex_byte byte)) []

-- "Where V2 was another 0xAA"
abbrev pub is_cut_off : Fault → Bool
is_cut_off f = eqb f.verdict 2 && eqb f.byte 0xAA

unfoldable pub remark_text : Bool → List ℕ
remark_text cut = choose cut (spaced (ascii "cut off by a new stream")) []

-- what follows the offset, and a newline; "a V7 line ends after the offset"
unfoldable pub rest_text : Fault → List ℕ
rest_text f = byte_text f.has_byte f.byte ++ (byte_text f.has_wanted f.wanted ++ (remark_text (is_cut_off f) ++ ascii "\n"))

unfoldable pub line_of : Fault → List ℕ
line_of f = numbers_text f.place f.verdict f.offset ++ rest_text f

-- what is answered for an output of the given room; 5: it is shorter than the line
abbrev pub line_written : Fault → ℕ → Written
line_written f room = answered_for (line_of f) room

-- the output afterwards
abbrev pub line_after : Fault → List ℕ → List ℕ
line_after f out = output_for (line_of f) out
