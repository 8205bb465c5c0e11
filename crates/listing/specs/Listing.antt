-- What the lister prints (document 01: the lister), as bytes.
use Rattle.std.specs.Prelude.{ℕ, List, [], ◌∷◌, ◌++◌, ltb, length}
use Rattle.basics.specs.Choice.{choose, first}
use Rattle.basics.specs.declared.Written.{Written}
use Rattle.basics.specs.Output.{answered, output_with}
use Rattle.text.specs.Ascii.{ascii}
use Rattle.record.specs.Record.{Record}
use Rattle.recording.specs.Recording.{records}
use Rattle.listing.specs.Line.{line_of}

-- one line for each record and no heading line
unfoldable pub lines_of : List Record → List ℕ
lines_of [] = []
lines_of (r ∷ rest) = line_of r ++ lines_of rest

abbrev pub listing_of : List ℕ → List ℕ
listing_of s = lines_of (records s)

-- at most 65,536 bytes; more gives the single line `too long` in place of the text
abbrev pub limited : List ℕ → List ℕ → List ℕ
limited s text = choose (ltb 65536 (length s)) (ascii "too long\n") text

abbrev pub output_of : List ℕ → List ℕ
output_of s = limited s (listing_of s)

-- 5: the output has fewer than 147,456 bytes, which hold all that can be printed
unfoldable pub list_refusal : ℕ → ℕ
list_refusal room = first ((ltb room 147456, 5) ∷ [])

-- what is answered for an output of the given room, and the output afterwards
abbrev pub listed_of : List ℕ → ℕ → Written
listed_of s room = answered (list_refusal room) (output_of s)

abbrev pub listed_after : List ℕ → List ℕ → List ℕ
listed_after s out = output_with (list_refusal (length out)) (output_of s) out
