-- What the explainer prints (request No. 4), as bytes.
use Rattle.std.specs.Prelude.{ℕ, List, [], ◌∷◌, ◌++◌, ltb, length}
use Rattle.basics.specs.Choice.{first}
use Rattle.basics.specs.declared.Written.{Written}
use Rattle.basics.specs.Output.{answered, output_with}
use Rattle.listing.specs.Listing.{limited}
use Rattle.diagnosis.specs.Fault.{faults}
use Rattle.diagnosis.specs.declared.Fault.{Fault}
use Rattle.explanation.specs.Line.{line_of}

-- a line "for each 0xAA that gave no record", and no heading line
unfoldable pub lines_of : List Fault → List ℕ
lines_of [] = []
lines_of (f ∷ rest) = line_of f ++ lines_of rest

-- "in order of place", as `faults` gives them
abbrev pub explanation_of : List ℕ → List ℕ
explanation_of s = lines_of (faults s)

-- "Input, bytes, spaces and newlines are the lister's": so is what is printed for a recording that is too long
abbrev pub output_of : List ℕ → List ℕ
output_of s = limited s (explanation_of s)

-- 5: the output has fewer than 2,621,440 bytes, which hold all that can be printed
unfoldable pub explain_refusal : ℕ → ℕ
explain_refusal room = first ((ltb room 2621440, 5) ∷ [])

-- what is answered for an output of the given room, and the output afterwards
abbrev pub explained_of : List ℕ → ℕ → Written
explained_of s room = answered (explain_refusal room) (output_of s)

abbrev pub explained_after : List ℕ → List ℕ → List ℕ
explained_after s out = output_with (explain_refusal (length out)) (output_of s) out
