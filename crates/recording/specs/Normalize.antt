-- A recording normalized: document 01's *wash*, with its refusal 5.
use Rattle.std.specs.Prelude.{ℕ, List, [], ◌∷◌, ◌++◌}
use Rattle.basics.specs.Output.{answered_for, output_for}
use Rattle.basics.specs.declared.Written.{Written}
use Rattle.record.specs.Record.{Record, stream_of}
use Rattle.recording.specs.Recording.{records}

-- for each record exactly the stream that writing gives for it, with nothing between
unfoldable pub streams : List Record → List ℕ
streams [] = []
streams (r ∷ rest) = stream_of r ++ streams rest

-- document 01: the washed bytes
abbrev pub normalized : List ℕ → List ℕ
normalized s = streams (records s)

-- what is answered for an output of the given room; 5: it is shorter than the normalized recording
abbrev pub normalizing_of : List ℕ → ℕ → Written
normalizing_of s room = answered_for (normalized s) room

-- the output afterwards
abbrev pub output_after : List ℕ → List ℕ → List ℕ
output_after s out = output_for (normalized s) out
