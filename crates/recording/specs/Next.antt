-- The next record of a recording: document 01's *next*, with its refusals 6 and 5.
use Rattle.std.specs.Prelude.{ℕ, true, false, List, [], ◌∷◌, ltb, eqb, length, Option, Some, None, Result, Ok, Err}
use Rattle.basics.specs.Choice.{choose, first}
use Rattle.basics.specs.Output.{too_short, output_with}
use Rattle.basics.specs.Refusal.{number}
use Rattle.basics.specs.declared.refusal.Refusal.{Refusal}
use Rattle.recording.specs.Recording.{Delivery, deliveries_after}
use Rattle.recording.specs.declared.Delivered.{Delivered}
use Rattle.recording.specs.declared.Found.{Found}

-- no record: all is zero but the number
abbrev pub without : ℕ → Found
without n =
    record {
      number = n;
      found = false;
      position = 0;
      length = 0;
      header = record { version = 0; destination = 0; source = 0; command = 0 };
      payload_length = 0;
    }

-- of the deliveries at or after the starting place, the first; or "none"
abbrev pub first_of : List Delivery → Found
first_of [] = without 0
first_of (d ∷ rest) =
    record { number = 0; found = true; position = d.position; length = d.length; header = d.contents.header; payload_length = length d.contents.payload }

abbrev pub payload_of : List Delivery → List ℕ
payload_of [] = []
payload_of (d ∷ rest) = d.contents.payload

-- the answer as C gets it
abbrev pub found_as : Result (Option Delivered) Refusal → Found
found_as (Ok (Some delivered)) =
    record {
      number = 0;
      found = true;
      position = delivered.position;
      length = delivered.length;
      header = delivered.contents.header;
      payload_length = delivered.contents.payload_length;
    }
found_as (Ok None) = without 0
found_as (Err refusal) = without (number refusal)

-- 6: the starting place is greater than the input length; then 5: the output is shorter than the payload
unfoldable pub refusal : List ℕ → ℕ → ℕ → ℕ
refusal s start room =
    first ((ltb (length s) start, 6) ∷ too_short room (payload_of (deliveries_after s start)) ∷ [])

-- what is answered, from a starting place on, for an output of the given room
abbrev pub next_of : List ℕ → ℕ → ℕ → Found
next_of s start room =
    choose (eqb (refusal s start room) 0) (first_of (deliveries_after s start)) (without (refusal s start room))

-- the output afterwards
abbrev pub payload_after : List ℕ → ℕ → List ℕ → List ℕ
payload_after s start out = output_with (refusal s start (length out)) (payload_of (deliveries_after s start)) out
