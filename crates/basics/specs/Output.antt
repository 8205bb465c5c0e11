-- What is answered by a function that only writes to a lent output, and what a lent output holds afterwards.
use Rattle.std.specs.Prelude.{ℕ, Bool, List, [], ◌∷◌, ltb, eqb, length, Result, Ok, Err}
use Rattle.basics.specs.Bytes.{over}
use Rattle.basics.specs.Choice.{choose, first}
use Rattle.basics.specs.Refusal.{number}
use Rattle.basics.specs.declared.Written.{Written}
use Rattle.basics.specs.declared.refusal.Refusal.{Refusal}

-- the table's line 5: the output is shorter than this call's result needs
abbrev pub too_short : ℕ → List ℕ → Bool × ℕ
too_short room result = (ltb room (length result), 5)

-- the answer for a result, by the refusal's number or 0: "any further number .. in a refused answer is zero"
abbrev pub answered : ℕ → List ℕ → Written
answered refusal result = record { number = refusal; length = choose (eqb refusal 0) (length result) 0 }

-- the output afterwards: the result over its start or, refused, every byte as it was
abbrev pub output_with : ℕ → List ℕ → List ℕ → List ℕ
output_with refusal result out = choose (eqb refusal 0) (over result out) out

-- a call that is refused only for its room: the refusal or 0, what is answered, and the output afterwards
unfoldable pub room_refusal : List ℕ → ℕ → ℕ
room_refusal result room = first (too_short room result ∷ [])

abbrev pub answered_for : List ℕ → ℕ → Written
answered_for result room = answered (room_refusal result room) result

abbrev pub output_for : List ℕ → List ℕ → List ℕ
output_for result out = output_with (room_refusal result (length out)) result out

-- the answer as C gets it
abbrev pub written_as : Result ℕ Refusal → Written
written_as (Ok length) = record { number = 0; length = length }
written_as (Err refusal) = record { number = number refusal; length = 0 }
