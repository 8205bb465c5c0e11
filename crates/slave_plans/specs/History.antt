-- The operations of both owners, one after the other (request No. 8): what each answers and does, and what an owner is answered in a history.
use Rattle.std.specs.Prelude.{ℕ, Bool, List, [], ◌∷◌, map, ◌==◌}
use Rattle.std.specs.Bool.{beq}
use Rattle.basics.specs.Choice.{choose}
use Rattle.slave_plans.specs.Table.{empty}
use Rattle.slave_plans.specs.Answer.{enter_refusal, entered, found_of, change_refusal, changed, remove_refusal, removed}
use Rattle.slave_plans.specs.declared.Slave.{Slave}
use Rattle.slave_plans.specs.declared.Found.{Found}

-- a slave is entered for the owner that it shows
pub data Operation : Type 0 where
  Enter : Slave → Operation
  Find : Bool → ℕ → Operation
  Change : Bool → ℕ → ℕ → Operation
  Remove : Bool → ℕ → Operation

abbrev pub owner_of : Operation → Bool
owner_of (Enter slave) = slave.owner
owner_of (Find owner address) = owner
owner_of (Change owner from to) = owner
owner_of (Remove owner address) = owner

-- what it answers: but for finding, a number alone
abbrev pub number_alone : ℕ → Found
number_alone number = record { number = number; product = 0; device = 0 }

abbrev pub answer_of : Operation → List Slave → Found
answer_of (Enter slave) table = number_alone (enter_refusal slave table)
answer_of (Find owner address) table = found_of owner address table
answer_of (Change owner from to) table = number_alone (change_refusal owner from to table)
answer_of (Remove owner address) table = number_alone (remove_refusal owner address table)

-- the table afterwards; finding "changes nothing"
abbrev pub table_after : Operation → List Slave → List Slave
table_after (Enter slave) table = entered slave table
table_after (Find owner address) table = table
table_after (Change owner from to) table = changed owner from to table
table_after (Remove owner address) table = removed owner address table

-- ── histories

-- of a table, or of one with what is kept beside it: `answer` is what an operation answers, `after` what it leaves

-- where a history leads to
unfoldable pub run_from : {S : Type 0} → (Operation → S → S) → S → List Operation → S
run_from after state [] = state
run_from after state (operation ∷ rest) = run_from after (after operation state) rest

-- an owner's own operations in a history, each with its answer
unfoldable pub answers_by : {S : Type 0} → (Operation → S → Found) → (Operation → S → S) → Bool → S → List Operation → List (Operation × Found)
answers_by answer after owner state [] = []
answers_by answer after owner state (operation ∷ rest) =
    let later = answers_by answer after owner (after operation state) rest in
    choose (beq (owner_of operation) owner) ((operation, answer operation state) ∷ later) later

-- by counting: the table that a history leads to, and an owner's answers
abbrev pub table_from : List Slave → List Operation → List Slave
table_from table history = run_from table_after table history

abbrev pub answers_from : Bool → List Slave → List Operation → List (Operation × Found)
answers_from owner table history = answers_by answer_of table_after owner table history

-- "From the empty table on"
abbrev pub table_of : List Operation → List Slave
table_of history = table_from empty history

abbrev pub answers_of : Bool → List Operation → List (Operation × Found)
answers_of owner history = answers_from owner empty history

-- "the same own history with the same 16s": an owner's own operations, each with whether it was answered 16
abbrev pub with16 : Operation × Found → Operation × Bool
with16 (operation, answer) = (operation, (answer.number == 16))

abbrev pub own_history : Bool → List Operation → List (Operation × Bool)
own_history owner history = map with16 (answers_of owner history)
