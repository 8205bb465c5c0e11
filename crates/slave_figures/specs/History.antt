-- The operations of both owners on a table and its figures, each call with the figures that the one before gave back (requests No. 8 and No. 9).
use Rattle.std.specs.Prelude.{Bool, List, map}
use Rattle.slave_plans.specs.Table.{empty}
use Rattle.slave_plans.specs.Answer.{found_of, change_refusal, changed, removed}
use Rattle.slave_plans.specs.History.{Operation, Enter, Find, Change, Remove, number_alone, with16, run_from, answers_by}
use Rattle.slave_plans.specs.declared.Slave.{Slave}
use Rattle.slave_plans.specs.declared.Found.{Found}
use Rattle.slave_figures.specs.Keeping.{enter_kept, entered_by, remove_kept}
use Rattle.slave_figures.specs.declared.Figures.{Figures}

-- "Keep with the table": a table and figures, which may be false
pub record State : Type 0 where
  pub table : List Slave
  pub figures : Figures

-- "the empty table's among them": zeros
abbrev pub start : State
start = record { table = empty; figures = record { no = 0; yes = 0; lowest = 0 } }

-- what an operation answers
abbrev pub answer_in : Operation → State → Found
answer_in (Enter slave) state = number_alone (enter_kept state.figures slave state.table).number
answer_in (Find owner address) state = found_of owner address state.table
answer_in (Change owner from to) state = number_alone (change_refusal owner from to state.table)
answer_in (Remove owner address) state = number_alone (remove_kept state.figures owner address state.table).number

-- the table and the figures afterwards; finding and changing an address neither take nor give any
abbrev pub state_after : Operation → State → State
state_after (Enter slave) state =
    record { table = entered_by state.figures slave state.table; figures = (enter_kept state.figures slave state.table).figures }
state_after (Find owner address) state = state
state_after (Change owner from to) state = record { table = changed owner from to state.table; figures = state.figures }
state_after (Remove owner address) state =
    record { table = removed owner address state.table; figures = (remove_kept state.figures owner address state.table).figures }

-- ── histories

abbrev pub state_from : State → List Operation → State
state_from state history = run_from state_after state history

abbrev pub answers_from : Bool → State → List Operation → List (Operation × Found)
answers_from owner state history = answers_by answer_in state_after owner state history

-- "From the empty table on"
abbrev pub state_of : List Operation → State
state_of history = state_from start history

abbrev pub answers_of : Bool → List Operation → List (Operation × Found)
answers_of owner history = answers_from owner start history

-- "the same own history with the same 16s"
abbrev pub own_history : Bool → List Operation → List (Operation × Bool)
own_history owner history = map with16 (answers_of owner history)
