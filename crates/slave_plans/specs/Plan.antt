-- What is seen of the table, where an entry stands and how much of it is taken, and what a plan makes of it.
use Rattle.std.specs.Prelude.{ℕ, ◌+◌, ◌%◌, ◌^◌, Bool, Result, Ok, Err, List, length, ◌==◌, slice_set}
use Rattle.basics.specs.Choice.{choose}
use Rattle.basics.specs.declared.refusal.Refusal.{Refusal}
use Rattle.slave_plans.specs.Table.{is_free, belongs_to, has_address, lowest_from, occupancy_of}
use Rattle.slave_plans.specs.declared.Slave.{Slave}
use Rattle.slave_plans.specs.declared.Placement.{Placement}
use Rattle.slave_plans.specs.declared.Sought.{Sought}
use Rattle.slave_plans.specs.declared.Sought.TheVariants.{Free, Held}
use Rattle.slave_plans.specs.declared.Occupancy.{Occupancy}

-- the first entry that is looked at: the start or, in a table of a wrong length, none, so that it isn't read before 24 is given
abbrev pub search_start : ℕ → ℕ → ℕ
search_start size start = choose (size == 32) start size

-- what is looked for: a free entry, or an owner's with an address
abbrev pub is_sought : Sought → Slave → Bool
is_sought Free = is_free
is_sought (Held owner address) = has_address owner address

-- what the search gives
abbrev pub index_sought : ℕ → Sought → List Slave → ℕ
index_sought start sought table = choose (length table == 32) (lowest_from start (is_sought sought) table) (length table)

-- what counting starts from, what it makes of an entry and of what was counted behind it, and what it gives of a table. The number wraps, since
-- any may be handed in; that of a table doesn't come so far
abbrev pub occupancy_start : ℕ → Occupancy
occupancy_start size = record { held = 0; free = size }

unfoldable pub occupancy_with : Bool → ℕ → Slave → Occupancy → Occupancy
occupancy_with owner index entry behind =
    record {
      held = choose (belongs_to owner entry) ((behind.held + 1) % 2 ^ 64) behind.held;
      free = choose (is_free entry) index behind.free;
    }

abbrev pub occupancy_counted : Bool → List Slave → Occupancy
occupancy_counted owner table = choose (length table == 32) (occupancy_of owner table) (occupancy_start (length table))

-- the table afterwards: a plan's entry at its index or, refused, every entry as it was
abbrev pub table_placed : Result Placement Refusal → List Slave → List Slave
table_placed (Ok placement) table = slice_set table placement.index placement.entry
table_placed (Err refusal) table = table
