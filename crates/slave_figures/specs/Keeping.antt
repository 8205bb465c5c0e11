-- What is kept with the table in place of counting (request No. 9), and what entering and removing do by it. The figures are those handed over,
-- true or not.
use Rattle.std.specs.Prelude.{ℕ, Result, Ok, Err, suc, ◌+◌, ◌-◌, Bool, true, false, ◌&&◌, List, [], ◌∷◌, length, ◌==◌, min}
use Rattle.basics.specs.Choice.{choose, first}
use Rattle.basics.specs.Refusal.{number}
use Rattle.basics.specs.declared.refusal.Refusal.{Refusal}
use Rattle.slave_plans.specs.Table.{is_free, belongs_to, lowest, lowest_from, count, index_of}
use Rattle.slave_plans.specs.Answer.{length_line, table_with, enter_refusal_with, remove_refusal}
use Rattle.slave_plans.specs.declared.Slave.{Slave}
use Rattle.slave_plans.specs.declared.Occupancy.{Occupancy}
use Rattle.slave_figures.specs.declared.Figures.{Figures}
use Rattle.slave_figures.specs.declared.Kept.{Kept}
use Rattle.slave_figures.specs.declared.Checked.{Checked}

-- true figures: "each owner's number of entries and the lowest free slot (32 if none)", by counting
abbrev pub figures_of : List Slave → Figures
figures_of table = record { no = count (belongs_to false) table; yes = count (belongs_to true) table; lowest = lowest is_free table }

-- how many entries an owner holds by the figures
unfoldable pub held_by : Bool → Figures → ℕ
held_by owner figures = choose owner figures.yes figures.no

-- the lowest free entry from theirs on: by true ones the lowest of all
abbrev pub free_by : Figures → List Slave → ℕ
free_by figures table = lowest_from figures.lowest is_free table

-- both, in place of what No. 8 counts (`occupancy_of`)
abbrev pub occupancy_by : Bool → Figures → List Slave → Occupancy
occupancy_by owner figures table = record { held = held_by owner figures; free = free_by figures table }

-- another number of an owner's entries, and another lowest free one
unfoldable pub figures_with : Bool → ℕ → ℕ → Figures → Figures
figures_with owner held free figures = record { no = choose owner figures.no held; yes = choose owner held figures.yes; lowest = free }

-- an answer with the figures afterwards: "a refusal changes nothing"
abbrev pub kept_by : ℕ → Figures → Figures → Kept
kept_by refusal after figures = record { number = refusal; figures = choose (refusal == 0) after figures }

-- ── entering

-- No. 8's table of refusals, by the figures: 16 alone goes by them
unfoldable pub enter_refusal_by : Figures → Slave → List Slave → ℕ
enter_refusal_by figures slave table = enter_refusal_with (occupancy_by slave.owner figures table) slave table

-- the entry that is taken goes by them too
abbrev pub entered_by : Figures → Slave → List Slave → List Slave
entered_by figures slave table = table_with (enter_refusal_by figures slave table) (free_by figures table) slave table

-- one entry more, and the next free one behind that which is taken
abbrev pub figures_more : Bool → ℕ → Figures → Figures
figures_more owner next figures = figures_with owner (held_by owner figures + 1) next figures

abbrev pub enter_kept : Figures → Slave → List Slave → Kept
enter_kept figures slave table =
    kept_by (enter_refusal_by figures slave table) (figures_more slave.owner (lowest_from (suc (free_by figures table)) is_free table) figures) figures

-- ── removing

-- one entry less, and that which is zeroed is free
abbrev pub figures_less : Bool → ℕ → Figures → Figures
figures_less owner index figures = figures_with owner (held_by owner figures - 1) (min index figures.lowest) figures

abbrev pub remove_kept : Figures → Bool → ℕ → List Slave → Kept
remove_kept figures owner address table = kept_by (remove_refusal owner address table) (figures_less owner (index_of owner address table) figures) figures

-- ── checking

-- each figure is what counting gives
abbrev pub same_figures : Figures → Figures → Bool
same_figures counted figures = counted.no == figures.no && (counted.yes == figures.yes && counted.lowest == figures.lowest)

-- "a check that says whether a table brought in has true figures"; 24 comes first here too
unfoldable pub check_by : ℕ → Figures → Figures → Checked
check_by size counted figures = record { number = first (length_line size ∷ []); right = size == 32 && same_figures counted figures }

-- the answer as C gets it
abbrev pub checked_as : Result Bool Refusal → Checked
checked_as (Ok right) = record { number = 0; right = right }
checked_as (Err refusal) = record { number = number refusal; right = false }

abbrev pub check_of : Figures → List Slave → Checked
check_of figures table = check_by (length table) (figures_of table) figures
