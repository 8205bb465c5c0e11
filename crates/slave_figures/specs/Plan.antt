-- What entering and removing make of the figures, from what was seen of the table.
use Rattle.std.specs.Prelude.{ℕ, suc, ◌+◌, ◌%◌, ◌^◌, Bool, min}
use Rattle.slave_plans.specs.declared.Occupancy.{Occupancy}
use Rattle.slave_figures.specs.Keeping.{held_by, figures_with, kept_by, figures_less}
use Rattle.slave_figures.specs.declared.Figures.{Figures}
use Rattle.slave_figures.specs.declared.Kept.{Kept}

-- where the search for the next free entry begins, in eight bits: an entry's index is far below 255
abbrev pub index_behind : ℕ → ℕ
index_behind index = min (suc index) 255

-- "(32 if none)"
abbrev pub free_or32 : ℕ → ℕ
free_or32 index = min index 32

-- from the next free entry. The number wraps, since any may be handed in; an owner with so great a number is refused
abbrev pub enter_figures : ℕ → Figures → Bool → ℕ → Kept
enter_figures refusal figures owner next = kept_by refusal (figures_with owner ((held_by owner figures + 1) % 2 ^ 8) (free_or32 next) figures) figures

-- from the entry that is zeroed
abbrev pub remove_figures : ℕ → Figures → Bool → ℕ → Kept
remove_figures refusal figures owner index = kept_by refusal (figures_less owner index figures) figures

-- the figures by what was counted for the two owners
abbrev pub figures_counted : Occupancy → Occupancy → Figures
figures_counted of-no of-yes = record { no = of-no.held; yes = of-yes.held; lowest = of-no.free }
