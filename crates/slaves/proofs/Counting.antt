-- `count`, entry by entry from the last: what is counted of the rest of the table.
use Prim.Native.Nat.{ℕ, suc, ◌+◌, ◌%◌, ◌<◌, ◌≤◌, ◌^◌}
use native.Mathlib.Omega.{arith}
use native.Mathlib.Nat.{le_refl, zero-add}
use mathlib.Core.Path.{◌≡◌, refl, sym, ap, ap₂, ◌∙◌}
use mathlib.Core.Bool.{Bool, true, false}
use mathlib.Core.List.{List}
use lib.Dec.{eqb}
use lib.ListN.{length, get_or, drop, length-drop, drop_of_length-le}
use lib.Seq.{drop-cons}
use Rattle.basics.specs.Choice.{choose}
use Rattle.basics.proofs.Choice.{choose-by}
use Rattle.slave_plans.specs.Table.{none, is_free, belongs_to, lowest, count, occupancy_of}
use Rattle.slave_plans.specs.Plan.{search_start, occupancy_start, occupancy_with, occupancy_counted}
use Rattle.slave_plans.specs.declared.Slave.{Slave}
use Rattle.slave_plans.specs.declared.Occupancy.{Occupancy}
use Rattle.slave_plans.proofs.Counts.{count_most}
use Rattle.slaves.proofs.Seeking.{lowest-from, nowhere-left}

-- the occupancy of the entries from an index on
abbrev pub occupancy-from : Bool → ℕ → List Slave → Occupancy
occupancy-from owner index table =
    record { held = count (belongs_to owner) (drop index table); free = index + lowest is_free (drop index table) }

-- two occupancies are the same if both their numbers are
same_numbers : (a b : Occupancy) → a.held ≡ b.held → a.free ≡ b.free → a ≡ b
same_numbers a b held free = ap₂ (λ (held free : ℕ). record { held = held; free = free }) held free

-- ── how many pass a test

module _ (test : Slave → Bool) where
  module _ (table : List Slave) (index : ℕ) where
    count-from : index < length table → count test (drop index table) ≡ choose (test (get_or table index none)) 1 0 + count test (drop (suc index) table)
    unfolding count
    count-from l = ap (count test) (drop-cons table index none l)

    none_left : length table ≤ index → count test (drop index table) ≡ 0
    unfolding count
    none_left l = ap (count test) (drop_of_length-le table l)

    -- an entry isn't counted with those behind it, so that one more fits
    fewer : index < length table → count test (drop (suc index) table) < length table
    fewer l = omega (arith, l, length-drop (suc index) table, count_most test (drop (suc index) table))

-- ── an entry more

-- what `occupancy_with` makes of each number, by its test
held_with : (test : Bool) (behind : ℕ) → behind + 1 < 2 ^ 64 → choose test ((behind + 1) % 2 ^ 64) behind ≡ choose test 1 0 + behind
unfolding choose
held_with true behind fits = omega (arith, fits)
held_with false behind fits = omega arith

free-with : (test : Bool) (index behind : ℕ) → choose test index (suc index + behind) ≡ index + choose test 0 (suc behind)
unfolding choose
free-with true index behind = omega arith
free-with false index behind = omega arith

module _ (owner : Bool) (table : List Slave) where
  -- the loop goes down by an entry
  pub counted-with : (index : ℕ) → index < length table → length table < 2 ^ 64
      → occupancy_with owner index (get_or table index none) (occupancy-from owner (suc index) table) ≡ occupancy-from owner index table
  unfolding occupancy_with
  counted-with index inside fits =
      let entry = get_or table index none in
      let behind = drop (suc index) table in
      let owned = belongs_to owner in
      same_numbers _ _
      (held_with (owned entry) (count owned behind) (omega (arith, fits, fewer owned table index inside)) ∙ sym (count-from owned table index inside))
      (free-with (is_free entry) index (lowest is_free behind) ∙ ap (λ (n : ℕ). index + n) (sym (lowest-from is_free table index inside)))

  -- it starts behind the last entry, and ends where a search from the first would start
  pub counting-starts : occupancy_start (length table) ≡ occupancy-from owner (length table) table
  counting-starts =
      let all = le_refl (length table) in
      same_numbers _ _ (sym (none_left (belongs_to owner) table (length table) all)) (sym (nowhere-left is_free table (length table) all))

  pub counting-ends : (index : ℕ) → index ≡ search_start (length table) 0 → occupancy-from owner index table ≡ occupancy_counted owner table
  unfolding choose
  counting-ends index e = rw e (go (eqb (length table) 32))
    where
      go : (right : Bool)
          → occupancy-from owner (choose right 0 (length table)) table ≡ choose right (occupancy_of owner table) (occupancy_start (length table))
      go true = same_numbers _ _ refl (zero-add (lowest is_free table))
      go false = sym counting-starts

-- that is within the table
pub search-within : (size index : ℕ) → index ≡ search_start size 0 → index ≤ size
unfolding choose
search-within size index e = choose-by (λ (start : ℕ). index ≡ start → index ≤ size) (eqb size 32) (λ right is. omega (arith, is)) (λ wrong is. omega (arith, is)) e
