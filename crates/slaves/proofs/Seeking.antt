-- `seek`, entry by entry: the lowest entry that passes a test, from an index on.
use Prim.Native.Nat.{ℕ, suc, ◌+◌, ◌<◌, ◌≤◌}
use native.Mathlib.Omega.{arith}
use native.Mathlib.Nat.{le_refl}
use native.Mathlib.Numerals.{add-one}
use mathlib.Core.Path.{◌≡◌, refl, ap}
use mathlib.Core.Bool.{Bool, true, false}
use mathlib.Core.List.{List}
use lib.Dec.{eqb}
use lib.ListN.{length, get_or, drop, drop_of_length-le}
use lib.Seq.{drop-cons}
use Rattle.basics.specs.Choice.{choose}
use Rattle.slave_plans.specs.Table.{none, lowest, lowest_from}
use Rattle.slave_plans.specs.Plan.{search_start, is_sought, index_sought}
use Rattle.slave_plans.specs.declared.Slave.{Slave}
use Rattle.slave_plans.specs.declared.Sought.{Sought}

module _ (test : Slave → Bool) (table : List Slave) (index : ℕ) where
  pub lowest-from : index < length table → lowest test (drop index table) ≡ choose (test (get_or table index none)) 0 (suc (lowest test (drop (suc index) table)))
  unfolding lowest
  lowest-from inside = ap (lowest test) (drop-cons table index none inside)

  -- an entry that passes: the lowest stands here
  pub stands-here : index < length table → test (get_or table index none) ≡ true → lowest_from index test table ≡ index
  unfolding choose
  stands-here inside passes = rw (lowest-from inside, passes) (omega arith)

  -- one that doesn't: the lowest stands behind it
  pub passed-by : index < length table → test (get_or table index none) ≡ false → lowest_from index test table ≡ lowest_from (index + 1) test table
  unfolding choose
  passed-by inside fails = rw (add-one index, lowest-from inside, fails) (omega arith)

  -- behind the last entry none is left
  pub nowhere-left : length table ≤ index → lowest_from index test table ≡ index
  unfolding lowest
  nowhere-left past = rw (drop_of_length-le table past) (omega arith)

-- where the search begins, nothing was passed, or the table has a wrong length
pub search-starts : (start : ℕ) (sought : Sought) (table : List Slave)
    → index_sought start sought table ≡ lowest_from (search_start (length table) start) (is_sought sought) table
unfolding choose
search-starts start sought table = go (eqb (length table) 32)
  where
    test : Slave → Bool
    test = is_sought sought

    go : (right : Bool) → choose right (lowest_from start test table) (length table) ≡ lowest_from (choose right start (length table)) test table
    go true = refl
    go false = omega (arith, nowhere-left test table (length table) (le_refl (length table)))
