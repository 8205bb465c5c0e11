-- What is planned from what was seen of the table is what the definitions say of the table.
use Prim.Native.Nat.{ℕ, suc, ◌+◌, ◌<◌, ◌%◌, ◌^◌}
use native.Mathlib.Nat.{zero-add}
use native.Mathlib.Omega.{arith}
use native.Mathlib.Decide.{ℕ_discrete}
use mathlib.Core.Path.{◌≡◌, sym, ap, ap₂, ◌∙◌}
use mathlib.Core.Logic.{◌≢◌, dite}
use mathlib.Core.Bool.{Bool, true, false}
use mathlib.Core.List.{List}
use lib.ListN.{length, get_or, set}
use borrow.Author.Tests.{eq-eqb, ne_eqb}
use Rattle.std.specs.Prelude.{Result, Ok, Err, IfOk}
use Rattle.basics.specs.Choice.{choose, first}
use Rattle.basics.specs.Refusal.{number_in}
use Rattle.basics.specs.declared.refusal.Refusal.{Refusal}
use Rattle.basics.proofs.Refusals.{number-positive}
use Rattle.basics.proofs.Table.{when-none, when-refused}
use Rattle.slave_plans.specs.Table.{none, is_free, lowest_from, index_of, occupancy_of}
use Rattle.slave_plans.specs.Answer.{table_with, enter_lines, find_lines, change_lines, found_by, found_of, entry_of, change_refusal, readdressed, changed, remove_refusal, removed}
use Rattle.slave_plans.specs.Plan.{index_sought, occupancy_counted, table_placed}
use Rattle.slave_plans.specs.declared.Slave.{Slave}
use Rattle.slave_plans.specs.declared.Sought.TheVariants.{Free, Held}
use Rattle.slave_plans.specs.declared.Occupancy.{Occupancy}
use Rattle.slave_plans.specs.declared.Placement.{Placement}
use Rattle.slave_plans.specs.declared.Found.{Found}
use Rattle.slave_plans.proofs.Indices.{from-most}
use Rattle.slave_plans.proofs.Refusals.{enter-room, change-exactly, remove-exactly}
use Rattle.slave_figures.specs.Keeping.{held_by, free_by, occupancy_by, figures_with, figures_less, kept_by, enter_refusal_by, entered_by, enter_kept, remove_kept, check_by, check_of}
use Rattle.slave_figures.specs.Plan.{index_behind, free_or32, enter_figures, remove_figures, figures_counted}
use Rattle.slave_figures.specs.declared.Figures.{Figures}
use Rattle.slave_figures.specs.declared.Kept.{Kept}
use Rattle.slave_figures.specs.declared.Checked.{Checked}

-- a plan that is refused by a number, or else puts an entry at an index, carried out
carried-out : (plan : Result Placement Refusal) {seen : Placement} (refusal index : ℕ) (entry : Slave) (table : List Slave) → number_in plan ≡ refusal
    → IfOk plan (λ placement. placement ≡ seen) → (refusal ≡ 0 → seen ≡ record { index = index; entry = entry })
    → table_placed plan table ≡ table_with refusal index entry table
carried-out (Ok placement) refusal index entry table is placed right =
    ap (λ (p : Placement). set table p.index p.entry) (placed ∙ right (sym is)) ∙ sym (when-none refusal _ table (sym is))
carried-out (Err r) refusal index entry table is placed right =
    sym (when-refused refusal _ table (λ none. absurd (omega (arith, number-positive r, is, none))))

-- ── what was seen: in a table of a wrong length no entry was looked at, and none need be, since it is refused as 24 whatever was seen

-- in a table of 32 entries an address was sought where it stands, a free entry from the start on, and all entries were counted
module _ (table : List Slave) (right : length table ≡ 32) where
  sought : (owner : Bool) (address : ℕ) → index_sought 0 (Held owner address) table ≡ index_of owner address table
  unfolding choose
  sought owner address = rw (eq-eqb (length table) 32 right) (zero-add (index_of owner address table))

  sought-free : (start : ℕ) → index_sought start Free table ≡ lowest_from start is_free table
  unfolding choose
  sought-free start = rw (eq-eqb (length table) 32 right)

  counted : (owner : Bool) → occupancy_counted owner table ≡ occupancy_of owner table
  unfolding choose
  counted owner = rw (eq-eqb (length table) 32 right)

-- ── the figures afterwards

-- where it is refused, what they would have become doesn't matter
kept_same : {number refusal : ℕ} (figures : Figures) {a b : Figures} → number ≡ refusal → (refusal ≡ 0 → a ≡ b)
    → kept_by number a figures ≡ kept_by refusal b figures
kept_same {refusal = refusal} figures {a} {b} is same =
    ap (λ (number : ℕ). kept_by number a figures) is ∙ dite (ℕ_discrete refusal 0)
    (λ given. ap (λ (after : Figures). kept_by refusal after figures) (same given))
    (λ refused. ap (λ (f : Figures). record { number = refusal; figures = f }) (when-refused refusal a figures refused ∙ sym (when-refused refusal b figures refused)))

-- the free entry behind that which is taken: no number here is so great that it is cut off
next-free : {free behind next : ℕ} (figures : Figures) (table : List Slave) → length table ≡ 32 → free_by figures table < length table
    → free ≡ index_sought figures.lowest Free table → behind ≡ index_behind free → next ≡ index_sought behind Free table
    → free_or32 next ≡ lowest_from (suc (free_by figures table)) is_free table
next-free {free} {behind} figures table right room free-is behind-is next-is =
    let taken : free ≡ free_by figures table = free-is ∙ sought-free table right figures.lowest in
    let one-behind : behind ≡ suc (free_by figures table) = omega (arith, behind-is, taken, room, right) in
    let found = next-is ∙ sought-free table right behind ∙ ap (λ (start : ℕ). lowest_from start is_free table) one-behind in
    omega (arith, found, right, from-most is_free (suc (free_by figures table)) table room)

-- ── what each function saw, planned and put

pub enter-meets : {at free behind next : ℕ} {number : ℕ} {occupancy : Occupancy} {kept : Kept} {after : List Slave} (plan : Result Placement Refusal)
    (figures : Figures) (slave : Slave) (table : List Slave) → at ≡ index_sought 0 (Held slave.owner slave.address) table
    → free ≡ index_sought figures.lowest Free table → behind ≡ index_behind free → next ≡ index_sought behind Free table
    → occupancy ≡ record { held = held_by slave.owner figures; free = free }
    → number_in plan ≡ first (enter_lines (length table) at occupancy slave)
    → IfOk plan (λ placement. placement ≡ record { index = occupancy.free; entry = slave })
    → number ≡ number_in plan → after ≡ table_placed plan table
    → kept ≡ enter_figures number figures slave.owner next → (kept ≡ enter_kept figures slave table) × (after ≡ entered_by figures slave table)
unfolding enter_refusal_by choose
enter-meets {at} {occupancy = occupancy} plan figures slave table at-is free-is behind-is next-is occupancy-is refused placed number-is put kept-is =
    let owner = slave.owner in
    let stands = index_of owner slave.address table in
    let by-figures = occupancy_by owner figures table in
    let taken = λ (right : length table ≡ 32). occupancy-is ∙ ap (λ (free : ℕ). record { held = held_by owner figures; free = free }) (free-is ∙ sought-free table right figures.lowest) in
    let is : number_in plan ≡ enter_refusal_by figures slave table = refused ∙ dite (ℕ_discrete (length table) 32)
    (λ right. ap₂ (λ (at : ℕ) (occupancy : Occupancy). first (enter_lines (length table) at occupancy slave)) (at-is ∙ sought table right owner slave.address) (taken right))
    (λ wrong. rw (ne_eqb (length table) 32 wrong)) in
    let room = λ (given : enter_refusal_by figures slave table ≡ 0). enter-room (length table) stands by-figures slave given in (
      kept-is ∙ kept_same figures (number-is ∙ is) (λ given.
          let (right, few, inside) = room given in
          let more : (held_by owner figures + 1) % 2 ^ 8 ≡ held_by owner figures + 1 = omega (arith, few) in
          ap₂ (λ (held free : ℕ). figures_with owner held free figures) more (next-free figures table right inside free-is behind-is next-is)),
      put ∙ carried-out plan (enter_refusal_by figures slave table) (free_by figures table) slave table is placed
          (λ given. ap (λ (o : Occupancy). record { index = o.free; entry = slave }) (taken (room given).0)),
    )

module _ (owner : Bool) where
  -- an entry that was seen where an address stands
  seen : {at : ℕ} {entry : Slave} (address : ℕ) (table : List Slave)
      → at ≡ index_of owner address table → entry ≡ get_or table at none → entry ≡ entry_of owner address table
  seen address table at-is entry-is = entry-is ∙ ap (λ (k : ℕ). get_or table k none) at-is

  pub find-meets : {at : ℕ} {entry : Slave} {r : Found} (address : ℕ) (table : List Slave)
      → at ≡ index_sought 0 (Held owner address) table → entry ≡ get_or table at none → r ≡ found_by (length table) at entry address
      → r ≡ found_of owner address table
  unfolding found_by choose
  find-meets {at} {entry} address table at-is entry-is r-is =
      r-is ∙ dite (ℕ_discrete (length table) 32)
      (λ right.
      let at_right = at-is ∙ sought table right owner address in
      ap₂ (λ (at : ℕ) (entry : Slave). found_by (length table) at entry address) at_right (seen address table at_right entry-is))
      (λ wrong. unseen wrong at entry ∙ sym (unseen wrong (index_of owner address table) (entry_of owner address table)))
    where
      unseen : length table ≢ 32 → (at : ℕ) (entry : Slave) → found_by (length table) at entry address ≡ record { number = 24; product = 0; device = 0 }
      unseen wrong at entry = rw (ne_eqb (length table) 32 wrong)

  pub change-meets : {at other : ℕ} {number : ℕ} {entry : Slave} {after : List Slave} (plan : Result Placement Refusal) (from to : ℕ) (table : List Slave)
      → at ≡ index_sought 0 (Held owner from) table → entry ≡ get_or table at none → other ≡ index_sought 0 (Held owner to) table
      → number_in plan ≡ first (change_lines (length table) at other from to)
      → IfOk plan (λ placement. placement ≡ record { index = at; entry = readdressed to entry })
      → number ≡ number_in plan → after ≡ table_placed plan table
      → (number ≡ change_refusal owner from to table) × (after ≡ changed owner from to table)
  unfolding change_refusal choose
  change-meets {at} {other} {entry = entry} plan from to table at-is entry-is other-is refused placed number-is put =
      let at_right = λ (right : length table ≡ 32). at-is ∙ sought table right owner from in
      let is : number_in plan ≡ change_refusal owner from to table = refused ∙ dite (ℕ_discrete (length table) 32)
      (λ right. ap₂ (λ (at other : ℕ). first (change_lines (length table) at other from to)) (at_right right) (other-is ∙ sought table right owner to))
      (λ wrong. rw (ne_eqb (length table) 32 wrong)) in (
        number-is ∙ is,
        put ∙ carried-out plan (change_refusal owner from to table) (index_of owner from table) (readdressed to (entry_of owner from table)) table is placed
            (λ given.
            let here = at_right ((change-exactly owner from to table).0 given).size in
            ap₂ (λ (at : ℕ) (entry : Slave). record { index = at; entry = readdressed to entry }) here (seen from table here entry-is)),
      )

  pub remove-meets : {at number : ℕ} {kept : Kept} {after : List Slave} (plan : Result Placement Refusal) (figures : Figures) (address : ℕ) (table : List Slave)
      → at ≡ index_sought 0 (Held owner address) table
      → number_in plan ≡ first (find_lines (length table) at address)
      → IfOk plan (λ placement. placement ≡ record { index = at; entry = none })
      → number ≡ number_in plan → after ≡ table_placed plan table
      → kept ≡ remove_figures number figures owner at → (kept ≡ remove_kept figures owner address table) × (after ≡ removed owner address table)
  unfolding remove_refusal choose
  remove-meets {at} plan figures address table at-is refused placed number-is put kept-is =
      let at_right = λ (right : length table ≡ 32). at-is ∙ sought table right owner address in
      let is : number_in plan ≡ remove_refusal owner address table = refused ∙ dite (ℕ_discrete (length table) 32)
      (λ right. ap (λ (at : ℕ). first (find_lines (length table) at address)) (at_right right))
      (λ wrong. rw (ne_eqb (length table) 32 wrong)) in
      let here = λ (given : remove_refusal owner address table ≡ 0). at_right ((remove-exactly owner address table).0 given).size in (
        kept-is ∙ kept_same figures (number-is ∙ is) (λ given. ap (λ (index : ℕ). figures_less owner index figures) (here given)),
        put ∙ carried-out plan (remove_refusal owner address table) (index_of owner address table) none table is placed
            (λ given. ap (λ (at : ℕ). record { index = at; entry = none }) (here given)),
      )

pub check-meets : {no yes : Occupancy} {r : Checked} (figures : Figures) (table : List Slave)
    → no ≡ occupancy_counted false table → yes ≡ occupancy_counted true table → r ≡ check_by (length table) (figures_counted no yes) figures
    → r ≡ check_of figures table
unfolding check_by choose
check-meets {no} {yes} figures table no-is yes-is r-is =
    r-is ∙ dite (ℕ_discrete (length table) 32)
    (λ right.
    ap₂ (λ (no yes : Occupancy). check_by (length table) (figures_counted no yes) figures) (no-is ∙ counted table right false)
    (yes-is ∙ counted table right true))
    (λ wrong. rw (ne_eqb (length table) 32 wrong))
