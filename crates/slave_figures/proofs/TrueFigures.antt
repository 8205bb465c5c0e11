-- Request No. 9 of true figures: every operation keeps them as counting gives them, and answers and does what No. 8 says by counting.
use Rattle.std.proofs.Common.{◌≡◌, ℕ, suc, ◌+◌, ◌<◌, Bool, true, false, not, eqb, ◌≢◌, ◌↔◌, List, length, get_or, set, sym, refl, ap, ◌∙◌, subst, true≢false, arith}
use native.Mathlib.Decide.{ℕ_discrete}
use mathlib.Core.Logic.{dite}
use Rattle.basics.specs.Choice.{choose}
use Rattle.basics.proofs.Table.{when-none, when-refused}
use Rattle.slave_plans.specs.Table.{none, is_free, belongs_to, lowest, lowest_from, count, index_of, occupancy_of}
use Rattle.slave_plans.specs.Answer.{enter_refusal_with, table_with, enter_refusal, change_refusal, entry_of, readdressed, remove_refusal}
use Rattle.slave_plans.specs.History.{Operation, Enter, Find, Change, Remove, number_alone, answer_of, table_after}
use Rattle.slave_plans.specs.declared.Slave.{Slave}
use Rattle.slave_plans.specs.declared.Occupancy.{Occupancy}
use Rattle.slave_plans.proofs.Addresses.{slave-nonzero}
use Rattle.slave_plans.proofs.Entries.{false-unless, free-exactly, belongs-exactly}
use Rattle.slave_plans.proofs.Indices.{Nowhere, lowest-here, lowest-none, lowest-nowhere, set_other, from_lowest, lowest-behind, lowest-lower}
use Rattle.slave_plans.proofs.Counts.{one, count_set}
use Rattle.slave_plans.proofs.Refusals.{enter-exactly, change-exactly, remove-exactly}
use Rattle.slave_plans.proofs.Operations.{refusal_of, index_named, entry_put, named-inside, either, given, refused-stay, changed-named, removed-named}
use Rattle.slave_figures.specs.Keeping.{figures_of, held_by, free_by, occupancy_by, figures_with, figures_more, figures_less, enter_refusal_by}
use Rattle.slave_figures.specs.History.{State, start, answer_in, state_after}
use Rattle.slave_figures.specs.declared.Figures.{Figures}

-- a table with the figures that counting gives
abbrev pub counted : List Slave → State
counted t = record { table = t; figures = figures_of t }

abbrev pub True : State → Type 0
True s = s.figures ≡ figures_of s.table

-- "the empty table's among them"
pub figures-empty : True start
unfolding count lowest belongs_to is_free choose
figures-empty = refl

-- "the lowest free slot (32 if none)"
pub none_free : (t : List Slave) → length t ≡ 32 → ((figures_of t).lowest ≡ 32) ↔ Nowhere is_free t
none_free t size = (λ e. lowest-nowhere is_free t (omega (arith, e, size)), λ nowhere. lowest-none is_free t nowhere ∙ size)

-- "each owner's number of entries"
pub held-counted : (o : Bool) (t : List Slave) → held_by o (figures_of t) ≡ count (belongs_to o) t
unfolding held_by choose
held-counted true t = refl
held-counted false t = refl

free-counted : (t : List Slave) → free_by (figures_of t) t ≡ lowest is_free t
free-counted t = omega (arith, from_lowest is_free t)

-- what entering goes by is what No. 8 counts
occupancy-counted : (o : Bool) (t : List Slave) → occupancy_by o (figures_of t) t ≡ occupancy_of o t
occupancy-counted o t = λ i. record { held = held-counted o t i; free = free-counted t i }

refusal-counted : (s : Slave) (t : List Slave) → enter_refusal_by (figures_of t) s t ≡ enter_refusal s t
unfolding enter_refusal_by enter_refusal
refusal-counted s t = ap (λ (x : Occupancy). enter_refusal_with x s t) (occupancy-counted s.owner t)

-- ── an entry in another's place

-- figures in which one owner's number and the lowest free entry are others, and the other owner's isn't
figures-with : (o : Bool) (f : Figures) (held free : ℕ) (t : List Slave) → held ≡ count (belongs_to o) t → held_by (not o) f ≡ count (belongs_to (not o)) t
    → free ≡ lowest is_free t → figures_with o held free f ≡ figures_of t
unfolding figures_with held_by choose
figures-with true f held free t own other low = λ i. record { no = other i; yes = own i; lowest = low i }
figures-with false f held free t own other low = λ i. record { no = own i; yes = other i; lowest = low i }

module _ (t : List Slave) (i : ℕ) (e : Slave) (inside : i < length t) where
  abbrev old : Slave
  old = get_or t i none

  abbrev after : List Slave
  after = set t i e

  -- an owner holds more by the new entry and less by the old one
  held_after : (o was is : Bool) → belongs_to o old ≡ was → belongs_to o e ≡ is → count (belongs_to o) after + one was ≡ count (belongs_to o) t + one is
  held_after o was is old-is New-is =
      subst (λ (x : Bool). count (belongs_to o) after + one x ≡ count (belongs_to o) t + one is) old-is
      (subst (λ (x : Bool). count (belongs_to o) after + one (belongs_to o old) ≡ count (belongs_to o) t + one x) New-is (count_set (belongs_to o) t i e inside))

-- a free entry is nobody's, and one that is an owner's isn't the other's
free-nobody : (o : Bool) (e : Slave) → e.address ≡ 0 → belongs_to o e ≡ false
free-nobody o e free = false-unless _ (λ y. ((belongs-exactly e o).0 y).0 free)

own : (e : Slave) → e.address ≢ 0 → belongs_to e.owner e ≡ true
own e some = (belongs-exactly e e.owner).1 (some, refl)

other : (o : Bool) (e : Slave) → e.owner ≡ o → belongs_to (not o) e ≡ false
other o e is = false-unless _ (λ y. differ o (sym is ∙ ((belongs-exactly e (not o)).0 y).1))
  where
    differ : (o : Bool) → o ≡ not o → ⊥
    differ true same = true≢false same
    differ false same = true≢false (sym same)

taken : (e : Slave) → e.address ≢ 0 → is_free e ≡ false
taken e some = false-unless _ (λ y. some ((free-exactly e).0 y))

-- whose an entry is, its owner alone says, if it isn't free
same-owner : (o : Bool) (e e' : Slave) → e.address ≢ 0 → e'.address ≢ 0 → e.owner ≡ e'.owner → belongs_to o e ≡ belongs_to o e'
unfolding belongs_to
same-owner o e e' some some' is = rw (taken e some, taken e' some', is)

-- ── each operation that isn't refused

entered-true : (s : Slave) (t : List Slave) → enter_refusal s t ≡ 0
    → figures_more s.owner (lowest_from (suc (free_by (figures_of t) t)) is_free t) (figures_of t) ≡ figures_of (set t (lowest is_free t) s)
unfolding choose
entered-true s t accepted =
    let at = lowest is_free t in
    let inside = named-inside (Enter s) t accepted in
    let some = slave-nonzero s.address ((enter-exactly s t).0 accepted).address in
    let was = (free-exactly (get_or t at none)).0 (lowest-here is_free t inside).here in
    let o = s.owner in
    figures-with o (figures_of t) _ _ (set t at s)
    (omega (arith, held-counted o t, held_after t at s inside o false true (free-nobody o _ was) (own s some)))
    (held-counted (not o) t ∙ omega (arith, held_after t at s inside (not o) false false (free-nobody (not o) _ was) (other o s refl)))
    (ap (λ (n : ℕ). lowest_from (suc n) is_free t) (free-counted t) ∙ sym (lowest-behind is_free t s (taken s some) inside))

changed-true : (o : Bool) (from to : ℕ) (t : List Slave) → change_refusal o from to t ≡ 0
    → figures_of t ≡ figures_of (set t (index_of o from t) (readdressed to (entry_of o from t)))
unfolding choose
changed-true o from to t accepted =
    let at = index_of o from t in
    let new = readdressed to (entry_of o from t) in
    let inside = named-inside (Change o from to) t accepted in
    let m = (change-exactly o from to t).0 accepted in
    let named = changed-named o from to t accepted in
    let was : (entry_of o from t).address ≢ 0 = λ z. m.some (sym named.1 ∙ z) in
    let some : to ≢ 0 = slave-nonzero to m.new in
    let same : (x : Bool) → count (belongs_to x) t ≡ count (belongs_to x) (set t at new) =
    λ x. let alike = same-owner x (entry_of o from t) new was some refl in omega (arith, held_after t at new inside x (belongs_to x new) (belongs_to x new) alike refl) in
    λ i. record { no = same false i; yes = same true i; lowest = sym (set_other is_free t at new (taken _ was) (taken new some)) i }

removed-true : (o : Bool) (a : ℕ) (t : List Slave) → remove_refusal o a t ≡ 0
    → figures_less o (index_of o a t) (figures_of t) ≡ figures_of (set t (index_of o a t) none)
unfolding choose
removed-true o a t accepted =
    let at = index_of o a t in
    let old = entry_of o a t in
    let inside = named-inside (Remove o a) t accepted in
    let named = removed-named o a t accepted in
    let was : old.address ≢ 0 = λ z. ((remove-exactly o a t).0 accepted).some (sym named.1 ∙ z) in
    let mine = subst (λ (x : Bool). belongs_to x old ≡ true) named.0 (own old was) in
    figures-with o (figures_of t) _ _ (set t at none)
    (omega (arith, held-counted o t, held_after t at none inside o true false mine (free-nobody o none refl)))
    (held-counted (not o) t ∙ omega (arith, held_after t at none inside (not o) false false (other o old named.0) (free-nobody (not o) none refl)))
    (sym (lowest-lower is_free t at none ((free-exactly none).1 refl) inside))

-- ── every operation

pub answer-counted : (op : Operation) (t : List Slave) → answer_in op (counted t) ≡ answer_of op t
answer-counted (Enter s) t = ap number_alone (refusal-counted s t)
answer-counted (Find o a) t = refl
answer-counted (Change o from to) t = refl
answer-counted (Remove o a) t = refl

-- figures afterwards, by the refusal: those that were, or others
by-refusal : (op : Operation) (t : List Slave) (n : ℕ) (f : Figures) → n ≡ refusal_of op t
    → (refusal_of op t ≡ 0 → f ≡ figures_of (set t (index_named op t) (entry_put op t))) → choose (eqb n 0) f (figures_of t) ≡ figures_of (table_after op t)
by-refusal op t n f is true-then =
    dite (ℕ_discrete (refusal_of op t) 0)
    (λ accepted. when-none n f (figures_of t) (is ∙ accepted) ∙ true-then accepted ∙ ap figures_of (sym (given op t accepted)))
    (λ refused. when-refused n f (figures_of t) (λ z. refused (sym is ∙ z)) ∙ ap figures_of (sym (refused-stay op t refused)))

pub state-counted : (op : Operation) (t : List Slave) → state_after op (counted t) ≡ counted (table_after op t)
state-counted (Enter s) t = λ i. record {
  table = table_with (refusal-counted s t i) (free-counted t i) s t;
  figures = by-refusal (Enter s) t (enter_refusal_by (figures_of t) s t) _ (refusal-counted s t) (entered-true s t) i;
}
state-counted (Find o a) t = refl
state-counted (Change o from to) t = λ i. record {
  table = table_after (Change o from to) t;
  figures = either (Change o from to) t (λ (l : List Slave). figures_of t ≡ figures_of l) refl (changed-true o from to t) i;
}
state-counted (Remove o a) t = λ i. record {
  table = table_after (Remove o a) t;
  figures = by-refusal (Remove o a) t (remove_refusal o a t) _ refl (removed-true o a t) i;
}

is-counted : (s : State) → True s → s ≡ counted s.table
is-counted s e = λ i. record { table = s.table; figures = e i }

-- "From true figures .. every operation, refusals included, keeps them as counting would give"
pub figures-kept : (op : Operation) (s : State) → True s → True (state_after op s)
figures-kept op s e = subst (λ (x : State). True (state_after op x)) (sym (is-counted s e)) (kept s.table)
  where
    kept : (t : List Slave) → True (state_after op (counted t))
    kept t = subst True (sym (state-counted op t)) refl

-- "and No. 8's answers stay": what is answered, and the table afterwards
pub figures-answer : (op : Operation) (s : State) → True s → (answer_in op s ≡ answer_of op s.table) × ((state_after op s).table ≡ table_after op s.table)
figures-answer op s e =
    let is = is-counted s e in (
      ap (answer_in op) is ∙ answer-counted op s.table,
      ap (λ (x : State). (state_after op x).table) is ∙ ap (λ (x : State). x.table) (state-counted op s.table),
    )
