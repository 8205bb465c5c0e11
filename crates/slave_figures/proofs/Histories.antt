-- Requests No. 8 and No. 9 over histories of calls, each with the figures that the one before gave back: from true ones on, such as the empty
-- table's zeros, they stay true, so that No. 8's theorems hold of what the calls answer.
use Rattle.std.proofs.Common.{◌≡◌, ◌<◌, ◌≤◌, Bool, ◌≢◌, ◌⊎◌, List, [], ◌∷◌, map, sym, refl, ap, ◌∙◌, subst}
use mathlib.Core.Bool.{beq}
use Rattle.basics.specs.Choice.{choose}
use Rattle.slave_plans.specs.Table.{empty, belongs_to, count}
use Rattle.slave_plans.specs.History as counting
use Rattle.slave_plans.specs.History.{Operation, Enter, owner_of, with16, table_from, table_after, answer_of, run_from, answers_by}
use Rattle.slave_plans.specs.declared.Slave.{Slave}
use Rattle.slave_plans.specs.declared.Found.{Found}
use Rattle.slave_plans.proofs.Histories as by-counting
use Rattle.slave_plans.proofs.Isolation as by-counting'
use Rattle.slave_plans.proofs.Isolation.{Parted}
use Rattle.slave_plans.proofs.Operations.{refusal_of}
use Rattle.slave_figures.specs.History.{State, start, answer_in, state_from, answers_from, state_of, answers_of, own_history}
use Rattle.slave_figures.proofs.TrueFigures.{counted, True, figures-empty, answer-counted, state-counted}

-- ── as by counting

-- from any table with true figures
pub states-counted : (t : List Slave) (h : List Operation) → state_from (counted t) h ≡ counted (table_from t h)
unfolding run_from
states-counted t [] = refl
states-counted t (op ∷ h) = ap (λ (s : State). state_from s h) (state-counted op t) ∙ states-counted (table_after op t) h

pub answers-counted-from : (owner : Bool) (t : List Slave) (h : List Operation) → answers_from owner (counted t) h ≡ counting.answers_from owner t h
unfolding answers_by
answers-counted-from owner t [] = refl
answers-counted-from owner t (op ∷ h) =
    let later = ap (λ (s : State). answers_from owner s h) (state-counted op t) ∙ answers-counted-from owner (table_after op t) h in
    λ i. choose (beq (owner_of op) owner) ((op, answer-counted op t i) ∷ later i) (later i)

starts : start ≡ counted empty
starts = λ i. record { table = empty; figures = figures-empty i }

state-is : (h : List Operation) → state_of h ≡ counted (counting.table_of h)
state-is h = ap (λ (s : State). state_from s h) starts ∙ states-counted empty h

module _ (h : List Operation) where
  -- "every operation .. keeps them": after any history they are what counting gives
  pub figures-stay : True (state_of h)
  figures-stay = subst True (sym (state-is h)) refl

  -- and the table is No. 8's
  pub table_counted : (state_of h).table ≡ counting.table_of h
  table_counted = ap (λ (s : State). s.table) (state-is h)

  -- "and No. 8's answers stay"
  pub answers-counted : (owner : Bool) → answers_of owner h ≡ counting.answers_of owner h
  answers-counted owner = ap (λ (s : State). answers_from owner s h) starts ∙ answers-counted-from owner empty h

-- ── No. 8's theorems

-- "An owner may hold at most 24 entries"
pub at-most-24 : (h : List Operation) (o : Bool) → count (belongs_to o) (state_of h).table ≤ 24
at-most-24 h o = subst (λ (t : List Slave). count (belongs_to o) t ≤ 24) (sym (table_counted h)) (by-counting.at-most-24 h o)

answer-is : (op : Operation) (h : List Operation) → answer_in op (state_of h) ≡ answer_of op (counting.table_of h)
answer-is op h = ap (answer_in op) (state-is h) ∙ answer-counted op (counting.table_of h)

-- "only 16 may depend on the neighbour, and never for an owner with fewer than eight entries"
pub room-for-eight : (h : List Operation) (s : Slave) → count (belongs_to s.owner) (state_of h).table < 8 → (answer_in (Enter s) (state_of h)).number ≢ 16
room-for-eight h s few full =
    by-counting.room-for-eight h s (subst (λ (t : List Slave). count (belongs_to s.owner) t < 8) (table_counted h) few)
    (ap (λ (f : Found). f.number) (sym (answer-is (Enter s) h)) ∙ full)

own-counted : (owner : Bool) (h : List Operation) → own_history owner h ≡ counting.own_history owner h
own-counted owner h = ap (map with16) (answers-counted h owner)

same-counted : (owner : Bool) (h h' : List Operation) → own_history owner h ≡ own_history owner h' → counting.own_history owner h ≡ counting.own_history owner h'
same-counted owner h h' same = sym (own-counted owner h) ∙ same ∙ own-counted owner h'

-- "From the empty table on, whatever the other owner does, an owner's finds, 14, 15 and 17 are the same given the same own history with the same
-- 16s"
pub isolated : (owner : Bool) (h h' : List Operation) → own_history owner h ≡ own_history owner h' → answers_of owner h ≡ answers_of owner h'
isolated owner h h' same =
    answers-counted h owner ∙ by-counting'.isolated owner h h' (same-counted owner h h' same) ∙ sym (answers-counted h' owner)

-- "only 16 may depend on the neighbour": after two such histories the owner's next operation is answered the same, or 16 after the one and 0 after
-- the other
pub only-16 : (op : Operation) (h h' : List Operation) → own_history (owner_of op) h ≡ own_history (owner_of op) h'
    → (answer_in op (state_of h) ≡ answer_in op (state_of h')) ⊎ Parted (answer_in op (state_of h)).number (answer_in op (state_of h')).number
only-16 op h h' same =
    subst (λ (x : Found). (x ≡ answer_in op (state_of h')) ⊎ Parted x.number (answer_in op (state_of h')).number) (sym (answer-is op h))
    (subst (λ (x : Found). (answer_of op (counting.table_of h) ≡ x) ⊎ Parted (refusal_of op (counting.table_of h)) x.number) (sym (answer-is op h'))
    (by-counting'.only-16 op h h' (same-counted (owner_of op) h h' same)))
