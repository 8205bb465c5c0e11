-- Request No. 8 over histories of both owners from the empty table: an owner holds at most 24 entries, and with fewer than eight it isn't refused
-- as 16.
use Rattle.std.proofs.Common.{◌≡◌, ◌<◌, ◌≤◌, Bool, true, false, ◌≢◌, ◌⊎◌, List, [], ◌∷◌, ◌++◌, length, get_or, set, sym, refl, ap, ◌∙◌, subst, inl, inr, true≢false, arith}
use mathlib.Core.Bool.{beq}
use Rattle.basics.specs.Choice.{choose}
use Rattle.slave_plans.specs.Table.{none, empty, is_free, belongs_to, count}
use Rattle.slave_plans.specs.Answer.{enter_refusal, entry_of, readdressed}
use Rattle.slave_plans.specs.History.{Operation, Enter, Find, Change, Remove, owner_of, table_after, run_from, answers_by, table_from, table_of}
use Rattle.slave_plans.specs.declared.Slave.{Slave}
use Rattle.slave_plans.specs.declared.Found.{Found}
use Rattle.slave_plans.proofs.Entries.{by-test, belongs-exactly}
use Rattle.slave_plans.proofs.Counts.{count-more, count_kept, count-nowhere, count-all}
use Rattle.slave_plans.proofs.Indices.{Nowhere}
use Rattle.slave_plans.proofs.Refusals.{enter-exactly, enter-full, change-exactly}
use Rattle.slave_plans.proofs.Operations.{refusal_of, index_named, entry_put, named-inside, either, length-stays, changed-named, Once, once-empty, once-kept}

-- what holds of every table that a history leads to
pub record Invariant (t : List Slave) : Type 0 where
  pub size : length t ≡ 32
  pub once : Once t
  pub few : (o : Bool) → count (belongs_to o) t ≤ 24

-- an entry that is put leaves each owner 24 at most
put-few : (op : Operation) (t : List Slave) (o : Bool) → count (belongs_to o) t ≤ 24 → refusal_of op t ≡ 0 → count (belongs_to o) (set t (index_named op t) (entry_put op t)) ≤ 24
put-few op t o few accepted = go op accepted
  where
    kept : (op : Operation) → refusal_of op t ≡ 0 → (belongs_to o (entry_put op t) ≡ true → belongs_to o (get_or t (index_named op t) none) ≡ true)
        → count (belongs_to o) (set t (index_named op t) (entry_put op t)) ≤ 24
    kept op accepted implies = omega (arith, few, count_kept (belongs_to o) t (index_named op t) (entry_put op t) (named-inside op t accepted) implies)

    go : (op : Operation) → refusal_of op t ≡ 0 → count (belongs_to o) (set t (index_named op t) (entry_put op t)) ≤ 24
    go (Enter s) accepted =
        by-test (belongs_to o s)
        (λ own.
        let fewer = subst (λ (x : Bool). count (belongs_to x) t < 24) ((belongs-exactly s o).0 own).1 ((enter-exactly s t).0 accepted).few in
        omega (arith, fewer, count-more (belongs_to o) t (index_named (Enter s) t) s (named-inside (Enter s) t accepted)))
        (λ other. kept (Enter s) accepted (λ own. absurd (true≢false (sym own ∙ other))))
    go (Find o' a) accepted = kept (Find o' a) accepted (λ own. own)
    go (Change o' from to) accepted =
        let named = changed-named o' from to t accepted in
        kept (Change o' from to) accepted
        (λ own.
        (belongs-exactly (entry_of o' from t) o).1
        (λ z. ((change-exactly o' from to t).0 accepted).some (sym named.1 ∙ z), ((belongs-exactly (readdressed to (entry_of o' from t)) o).0 own).1))
    go (Remove o' a) accepted = kept (Remove o' a) accepted (λ own. absurd (((belongs-exactly none o).0 own).0 refl))

pub invariant-empty : Invariant empty
unfolding count belongs_to is_free choose
invariant-empty = record { size = refl; once = once-empty; few = λ o. omega arith }

pub invariant-after : (op : Operation) {t : List Slave} → Invariant t → Invariant (table_after op t)
invariant-after op {t} r = record {
  size = length-stays op t ∙ r.size;
  once = once-kept op t r.once;
  few = λ o. either op t (λ (l : List Slave). count (belongs_to o) l ≤ 24) (r.few o) (λ accepted. put-few op t o (r.few o) accepted);
}

invariant-from : (t : List Slave) → Invariant t → (h : List Operation) → Invariant (table_from t h)
unfolding run_from
invariant-from t r [] = r
invariant-from t r (op ∷ h) = invariant-from (table_after op t) (invariant-after op r) h

invariant-of : (h : List Operation) → Invariant (table_of h)
invariant-of h = invariant-from empty invariant-empty h

-- "An owner may hold at most 24 entries"
pub at-most-24 : (h : List Operation) (o : Bool) → count (belongs_to o) (table_of h) ≤ 24
at-most-24 h o = (invariant-of h).few o

-- "only 16 may depend on the neighbour, and never for an owner with fewer than eight entries"
pub room-for-eight : (h : List Operation) (s : Slave) → count (belongs_to s.owner) (table_of h) < 8 → enter_refusal s (table_of h) ≢ 16
room-for-eight h s few e = go ((enter-full s t).0 e).full
  where
    t : List Slave
    t = table_of h

    crowded : (o : Bool) → count (belongs_to o) t < 8 → count is_free t ≡ 0 → ⊥
    crowded true few no-free = omega (arith, few, no-free, count-all t, (invariant-of h).few false, (invariant-of h).size)
    crowded false few no-free = omega (arith, few, no-free, count-all t, (invariant-of h).few true, (invariant-of h).size)

    go : (24 ≤ count (belongs_to s.owner) t) ⊎ Nowhere is_free t → ⊥
    go (inl many) = omega (arith, many, few)
    go (inr none_free) = crowded s.owner few (count-nowhere is_free t none_free)

-- a history that goes on is answered from where it has led to, by counting and with figures
pub answers-on : {S : Type 0} (answer : Operation → S → Found) (after : Operation → S → S) (owner : Bool) (s : S) (h h' : List Operation)
    → answers_by answer after owner s (h ++ h') ≡ answers_by answer after owner s h ++ answers_by answer after owner (run_from after s h) h'
unfolding answers_by run_from choose
answers-on answer after owner s [] h' = refl
answers-on answer after owner s (op ∷ h) h' =
    ap (λ (later : List (Operation × Found)). choose (beq (owner_of op) owner) ((op, answer op s) ∷ later) later) (answers-on answer after owner (after op s) h h')
    ∙ go (beq (owner_of op) owner) (answers_by answer after owner (after op s) h) (answers_by answer after owner (run_from after (after op s) h) h')
  where
    go : (own : Bool) (first later : List (Operation × Found))
        → choose own ((op, answer op s) ∷ (first ++ later)) (first ++ later) ≡ choose own ((op, answer op s) ∷ first) first ++ later
    go true first later = refl
    go false first later = refl
