-- Request No. 8: whatever the other owner does, an owner is answered by its own history and its 16s alone. Two tables in which it finds the same
-- answer it the same, and its next operation leaves them so; the other owner's change nothing that it finds.
use Rattle.std.proofs.Common.{◌≡◌, ℕ, Bool, true, false, not, ◌&&◌, eqb, ◌≢◌, ◌⊎◌, List, [], ◌∷◌, map, length, get_or, drop, sym, refl, ap, ◌∙◌, subst, ap₂, inl, inr, true≢false, arith}
use native.Mathlib.Decide.{ℕ_discrete}
use mathlib.Core.Logic.{dite}
use mathlib.Core.Bool.{Bool-discrete}
use Rattle.basics.specs.Choice.{choose, first}
use Rattle.slave_id.specs.SlaveId.{too_wide}
use Rattle.slave_plans.specs.Table.{empty, occupancy_of}
use Rattle.slave_plans.specs.Answer.{not_slave, is_full, enter_refusal, found_of, change_refusal}
use Rattle.slave_plans.specs.History.{Operation, Enter, Find, Change, Remove, owner_of, number_alone, answer_of, table_after, run_from, answers_by, table_from, answers_from, table_of, answers_of, with16, own_history}
use Rattle.slave_plans.specs.declared.Slave.{Slave}
use Rattle.slave_plans.specs.declared.Found.{Found}
use Rattle.slave_plans.proofs.Entries.{same-exactly, false-unless}
use Rattle.slave_plans.proofs.Finding.{find-refused, remove-refused, finds, enter-by-finds, change-by-finds}
use Rattle.slave_plans.proofs.Operations.{refusal_of, refused-stay, find-entered, changed-keeps, changed-once, removed-once, Concerns, others-found, neighbour-found}
use Rattle.slave_plans.proofs.Histories.{Invariant, invariant-empty, invariant-after}

-- two tables in which an owner finds the same
record Alike (o : Bool) (t t' : List Slave) : Type 0 where
  here : Invariant t
  there : Invariant t'
  same : (a : ℕ) → found_of o a t ≡ found_of o a t'

-- ── an operation of the owner's

-- one is answered 16 where the other isn't refused
abbrev pub Parted : ℕ → ℕ → Type 0
Parted n n' = ((n ≡ 16) × (n' ≡ 0)) ⊎ ((n ≡ 0) × (n' ≡ 16))

abbrev pub SameOrParted : ℕ → ℕ → Type 0
SameOrParted n n' = (n ≡ n') ⊎ Parted n n'

-- entering is answered the same in both, or so, where all lines before 16 are alike
abbrev pub enter_number : Bool → Bool → Bool → Bool → ℕ
enter_number x y z full = first ((x, 14) ∷ (y, 18) ∷ (z, 15) ∷ (full, 16) ∷ [])

pub last-parts : (x y z w w' : Bool) → SameOrParted (enter_number x y z w) (enter_number x y z w')
unfolding choose
last-parts true y z w w' = inl refl
last-parts false true z w w' = inl refl
last-parts false false true w w' = inl refl
last-parts false false false true true = inl refl
last-parts false false false true false = inr (inl (refl, refl))
last-parts false false false false true = inr (inr (refl, refl))
last-parts false false false false false = inl refl

module _ (t t' : List Slave) where
  found-same : {o : Bool} → Alike o t t' → (a : ℕ) → finds o a t ≡ finds o a t'
  found-same alike a = ap (λ (f : Found). eqb f.number 0) (alike.same a)

  enter-alike : (s : Slave) → Alike s.owner t t' → SameOrParted (enter_refusal s t) (enter_refusal s t')
  enter-alike s alike =
      let x = not_slave s.address in
      let y = too_wide s.product s.device in
      let z = finds s.owner s.address t' in
      let w = is_full (length t) (occupancy_of s.owner t) in
      let w' = is_full (length t') (occupancy_of s.owner t') in
      let left : enter_refusal s t ≡ enter_number x y z w = enter-by-finds s t alike.here.size ∙ ap (λ (found : Bool). enter_number x y found w) (found-same alike s.address) in
      let right : enter_refusal s t' ≡ enter_number x y z w' = enter-by-finds s t' alike.there.size in
      subst (λ (n : ℕ). SameOrParted n (enter_refusal s t')) (sym left) (subst (SameOrParted (enter_number x y z w)) (sym right) (last-parts x y z w w'))

  change-alike : (o : Bool) (from to : ℕ) → Alike o t t' → change_refusal o from to t ≡ change_refusal o from to t'
  change-alike o from to alike =
      change-by-finds o from to t alike.here.size
      ∙ ap₂ (λ (x y : Bool). first ((not_slave to, 14) ∷ (not x, 17) ∷ (not (eqb to from) && y, 15) ∷ [])) (found-same alike from) (found-same alike to)
      ∙ sym (change-by-finds o from to t' alike.there.size)

  -- is answered the same in both, or 16 in the one alone
  answer-alike : (op : Operation) → Alike (owner_of op) t t' → (answer_of op t ≡ answer_of op t') ⊎ Parted (refusal_of op t) (refusal_of op t')
  answer-alike (Enter s) alike = entering (enter-alike s alike)
    where
      entering : SameOrParted (enter_refusal s t) (enter_refusal s t') → (answer_of (Enter s) t ≡ answer_of (Enter s) t') ⊎ Parted (enter_refusal s t) (enter_refusal s t')
      entering (inl same) = inl (ap number_alone same)
      entering (inr parted) = inr parted
  answer-alike (Find o a) alike = inl (alike.same a)
  answer-alike (Change o from to) alike = inl (ap number_alone (change-alike o from to alike))
  answer-alike (Remove o a) alike = inl (ap number_alone (remove-refused o a t ∙ ap (λ (f : Found). f.number) (alike.same a) ∙ sym (remove-refused o a t')))

  -- so, given the same 16, the same
  answer-same : (op : Operation) → Alike (owner_of op) t t' → eqb (refusal_of op t) 16 ≡ eqb (refusal_of op t') 16 → answer_of op t ≡ answer_of op t'
  answer-same op alike sixteen = go (answer-alike op alike)
    where
      go : (answer_of op t ≡ answer_of op t') ⊎ Parted (refusal_of op t) (refusal_of op t') → answer_of op t ≡ answer_of op t'
      go (inl same) = same
      go (inr (inl (is, not))) = absurd (true≢false (sym (ap (λ (n : ℕ). eqb n 16) is) ∙ sixteen ∙ ap (λ (n : ℕ). eqb n 16) not))
      go (inr (inr (not, is))) = absurd (true≢false (sym (ap (λ (n : ℕ). eqb n 16) is) ∙ sym sixteen ∙ ap (λ (n : ℕ). eqb n 16) not))

  -- finding an address tells the same in both afterwards
  abbrev Kept : Operation → ℕ → Type 0
  Kept op x = found_of (owner_of op) x (table_after op t) ≡ found_of (owner_of op) x (table_after op t')

  by_address : (op : Operation) {x a : ℕ} → x ≡ a → Kept op a → Kept op x
  by_address op at found = subst (Kept op) (sym at) found

  missing : (op : Operation) (x : ℕ) → (found_of (owner_of op) x (table_after op t)).number ≡ 17 → (found_of (owner_of op) x (table_after op t')).number ≡ 17 → Kept op x
  missing op x e e' = nothing-else (table_after op t) e ∙ sym (nothing-else (table_after op t') e')
    where
      nothing-else : (l : List Slave) → (found_of (owner_of op) x l).number ≡ 17 → found_of (owner_of op) x l ≡ number_alone 17
      nothing-else l e = find-refused (owner_of op) x l (λ z. omega (arith, e, z)) ∙ ap number_alone e

  -- what it isn't about is found as before
  unchanged : (op : Operation) → Alike (owner_of op) t t' → (x : ℕ) → (Concerns op (owner_of op) x → ⊥) → Kept op x
  unchanged op alike x other = others-found op t (owner_of op) x other ∙ alike.same x ∙ sym (others-found op t' (owner_of op) x other)

  -- and afterwards it finds the same in both
  finds-alike : (op : Operation) → Alike (owner_of op) t t' → refusal_of op t ≡ 0 → refusal_of op t' ≡ 0 → (x : ℕ) → Kept op x
  finds-alike (Enter s) alike e e' x =
      dite (ℕ_discrete x s.address)
      (λ at. by_address (Enter s) at (find-entered s t e ∙ sym (find-entered s t' e')))
      (λ other. unchanged (Enter s) alike x (λ (own, at). other at))
  finds-alike (Find o a) alike e e' x = alike.same x
  finds-alike (Change o from to) alike e e' x =
      dite (ℕ_discrete x to)
      (λ at. by_address (Change o from to) at (changed-keeps o from to t e ∙ alike.same from ∙ sym (changed-keeps o from to t' e')))
      (λ not-to. dite (ℕ_discrete x from)
      (λ at.
      let differs : to ≢ from = λ same. not-to (at ∙ sym same) in
      by_address (Change o from to) at (missing (Change o from to) from (changed-once o from to t alike.here.once e differs) (changed-once o from to t' alike.there.once e' differs)))
      (λ not-from. unchanged (Change o from to) alike x (neither not-to not-from)))
    where
      neither : {x : ℕ} → x ≢ to → x ≢ from → Concerns (Change o from to) o x → ⊥
      neither not-to not-from (own, inl at) = not-from at
      neither not-to not-from (own, inr at) = not-to at
  finds-alike (Remove o a) alike e e' x =
      dite (ℕ_discrete x a)
      (λ at. by_address (Remove o a) at (missing (Remove o a) a (removed-once o a t alike.here.once e) (removed-once o a t' alike.there.once e')))
      (λ other. unchanged (Remove o a) alike x (λ (own, at). other at))

  after-alike : (op : Operation) → Alike (owner_of op) t t' → answer_of op t ≡ answer_of op t' → Alike (owner_of op) (table_after op t) (table_after op t')
  after-alike op alike answer = record {
    here = invariant-after op alike.here;
    there = invariant-after op alike.there;
    same = λ x.
        let number = ap (λ (f : Found). f.number) answer in
        dite (ℕ_discrete (refusal_of op t) 0)
        (λ e. finds-alike op alike e (sym number ∙ e) x)
        (λ r. ap (found_of (owner_of op) x) (refused-stay op t r) ∙ alike.same x ∙ sym (ap (found_of (owner_of op) x) (refused-stay op t' (λ z. r (number ∙ z)))));
  }

-- ── an operation of the other owner's

module _ {o : Bool} {t t' : List Slave} (op : Operation) (other : owner_of op ≢ o) where
  other-here : Alike o t t' → Alike o (table_after op t) t'
  other-here alike = record { here = invariant-after op alike.here; there = alike.there; same = λ a. neighbour-found op t o a other ∙ alike.same a }

  other-there : Alike o t t' → Alike o t (table_after op t')
  other-there alike = record { here = alike.here; there = invariant-after op alike.there; same = λ a. alike.same a ∙ sym (neighbour-found op t' o a other) }

-- ── histories

module _ (o : Bool) where
  module _ (op : Operation) (h : List Operation) (t : List Slave) where
    own-step : owner_of op ≡ o → answers_from o t (op ∷ h) ≡ (op, answer_of op t) ∷ answers_from o (table_after op t) h
    unfolding answers_by choose
    own-step own = rw ((same-exactly (owner_of op) o).1 own)

    other_step : owner_of op ≢ o → answers_from o t (op ∷ h) ≡ answers_from o (table_after op t) h
    unfolding answers_by choose
    other_step other = rw (false-unless _ (λ y. other ((same-exactly (owner_of op) o).0 y)))

  -- what an owner was asked and which 16s it got, from a table on
  abbrev own16s : List Slave → List Operation → List (Operation × Bool)
  own16s t h = map with16 (answers_from o t h)

  own-16s : (op : Operation) (h : List Operation) (t : List Slave) → owner_of op ≡ o → own16s t (op ∷ h) ≡ with16 (op, answer_of op t) ∷ own16s (table_after op t) h
  own-16s op h t own = ap (map with16) (own-step op h t own)

  -- two histories come to the same answers, and to tables that are alike
  record Agree (t t' : List Slave) (h h' : List Operation) : Type 0 where
    answers : answers_from o t h ≡ answers_from o t' h'
    after : Alike o (table_from t h) (table_from t' h')

  none_left : {t t' : List Slave} → Alike o t t' → Agree t t' [] []
  unfolding answers_by run_from
  none_left alike = record { answers = refl; after = alike }

  module _ (op : Operation) {t t' : List Slave} {h h' : List Operation} where
    other-left : owner_of op ≢ o → Agree (table_after op t) t' h h' → Agree t t' (op ∷ h) h'
    unfolding run_from
    other-left other a = record { answers = other_step op h t other ∙ a.answers; after = a.after }

    other-right : owner_of op ≢ o → Agree t (table_after op t') h h' → Agree t t' h (op ∷ h')
    unfolding run_from
    other-right other a = record { answers = a.answers ∙ sym (other_step op h' t' other); after = a.after }

    own-both : owner_of op ≡ o → answer_of op t ≡ answer_of op t' → Agree (table_after op t) (table_after op t') h h' → Agree t t' (op ∷ h) (op ∷ h')
    unfolding run_from
    own-both own answer a = record {
      answers =
          own-step op h t own
          ∙ ap₂ (λ (x : Found) (later : List (Operation × Found)). (op, x) ∷ later) answer a.answers
          ∙ sym (own-step op h' t' own);
      after = a.after;
    }

  -- so do two with the same own operations and 16s
  abbrev Isolated : List Operation → Type 0
  Isolated h = (h' : List Operation) (t t' : List Slave) → Alike o t t' → own16s t h ≡ own16s t' h' → Agree t t' h h'

  -- the first has no own operation: neither has the second
  none_first : Isolated []
  unfolding answers_by
  none_first [] t t' alike same = none_left alike
  none_first (op ∷ h') t t' alike same =
      dite (Bool-discrete (owner_of op) o)
      (λ own. absurd (omega (arith, ap length (same ∙ own-16s op h' t' own))))
      (λ other. other-right op other (none_first h' t (table_after op t') (other-there op other alike) (same ∙ ap (map with16) (other_step op h' t' other))))

  -- the first begins with one: so does the second, once the other owner's are passed
  module _ (op : Operation) (h : List Operation) (own : owner_of op ≡ o) (rest : Isolated h) where
    -- with the same operation, and the same 16
    both_first : (h' : List Operation) (t t' : List Slave) → Alike o t t' → eqb (refusal_of op t) 16 ≡ eqb (refusal_of op t') 16
        → own16s (table_after op t) h ≡ own16s (table_after op t') h' → Agree t t' (op ∷ h) (op ∷ h')
    both_first h' t t' alike sixteen same =
        let mine = subst (λ (x : Bool). Alike x t t') (sym own) alike in
        let answer = answer-same t t' op mine sixteen in
        let after = subst (λ (x : Bool). Alike x (table_after op t) (table_after op t')) own (after-alike t t' op mine answer) in
        own-both op own answer (rest h' (table_after op t) (table_after op t') after same)

    own_first : Isolated (op ∷ h)
    unfolding answers_by
    own_first [] t t' alike same = absurd (omega (arith, ap length (sym (own-16s op h t own) ∙ same)))
    own_first (op' ∷ h') t t' alike same =
        dite (Bool-discrete (owner_of op') o)
        (λ own'.
        let equal = sym (own-16s op h t own) ∙ same ∙ own-16s op' h' t' own' in
        let head = ap (λ (l : List (Operation × Bool)). get_or l 0 (with16 (op, answer_of op t))) equal in
        let is = ap (λ (x : Operation × Bool). x.0) head in
        subst (λ (x : Operation). eqb (refusal_of op t) 16 ≡ eqb (refusal_of x t') 16 → own16s (table_after op t) h ≡ own16s (table_after x t') h' → Agree t t' (op ∷ h) (x ∷ h')) is
        (both_first h' t t' alike) (ap (λ (x : Operation × Bool). x.1) head) (ap (drop 1) equal))
        (λ other. other-right op' other (own_first h' t (table_after op' t') (other-there op' other alike) (same ∙ ap (map with16) (other_step op' h' t' other))))

  isolated-from : (h : List Operation) → Isolated h
  isolated-from [] = none_first
  isolated-from (op ∷ h) =
      dite (Bool-discrete (owner_of op) o)
      (λ own. own_first op h own (isolated-from h))
      (λ other h' t t' alike same.
      other-left op other (isolated-from h h' (table_after op t) t' (other-here op other alike) (sym (ap (map with16) (other_step op h t other)) ∙ same)))

module _ (owner : Bool) (h h' : List Operation) (same : own_history owner h ≡ own_history owner h') where
  agree : Agree owner empty empty h h'
  agree = isolated-from owner h h' empty empty (record { here = invariant-empty; there = invariant-empty; same = λ a. refl }) same

  -- "From the empty table on, whatever the other owner does, an owner's finds, 14, 15 and 17 are the same given the same own history with the same
  -- 16s"
  pub isolated : answers_of owner h ≡ answers_of owner h'
  isolated = agree.answers

-- "only 16 may depend on the neighbour": after two such histories the owner's next operation is answered the same, or 16 after the one and 0 after
-- the other
pub only-16 : (op : Operation) (h h' : List Operation) → own_history (owner_of op) h ≡ own_history (owner_of op) h'
    → (answer_of op (table_of h) ≡ answer_of op (table_of h')) ⊎ Parted (refusal_of op (table_of h)) (refusal_of op (table_of h'))
only-16 op h h' same = answer-alike (table_of h) (table_of h') op (agree (owner_of op) h h' same).after
