-- What finding tells.
use Rattle.std.proofs.Common.{◌≡◌, ℕ, Bool, true, false, not, ◌&&◌, ◌||◌, eqb, ltb, leb, ◌≢◌, ◌↔◌, List, [], ◌∷◌, length, get_or, refl, ap, ◌∙◌, arith, le-ltb, lt-ltb, eq-eqb, ne_eqb, le-leb}
use native.Mathlib.Decide.{dec_lt}
use mathlib.Core.Logic.{dite}
use borrow.Author.Tests.{lt-leb}
use Rattle.basics.specs.Choice.{choose, first}
use Rattle.basics.proofs.Table.{when-none, when-refused}
use Rattle.slave_plans.specs.Table.{none, has_address, index_of, occupancy_of}
use Rattle.slave_plans.specs.Answer.{not_slave, is_absent, is_full, is_taken, enter_refusal, find_lines, found_by, entry_of, found_of, change_refusal, remove_refusal}
use Rattle.slave_plans.specs.History.{number_alone}
use Rattle.slave_plans.specs.declared.Slave.{Slave}
use Rattle.slave_plans.specs.declared.Found.{Found}
use Rattle.slave_id.specs.SlaveId.{too_wide}
use Rattle.slave_plans.proofs.Addresses.{slave-exactly, slave-nonzero}
use Rattle.slave_plans.proofs.Entries.{by-test}
use Rattle.slave_plans.proofs.Indices.{Lowest, Nowhere, lowest-is, lowest-none}
use Rattle.slave_plans.proofs.Refusals.{Findable, length-exactly, findable-exactly}

-- a line that doesn't apply
line-over : (test : Bool) (number rest : ℕ) → test ≡ false → choose test number rest ≡ rest
unfolding choose
line-over test number rest e = rw e

-- what is told of an entry, and of none
abbrev pub identifiers : Slave → Found
identifiers e = record { number = 0; product = e.product; device = e.device }

module _ (o : Bool) (a : ℕ) (t : List Slave) where
  abbrev refusal : ℕ
  refusal = first (find_lines (length t) (index_of o a t) a)

  -- removing is refused just as finding is
  pub remove-refused : remove_refusal o a t ≡ (found_of o a t).number
  unfolding remove_refusal found_by
  remove-refused = refl

  -- 0 exactly if the table has 32 entries and one of them is the owner's and has the address, which isn't 0
  pub find-exactly : ((found_of o a t).number ≡ 0) ↔ Findable o a t
  unfolding found_by
  find-exactly = findable-exactly o a t

  -- then the identifiers are those of the lowest such entry
  pub find-lowest : (found_of o a t).number ≡ 0 → (i : ℕ) → Lowest (has_address o a) t i → found_of o a t ≡ identifiers (get_or t i none)
  unfolding found_by
  find-lowest e i x =
      let here = get_or t (index_of o a t) none in
      let entry : here ≡ get_or t i none = ap (λ (k : ℕ). get_or t k none) (lowest-is (has_address o a) t i x) in
      λ j. record {
        number = e j;
        product = (when-none refusal here.product 0 e ∙ ap (λ (s : Slave). s.product) entry) j;
        device = (when-none refusal here.device 0 e ∙ ap (λ (s : Slave). s.device) entry) j;
      }

  -- a refused answer has zeros
  pub find-refused : (found_of o a t).number ≢ 0 → found_of o a t ≡ number_alone (found_of o a t).number
  unfolding found_by
  find-refused e =
      let here = get_or t (index_of o a t) none in
      λ j. record { number = refusal; product = when-refused refusal here.product 0 e j; device = when-refused refusal here.device 0 e j }

  -- 24 comes first, and 17 is all that is left
  pub find-length : length t ≢ 32 → (found_of o a t).number ≡ 24
  unfolding found_by choose
  find-length wrong = rw (ne_eqb _ _ wrong)

  pub find-missing : length t ≡ 32 → Nowhere (has_address o a) t → (found_of o a t).number ≡ 17
  unfolding found_by is_absent choose
  find-missing size nowhere = rw (eq-eqb _ _ size, le-leb (length t) (index_of o a t) (omega (arith, lowest-none (has_address o a) t nowhere))) (any (eqb a 0))
    where
      any : (b : Bool) → choose {A = ℕ} (b || true) 17 0 ≡ 17
      any true = refl
      any false = refl

  -- the same entry where the address stands is told alike
  pub find-same : (t' : List Slave) → length t' ≡ length t → index_of o a t' ≡ index_of o a t → get_or t' (index_of o a t) none ≡ get_or t (index_of o a t) none → found_of o a t' ≡ found_of o a t
  find-same t' size index entry = λ j. found_by (size j) (index j) ((ap (λ (k : ℕ). get_or t' k none) index ∙ entry) j) a

-- the free entries' address "is never found", whatever the entries are
pub find-zero : (o : Bool) (t : List Slave) → found_of o 0 t ≡ number_alone (choose (eqb (length t) 32) 17 24)
unfolding found_by is_absent choose
find-zero o t = go (eqb (length t) 32) (entry_of o 0 t)
  where
    go : (b : Bool) (e : Slave) → ◌≡◌ {A = Found}
        (record {
          number = choose (not b) 24 17;
          product = choose (eqb (choose (not b) 24 17) 0) e.product 0;
          device = choose (eqb (choose (not b) 24 17) 0) e.device 0;
        })
        (number_alone (choose b 17 24))
    go true e = refl
    go false e = refl

-- ── what an owner finds tells every refusal but 24 and 16

abbrev pub finds : Bool → ℕ → List Slave → Bool
finds o a t = eqb (found_of o a t).number 0

module _ (o : Bool) (a : ℕ) (t : List Slave) (size : length t ≡ 32) where
  absent-unfound : is_absent (length t) (index_of o a t) a ≡ not (finds o a t)
  unfolding found_by choose
  absent-unfound = rw (eq-eqb _ _ size) (go (is_absent (length t) (index_of o a t) a))
    where
      go : (absent : Bool) → absent ≡ not (eqb (choose absent 17 0) 0)
      go true = refl
      go false = refl

  -- an address that isn't 0 stands somewhere exactly if it is found
  there-found : a ≢ 0 → ltb (index_of o a t) (length t) ≡ finds o a t
  unfolding is_absent
  there-found some =
      opposite (index_of o a t) (length t) ∙ ap not (nowhere ∙ absent-unfound) ∙ not-not (finds o a t)
    where
      nowhere : leb (length t) (index_of o a t) ≡ is_absent (length t) (index_of o a t) a
      nowhere = rw (ne_eqb a 0 some)

      opposite : (m n : ℕ) → ltb m n ≡ not (leb n m)
      opposite m n = dite (dec_lt m n) (λ l. rw (lt-ltb m n l, lt-leb n m l)) (λ g. rw (le-ltb m n (omega (arith, g)), le-leb n m (omega (arith, g))))

      not-not : (b : Bool) → not (not b) ≡ b
      not-not true = refl
      not-not false = refl

  -- behind 14's line, which refuses the address 0, the test of 15 may ask whether it is found
  found-behind-14 : (number : ℕ) (rest : Bool → ℕ)
      → choose (not_slave a) number (rest (ltb (index_of o a t) (length t))) ≡ choose (not_slave a) number (rest (finds o a t))
  unfolding choose
  found-behind-14 number rest =
      by-test (not_slave a) (λ refused. rw refused)
      (λ slave. ap (λ (there : Bool). choose (not_slave a) number (rest there)) (there-found (slave-nonzero a ((slave-exactly a).0 slave))))

pub enter-by-finds : (s : Slave) (t : List Slave) → length t ≡ 32
    → enter_refusal s t ≡ first ((not_slave s.address, 14) ∷ (too_wide s.product s.device, 18) ∷ (finds s.owner s.address t, 15)
    ∷ (is_full (length t) (occupancy_of s.owner t), 16) ∷ [])
unfolding enter_refusal
enter-by-finds s t size =
    line-over (not (eqb (length t) 32)) 24 _ ((length-exactly (length t)).1 size)
    ∙ found-behind-14 s.owner s.address t size 14
    (λ there. first ((too_wide s.product s.device, 18) ∷ (there, 15) ∷ (is_full (length t) (occupancy_of s.owner t), 16) ∷ []))

pub change-by-finds : (o : Bool) (from to : ℕ) (t : List Slave) → length t ≡ 32
    → change_refusal o from to t ≡ first ((not_slave to, 14) ∷ (not (finds o from t), 17) ∷ (not (eqb to from) && finds o to t, 15) ∷ [])
unfolding change_refusal is_taken
change-by-finds o from to t size =
    line-over (not (eqb (length t) 32)) 24 _ ((length-exactly (length t)).1 size)
    ∙ ap (λ (absent : Bool). first ((not_slave to, 14) ∷ (absent, 17) ∷ (not (eqb to from) && ltb (index_of o to t) (length t), 15) ∷ [])) (absent-unfound o from t size)
    ∙ found-behind-14 o to t size 14 (λ there. first ((not (finds o from t), 17) ∷ (not (eqb to from) && there, 15) ∷ []))
