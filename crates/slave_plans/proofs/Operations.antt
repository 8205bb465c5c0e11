-- What the operations leave and what they change: the requests' sentences about entries, and what finding tells afterwards.
use Rattle.std.proofs.Common.{◌≡◌, ℕ, zero, suc, ◌<◌, ◌≤◌, Bool, true, false, eqb, ◌≢◌, ◌⊎◌, List, [], ◌∷◌, length, get_or, set, replicate, sym, refl, ap, ◌∙◌, subst, inl, inr, true≢false, arith, length-set, get_or-set_other, get_or-set_same}
use native.Mathlib.Decide.{ℕ_discrete, dec_lt}
use mathlib.Core.Logic.{dite}
use lib.ListN.{get_or-eq_default}
use Rattle.basics.specs.Choice.{choose}
use Rattle.basics.proofs.Table.{when-none, when-refused}
use Rattle.slave_plans.specs.Table.{none, empty, is_free, has_address, lowest, index_of}
use Rattle.slave_plans.specs.Answer.{found_of, table_with, entry_of, readdressed, enter_refusal, entered, change_refusal, changed, remove_refusal, removed}
use Rattle.slave_plans.specs.History.{Operation, Enter, Find, Change, Remove, owner_of, number_alone, answer_of, table_after}
use Rattle.slave_plans.specs.declared.Slave.{Slave}
use Rattle.slave_plans.proofs.Addresses.{slave-nonzero}
use Rattle.slave_plans.proofs.Entries.{false-unless, free-exactly, address-exactly, other-address}
use Rattle.slave_plans.proofs.Indices.{Lowest, Nowhere, lowest-here, set_other}
use Rattle.slave_plans.proofs.Refusals.{somewhere-inside, enter-exactly, enter-length, change-exactly, change-length, remove-exactly}
use Rattle.slave_plans.proofs.Finding.{identifiers, find-exactly, find-lowest, find-length, find-missing, find-same, find-zero, remove-refused}

-- the refusal's number or 0
abbrev pub refusal_of : Operation → List Slave → ℕ
refusal_of op t = (answer_of op t).number

-- the index of the entry that an operation names
abbrev pub index_named : Operation → List Slave → ℕ
index_named (Enter s) t = lowest is_free t
index_named (Find o a) t = index_of o a t
index_named (Change o from to) t = index_of o from t
index_named (Remove o a) t = index_of o a t

-- the entry that stands there afterwards
abbrev pub entry_put : Operation → List Slave → Slave
entry_put (Enter s) t = s
entry_put (Find o a) t = entry_of o a t
entry_put (Change o from to) t = readdressed to (entry_of o from t)
entry_put (Remove o a) t = none

set_same : (t : List Slave) (i : ℕ) → set t i (get_or t i none) ≡ t
set_same [] i = refl
set_same (x ∷ t) zero = refl
set_same (x ∷ t) (suc i) = ap (λ (r : List Slave). x ∷ r) (set_same t i)

table_is : (op : Operation) (t : List Slave) → table_after op t ≡ table_with (refusal_of op t) (index_named op t) (entry_put op t) t
unfolding choose
table_is (Enter s) t = refl
table_is (Find o a) t = sym (unchanged (eqb (found_of o a t).number 0))
  where
    unchanged : (accepted : Bool) → choose accepted (set t (index_of o a t) (entry_of o a t)) t ≡ t
    unchanged true = set_same t (index_of o a t)
    unchanged false = refl
table_is (Change o from to) t = refl
table_is (Remove o a) t = refl

-- the entry is in the table
pub named-inside : (op : Operation) (t : List Slave) → refusal_of op t ≡ 0 → index_named op t < length t
named-inside (Enter s) t e = somewhere-inside is_free t ((enter-exactly s t).0 e).free
named-inside (Find o a) t e = somewhere-inside (has_address o a) t ((find-exactly o a t).0 e).there
named-inside (Change o from to) t e = somewhere-inside (has_address o from) t ((change-exactly o from to t).0 e).there
named-inside (Remove o a) t e = somewhere-inside (has_address o a) t ((remove-exactly o a t).0 e).there

-- "Any other length is refused first, as 24"
pub length-first : (op : Operation) (t : List Slave) → length t ≢ 32 → refusal_of op t ≡ 24
length-first (Enter s) t wrong = enter-length s t wrong
length-first (Find o a) t wrong = find-length o a t wrong
length-first (Change o from to) t wrong = change-length o from to t wrong
length-first (Remove o a) t wrong = remove-refused o a t ∙ find-length o a t wrong

module _ (op : Operation) (t : List Slave) where
  abbrev j : ℕ
  j = index_named op t

  abbrev e : Slave
  e = entry_put op t

  -- a refusal changes nothing
  pub refused-stay : refusal_of op t ≢ 0 → table_after op t ≡ t
  refused-stay r = table_is op t ∙ when-refused (refusal_of op t) _ _ r

  pub given : refusal_of op t ≡ 0 → table_after op t ≡ set t j e
  given accepted = table_is op t ∙ when-none (refusal_of op t) _ _ accepted

  -- whatever is answered: P of the table as it was and of the table with the entry put
  pub either : (P : List Slave → Type 0) → P t → (refusal_of op t ≡ 0 → P (set t j e)) → P (table_after op t)
  either P before after =
      dite (ℕ_discrete (refusal_of op t) 0) (λ accepted. subst P (sym (given accepted)) (after accepted)) (λ r. subst P (sym (refused-stay r)) before)

  pub length-stays : length (table_after op t) ≡ length t
  length-stays = either (λ (l : List Slave). length l ≡ length t) refl (λ accepted. length-set t j e)

  -- "Each call leaves all entries alike but the one it names"
  pub others-stay : (k : ℕ) → k ≢ j → get_or (table_after op t) k none ≡ get_or t k none
  others-stay k other = either (λ (l : List Slave). get_or l k none ≡ get_or t k none) refl (λ accepted. get_or-set_other t j k e none other)

  -- and that one is then the slave that was entered, the entry that was found, the entry with its new address, or zeros
  pub named_put : refusal_of op t ≡ 0 → get_or (table_after op t) j none ≡ e
  named_put accepted = ap (λ (l : List Slave). get_or l j none) (given accepted) ∙ get_or-set_same t j e none (named-inside op t accepted)

-- what is known of the entry that was named: it was free, or an owner's with an address
free-named : (s : Slave) (t : List Slave) → enter_refusal s t ≡ 0 → (get_or t (lowest is_free t) none).address ≡ 0
free-named s t accepted = (free-exactly _).0 (lowest-here is_free t (named-inside (Enter s) t accepted)).here

module _ (o : Bool) (a : ℕ) (t : List Slave) where
  abbrev pub Owns : Type 0
  Owns = ((entry_of o a t).owner ≡ o) × ((entry_of o a t).address ≡ a)

  owns : index_of o a t < length t → Owns
  owns inside = (address-exactly (entry_of o a t) o a).0 (lowest-here (has_address o a) t inside).here

  found-named : (found_of o a t).number ≡ 0 → Owns
  found-named accepted = owns (named-inside (Find o a) t accepted)

  pub removed-named : remove_refusal o a t ≡ 0 → Owns
  removed-named accepted = owns (named-inside (Remove o a) t accepted)

pub changed-named : (o : Bool) (from to : ℕ) (t : List Slave) → change_refusal o from to t ≡ 0 → Owns o from t
changed-named o from to t accepted = owns o from t (named-inside (Change o from to) t accepted)

-- ── what is found afterwards

-- an entry that is put where no lower one is its owner's with its address is found
pub put-found : (t : List Slave) (i : ℕ) (e : Slave) → length t ≡ 32 → i < length t → e.address ≢ 0
    → ((k : ℕ) → k < i → has_address e.owner e.address (get_or t k none) ≡ false) → found_of e.owner e.address (set t i e) ≡ identifiers e
put-found t i e size inside some lower =
    let test = has_address e.owner e.address in
    let here = get_or-set_same t i e none inside in
    let lowest-put : Lowest test (set t i e) i =
    record {
      inside = omega (arith, inside, length-set t i e);
      here = ap test here ∙ (address-exactly e e.owner e.address).1 (refl, refl);
      lower = λ k below. ap test (get_or-set_other t i k e none (omega (arith, below))) ∙ lower k below;
    } in
    find-lowest e.owner e.address (set t i e)
    ((find-exactly e.owner e.address (set t i e)).1 (record { size = length-set t i e ∙ size; some = some; there = (i, lowest-put) })) i lowest-put
    ∙ ap identifiers here

-- the address 0 is found in no table
pub zero-found : (o : Bool) (t t' : List Slave) → length t ≡ length t' → found_of o 0 t ≡ found_of o 0 t'
zero-found o t t' same = find-zero o t ∙ ap (λ (n : ℕ). number_alone (choose (eqb n 32) 17 24)) same ∙ sym (find-zero o t')

-- an address that neither the entry that goes nor the one that is put has is found as before
pub put-unfound : (t : List Slave) (i : ℕ) (e : Slave) (o : Bool) (a : ℕ) → i < length t → has_address o a (get_or t i none) ≡ false → has_address o a e ≡ false
    → found_of o a (set t i e) ≡ found_of o a t
put-unfound t i e o a inside old new =
    let elsewhere : index_of o a t ≢ i =
    λ at. true≢false (sym (lowest-here (has_address o a) t (subst (λ (n : ℕ). n < length t) (sym at) inside)).here ∙ ap (λ (n : ℕ). has_address o a (get_or t n none)) at ∙ old) in
    find-same o a t (set t i e) (length-set t i e) (set_other (has_address o a) t i e old new) (get_or-set_other t i (index_of o a t) e none elsewhere)

-- a slave that was entered is found, with its identifiers
pub find-entered : (s : Slave) (t : List Slave) → enter_refusal s t ≡ 0 → found_of s.owner s.address (entered s t) ≡ identifiers s
find-entered s t accepted =
    let m = (enter-exactly s t).0 accepted in
    let inside = named-inside (Enter s) t accepted in
    ap (found_of s.owner s.address) (given (Enter s) t accepted)
    ∙ put-found t (lowest is_free t) s m.size inside (slave-nonzero s.address m.address) (λ k below. m.fresh k (omega (arith, below, inside)))

-- "a changed address keeps its identifiers", and its owner
pub changed-keeps : (o : Bool) (from to : ℕ) (t : List Slave) → change_refusal o from to t ≡ 0 → found_of o to (changed o from to t) ≡ found_of o from t
changed-keeps o from to t accepted =
    let m = (change-exactly o from to t).0 accepted in
    let inside = named-inside (Change o from to) t accepted in
    let lowest-from = lowest-here (has_address o from) t inside in
    let owner = (changed-named o from to t accepted).0 in
    let new = readdressed to (entry_of o from t) in
    let lower : (k : ℕ) → k < index_of o from t → has_address o to (get_or t k none) ≡ false =
    λ k below.
    dite (ℕ_discrete to from)
    (λ same. ap (λ (a : ℕ). has_address o a (get_or t k none)) same ∙ lowest-from.lower k below)
    (λ other. m.fresh other k (omega (arith, below, inside))) in
    ap (found_of o to) (given (Change o from to) t accepted)
    ∙ ap (λ (x : Bool). found_of x to (set t (index_of o from t) new)) (sym owner)
    ∙ put-found t (index_of o from t) new m.size inside (slave-nonzero to m.new) (λ k below. ap (λ (x : Bool). has_address x to (get_or t k none)) owner ∙ lower k below)
    ∙ sym (find-lowest o from t ((find-exactly o from t).1 (record { size = m.size; some = m.some; there = m.there })) (index_of o from t) lowest-from)

-- to the address that it has, it "succeeds and changes nothing"
pub changed-same : (o : Bool) (a : ℕ) (t : List Slave) → change_refusal o a a t ≡ 0 → changed o a a t ≡ t
changed-same o a t accepted =
    let old = entry_of o a t in
    let entry : readdressed a old ≡ old = λ j. record { address = sym (changed-named o a a t accepted).1 j; owner = old.owner; product = old.product; device = old.device } in
    given (Change o a a) t accepted ∙ ap (set t (index_of o a t)) entry ∙ set_same t (index_of o a t)

-- no entry up to the one that is zeroed is the owner's with a removed address any more: if it stood twice, the next one counts from now on
pub removed-gone : (o : Bool) (a : ℕ) (t : List Slave) → remove_refusal o a t ≡ 0 → (k : ℕ) → k ≤ index_of o a t → has_address o a (get_or (removed o a t) k none) ≡ false
removed-gone o a t accepted k up_to_lem =
    dite (ℕ_discrete k (index_of o a t))
    (λ same.
    let zeroed : get_or (removed o a t) k none ≡ none = ap (λ (n : ℕ). get_or (removed o a t) n none) same ∙ named_put (Remove o a) t accepted in
    other-address o a _ (λ at. ((remove-exactly o a t).0 accepted).some (sym at ∙ ap (λ (s : Slave). s.address) zeroed)))
    (λ other.
    ap (has_address o a) (others-stay (Remove o a) t k other)
    ∙ (lowest-here (has_address o a) t (named-inside (Remove o a) t accepted)).lower k (omega (arith, up_to_lem, other)))

-- "removing zeroes the entry", its owner to no
pub removed-zeroed : (o : Bool) (a : ℕ) (t : List Slave) → remove_refusal o a t ≡ 0
    → get_or (removed o a t) (index_of o a t) none ≡ record { address = 0; owner = false; product = 0; device = 0 }
removed-zeroed o a t accepted = named_put (Remove o a) t accepted

-- where it stood twice, that one is found, with its identifiers
pub removed-next : (o : Bool) (a : ℕ) (t : List Slave) → remove_refusal o a t ≡ 0 → (i : ℕ) → Lowest (has_address o a) (removed o a t) i
    → (index_of o a t < i) × (found_of o a (removed o a t) ≡ identifiers (get_or t i none))
removed-next o a t accepted i x =
    let f = (remove-exactly o a t).0 accepted in
    let held = (find-exactly o a (removed o a t)).1 (record { size = length-stays (Remove o a) t ∙ f.size; some = f.some; there = (i, x) }) in
    let behind : i ≤ index_of o a t → ⊥ = λ up_to_lem. true≢false (sym x.here ∙ removed-gone o a t accepted i up_to_lem) in
    let past : index_of o a t < i = omega (arith, behind) in
    (past, find-lowest o a (removed o a t) held i x ∙ ap identifiers (others-stay (Remove o a) t i (λ same. omega (arith, past, same))))

-- ── an owner has an address once

abbrev address_at : List Slave → ℕ → ℕ
address_at t k = (get_or t k none).address

abbrev owner_at : List Slave → ℕ → Bool
owner_at t k = (get_or t k none).owner

-- two entries that aren't free differ in address or owner
abbrev pub Once : List Slave → Type 0
Once t = (i k : ℕ) → address_at t i ≢ 0 → address_at t i ≡ address_at t k → owner_at t i ≡ owner_at t k → i ≡ k

-- so in the empty table
pub once-empty : Once empty
once-empty i k some same own = absurd (some (all-free 32 i))
  where
    all-free : (n i : ℕ) → address_at (replicate n none) i ≡ 0
    all-free zero i = refl
    all-free (suc n) zero = refl
    all-free (suc n) (suc i) = all-free n i

-- in a table with another entry, whose address its owner has nowhere else
module _ (t : List Slave) (j : ℕ) (e : Slave) (inside : j < length t) (once : Once t)
    (alone : (k : ℕ) → k ≢ j → e.address ≢ 0 → address_at t k ≡ e.address → owner_at t k ≡ e.owner → ⊥) where
  abbrev put : List Slave
  put = set t j e

  here : (i : ℕ) → i ≡ j → get_or put i none ≡ e
  here i at = ap (λ (n : ℕ). get_or put n none) at ∙ get_or-set_same t j e none inside

  there : (i : ℕ) → i ≢ j → get_or put i none ≡ get_or t i none
  there i other = get_or-set_other t j i e none other

  address : {x y : Slave} → x ≡ y → x.address ≡ y.address
  address same = ap (λ (s : Slave). s.address) same

  owner : {x y : Slave} → x ≡ y → x.owner ≡ y.owner
  owner same = ap (λ (s : Slave). s.owner) same

  -- the new entry's address stands nowhere else
  clash : (i k : ℕ) → i ≡ j → k ≢ j → address_at put i ≢ 0 → address_at put i ≡ address_at put k → owner_at put i ≡ owner_at put k → ⊥
  clash i k at other some same own =
      alone k other (λ z. some (address (here i at) ∙ z)) (sym (address (there k other)) ∙ sym same ∙ address (here i at)) (sym (owner (there k other)) ∙ sym own ∙ owner (here i at))

  pub put-once : Once put
  put-once i k some same own =
      dite (ℕ_discrete i j)
      (λ i-at. dite (ℕ_discrete k j) (λ k-at. i-at ∙ sym k-at) (λ k-other. absurd (clash i k i-at k-other some same own)))
      (λ i-other. dite (ℕ_discrete k j)
      (λ k-at. absurd (clash k i k-at i-other (λ z. some (same ∙ z)) (sym same) (sym own)))
      (λ k-other.
      once i k (λ z. some (address (there i i-other) ∙ z)) (sym (address (there i i-other)) ∙ same ∙ address (there k k-other))
      (sym (owner (there i i-other)) ∙ own ∙ owner (there k k-other))))

-- an owner's address that no entry inside has, no entry at all has, unless it is 0
pub nowhere-at : (o : Bool) (a : ℕ) (t : List Slave) → Nowhere (has_address o a) t → a ≢ 0 → (k : ℕ) → address_at t k ≡ a → owner_at t k ≡ o → ⊥
nowhere-at o a t nowhere some k at own =
    dite (dec_lt k (length t))
    (λ inside. true≢false (sym ((address-exactly (get_or t k none) o a).1 (own, at)) ∙ nowhere k inside))
    (λ past. some (sym at ∙ ap (λ (s : Slave). s.address) (get_or-eq_default t none (omega (arith, past)))))

put_alone : (op : Operation) (t : List Slave) → Once t → refusal_of op t ≡ 0 → (k : ℕ) → k ≢ index_named op t → (entry_put op t).address ≢ 0
    → address_at t k ≡ (entry_put op t).address → owner_at t k ≡ (entry_put op t).owner → ⊥
put_alone (Enter s) t once accepted k other some at own = nowhere-at s.owner s.address t ((enter-exactly s t).0 accepted).fresh some k at own
put_alone (Find o a) t once accepted k other some at own = other (once k (index_of o a t) (λ z. some (sym at ∙ z)) at own)
put_alone (Change o from to) t once accepted k other some at own =
    let named = changed-named o from to t accepted in
    dite (ℕ_discrete to from)
    (λ same. other (once k (index_of o from t) (λ z. some (sym at ∙ z)) (at ∙ same ∙ sym named.1) own))
    (λ new. nowhere-at o to t (((change-exactly o from to t).0 accepted).fresh new) some k at (own ∙ named.0))
put_alone (Remove o a) t once accepted k other some at own = some refl

-- and so after every operation
pub once-kept : (op : Operation) (t : List Slave) → Once t → Once (table_after op t)
once-kept op t once =
    either op t Once once (λ accepted. put-once t (index_named op t) (entry_put op t) (named-inside op t accepted) once (put_alone op t once accepted))

-- an owner's address that stands nowhere but at the index that an operation names is found no more, if the entry there has another one then
gone : (op : Operation) (t : List Slave) (o : Bool) (a : ℕ) → Once t → refusal_of op t ≡ 0 → length t ≡ 32 → a ≢ 0
    → (owner_at t (index_named op t) ≡ o) × (address_at t (index_named op t) ≡ a) → (entry_put op t).address ≢ a → (found_of o a (table_after op t)).number ≡ 17
gone op t o a once accepted size some (own, was) new =
    find-missing o a (table_after op t) (length-stays op t ∙ size)
    (λ k inside. false-unless _ (λ y.
    dite (ℕ_discrete k (index_named op t))
    (λ same. new (sym (ap (λ (s : Slave). s.address) (ap (λ (n : ℕ). get_or (table_after op t) n none) same ∙ named_put op t accepted)) ∙ ((address-exactly _ o a).0 y).1))
    (λ other.
    let before = (address-exactly (get_or t k none) o a).0 (sym (ap (has_address o a) (others-stay op t k other)) ∙ y) in
    other (once k (index_named op t) (λ z. some (sym before.1 ∙ z)) (before.1 ∙ sym was) (before.0 ∙ sym own)))))

-- so an address that was changed is found no more
pub changed-once : (o : Bool) (from to : ℕ) (t : List Slave) → Once t → change_refusal o from to t ≡ 0 → to ≢ from → (found_of o from (changed o from to t)).number ≡ 17
changed-once o from to t once accepted other =
    let m = (change-exactly o from to t).0 accepted in
    gone (Change o from to) t o from once accepted m.size m.some (changed-named o from to t accepted) other

-- nor one that was removed
pub removed-once : (o : Bool) (a : ℕ) (t : List Slave) → Once t → remove_refusal o a t ≡ 0 → (found_of o a (removed o a t)).number ≡ 17
removed-once o a t once accepted =
    let f = (remove-exactly o a t).0 accepted in
    gone (Remove o a) t o a once accepted f.size f.some (removed-named o a t accepted) (λ z. f.some (sym z))

-- ── what finding tells of every other address, and of the other owner's

-- the owner's addresses that an operation is about
abbrev pub Concerns : Operation → Bool → ℕ → Type 0
Concerns (Enter s) o a = (o ≡ s.owner) × (a ≡ s.address)
Concerns (Find o' a') o a = (o ≡ o') × (a ≡ a')
Concerns (Change o' from to) o a = (o ≡ o') × ((a ≡ from) ⊎ (a ≡ to))
Concerns (Remove o' a') o a = (o ≡ o') × (a ≡ a')

-- an entry with one owner's address has no other
differs : (o : Bool) (a : ℕ) (e : Slave) {o' : Bool} {b : ℕ} → (e.owner ≡ o') × (e.address ≡ b) → ((o ≡ o') × (a ≡ b) → ⊥) → has_address o a e ≡ false
differs o a e (own, at) other = false-unless _ (λ y. let named = (address-exactly e o a).0 y in other (sym named.0 ∙ own, sym named.1 ∙ at))

-- neither the entry that goes nor the one that is put in its place has one of the others
unconcerned : (op : Operation) (t : List Slave) (o : Bool) (a : ℕ) → a ≢ 0 → (Concerns op o a → ⊥) → refusal_of op t ≡ 0
    → (has_address o a (get_or t (index_named op t) none) ≡ false) × (has_address o a (entry_put op t) ≡ false)
unconcerned (Enter s) t o a some other accepted = (
  other-address o a _ (λ at. some (sym at ∙ free-named s t accepted)),
  false-unless _ (λ y. let named = (address-exactly s o a).0 y in other (sym named.0, sym named.1)),
)
unconcerned (Find o' b) t o a some other accepted = let unnamed = differs o a (entry_of o' b t) (found-named o' b t accepted) other in (unnamed, unnamed)
unconcerned (Change o' from to) t o a some other accepted =
    let was = changed-named o' from to t accepted in (
      differs o a (entry_of o' from t) was (λ (own, at). other (own, inl at)),
      differs o a (readdressed to (entry_of o' from t)) (was.0, refl) (λ (own, at). other (own, inr at)),
    )
unconcerned (Remove o' b) t o a some other accepted = (differs o a (entry_of o' b t) (removed-named o' b t accepted) other, other-address o a none (λ at. some (sym at)))

-- is what it was
pub others-found : (op : Operation) (t : List Slave) (o : Bool) (a : ℕ) → (Concerns op o a → ⊥) → found_of o a (table_after op t) ≡ found_of o a t
others-found op t o a other =
    dite (ℕ_discrete a 0)
    (λ zero_is. subst (λ (n : ℕ). found_of o n (table_after op t) ≡ found_of o n t) (sym zero_is) (zero-found o (table_after op t) t (length-stays op t)))
    (λ some. either op t (λ (l : List Slave). found_of o a l ≡ found_of o a t) refl
    (λ accepted.
    let (old, new) = unconcerned op t o a some other accepted in
    put-unfound t (index_named op t) (entry_put op t) o a (named-inside op t accepted) old new))

-- whatever the other owner does
pub neighbour-found : (op : Operation) (t : List Slave) (o : Bool) (a : ℕ) → owner_of op ≢ o → found_of o a (table_after op t) ≡ found_of o a t
neighbour-found op t o a other = others-found op t o a (λ concerned. other (sym (own op concerned)))
  where
    own : (op : Operation) → Concerns op o a → o ≡ owner_of op
    own (Enter s) (is, at) = is
    own (Find o' b) (is, at) = is
    own (Change o' from to) (is, at) = is
    own (Remove o' b) (is, at) = is
