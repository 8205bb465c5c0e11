-- When each operation is refused, and when it isn't: in terms of the table's entries.
use Rattle.std.proofs.Common.{◌≡◌, ℕ, ◌^◌, ◌<◌, ◌≤◌, Bool, true, false, not, eqb, ltb, leb, ◌≢◌, ◌⊎◌, ◌↔◌, List, [], ◌∷◌, length, sym, refl, ◌∙◌, subst, inl, inr, true≢false, arith, ltb-false, le-ltb, lt-ltb, eq-eqb, ne_eqb, eqb-true, le-leb, leb-false, leb-true}
use native.Mathlib.Decide.{ℕ_discrete, dec_lt}
use mathlib.Core.Logic.{dite}
use borrow.Author.Tests.{eqb-false, not-false, lt-leb}
use Rattle.basics.specs.Choice.{choose, first}
use Rattle.basics.proofs.Choice.{neither}
use Rattle.basics.proofs.Table.{line-passed}
use Rattle.slave_id.specs.SlaveId.{too_wide}
use Rattle.slave_id.proofs.Writing.{wide-exactly}
use Rattle.slave_plans.specs.Table.{is_free, belongs_to, has_address, lowest, count, index_of, occupancy_of}
use Rattle.slave_plans.specs.Answer.{not_slave, is_absent, most_held, is_full, is_taken, enter_lines, find_lines, enter_refusal, change_refusal, remove_refusal}
use Rattle.slave_plans.specs.declared.Slave.{Slave}
use Rattle.slave_plans.specs.declared.Occupancy.{Occupancy}
use Rattle.slave_plans.proofs.Addresses.{SlaveAddress, slave-exactly, no-slave}
use Rattle.slave_plans.proofs.Entries.{true-unless}
use Rattle.slave_plans.proofs.Indices.{Lowest, Nowhere, lowest-here, lowest-is, lowest-none, lowest-nowhere}

-- some entry passes a test, and the lowest of them counts
abbrev pub Somewhere : (Slave → Bool) → List Slave → Type 0
Somewhere test t = (i : ℕ) × Lowest test t i

-- an owner's address that finding doesn't refuse
pub record Findable (o : Bool) (a : ℕ) (t : List Slave) : Type 0 where
  pub size : length t ≡ 32
  pub some : a ≢ 0
  pub there : Somewhere (has_address o a) t

module _ (test : Slave → Bool) (t : List Slave) where
  somewhere-below : lowest test t < length t → Somewhere test t
  somewhere-below l = (lowest test t, lowest-here test t l)

  pub somewhere-inside : Somewhere test t → lowest test t < length t
  somewhere-inside (i, x) = subst (λ (n : ℕ). n < length t) (sym (lowest-is test t i x)) x.inside

  nowhere-beyond : Nowhere test t → length t ≤ lowest test t
  nowhere-beyond n = omega (arith, lowest-none test t n)

absent-exactly : (o : Bool) (a : ℕ) (t : List Slave) → (is_absent (length t) (index_of o a t) a ≡ false) ↔ ((a ≢ 0) × Somewhere (has_address o a) t)
unfolding is_absent
absent-exactly o a t = (
  λ e. let both = neither (eqb a 0) _ e in (eqb-false _ _ both.0, somewhere-below (has_address o a) t (leb-false _ _ both.1)),
  λ (some, held). rw (ne_eqb _ _ some, lt-leb _ _ (somewhere-inside (has_address o a) t held)),
)

-- a change to the address that the slave has is never refused as 15
module _ (size other from to : ℕ) where
  pub taken-same : to ≡ from → false ≡ is_taken size other from to
  unfolding is_taken
  taken-same e = rw (eq-eqb to from e)

  pub taken-other : to ≢ from → ltb other size ≡ is_taken size other from to
  unfolding is_taken
  taken-other n = rw (ne_eqb to from n)

taken-exactly : (o : Bool) (from to : ℕ) (t : List Slave) → (is_taken (length t) (index_of o to t) from to ≡ false) ↔ (to ≢ from → Nowhere (has_address o to) t)
taken-exactly o from to t = (
  λ e new. lowest-nowhere (has_address o to) t (ltb-false _ _ (taken-other (length t) (index_of o to t) from to new ∙ e)),
  λ fresh.
      dite (ℕ_discrete to from)
      (λ same. sym (taken-same (length t) (index_of o to t) from to same))
      (λ new. sym (taken-other (length t) (index_of o to t) from to new) ∙ le-ltb _ _ (nowhere-beyond (has_address o to) t (fresh new))),
)

-- 16's test, of any occupancy
module _ (size : ℕ) (occupancy : Occupancy) where
  pub full-held : most_held ≤ occupancy.held → is_full size occupancy ≡ true
  unfolding is_full
  full-held many = rw (le-leb most_held occupancy.held many)

  pub full-free : occupancy.held < most_held → is_full size occupancy ≡ leb size occupancy.free
  unfolding is_full
  full-free few = rw (lt-leb most_held occupancy.held few)

pub full-either : (size : ℕ) (occupancy : Occupancy) → (is_full size occupancy ≡ true) ↔ ((24 ≤ occupancy.held) ⊎ (size ≤ occupancy.free))
full-either size occupancy = (
  λ e. dite (dec_lt occupancy.held 24) (λ few. inr (leb-true _ _ (sym (full-free size occupancy few) ∙ e))) (λ many. inl (omega (arith, many))),
  λ full. go full,
)
  where
    go : (24 ≤ occupancy.held) ⊎ (size ≤ occupancy.free) → is_full size occupancy ≡ true
    go (inl many) = full-held size occupancy many
    go (inr none) =
        dite (dec_lt occupancy.held 24) (λ few. full-free size occupancy few ∙ le-leb _ _ none) (λ many. full-held size occupancy (omega (arith, many)))

module _ (o : Bool) (t : List Slave) where
  abbrev occupancy : Occupancy
  occupancy = occupancy_of o t

  abbrev Full : Type 0
  Full = (24 ≤ count (belongs_to o) t) ⊎ Nowhere is_free t

  full-exactly : (is_full (length t) occupancy ≡ true) ↔ Full
  full-exactly = (λ e. seen ((full-either (length t) occupancy).0 e), λ full. (full-either (length t) occupancy).1 (said full))
    where
      seen : (24 ≤ occupancy.held) ⊎ (length t ≤ occupancy.free) → Full
      seen (inl many) = inl many
      seen (inr none) = inr (lowest-nowhere is_free t none)

      said : Full → (24 ≤ occupancy.held) ⊎ (length t ≤ occupancy.free)
      said (inl many) = inl many
      said (inr none) = inr (nowhere-beyond is_free t none)

  roomy-exactly : (is_full (length t) occupancy ≡ false) ↔ ((count (belongs_to o) t < 24) × Somewhere is_free t)
  roomy-exactly = (
    λ e.
        let few : count (belongs_to o) t < 24 = dite (dec_lt occupancy.held 24) (λ few. few) (λ many. absurd (true≢false (sym (full-held (length t) occupancy (omega (arith, many))) ∙ e))) in
        (few, somewhere-below is_free t (leb-false _ _ (sym (full-free (length t) occupancy few) ∙ e))),
    λ (few, free). full-free (length t) occupancy few ∙ lt-leb _ _ (somewhere-inside is_free t free),
  )

pub length-exactly : (n : ℕ) → (not (eqb n 32) ≡ false) ↔ (n ≡ 32)
length-exactly n = (λ e. eqb-true _ _ (not-false _ e), λ e. rw (eq-eqb _ _ e))

-- a test whose being false is what something else is, is true where that isn't
true-if : {A : Type 0} (test : Bool) → ((test ≡ false) ↔ A) → (A → ⊥) → test ≡ true
true-if test exactly never = true-unless test (λ e. never (exactly.0 e))

is_wide : (p d : ℕ) → ((p < 2 ^ 24) × (d < 2 ^ 24) → ⊥) → too_wide p d ≡ true
is_wide p d = true-if (too_wide p d) (wide-exactly p d)

is-absent : (o : Bool) (a : ℕ) (t : List Slave) → ((a ≢ 0) × Somewhere (has_address o a) t → ⊥) → is_absent (length t) (index_of o a t) a ≡ true
is-absent o a t = true-if (is_absent (length t) (index_of o a t) a) (absent-exactly o a t)

-- ── finding and removing

module _ (o : Bool) (a : ℕ) (t : List Slave) where
  pub findable-exactly : (first (find_lines (length t) (index_of o a t) a) ≡ 0) ↔ Findable o a t
  unfolding choose
  findable-exactly = (
    λ e.
        let size = line-passed (not (eqb (length t) 32)) 24 _ (omega arith) e in
        let there = line-passed (is_absent (length t) (index_of o a t) a) 17 0 (omega arith) size.1 in
        let held = (absent-exactly o a t).0 there.0 in
        record { size = (length-exactly (length t)).0 size.0; some = held.0; there = held.1 },
    λ f. rw (eq-eqb _ _ f.size, (absent-exactly o a t).1 (f.some, f.there)),
  )

  pub remove-exactly : (remove_refusal o a t ≡ 0) ↔ Findable o a t
  unfolding remove_refusal
  remove-exactly = findable-exactly

-- ── entering

-- where it isn't refused no line applies, by any occupancy
pub enter-lines : (size at : ℕ) (occupancy : Occupancy) (s : Slave) → first (enter_lines size at occupancy s) ≡ 0
    → (size ≡ 32) × (not_slave s.address ≡ false) × (too_wide s.product s.device ≡ false) × (size ≤ at) × (is_full size occupancy ≡ false)
unfolding choose
enter-lines size at occupancy s e =
    let right = line-passed (not (eqb size 32)) 24 _ (omega arith) e in
    let address = line-passed (not_slave s.address) 14 _ (omega arith) right.1 in
    let narrow = line-passed (too_wide s.product s.device) 18 _ (omega arith) address.1 in
    let fresh = line-passed (ltb at size) 15 _ (omega arith) narrow.1 in
    let roomy = line-passed (is_full size occupancy) 16 0 (omega arith) fresh.1 in
    ((length-exactly size).0 right.0, address.0, narrow.0, ltb-false _ _ fresh.0, roomy.0)

-- so the table has 32 entries, the owner holds few enough, and one is free
pub enter-room : (size at : ℕ) (occupancy : Occupancy) (s : Slave) → first (enter_lines size at occupancy s) ≡ 0
    → (size ≡ 32) × (occupancy.held < 24) × (occupancy.free < size)
unfolding is_full
enter-room size at occupancy s e =
    let (right, address, narrow, fresh, roomy) = enter-lines size at occupancy s e in
    let both = neither (leb 24 occupancy.held) _ roomy in
    (right, leb-false _ _ both.0, leb-false _ _ both.1)

pub record MayEnter (s : Slave) (t : List Slave) : Type 0 where
  pub size : length t ≡ 32
  pub address : SlaveAddress s.address
  pub product : s.product < 2 ^ 24
  pub device : s.device < 2 ^ 24
  pub fresh : Nowhere (has_address s.owner s.address) t
  pub few : count (belongs_to s.owner) t < 24
  pub free : Somewhere is_free t

pub enter-exactly : (s : Slave) (t : List Slave) → (enter_refusal s t ≡ 0) ↔ MayEnter s t
unfolding enter_refusal choose
enter-exactly s t = (
  λ e.
      let (size, address, narrow, fresh, roomy) = enter-lines (length t) (index_of s.owner s.address t) (occupancy_of s.owner t) s e in
      let bounds = (wide-exactly s.product s.device).0 narrow in
      let room = (roomy-exactly s.owner t).0 roomy in
      record {
        size = size;
        address = (slave-exactly s.address).0 address;
        product = bounds.0;
        device = bounds.1;
        fresh = lowest-nowhere (has_address s.owner s.address) t fresh;
        few = room.0;
        free = room.1;
      },
  λ m.
      rw (
        eq-eqb _ _ m.size,
        (slave-exactly s.address).1 m.address,
        (wide-exactly s.product s.device).1 (m.product, m.device),
        le-ltb _ _ (nowhere-beyond (has_address s.owner s.address) t m.fresh),
        (roomy-exactly s.owner t).1 (m.few, m.free),
      ),
)

-- and which refusal comes where it isn't
module _ (s : Slave) (t : List Slave) where
  abbrev named : Slave → Bool
  named = has_address s.owner s.address

  abbrev at : ℕ
  at = index_of s.owner s.address t

  pub enter-length : length t ≢ 32 → enter_refusal s t ≡ 24
  unfolding enter_refusal choose
  enter-length wrong = rw (ne_eqb _ _ wrong)

  module _ (size : length t ≡ 32) where
    pub enter-address : (SlaveAddress s.address → ⊥) → enter_refusal s t ≡ 14
    unfolding enter_refusal choose
    enter-address never = rw (eq-eqb _ _ size, no-slave s.address never)

    module _ (address : SlaveAddress s.address) where
      slave : not_slave s.address ≡ false
      slave = (slave-exactly s.address).1 address

      pub enter-wide : ((s.product < 2 ^ 24) × (s.device < 2 ^ 24) → ⊥) → enter_refusal s t ≡ 18
      unfolding enter_refusal choose
      enter-wide wide = rw (eq-eqb _ _ size, slave, is_wide s.product s.device wide)

      module _ (product : s.product < 2 ^ 24) (device : s.device < 2 ^ 24) where
        narrow : too_wide s.product s.device ≡ false
        narrow = (wide-exactly s.product s.device).1 (product, device)

        pub enter-taken : Somewhere named t → enter_refusal s t ≡ 15
        unfolding enter_refusal choose
        enter-taken held = rw (eq-eqb _ _ size, slave, narrow, lt-ltb _ _ (somewhere-inside named t held))

-- 16 comes where no line before it applies and the occupancy, whichever it is, says so
pub full-lines : (size at : ℕ) (occupancy : Occupancy) (s : Slave)
    → (first (enter_lines size at occupancy s) ≡ 16)
    ↔ ((size ≡ 32) × (not_slave s.address ≡ false) × (too_wide s.product s.device ≡ false) × (size ≤ at) × (is_full size occupancy ≡ true))
unfolding choose
full-lines size at occupancy s = (
  λ e.
      let (right, address, narrow, fresh, full) = last-applies (not (eqb size 32)) (not_slave s.address) (too_wide s.product s.device) (ltb at size) (is_full size occupancy) e in
      ((length-exactly size).0 right, address, narrow, ltb-false at size fresh, full),
  λ (right, address, narrow, fresh, full). rw (eq-eqb _ _ right, address, narrow, le-ltb at size fresh, full),
)
  where
    last-applies : (a b c d full : Bool) → first ((a, 24) ∷ (b, 14) ∷ (c, 18) ∷ (d, 15) ∷ (full, 16) ∷ []) ≡ 16
        → (a ≡ false) × (b ≡ false) × (c ≡ false) × (d ≡ false) × (full ≡ true)
    last-applies true b c d full e = absurd (omega (arith, e))
    last-applies false true c d full e = absurd (omega (arith, e))
    last-applies false false true d full e = absurd (omega (arith, e))
    last-applies false false false true full e = absurd (omega (arith, e))
    last-applies false false false false true e = (refl, refl, refl, refl, refl)
    last-applies false false false false false e = absurd (omega (arith, e))

-- so by counting "exactly when it holds 24 or more, or no entry is free"
pub record RefusedFull (s : Slave) (t : List Slave) : Type 0 where
  pub size : length t ≡ 32
  pub address : SlaveAddress s.address
  pub product : s.product < 2 ^ 24
  pub device : s.device < 2 ^ 24
  pub fresh : Nowhere (has_address s.owner s.address) t
  pub full : (24 ≤ count (belongs_to s.owner) t) ⊎ Nowhere is_free t

pub enter-full : (s : Slave) (t : List Slave) → (enter_refusal s t ≡ 16) ↔ RefusedFull s t
unfolding enter_refusal
enter-full s t = (
  λ e.
      let (size, address, narrow, fresh, full) = (full-lines (length t) (at s t) (occupancy_of s.owner t) s).0 e in
      let bounds = (wide-exactly s.product s.device).0 narrow in
      record {
        size = size;
        address = (slave-exactly s.address).0 address;
        product = bounds.0;
        device = bounds.1;
        fresh = lowest-nowhere (named s t) t fresh;
        full = (full-exactly s.owner t).0 full;
      },
  λ r.
      (full-lines (length t) (at s t) (occupancy_of s.owner t) s).1 (
        r.size,
        (slave-exactly s.address).1 r.address,
        (wide-exactly s.product s.device).1 (r.product, r.device),
        nowhere-beyond (named s t) t r.fresh,
        (full-exactly s.owner t).1 r.full,
      ),
)

-- ── changing an address

pub record MayChange (o : Bool) (from to : ℕ) (t : List Slave) : Type 0 where
  pub size : length t ≡ 32
  pub new : SlaveAddress to
  pub some : from ≢ 0
  pub there : Somewhere (has_address o from) t
  pub fresh : to ≢ from → Nowhere (has_address o to) t

module _ (o : Bool) (from to : ℕ) (t : List Slave) where
  abbrev old : ℕ
  old = index_of o from t

  abbrev new : ℕ
  new = index_of o to t

  pub change-exactly : (change_refusal o from to t ≡ 0) ↔ MayChange o from to t
  unfolding change_refusal choose
  change-exactly = (
    λ e.
        let size = line-passed (not (eqb (length t) 32)) 24 _ (omega arith) e in
        let slave = line-passed (not_slave to) 14 _ (omega arith) size.1 in
        let there = line-passed (is_absent (length t) old from) 17 _ (omega arith) slave.1 in
        let fresh = line-passed (is_taken (length t) new from to) 15 0 (omega arith) there.1 in
        record {
          size = (length-exactly (length t)).0 size.0;
          new = (slave-exactly to).0 slave.0;
          some = ((absent-exactly o from t).0 there.0).0;
          there = ((absent-exactly o from t).0 there.0).1;
          fresh = (taken-exactly o from to t).0 fresh.0;
        },
    λ m.
        rw (
          eq-eqb _ _ m.size,
          (slave-exactly to).1 m.new,
          (absent-exactly o from t).1 (m.some, m.there),
          (taken-exactly o from to t).1 m.fresh,
        ),
  )

  -- and which refusal comes where it isn't
  pub change-length : length t ≢ 32 → change_refusal o from to t ≡ 24
  unfolding change_refusal choose
  change-length wrong = rw (ne_eqb _ _ wrong)

  module _ (size : length t ≡ 32) where
    pub change-new : (SlaveAddress to → ⊥) → change_refusal o from to t ≡ 14
    unfolding change_refusal choose
    change-new never = rw (eq-eqb _ _ size, no-slave to never)

    module _ (address : SlaveAddress to) where
      slave-to : not_slave to ≡ false
      slave-to = (slave-exactly to).1 address

      pub change-old : ((from ≢ 0) × Somewhere (has_address o from) t → ⊥) → change_refusal o from to t ≡ 17
      unfolding change_refusal choose
      change-old absent = rw (eq-eqb _ _ size, slave-to, is-absent o from t absent)

      pub change-taken : from ≢ 0 → Somewhere (has_address o from) t → to ≢ from → Somewhere (has_address o to) t → change_refusal o from to t ≡ 15
      unfolding change_refusal choose
      change-taken some at_old differs at_new =
          rw (
            eq-eqb _ _ size,
            slave-to,
            (absent-exactly o from t).1 (some, at_old),
            ← taken-other (length t) new from to differs,
            lt-ltb new (length t) (somewhere-inside (has_address o to) t at_new),
          )
