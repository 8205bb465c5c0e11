-- Laws of what is asked of an entry: whether it is free, an owner's, or an owner's with an address.
use Rattle.std.proofs.Common.{◌≡◌, ℕ, Bool, true, false, not, eqb, ◌≢◌, ◌↔◌, refl, true≢false, eq-eqb, ne_eqb, eqb-true}
use mathlib.Core.Bool.{beq, false≢true, not-eq-not, and-eq-true_iff}
use borrow.Author.Tests.{eqb-false, not-true}
use Rattle.slave_plans.specs.Table.{is_free, belongs_to, has_address}
use Rattle.slave_plans.specs.declared.Slave.{Slave}

-- what holds whether a test is true or false
pub by-test : {P : Type 0} (test : Bool) → (test ≡ true → P) → (test ≡ false → P) → P
by-test true when_true when_false = when_true refl
by-test false when_true when_false = when_false refl

-- a test that can't be true, or can't be false
pub false-unless : (test : Bool) → (test ≡ true → ⊥) → test ≡ false
false-unless test never = not-eq-not.0 never

pub true-unless : (test : Bool) → (test ≡ false → ⊥) → test ≡ true
true-unless test never = not-eq-not.0 never

pub same-exactly : (a b : Bool) → (beq a b ≡ true) ↔ (a ≡ b)
same-exactly true true = (λ e. refl, λ e. refl)
same-exactly true false = (λ e. absurd (false≢true e), λ e. absurd (true≢false e))
same-exactly false true = (λ e. absurd (false≢true e), λ e. absurd (false≢true e))
same-exactly false false = (λ e. refl, λ e. refl)

module _ (e : Slave) where
  pub free-exactly : (is_free e ≡ true) ↔ (e.address ≡ 0)
  unfolding is_free
  free-exactly = (λ t. eqb-true _ _ t, λ z. eq-eqb _ _ z)

  module _ (owner : Bool) where
    -- an owner holds the entries that aren't free and show it
    pub belongs-exactly : (belongs_to owner e ≡ true) ↔ ((e.address ≢ 0) × (e.owner ≡ owner))
    unfolding belongs_to is_free
    belongs-exactly = (
      λ t.
          let both = (and-eq-true_iff (not (eqb e.address 0)) (beq e.owner owner)).0 t in
          (eqb-false _ _ (not-true _ both.0), (same-exactly e.owner owner).0 both.1),
      λ (some, own). rw (ne_eqb _ _ some, (same-exactly e.owner owner).1 own),
    )

    -- and one of them has an address
    pub address-exactly : (a : ℕ) → (has_address owner a e ≡ true) ↔ ((e.owner ≡ owner) × (e.address ≡ a))
    unfolding has_address
    address-exactly a = (
      λ t.
          let both = (and-eq-true_iff (beq e.owner owner) (eqb e.address a)).0 t in
          ((same-exactly e.owner owner).0 both.0, eqb-true _ _ both.1),
      λ (own, at). rw ((same-exactly e.owner owner).1 own, eq-eqb _ _ at),
    )

-- an entry with another address
pub other-address : (owner : Bool) (a : ℕ) (e : Slave) → e.address ≢ a → has_address owner a e ≡ false
other-address owner a e other = false-unless _ (λ t. other ((address-exactly e owner a).0 t).1)
