-- Laws of a slave's address: refusal 14 field by field.
use Rattle.std.proofs.Common.{◌≡◌, ℕ, ◌+◌, ◌*◌, ◌/◌, ◌%◌, ◌^◌, ◌<◌, true, false, not, ◌||◌, eqb, ◌≢◌, ◌↔◌, sym, ap, ◌∙◌, mod-eq_of_lt, arith, eq-eqb, ne_eqb, eqb-true}
use native.Mathlib.Nat.{mul-add-mod_self_right}
use lib.Arith.{digits_mod}
use mathlib.Core.Bool.{not-eq-not}
use borrow.Author.Tests.{eqb-false, not-false}
use Rattle.basics.specs.Words.{has_bit}
use Rattle.basics.proofs.Choice.{neither}
use Rattle.slave_plans.specs.Answer.{not_slave}

-- an address that 14 doesn't refuse: bits 14 to 12 are 2, bits 7 and 15 are clear, and bits 4 to 11 aren't all zero
pub record SlaveAddress (a : ℕ) : Type 0 where
  pub class : a / 2 ^ 12 % 2 ^ 3 ≡ 2
  pub bit-7 : a / 2 ^ 7 % 2 ≢ 1
  pub bit-15 : a / 2 ^ 15 % 2 ≢ 1
  pub number : a / 2 ^ 4 % 2 ^ 8 ≢ 0

pub slave-exactly : (a : ℕ) → (not_slave a ≡ false) ↔ SlaveAddress a
unfolding not_slave
slave-exactly a = (
  λ e.
      let class = neither (not (eqb (a / 2 ^ 12 % 2 ^ 3) 2)) _ e in
      let rest = neither (has_bit 7 a || has_bit 15 a) _ class.1 in
      let bits = neither (has_bit 7 a) (has_bit 15 a) rest.0 in
      record {
        class = eqb-true (a / 2 ^ 12 % 2 ^ 3) 2 (not-false _ class.0);
        bit-7 = eqb-false (a / 2 ^ 7 % 2) 1 bits.0;
        bit-15 = eqb-false (a / 2 ^ 15 % 2) 1 bits.1;
        number = eqb-false (a / 2 ^ 4 % 2 ^ 8) 0 rest.1;
      },
  λ s. rw (eq-eqb _ _ s.class, ne_eqb _ _ s.bit-7, ne_eqb _ _ s.bit-15, ne_eqb _ _ s.number),
)

pub no-slave : (a : ℕ) → (SlaveAddress a → ⊥) → not_slave a ≡ true
no-slave a never = not-eq-not.0 (λ e. never ((slave-exactly a).0 e))

-- 0, the free entries' address, is none
pub slave-nonzero : (a : ℕ) → SlaveAddress a → a ≢ 0
slave-nonzero a s zero_is = s.number (ap (λ (n : ℕ). n / 2 ^ 4 % 2 ^ 8) zero_is)

-- an address made of its fields: bits 0 to 3, which may be anything, bits 4 to 11, bits 12 to 14 and bit 15
pub slave-fields : (low number class top : ℕ) → low < 2 ^ 4 → number < 2 ^ 8 → class < 2 ^ 3 → top < 2
    → SlaveAddress (low + 2 ^ 4 * number + 2 ^ 12 * class + 2 ^ 15 * top) ↔ ((class ≡ 2) × (number / 2 ^ 3 % 2 ≢ 1) × (top ≢ 1) × (number ≢ 0))
slave-fields low number class top l n c t =
    let a = low + 2 ^ 4 * number + 2 ^ 12 * class + 2 ^ 15 * top in
    let from-12 : a / 2 ^ 12 ≡ top * 2 ^ 3 + class = omega (arith, l, n, c, t) in
    let from-7 : a / 2 ^ 7 ≡ (2 ^ 4 * class + 2 ^ 7 * top) * 2 + number / 2 ^ 3 = omega (arith, l, n, c, t) in
    let from-15 : a / 2 ^ 15 ≡ top = omega (arith, l, n, c, t) in
    let from-4 : a / 2 ^ 4 ≡ (class + 2 ^ 3 * top) * 2 ^ 8 + number = omega (arith, l, n, c, t) in
    let class-is : a / 2 ^ 12 % 2 ^ 3 ≡ class = ap (λ (x : ℕ). x % 2 ^ 3) from-12 ∙ digits_mod top c in
    let bit-7-is : a / 2 ^ 7 % 2 ≡ number / 2 ^ 3 % 2 = ap (λ (x : ℕ). x % 2) from-7 ∙ mul-add-mod_self_right (2 ^ 4 * class + 2 ^ 7 * top) 2 (number / 2 ^ 3) in
    let bit-15-is : a / 2 ^ 15 % 2 ≡ top = ap (λ (x : ℕ). x % 2) from-15 ∙ mod-eq_of_lt t in
    let number_is : a / 2 ^ 4 % 2 ^ 8 ≡ number = ap (λ (x : ℕ). x % 2 ^ 8) from-4 ∙ digits_mod (class + 2 ^ 3 * top) n in (
      λ s. (sym class-is ∙ s.class, λ e. s.bit-7 (bit-7-is ∙ e), λ e. s.bit-15 (bit-15-is ∙ e), λ e. s.number (number_is ∙ e)),
      λ (class-2, clear-7, clear-15, some).
          record { class = class-is ∙ class-2; bit-7 = λ e. clear-7 (sym bit-7-is ∙ e); bit-15 = λ e. clear-15 (sym bit-15-is ∙ e); number = λ e. some (sym number_is ∙ e) },
    )
