-- Laws of the answers that are given by a table's lines.
use Prim.Native.Nat.{ℕ, ◌+◌, ◌<◌, ◌≤◌}
use native.Mathlib.Omega.{arith}
use native.Mathlib.Decide.{ℕ_discrete}
use mathlib.Core.Path.{◌≡◌, refl, sym, ap, ◌∙◌}
use mathlib.Core.Logic.{◌≢◌, ◌↔◌, dite}
use mathlib.Core.Bool.{Bool, true, false, true≢false}
use mathlib.Core.List.{List, [], ◌∷◌, ◌++◌}
use lib.Dec.{leb}
use lib.ListN.{length, take, drop}
use borrow.Author.Tests.{leb-true, leb-false, le-leb, lt-leb}
use Rattle.basics.specs.Choice.{choose, first}
use Rattle.basics.specs.Refusal.{number}
use Rattle.basics.specs.declared.refusal.Refusal.{Refusal}
use Rattle.basics.specs.declared.refusal.Refusal.TheVariants.{NoSuchPart}
use Rattle.basics.proofs.Refusals.{number-positive}
use Rattle.basics.proofs.Table.{Numbered, when-none, when-refused, last-unasked, last_taken, last-free, AskedLast, asked-last}
use Rattle.std.specs.Prelude.{Ok, Err}
use Rattle.sections.specs.Answer.{counted, located, shown, count_as, part_as}
use Rattle.sections.specs.declared.Count.{Count}
use Rattle.sections.specs.declared.Part.{Part}

-- the first line that applies has the number x
module _ (lines : List (Bool × ℕ)) (x : ℕ) (is : first lines ≡ x) where
  pub counted-refused : x ≢ 0 → (n : ℕ) → record { number = x; count = 0 } ≡ counted lines n
  counted-refused r n = rw (is, when-refused x n 0 r)

  pub located-refused : x ≢ 0 → (start n : ℕ) → record { number = x; start = 0; length = 0 } ≡ located lines start n
  located-refused r start n = rw (is, when-refused x start 0 r, when-refused x n 0 r)

-- no line applies
module _ (lines : List (Bool × ℕ)) (none : first lines ≡ 0) where
  pub counted-given : (n : ℕ) → record { number = 0; count = n } ≡ counted lines n
  counted-given n = rw (none, when-none 0 n 0 refl)

  pub located-given : (start n : ℕ) → record { number = 0; start = start; length = n } ≡ located lines start n
  located-given start n = rw (none, when-none 0 start 0 refl, when-none 0 n 0 refl)

-- ── a count, and a lookup by number

module _ (lines : List (Bool × ℕ)) (n count : ℕ) (is : count_as (Ok count) ≡ counted lines n) where
  pub counted-free : first lines ≡ 0
  counted-free = sym (ap (λ (x : Count). x.number) is)

  pub counted-all : count ≡ n
  counted-all = ap (λ (x : Count). x.count) is ∙ when-none _ n 0 counted-free

-- the lookup has one line more than the count, that the number is at or above it
module _ (lines : List (Bool × ℕ)) (n k start size : ℕ) where
  abbrev lookup : Part
  lookup = located (lines ++ ((leb n k, 10) ∷ [])) start size

  pub lookup-refused : (refusal : Refusal) → count_as (Err refusal) ≡ counted lines n → part_as (Err refusal) ≡ lookup
  lookup-refused refusal is =
      let refused : number refusal ≢ 0 = λ e. omega (arith, number-positive refusal) in
      located-refused (lines ++ ((leb n k, 10) ∷ [])) (number refusal) (last-unasked lines (leb n k) 10 (number refusal) (ap (λ (x : Count). x.number) is) refused) refused start size

  module _ (numbered : Numbered lines) (count : ℕ) (is : count_as (Ok count) ≡ counted lines n) where
    pub lookup-missing : count ≤ k → part_as (Err NoSuchPart) ≡ lookup
    lookup-missing above =
        located-refused (lines ++ ((leb n k, 10) ∷ [])) 10
        (last_taken lines (leb n k) 10 numbered (counted-free lines n count is) (le-leb n k (omega (arith, counted-all lines n count is)))) (λ e. omega arith) start size

    pub lookup-here : k < count → part_as (Ok (record { start = start; length = size })) ≡ lookup
    lookup-here below =
        located-given (lines ++ ((leb n k, 10) ∷ []))
        (last-free lines (leb n k) 10 numbered (counted-free lines n count is) (lt-leb n k (omega (arith, counted-all lines n count is)))) start size

-- the number that two lines give
pub record TwoLines (upper lower number : ℕ) (a b : Bool) : Type 0 where
  pub none : (number ≡ 0) ↔ ((a ≡ false) × (b ≡ false))
  pub first-line : (number ≡ upper) ↔ (a ≡ true)
  pub second-line : (number ≡ lower) ↔ ((a ≡ false) × (b ≡ true))

pub two-lines : (upper lower : ℕ) → 0 < upper → upper < lower → (a b : Bool) → TwoLines upper lower (first ((a, upper) ∷ (b, lower) ∷ [])) a b
unfolding choose
two-lines upper lower pos below true b =
    record { none = (λ e. absurd (omega arith), λ x. absurd (true≢false x.0)); first-line = (λ e. refl, λ e. refl); second-line = (λ e. absurd (omega arith), λ x. absurd (true≢false x.0)) }
two-lines upper lower pos below false true =
    record { none = (λ e. absurd (omega arith), λ x. absurd (true≢false x.1)); first-line = (λ e. absurd (omega arith), λ e. absurd (true≢false (sym e))); second-line = (λ e. (refl, refl), λ x. refl) }
two-lines upper lower pos below false false =
    record { none = (λ e. (refl, refl), λ x. refl); first-line = (λ e. absurd (omega arith), λ e. absurd (true≢false (sym e))); second-line = (λ e. absurd (omega arith), λ x. absurd (true≢false (sym x.1))) }

-- a number at or above the count is refused
pub asked-below : (number : ℕ) → 0 < number → (lines : List (Bool × ℕ)) → Numbered lines → (n k : ℕ)
    → AskedLast (first lines) (first (lines ++ ((leb n k, number) ∷ []))) number ((counted lines n).count ≤ k) (k < (counted lines n).count)
asked-below number pos lines numbered n k = asked-last number pos lines numbered (leb n k) (λ none.
    rw (when-none (first lines) n 0 none) ((leb-true n k, le-leb n k), (leb-false n k, lt-leb n k)))

-- ── the bytes that are shown

module _ (lines : List (Bool × ℕ)) (p : List ℕ) (start n : ℕ) where
  pub located-within : (first lines ≡ 0 → start + n ≤ length p) → (located lines start n).start + (located lines start n).length ≤ length p
  located-within given =
      dite (ℕ_discrete (first lines) 0)
      (λ e. rw (when-none _ start 0 e, when-none _ n 0 e) (given e))
      (λ h. rw (when-refused _ start 0 h, when-refused _ n 0 h) (omega arith))

  pub shown-at : (part : List ℕ) → (first lines ≡ 0 → take n (drop start p) ≡ part)
      → shown lines part ≡ take (located lines start n).length (drop (located lines start n).start p)
  shown-at part given =
      dite (ℕ_discrete (first lines) 0)
      (λ e. rw (when-none _ part [] e, when-none _ start 0 e, when-none _ n 0 e) (sym (given e)))
      (λ h. rw (when-refused _ part [] h, when-refused _ start 0 h, when-refused _ n 0 h))

pub shown-none : (lines : List (Bool × ℕ)) (part : List ℕ) → (first lines ≡ 0 → 0 < length part) → (shown lines part ≡ []) ↔ (first lines ≢ 0)
shown-none lines part given = (
  λ e none. omega (arith, given none, ap length (sym (when-none _ part [] none) ∙ e)),
  λ h. when-refused _ part [] h,
)
