-- Laws of a table of refusals, and of what is answered by it.
use Prim.Native.Nat.{ℕ, ◌<◌}
use native.Mathlib.Omega.{arith}
use mathlib.Core.Path.{◌≡◌, refl, sym, ◌∙◌}
use mathlib.Core.Logic.{◌≢◌, ◌↔◌}
use mathlib.Core.Bool.{Bool, true, false, true≢false}
use mathlib.Core.List.{List, [], ◌∷◌, ◌++◌}
use lib.Dec.{eqb}
use borrow.Author.Tests.{eq-eqb, ne_eqb}
use Rattle.basics.specs.Choice.{choose, first}

-- no line has number 0, which says that no line applies
abbrev pub Numbered : List (Bool × ℕ) → Type 0
Numbered [] = Unit {0}
Numbered ((applies, number) ∷ rest) = (0 < number) × Numbered rest

-- a line that applies comes before all that follow it
pub first-kept : (lines more : List (Bool × ℕ)) → first lines ≢ 0 → first (lines ++ more) ≡ first lines
unfolding choose
first-kept [] more h = absurd (h refl)
first-kept ((true, number) ∷ rest) more h = refl
first-kept ((false, number) ∷ rest) more h = first-kept rest more h

-- where no line applies, those that follow decide
pub first_next : (lines more : List (Bool × ℕ)) → Numbered lines → first lines ≡ 0 → first (lines ++ more) ≡ first more
unfolding choose
first_next [] more n e = refl
first_next ((true, number) ∷ rest) more n e = absurd (omega arith)
first_next ((false, number) ∷ rest) more n e = first_next rest more n.1 e

-- where no line of two tables applies, none of either does
pub first-none : (lines more : List (Bool × ℕ)) → Numbered lines → first (lines ++ more) ≡ 0 → (first lines ≡ 0) × (first more ≡ 0)
unfolding choose
first-none [] more n e = (refl, e)
first-none ((true, number) ∷ rest) more n e = absurd (omega arith)
first-none ((false, number) ∷ rest) more n e = first-none rest more n.1 e

-- a first line that doesn't apply
pub line-passed : (applies : Bool) (number rest : ℕ) → 0 < number → choose applies number rest ≡ 0 → (applies ≡ false) × (rest ≡ 0)
unfolding choose
line-passed true number rest pos e = absurd (omega arith)
line-passed false number rest pos e = (refl, e)

-- what is given where nothing is refused, and otherwise
module _ {A : Type 0} (number : ℕ) (given other : A) where
  pub when-none : number ≡ 0 → choose (eqb number 0) given other ≡ given
  unfolding choose
  when-none e = rw (eq-eqb number 0 e)

  pub when-refused : number ≢ 0 → choose (eqb number 0) given other ≡ other
  unfolding choose
  when-refused e = rw (ne_eqb number 0 e)

-- ── a table with one line more

module _ (lines : List (Bool × ℕ)) (test : Bool) (number : ℕ) where
  abbrev longer : List (Bool × ℕ)
  longer = lines ++ ((test, number) ∷ [])

  -- refused by an earlier line
  pub last-unasked : (x : ℕ) → x ≡ first lines → x ≢ 0 → first longer ≡ x
  last-unasked x is refused = first-kept lines ((test, number) ∷ []) (λ e. refused (is ∙ e)) ∙ sym is

  module _ (numbered : Numbered lines) where
    pub last-passed : 0 < number → first longer ≡ 0 → (first lines ≡ 0) × (test ≡ false)
    last-passed pos e =
        let both = first-none lines ((test, number) ∷ []) numbered e in
        (both.0, (line-passed test number 0 pos both.1).0)

    module _ (none : first lines ≡ 0) where
      -- refused by this line, or not at all
      pub last-decides : first longer ≡ choose test number 0
      last-decides = first_next lines ((test, number) ∷ []) numbered none

      pub last_taken : test ≡ true → first longer ≡ number
      unfolding choose
      last_taken e = last-decides ∙ rw e

      pub last-free : test ≡ false → first longer ≡ 0
      unfolding choose
      last-free e = last-decides ∙ rw e

-- ── exactly

through : {A B C : Type 0} → A ↔ B → B ↔ C → A ↔ C
through f g = (λ a. g.0 (f.0 a), λ c. f.1 (g.1 c))

-- a refusal that is asked for after others: those come first, and where none is given, this one is, exactly if it applies
pub record AskedLast (before after number : ℕ) (applies passes : Type 0) : Type 0 where
  pub kept : before ≢ 0 → after ≡ before
  pub refused : before ≡ 0 → (after ≡ number) ↔ applies
  pub given : before ≡ 0 → (after ≡ 0) ↔ passes

module _ (number : ℕ) (pos : 0 < number) where
  chosen : (test : Bool) → ((choose test number 0 ≡ number) ↔ (test ≡ true)) × ((choose test number 0 ≡ 0) ↔ (test ≡ false))
  unfolding choose
  chosen true = ((λ e. refl, λ e. refl), (λ e. absurd (omega arith), λ e. absurd (true≢false e)))
  chosen false = ((λ e. absurd (omega arith), λ e. absurd (true≢false (sym e))), (λ e. refl, λ e. refl))

  pub asked-last : (lines : List (Bool × ℕ)) → Numbered lines → (test : Bool) {applies passes : Type 0}
      → (first lines ≡ 0 → ((test ≡ true) ↔ applies) × ((test ≡ false) ↔ passes))
      → AskedLast (first lines) (first (lines ++ ((test, number) ∷ []))) number applies passes
  asked-last lines numbered test means = record {
    kept = λ r. last-unasked lines test number (first lines) refl r;
    refused = λ none. rw (last-decides lines test number numbered none) (through (chosen test).0 (means none).0);
    given = λ none. rw (last-decides lines test number numbered none) (through (chosen test).1 (means none).1);
  }
