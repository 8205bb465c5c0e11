-- A choice by a test, and the first line of a table that applies.
use Rattle.std.specs.Prelude.{ℕ, Bool, true, false, List, [], ◌∷◌}

unfoldable pub choose {ℓ} : {A : Type ℓ} → Bool → A → A → A
choose true a b = a
choose false a b = b

-- document 01: "Checked from the top down; the first that applies is given". A line is a test and its number; 0 if none applies
abbrev pub first : List (Bool × ℕ) → ℕ
first [] = 0
first ((applies, number) ∷ rest) = choose applies number (first rest)
