-- Laws of a choice by a test.
use Prim.Native.Nat.{ℕ, ◌<◌}
use native.Mathlib.Omega.{arith}
use native.Mathlib.Decide.{ℕ_discrete}
use mathlib.Core.Bool.{Bool, true, false, ◌&&◌, ◌||◌, true≢false}
use mathlib.Core.Logic.{dite}
use mathlib.Core.Path.{◌≡◌, refl, sym}
use borrow.Author.Tests.{ne_eqb}
use lib.Dec.{eqb}
use Rattle.basics.specs.Choice.{choose}

-- what holds of each branch under its test's answer holds of the choice
pub choose-by : {A : Type 0} (P : A → Type 0) (test : Bool) {x y : A} → (test ≡ true → P x) → (test ≡ false → P y) → P (choose test x y)
unfolding choose
choose-by P true f g = f refl
choose-by P false f g = g refl

-- a number that is 0 exactly if two others are equal
pub equal-of-zero : (a b v : ℕ) → 0 < v → choose (eqb a b) 0 v ≡ 0 → a ≡ b
unfolding choose
equal-of-zero a b v pos e = dite (ℕ_discrete a b) (λ same. same) (λ other. absurd (omega (arith, simp (ne_eqb a b other) at e)))

-- two tests neither of which applies
pub neither : (a b : Bool) → (a || b) ≡ false → (a ≡ false) × (b ≡ false)
neither true b e = absurd (true≢false e)
neither false b e = (refl, e)

-- two tests, both of which apply
pub both : (a b : Bool) → (a && b) ≡ true → (a ≡ true) × (b ≡ true)
both true b e = (refl, e)
both false b e = absurd (true≢false (sym e))
