-- A sample over every address: which ones are a slave's.
use Prim.Native.Nat.{ℕ, zero, suc, ◌/◌, ◌%◌}
use mathlib.Core.Path.{◌≡◌, refl}
use mathlib.Core.Bool.{Bool, true, false, not, ◌&&◌}
use lib.Dec.{eqb, ltb}
use Rattle.basics.specs.Choice.{choose}
use Rattle.slave_plans.specs.Answer.{not_slave}

-- in hex digits: the first is 2, the third is below 8, and the second and third aren't both 0
abbrev by_digits : ℕ → Bool
by_digits a = eqb (a / 4096) 2 && (ltb (a / 16 % 16) 8 && not (eqb (a / 256 % 16) 0 && eqb (a / 16 % 16) 0))

-- both tests say the same of each address below n
alike : ℕ → Bool
alike zero = true
alike (suc n) = choose (not_slave n) (choose (by_digits n) false (alike n)) (choose (by_digits n) (alike n) false)

-- and so of every address of 16 bits
all_alike : alike 65536 ≡ true
unfolding alike not_slave choose
all_alike = refl
