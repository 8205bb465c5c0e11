-- Numbers in decimal, as bytes of text.
use Rattle.std.specs.Prelude.{ℕ, zero, suc, ◌+◌, ◌/◌, ◌%◌, List, [], ◌∷◌, ◌++◌}
use Prim.Native.Char.{code}

-- the digits of n, none for 0, at most so many of them
unfoldable pub digits_within : ℕ → ℕ → List ℕ
digits_within zero n = []
digits_within (suc most) zero = []
digits_within (suc most) (suc n) = digits_within most (suc n / 10) ++ ((code "0" + suc n % 10) ∷ [])

-- the digits before the last one, for which n is bound enough, and the last one
unfoldable pub decimal : ℕ → List ℕ
decimal n = digits_within n (n / 10) ++ ((code "0" + n % 10) ∷ [])
