-- Laws of bytes below a bound.
use Prim.Native.Nat.{ℕ, zero, suc, ◌<◌}
use native.Mathlib.Omega.{arith}
use mathlib.Core.List.{List, [], ◌∷◌, ◌++◌}
use lib.ListN.{get_or, take, drop}
use Rattle.basics.specs.Bytes.{AllBelow}

module _ (n : ℕ) where
  -- past the end stands 0
  pub get_d-below : (l : List ℕ) → AllBelow n l → 0 < n → (i : ℕ) → get_or l i 0 < n
  get_d-below [] a pos i = pos
  get_d-below (x ∷ xs) a pos zero = a.0
  get_d-below (x ∷ xs) a pos (suc i) = get_d-below xs a.1 pos i

  pub all_append : (l m : List ℕ) → AllBelow n l → AllBelow n m → AllBelow n (l ++ m)
  all_append [] m a b = b
  all_append (x ∷ xs) m a b = (a.0, all_append xs m a.1 b)

  pub all_take : (k : ℕ) (l : List ℕ) → AllBelow n l → AllBelow n (take k l)
  all_take zero l a = tt
  all_take (suc k) [] a = tt
  all_take (suc k) (x ∷ xs) a = (a.0, all_take k xs a.1)

  pub all_drop : (k : ℕ) (l : List ℕ) → AllBelow n l → AllBelow n (drop k l)
  all_drop zero l a = a
  all_drop (suc k) [] a = tt
  all_drop (suc k) (x ∷ xs) a = all_drop k xs a.1

  pub take_below : (k : ℕ) (l : List ℕ) → ((i : ℕ) → i < k → get_or l i 0 < n) → AllBelow n (take k l)
  take_below zero l h = tt
  take_below (suc k) [] h = tt
  take_below (suc k) (x ∷ xs) h = (h 0 (omega arith), take_below k xs (λ i l. h (suc i) (omega arith)))
