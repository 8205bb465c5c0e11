-- Laws of decimal numbers: the digits stand for the number, with none too many, and how many they are.
use Prim.Native.Nat.{ℕ, zero, suc, ◌+◌, ◌-◌, ◌*◌, ◌/◌, ◌%◌, ◌^◌, ◌≤◌, ◌<◌}
use Prim.Native.Char.{code}
use native.Mathlib.Omega.{arith}
use native.Mathlib.Nat.{pow-succ'}
use native.Mathlib.Decide.{dec_lt}
use mathlib.Core.Path.{◌≡◌, refl, ap, ◌∙◌}
use mathlib.Core.Logic.{dite}
use mathlib.Core.List.{List, [], ◌∷◌, ◌++◌}
use lib.ListN.{length, get_or, length-append, get_or-append}
use Rattle.text.specs.Decimal.{digits_within, decimal}

-- ── digit by digit

-- allowing for more makes no difference
within-enough : (a b n : ℕ) → n ≤ a → n ≤ b → digits_within a n ≡ digits_within b n
unfolding digits_within
within-enough zero zero n h k = refl
within-enough zero (suc b) zero h k = refl
within-enough zero (suc b) (suc n) h k = absurd (omega arith)
within-enough (suc a) zero zero h k = refl
within-enough (suc a) zero (suc n) h k = absurd (omega arith)
within-enough (suc a) (suc b) zero h k = refl
within-enough (suc a) (suc b) (suc n) h k =
    ap (λ (l : List ℕ). l ++ ((code "0" + suc n % 10) ∷ [])) (within-enough a b (suc n / 10) (omega arith) (omega arith))

within-decimal : (most n : ℕ) → 0 < n → n ≤ most → digits_within most n ≡ decimal n
unfolding digits_within decimal
within-decimal zero n pos h = absurd (omega arith)
within-decimal (suc most) zero pos h = absurd (omega arith)
within-decimal (suc most) (suc n) pos h =
    ap (λ (l : List ℕ). l ++ ((code "0" + suc n % 10) ∷ [])) (within-enough most (suc n) (suc n / 10) (omega arith) (omega arith))

within-zero : (most : ℕ) → digits_within most 0 ≡ []
unfolding digits_within
within-zero zero = refl
within-zero (suc most) = refl

module _ (n : ℕ) where
  pub decimal-one : n < 10 → decimal n ≡ (code "0" + n % 10) ∷ []
  unfolding decimal
  decimal-one h =
      let e : n / 10 ≡ 0 = omega arith in
      rw (e, within-zero n)

  pub decimal-more : 10 ≤ n → decimal n ≡ decimal (n / 10) ++ ((code "0" + n % 10) ∷ [])
  unfolding decimal
  decimal-more h = ap (λ (l : List ℕ). l ++ ((code "0" + n % 10) ∷ [])) (within-decimal n (n / 10) (omega arith) (omega arith))

  pub decimal-longer : 10 ≤ n → length (decimal n) ≡ length (decimal (n / 10)) + 1
  decimal-longer h = ap length (decimal-more h) ∙ length-append (decimal (n / 10)) ((code "0" + n % 10) ∷ [])

  pub decimal-some : 0 < length (decimal n)
  unfolding decimal
  decimal-some = simp length-append (omega arith)

-- what holds of a single digit, and of a number if it does without its last digit, holds of every number
decimal-ind : (P : ℕ → Type 0) → ((n : ℕ) → n < 10 → P n) → ((n : ℕ) → 10 ≤ n → P (n / 10) → P n) → (n : ℕ) → P n
decimal-ind P one more n = within (suc n) n (omega arith)
  where
    within : (most n : ℕ) → n < most → P n
    within zero n h = absurd (omega arith)
    within (suc most) n h = dite (dec_lt n 10) (one n) (λ long. more n (omega arith) (within most (n / 10) (omega arith)))

-- ── the digits

-- each is one of 0 to 9
abbrev pub AllDigits : List ℕ → Type 0
AllDigits [] = Unit {0}
AllDigits (digit ∷ rest) = (code "0" ≤ digit) × (digit ≤ code "9") × AllDigits rest

digits_append : (l m : List ℕ) → AllDigits l → AllDigits m → AllDigits (l ++ m)
digits_append [] m a b = b
digits_append (digit ∷ rest) m a b = (a.0, a.1, digits_append rest m a.2 b)

pub decimal-digits : (n : ℕ) → AllDigits (decimal n)
decimal-digits =
    decimal-ind (λ n. AllDigits (decimal n)) (λ n h. rw (decimal-one n h) (omega arith, omega arith, tt))
    (λ n h before. rw (decimal-more n h) (digits_append (decimal (n / 10)) ((code "0" + n % 10) ∷ []) before (omega arith, omega arith, tt)))

-- the number that digits stand for, behind those of n
abbrev pub value_from : ℕ → List ℕ → ℕ
value_from n [] = n
value_from n (digit ∷ rest) = value_from (10 * n + (digit - code "0")) rest

abbrev pub value_of : List ℕ → ℕ
value_of digits = value_from 0 digits

value-append : (n : ℕ) (l m : List ℕ) → value_from n (l ++ m) ≡ value_from (value_from n l) m
value-append n [] m = refl
value-append n (digit ∷ rest) m = value-append (10 * n + (digit - code "0")) rest m

pub decimal-value : (n : ℕ) → value_of (decimal n) ≡ n
decimal-value =
    decimal-ind (λ n. value_of (decimal n) ≡ n) (λ n h. rw (decimal-one n h) (omega arith))
    (λ n h before. rw (decimal-more n h, value-append 0 (decimal (n / 10)), before) (omega arith))

-- no leading zero: 0 is a single digit, and every other number begins with another
pub decimal-leading : (n : ℕ) → 0 < n → code "0" < get_or (decimal n) 0 0
decimal-leading =
    decimal-ind (λ n. 0 < n → code "0" < get_or (decimal n) 0 0) (λ n h pos. rw (decimal-one n h) (omega arith))
    (λ n h before pos. rw (decimal-more n h, get_or-append (decimal (n / 10)) ((code "0" + n % 10) ∷ []) 0 0 (decimal-some (n / 10))) (before (omega arith)))

-- a number below 10 ^ (k + 1) has no more than k + 1 digits
pub decimal-most : (k n : ℕ) → n < 10 ^ suc k → length (decimal n) ≤ suc k
decimal-most zero n h = omega (arith, ap length (decimal-one n h))
decimal-most (suc k) n h =
    dite (dec_lt n 10)
    (λ short. omega (arith, ap length (decimal-one n short)))
    (λ long. omega (arith, decimal-longer n (omega arith), decimal-most k (n / 10) (omega (arith, pow-succ' 10 (suc k)))))
