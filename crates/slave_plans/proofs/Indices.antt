-- Laws of where entries stand, and of a table in which one entry is another.
use Rattle.std.proofs.Common.{◌≡◌, ℕ, zero, suc, ◌<◌, ◌≤◌, Bool, true, false, min, ◌↔◌, List, [], ◌∷◌, length, get_or, set, sym, refl, ap, ◌∙◌, subst, true≢false, le_of_suc-le-suc, not-suc-le-zero, arith}
use native.Mathlib.Decide.{dec_lt}
use mathlib.Core.Logic.{dite}
use Rattle.basics.specs.Choice.{choose}
use Rattle.slave_plans.specs.Table.{none, lowest, lowest_from}
use Rattle.slave_plans.specs.declared.Slave.{Slave}
use Rattle.slave_plans.proofs.Entries.{by-test, false-unless}

-- the lowest entry that passes a test
pub record Lowest (test : Slave → Bool) (t : List Slave) (i : ℕ) : Type 0 where
  pub inside : i < length t
  pub here : test (get_or t i none) ≡ true
  pub lower : (k : ℕ) → k < i → test (get_or t k none) ≡ false

-- no entry passes it
abbrev pub Nowhere : (Slave → Bool) → List Slave → Type 0
Nowhere test t = (k : ℕ) → k < length t → test (get_or t k none) ≡ false

module _ (test : Slave → Bool) where
  module _ (e : Slave) (t : List Slave) where
    lowest-first : test e ≡ true → lowest test (e ∷ t) ≡ 0
    unfolding lowest choose
    lowest-first y = rw y

    lowest-next : test e ≡ false → lowest test (e ∷ t) ≡ suc (lowest test t)
    unfolding lowest choose
    lowest-next n = rw n

  -- the index is that of the lowest entry that passes
  pub lowest-here : (t : List Slave) → lowest test t < length t → Lowest test t (lowest test t)
  unfolding lowest
  lowest-here [] l = absurd (not-suc-le-zero l)
  lowest-here (e ∷ t) l = by-test (test e)
      (λ y. rw (lowest-first e t y) (record { inside = omega arith; here = y; lower = λ k below. absurd (not-suc-le-zero below) }))
      (λ n.
      let rest = lowest-here t (le_of_suc-le-suc (subst (λ (i : ℕ). i < length (e ∷ t)) (lowest-next e t n) l)) in
      rw (lowest-next e t n) (record { inside = omega (arith, rest.inside); here = rest.here; lower = λ k below. lower n rest.lower k below }))
    where
      lower : test e ≡ false → ((k : ℕ) → k < lowest test t → test (get_or t k none) ≡ false) → (k : ℕ) → k < suc (lowest test t) → test (get_or (e ∷ t) k none) ≡ false
      lower n rest zero below = n
      lower n rest (suc k) below = rest k (le_of_suc-le-suc below)

  pub lowest-is : (t : List Slave) (i : ℕ) → Lowest test t i → lowest test t ≡ i
  unfolding lowest
  lowest-is [] i x = absurd (not-suc-le-zero x.inside)
  lowest-is (e ∷ t) zero x = lowest-first e t x.here
  lowest-is (e ∷ t) (suc i) x =
      lowest-next e t (x.lower 0 (omega arith))
      ∙ ap suc (lowest-is t i (record { inside = le_of_suc-le-suc x.inside; here = x.here; lower = λ k below. x.lower (suc k) (omega (arith, below)) }))

  pub lowest-none : (t : List Slave) → Nowhere test t → lowest test t ≡ length t
  unfolding lowest
  lowest-none [] n = refl
  lowest-none (e ∷ t) n = lowest-next e t (n 0 (omega arith)) ∙ ap suc (lowest-none t (λ k inside. n (suc k) (omega (arith, inside))))

  -- some entry passes if the index is inside, and none if it is past the end
  lowest-inside : (t : List Slave) (k : ℕ) → k < length t → test (get_or t k none) ≡ true → lowest test t ≤ k
  unfolding lowest
  lowest-inside [] k l y = absurd (not-suc-le-zero l)
  lowest-inside (e ∷ t) zero l y = rw (lowest-first e t y) (omega arith)
  lowest-inside (e ∷ t) (suc k) l y = by-test (test e)
      (λ y'. rw (lowest-first e t y') (omega arith))
      (λ n. rw (lowest-next e t n) (omega (arith, lowest-inside t k (le_of_suc-le-suc l) y)))

  pub lowest-nowhere : (t : List Slave) → length t ≤ lowest test t → Nowhere test t
  lowest-nowhere t past k inside = false-unless _ (λ y. omega (arith, past, inside, lowest-inside t k inside y))

  -- it is what it was, if neither the entry that goes nor the one that is put in its place passes
  pub set_other : (t : List Slave) (i : ℕ) (e : Slave) → test (get_or t i none) ≡ false → test e ≡ false → lowest test (set t i e) ≡ lowest test t
  unfolding lowest
  set_other [] i e old new = refl
  set_other (x ∷ t) zero e old new = lowest-next e t new ∙ sym (lowest-next x t old)
  set_other (x ∷ t) (suc i) e old new = ap (λ (n : ℕ). choose (test x) 0 (suc n)) (set_other t i e old new)

  -- ── from an index on

  from_first : (t : List Slave) → lowest_from 0 test t ≡ lowest test t
  from_first t = omega arith

  from_next : (start : ℕ) (e : Slave) (t : List Slave) → lowest_from (suc start) test (e ∷ t) ≡ suc (lowest_from start test t)
  from_next start e t = omega arith

  -- what is found passes
  pub from-here : (start : ℕ) (t : List Slave) → lowest_from start test t < length t → test (get_or t (lowest_from start test t) none) ≡ true
  from-here zero t l = rw (from_first t) (lowest-here t (omega (arith, l))).here
  from-here (suc start) [] l = absurd (not-suc-le-zero l)
  from-here (suc start) (e ∷ t) l = rw (from_next start e t) (from-here start t (omega (arith, l)))

  -- and from an index in the table, its length is the most
  pub from-most : (start : ℕ) (t : List Slave) → start ≤ length t → lowest_from start test t ≤ length t
  unfolding lowest
  from-most zero t l = omega (arith, lowest-most t)
    where
      lowest-most : (t : List Slave) → lowest test t ≤ length t
      lowest-most [] = omega arith
      lowest-most (e ∷ t) = by-test (test e) (λ y. rw (lowest-first e t y) (omega arith)) (λ n. rw (lowest-next e t n) (omega (arith, lowest-most t)))
  from-most (suc start) [] l = absurd (not-suc-le-zero l)
  from-most (suc start) (e ∷ t) l = omega (arith, from-most start t (le_of_suc-le-suc l))

  -- none from the start up to it passes
  pub from-lower : (start : ℕ) (t : List Slave) (k : ℕ) → start ≤ k → k < lowest_from start test t → test (get_or t k none) ≡ false
  unfolding lowest
  from-lower zero t k from below =
      dite (dec_lt (lowest test t) (length t))
      (λ l. (lowest-here t l).lower k (omega (arith, below)))
      (λ past. lowest-nowhere t (omega (arith, past)) k (omega (arith, below, from-most 0 t (omega arith))))
  from-lower (suc start) [] k from below = absurd (omega (arith, from, below))
  from-lower (suc start) (e ∷ t) zero from below = absurd (not-suc-le-zero from)
  from-lower (suc start) (e ∷ t) (suc k) from below = from-lower start t k (le_of_suc-le-suc from) (omega (arith, below))

  -- it is past the end exactly if none from the start on passes
  pub from-none : (start : ℕ) (t : List Slave) → (length t ≤ lowest_from start test t) ↔ ((k : ℕ) → start ≤ k → k < length t → test (get_or t k none) ≡ false)
  from-none start t = (
    λ past k from inside. from-lower start t k from (omega (arith, past, inside)),
    λ None-passes.
        dite (dec_lt (lowest_from start test t) (length t))
        (λ l. absurd (true≢false (sym (from-here start t l) ∙ None-passes (lowest_from start test t) (omega arith) l)))
        (λ past. omega (arith, past)),
  )

  -- from the lowest on it is found
  pub from_lowest : (t : List Slave) → lowest_from (lowest test t) test t ≡ lowest test t
  unfolding lowest
  from_lowest [] = refl
  from_lowest (e ∷ t) = by-test (test e)
      (λ y. rw (lowest-first e t y) (from_first (e ∷ t) ∙ lowest-first e t y))
      (λ n. rw (lowest-next e t n) (from_next (lowest test t) e t ∙ ap suc (from_lowest t)))

  -- where an entry that doesn't pass takes the lowest one's place, the next one behind it is the lowest
  pub lowest-behind : (t : List Slave) (e : Slave) → test e ≡ false → lowest test t < length t
      → lowest test (set t (lowest test t) e) ≡ lowest_from (suc (lowest test t)) test t
  unfolding lowest
  lowest-behind [] e new l = absurd (not-suc-le-zero l)
  lowest-behind (x ∷ t) e new l = by-test (test x)
      (λ y. rw (lowest-first x t y) (lowest-next e t new ∙ sym (from_next 0 x t ∙ ap suc (from_first t))))
      (λ n.
      let inside = le_of_suc-le-suc (subst (λ (i : ℕ). i < length (x ∷ t)) (lowest-next x t n) l) in
      rw (lowest-next x t n) (lowest-next x (set t (lowest test t) e) n ∙ ap suc (lowest-behind t e new inside) ∙ sym (from_next (suc (lowest test t)) x t)))

  -- where one that passes takes another's place, it is the lowest, or the one that was
  pub lowest-lower : (t : List Slave) (i : ℕ) (e : Slave) → test e ≡ true → i < length t → lowest test (set t i e) ≡ min i (lowest test t)
  unfolding lowest
  lowest-lower [] i e new l = absurd (not-suc-le-zero l)
  lowest-lower (x ∷ t) zero e new l = lowest-first e t new ∙ omega arith
  lowest-lower (x ∷ t) (suc i) e new l = by-test (test x)
      (λ y. rw (lowest-first x t y, lowest-first x (set t i e) y) (omega arith))
      (λ n. rw (lowest-next x t n, lowest-next x (set t i e) n) (omega (arith, lowest-lower t i e new (le_of_suc-le-suc l))))
