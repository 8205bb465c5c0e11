-- Laws of the sections of a payload.
use Prim.Native.Nat.{ℕ, zero, suc, min, ◌+◌, ◌-◌, ◌*◌, ◌<◌, ◌≤◌}
use native.Mathlib.Omega.{arith}
use native.Mathlib.Numerals.{sub-one}
use mathlib.Core.Path.{◌≡◌, refl, sym, ap, ◌∙◌}
use mathlib.Core.Logic.{◌≢◌, ◌↔◌}
use mathlib.Core.Bool.{Bool, true, false, ◌||◌}
use mathlib.Core.List.{List, [], ◌∷◌, ◌++◌, flatten, append_assoc}
use lib.ListN.{length, get_or, take, drop, length-take, length-drop, length-append, take-append-drop}
use lib.Seq.{get_or-take, drop_at, length-take-le}
use lib.Dec.{ltb}
use borrow.Author.Tests.{lt-ltb, le-ltb, ltb-true, ltb-false}
use Rattle.basics.proofs.Choice.{neither}
use Rattle.sections.specs.Section.{section_length, cut, sections_of, some_short, overrun, section_at, start_of}

-- ── the sections, one after the other

cut-nil : (n : ℕ) → cut n [] ≡ []
unfolding cut
cut-nil zero = refl
cut-nil (suc n) = refl

-- any bound that is large enough gives the same sections
cut-enough : (n m : ℕ) (p : List ℕ) → length p ≤ n → length p ≤ m → cut n p ≡ cut m p
unfolding cut
cut-enough zero m [] h g = sym (cut-nil m)
cut-enough zero m (f ∷ rest) h g = absurd (omega arith)
cut-enough (suc n) zero [] h g = refl
cut-enough (suc n) zero (f ∷ rest) h g = absurd (omega arith)
cut-enough (suc n) (suc m) [] h g = refl
cut-enough (suc n) (suc m) (f ∷ rest) h g =
    ap (λ (l : List (List ℕ)). take (4 + 4 * f) (f ∷ rest) ∷ l)
    (cut-enough n m (drop (4 + 4 * f) (f ∷ rest)) (omega (arith, length-drop (4 + 4 * f) (f ∷ rest))) (omega (arith, length-drop (4 + 4 * f) (f ∷ rest))))

pub sections-cons : (p : List ℕ) → 0 < length p → sections_of p ≡ take (section_length p) p ∷ sections_of (drop (section_length p) p)
unfolding cut
sections-cons [] h = absurd (omega arith)
sections-cons (f ∷ rest) h =
    ap (λ (l : List (List ℕ)). take (4 + 4 * f) (f ∷ rest) ∷ l)
    (cut-enough (length rest) (length (drop (4 + 4 * f) (f ∷ rest))) (drop (4 + 4 * f) (f ∷ rest)) (omega (arith, length-drop (4 + 4 * f) (f ∷ rest))) (omega arith))

cut-joined : (n : ℕ) (p : List ℕ) → length p ≤ n → flatten (cut n p) ≡ p
unfolding cut flatten
cut-joined zero [] h = refl
cut-joined zero (f ∷ rest) h = absurd (omega arith)
cut-joined (suc n) [] h = refl
cut-joined (suc n) (f ∷ rest) h =
    rw (cut-joined n (drop (4 + 4 * f) (f ∷ rest)) (omega (arith, length-drop (4 + 4 * f) (f ∷ rest)))) (take-append-drop (4 + 4 * f) (f ∷ rest))

-- the sections, end to end, are the payload
pub sections-joined : (p : List ℕ) → flatten (sections_of p) ≡ p
sections-joined p = cut-joined (length p) p (omega arith)

cut-few : (n : ℕ) (p : List ℕ) → length (cut n p) ≤ length p
unfolding cut
cut-few zero p = omega arith
cut-few (suc n) [] = omega arith
cut-few (suc n) (f ∷ rest) =
    omega (arith, cut-few n (drop (4 + 4 * f) (f ∷ rest)), length-drop (4 + 4 * f) (f ∷ rest))

pub sections-few : (p : List ℕ) → length (sections_of p) ≤ length p
sections-few p = cut-few (length p) p

-- ── a section that is cut short

first_short : (p : List ℕ) → 0 < length p
    → ltb (length (take (section_length p) p)) (section_length (take (section_length p) p)) ≡ ltb (length p) (section_length p)
first_short p h =
    rw (get_or-take (section_length p) p 0 0 (omega arith), length-take) (go (ltb (length p) (section_length p)) refl)
  where
    go : (t : Bool) → ltb (length p) (section_length p) ≡ t → ltb (min (section_length p) (length p)) (section_length p) ≡ ltb (length p) (section_length p)
    go true e = rw e (lt-ltb _ (section_length p) (omega (arith, ltb-true (length p) (section_length p) e)))
    go false e = rw e (le-ltb _ (section_length p) (omega (arith, ltb-false (length p) (section_length p) e)))

pub overrun-cons : (p : List ℕ) → 0 < length p → overrun p ≡ (ltb (length p) (section_length p) || overrun (drop (section_length p) p))
unfolding some_short
overrun-cons p h =
    ap some_short (sections-cons p h)
    ∙ ap (λ (t : Bool). t || overrun (drop (section_length p) p)) (first_short p h)

module _ (p : List ℕ) (held : 0 < length p) (whole : overrun p ≡ false) where
  first-and-rest : (ltb (length p) (section_length p) ≡ false) × (overrun (drop (section_length p) p) ≡ false)
  first-and-rest = neither (ltb (length p) (section_length p)) (overrun (drop (section_length p) p)) (sym (overrun-cons p held) ∙ whole)

  pub whole-first : section_length p ≤ length p
  whole-first = ltb-false _ _ first-and-rest.0

  pub whole-rest : overrun (drop (section_length p) p) ≡ false
  whole-rest = first-and-rest.1

cut-at-most : (n : ℕ) (p : List ℕ) → some_short (cut n p) ≡ false → 4 * length (cut n p) ≤ length p
unfolding cut some_short
cut-at-most zero p w = omega arith
cut-at-most (suc n) [] w = omega arith
cut-at-most (suc n) (f ∷ rest) w =
    let L : ℕ = 4 + 4 * f in
    let s : List ℕ = take L (f ∷ rest) in
    let both = neither (ltb (length s) (section_length s)) (some_short (cut n (drop L (f ∷ rest)))) w in
    omega (arith, cut-at-most n (drop L (f ∷ rest)) both.1, length-drop L (f ∷ rest), length-take L (f ∷ rest), ltb-false (length s) (section_length s) both.0)

-- a section takes four bytes at least
pub sections-at-most : (p : List ℕ) → overrun p ≡ false → 4 * length (sections_of p) ≤ length p
sections-at-most p w = cut-at-most (length p) p w

-- ── section k

flatten-append : (a b : List (List ℕ)) → flatten (a ++ b) ≡ flatten a ++ flatten b
unfolding flatten
flatten-append [] b = refl
flatten-append (s ∷ a) b = rw (flatten-append a b) (sym (append_assoc s (flatten a) (flatten b)))

-- the payload from section k on
abbrev pub from : List ℕ → ℕ → List ℕ
from p k = flatten (drop k (sections_of p))

pub some_bytes : (p : List ℕ) (k : ℕ) → k < length (sections_of p) → 0 < length p
some_bytes p k h = omega (arith, sections-few p)

fewer : (p : List ℕ) (k : ℕ) → suc k < length (sections_of p) → k < length (sections_of (drop (section_length p) p))
fewer p k h = omega (arith, ap length (sections-cons p (some_bytes p (suc k) h)))

from-rest : (p : List ℕ) (k : ℕ) → suc k < length (sections_of p) → from p (suc k) ≡ from (drop (section_length p) p) k
from-rest p k h = rw (sections-cons p (some_bytes p (suc k) h))

-- the same with the number that the code passes on
pub step_fewer : (p : List ℕ) (k : ℕ) → k ≢ 0 → k < length (sections_of p) → k - 1 < length (sections_of (drop (section_length p) p))
step_fewer p zero z h = absurd (z refl)
step_fewer p (suc k) z h = rw (sub-one (suc k)) (fewer p k h)

pub step_from : (p : List ℕ) (k : ℕ) → k ≢ 0 → k < length (sections_of p) → from p k ≡ from (drop (section_length p) p) (k - 1)
step_from p zero z h = absurd (z refl)
step_from p (suc k) z h = rw (sub-one (suc k)) (from-rest p k h)

split_at : (p : List ℕ) (k : ℕ) → p ≡ flatten (take k (sections_of p)) ++ from p k
split_at p k =
    sym (sections-joined p) ∙ ap flatten (sym (take-append-drop k (sections_of p))) ∙ flatten-append (take k (sections_of p)) (drop k (sections_of p))

first-at : (p : List ℕ) (k : ℕ) → k < length (sections_of p) → section_at p k ≡ take (section_length (from p k)) (from p k)
first-at p zero h = rw (sections-joined p) (ap (λ (l : List (List ℕ)). get_or l 0 []) (sections-cons p (some_bytes p 0 h)))
first-at p (suc k) h =
    rw (from-rest p k h)
    (ap (λ (l : List (List ℕ)). get_or l (suc k) []) (sections-cons p (some_bytes p (suc k) h)) ∙ first-at (drop (section_length p) p) k (fewer p k h))

pub within-at : (p : List ℕ) (k : ℕ) → k < length (sections_of p) → overrun p ≡ false → section_length (from p k) ≤ length (from p k)
within-at p zero h whole = rw (sections-joined p) (whole-first p (some_bytes p 0 h) whole)
within-at p (suc k) h whole =
    rw (from-rest p k h) (within-at (drop (section_length p) p) k (fewer p k h) (whole-rest p (some_bytes p (suc k) h) whole))

-- section k stands in the payload
pub record Standing (p : List ℕ) (k : ℕ) : Type 0 where
  pub within : start_of p k + length (section_at p k) ≤ length p
  pub whole : length (section_at p k) ≡ section_length (section_at p k)
  pub part : take (length (section_at p k)) (drop (start_of p k) p) ≡ section_at p k
  pub head : (i : ℕ) → i < 4 → get_or (drop (start_of p k) p) i 0 ≡ get_or (section_at p k) i 0

module _ (p : List ℕ) (k : ℕ) (here : k < length (sections_of p)) (whole : overrun p ≡ false) where
  pub from_start : start_of p k ≡ length p - length (from p k)
  from_start =
      omega (arith, ap length (split_at p k), length-append (flatten (take k (sections_of p))) (from p k))

  pub from-few : length (from p k) ≤ length p
  from-few =
      omega (arith, ap length (split_at p k), length-append (flatten (take k (sections_of p))) (from p k))

  pub from-size : length (section_at p k) ≡ section_length (from p k)
  from-size = ap length (first-at p k here) ∙ length-take-le (section_length (from p k)) (from p k) (within-at p k here whole)

  from_is : drop (start_of p k) p ≡ from p k
  from_is =
      ap (λ (l : List ℕ). drop (start_of p k) l) (split_at p k) ∙ drop_at (flatten (take k (sections_of p))) (from p k) (start_of p k) refl

  head_at : (i : ℕ) → i < 4 → get_or (from p k) i 0 ≡ get_or (section_at p k) i 0
  head_at i h = rw (first-at p k here) (sym (get_or-take (section_length (from p k)) (from p k) i 0 (omega arith)))

  pub standing : Standing p k
  standing = record {
    within = omega (arith, from_start, from-few, from-size, within-at p k here whole);
    whole = from-size ∙ ap (λ (n : ℕ). 4 + 4 * n) (head_at 0 (omega arith));
    part = rw (from_is, from-size) (sym (first-at p k here));
    head = λ i h. rw from_is (head_at i h);
  }

-- each section has exactly the bytes that its header announces
abbrev pub Whole : List ℕ → Type 0
Whole p = (k : ℕ) → k < length (sections_of p) → length (section_at p k) ≡ 4 + 4 * get_or (section_at p k) 0 0

none-short : (l : List (List ℕ)) → ((k : ℕ) → k < length l → section_length (get_or l k []) ≤ length (get_or l k [])) → some_short l ≡ false
unfolding some_short
none-short [] h = refl
none-short (s ∷ l) h = rw (le-ltb (length s) (section_length s) (h 0 (omega arith))) (none-short l (λ k b. h (suc k) (omega arith)))

pub overrun-exactly : (p : List ℕ) → (overrun p ≡ false) ↔ Whole p
overrun-exactly p = (λ w k here. (standing p k here w).whole, λ w. none-short (sections_of p) (λ k here. omega (arith, w k here)))

-- a section starts where the one before it ends
pub start-next : (l : List (List ℕ)) (k : ℕ) → k < length l → length (flatten (take (suc k) l)) ≡ length (flatten (take k l)) + length (get_or l k [])
unfolding flatten
start-next [] k h = absurd (omega arith)
start-next (s ∷ l) zero h = omega (arith, length-append s [])
start-next (s ∷ l) (suc k) h = omega (arith, start-next l k (omega arith), length-append s (flatten (take (suc k) l)), length-append s (flatten (take k l)))
