-- Laws of the septet: lengths and bounds, and that taking top bits out and putting them back undo one another.
use Prim.Native.Nat.{ℕ, suc, ◌+◌, ◌-◌, ◌*◌, ◌/◌, ◌%◌, ◌^◌, ◌<◌, ◌≤◌}
use native.Mathlib.Omega.{arith}
use native.Mathlib.Nat.{pow-succ', mod-one, pow-le-pow_right, pow-suc, mul_assoc, suc-mul, zero-mul, zero-add, mul-le-mul_right}
use native.Mathlib.Numerals.{add-one}
use mathlib.Core.Path.{◌≡◌, refl, ap, ◌∙◌, sym}
use mathlib.Core.List.{List, [], ◌∷◌}
use lib.ListN.{length}
use lib.Pow.{mod-pow-add, high, pow-add, split, shr_lt}
use Rattle.basics.specs.Bytes.{AllBelow}
use Rattle.septet.specs.Septet.{septet_of, low_bits, with_top_bits, unused_bits, septet_with}

-- ── lengths and bounds

pub length-low_bits : (b : List ℕ) → length (low_bits b) ≡ length b
unfolding low_bits
length-low_bits [] = refl
length-low_bits (x ∷ xs) = ap suc (length-low_bits xs)

pub length-with_top_bits : (s : ℕ) (b : List ℕ) → length (with_top_bits s b) ≡ length b
unfolding with_top_bits
length-with_top_bits s [] = refl
length-with_top_bits s (x ∷ xs) = ap suc (length-with_top_bits (s / 2) xs)

pub low_bits-below : (b : List ℕ) → AllBelow 128 (low_bits b)
unfolding low_bits
low_bits-below [] = tt
low_bits-below (x ∷ xs) = (omega arith, low_bits-below xs)

pub with_top_bits-below : (s : ℕ) (b : List ℕ) → AllBelow 256 (with_top_bits s b)
unfolding with_top_bits
with_top_bits-below s [] = tt
with_top_bits-below s (x ∷ xs) = (omega arith, with_top_bits-below (s / 2) xs)

pub septet_of-below : (b : List ℕ) → AllBelow 256 b → septet_of b < 2 ^ length b
unfolding septet_of
septet_of-below [] a = omega arith
septet_of-below (x ∷ xs) a = omega (arith, septet_of-below xs a.1, pow-succ' 2 (length xs))

-- a septet of at most seven bytes has no top bit
pub septet-below : (width s : ℕ) → width ≤ 7 → s < 2 ^ width → s < 128
septet-below width s h l =
    let most : 2 ^ width ≤ 2 ^ 7 = pow-le-pow_right (omega arith) h in
    omega arith

-- ── unused bits

-- those of a septet of seven bits
pub unused-below : (width s : ℕ) → width ≤ 7 → s < 128 → unused_bits width s < 2 ^ (7 - width)
unused-below width s short low =
    let seven : 7 ≡ 7 - width + width = omega arith in
    shr_lt (7 - width) width (rw (← seven) low)

module _ (unused : ℕ) (b : List ℕ) (a : AllBelow 256 b) (width : ℕ) (sized : length b ≡ width) where
  pub septet_with-unused : unused_bits width (septet_with unused b) ≡ unused
  septet_with-unused = ap (λ (n : ℕ). unused_bits n (septet_with unused b)) (sym sized) ∙ high unused (length b) (septet_of-below b a)

  pub septet_with-below : width ≤ 7 → unused < 2 ^ (7 - width) → septet_with unused b < 128
  septet_with-below short few =
      let seven : 7 - width + width ≡ 7 = omega arith in
      let all : 2 ^ (7 - width) * 2 ^ width ≡ 128 = sym (pow-add 2 (7 - width) width) ∙ ap (λ (n : ℕ). 2 ^ n) seven in
      let own : septet_of b < 2 ^ width = rw sized at (septet_of-below b a) in
      rw sized (omega (arith, suc-mul unused (2 ^ width), mul-le-mul_right (2 ^ width) few))

-- with none it is the block's own
pub septet_with-none : (b : List ℕ) → septet_with 0 b ≡ septet_of b
septet_with-none b = rw (zero-mul) (zero-add (septet_of b))

-- ── out and back

-- a block read back from its septet and its low bits: unused bits aren't looked at
pub with_top_bits-septet_with : (unused : ℕ) (b : List ℕ) → AllBelow 256 b → with_top_bits (septet_with unused b) (low_bits b) ≡ b
unfolding septet_of low_bits with_top_bits
with_top_bits-septet_with unused [] a = refl
with_top_bits-septet_with unused (x ∷ xs) a =
    let double : unused * 2 ^ suc (length xs) ≡ 2 * (unused * 2 ^ length xs) = rw (pow-suc, ← mul_assoc) (omega arith) in
    let byte : x % 128 % 128 + 128 * ((unused * 2 ^ suc (length xs) + (x / 128 + 2 * septet_of xs)) % 2) ≡ x = omega arith in
    let above : (unused * 2 ^ suc (length xs) + (x / 128 + 2 * septet_of xs)) / 2 ≡ septet_with unused xs = omega arith in
    rw (byte, above, with_top_bits-septet_with unused xs a.1)

pub with_top_bits-septet_of : (b : List ℕ) → AllBelow 256 b → with_top_bits (septet_of b) (low_bits b) ≡ b
with_top_bits-septet_of b a = rw (septet_with-none b) at (with_top_bits-septet_with 0 b a)

pub low_bits-with_top_bits : (s : ℕ) (b : List ℕ) → AllBelow 128 b → low_bits (with_top_bits s b) ≡ b
unfolding low_bits with_top_bits
low_bits-with_top_bits s [] a = refl
low_bits-with_top_bits s (x ∷ xs) a =
    let byte : (x % 128 + 128 * (s % 2)) % 128 ≡ x = omega arith in
    rw (byte, low_bits-with_top_bits (s / 2) xs a.1)

-- as many bits of the septet come back as there are bytes
pub septet_of-with_top_bits : (s : ℕ) (b : List ℕ) → AllBelow 128 b → septet_of (with_top_bits s b) ≡ s % 2 ^ length b
unfolding septet_of with_top_bits
septet_of-with_top_bits s [] a = sym (mod-one s)
septet_of-with_top_bits s (x ∷ xs) a = rw (← add-one (length xs)) (omega (arith, septet_of-with_top_bits (s / 2) xs a.1, mod-pow-add s (length xs) 1))

-- and with the unused ones above them all
pub septet_with-with_top_bits : (s : ℕ) (b : List ℕ) → AllBelow 128 b → septet_with (unused_bits (length b) s) (with_top_bits s b) ≡ s
septet_with-with_top_bits s b a = rw (length-with_top_bits s b, septet_of-with_top_bits s b a) (split s (length b))
