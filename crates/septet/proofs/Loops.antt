-- Laws of the loops over a block: what one byte more adds to the septet, to the low bits and to the bytes with their top bits.
use Prim.Native.Nat.{ℕ, zero, suc, ◌+◌, ◌-◌, ◌*◌, ◌/◌, ◌%◌, ◌^◌, ◌<◌, ◌≤◌}
use native.Mathlib.Omega.{arith}
use native.Mathlib.Nat.{pow-suc, pow-succ', sub-zero, zero-sub, suc-sub-suc, div-one, div-div-eq-div-mul, not-suc-le-zero, le_of_suc-le-suc}
use native.Mathlib.Numerals.{add-one}
use mathlib.Core.Path.{◌≡◌, sym}
use mathlib.Core.List.{List, [], ◌∷◌, ◌++◌, append_assoc, append-nil}
use mathlib.Core.Bool.{true, false, ◌||◌, or-false, or-true, or_assoc}
use borrow.Author.Tests.{le-leb, lt-leb}
use lib.Dec.{leb}
use lib.ListN.{length, take, drop, get_or, set, replicate, drop_of_length-le}
use lib.Seq.{take-suc, drop-cons, set_at, length-take-le, take_all}
use Rattle.basics.specs.Bytes.{AllBelow, over}
use Rattle.septet.specs.Septet.{septet_of, low_bits, with_top_bits, unused_bits}
use Rattle.septet.specs.Answer.{any_high, padded}
use Rattle.septet.proofs.Laws.{septet_of-below, septet-below}

-- ── taking out, from the last byte to the first

-- the septet with one byte more in front
pub septet_of-drop : (l : List ℕ) (i j : ℕ) → i ≡ suc j → j < length l → septet_of (drop i l) * 2 + get_or l j 0 / 128 ≡ septet_of (drop j l)
unfolding septet_of
septet_of-drop l i j e h = rw (e, drop-cons l j 0) (omega arith)

-- the low bits with one byte more in front
pub low_bits-drop : (l low rest : List ℕ) (i j : ℕ) → i ≡ suc j → j < length l → j < length low
    → set (take i low ++ (low_bits (drop i l) ++ rest)) j (get_or l j 0 % 128) ≡ take j low ++ (low_bits (drop j l) ++ rest)
unfolding low_bits
low_bits-drop l low rest i j e h k =
    rw (e, take-suc low j 0, append_assoc, drop-cons l j 0)
    (set_at (take j low) (get_or low j 0) (low_bits (drop (suc j) l) ++ rest) (get_or l j 0 % 128) j (length-take-le j low (omega arith)))

-- of a block of seven bytes that fits all top bits come out
pub all-taken : (block : List ℕ) (room septet : ℕ) → septet ≡ septet_of (take room block) % 256 → AllBelow 256 block → length block ≤ 7 → length block ≤ room
    → septet ≡ septet_of block
all-taken block room septet e bytes short fits =
    let all : take room block ≡ block = take_all room block fits in
    omega (arith, rw all at e, septet-below (length block) (septet_of block) short (septet_of-below block bytes))

-- ── putting back, from the first byte to the last

-- one halving more leaves one bit less
pub unused-more : (septet i : ℕ) → unused_bits i septet / 2 ≡ unused_bits (i + 1) septet
unused-more septet i = rw (div-div-eq-div-mul, add-one, pow-suc)

halve : (septet n : ℕ) → septet / 2 / 2 ^ n ≡ septet / 2 ^ suc n
halve septet n = rw (div-div-eq-div-mul, pow-succ')

with_top_bits-snoc : (septet : ℕ) (l : List ℕ) (byte : ℕ)
    → with_top_bits septet (l ++ (byte ∷ [])) ≡ with_top_bits septet l ++ ((byte % 128 + 128 * (septet / 2 ^ length l % 2)) ∷ [])
unfolding with_top_bits
with_top_bits-snoc septet [] byte = rw div-one
with_top_bits-snoc septet (b ∷ l) byte = rw (with_top_bits-snoc (septet / 2) l byte, halve)

-- the bytes with their top bits, and one byte more
pub with_top_bits-more : (septet : ℕ) (l : List ℕ) (i rest : ℕ) → i < length l → rest ≡ septet / 2 ^ i
    → with_top_bits septet (take i l) ++ ((get_or l i 0 % 128 + 128 * (rest % 2)) ∷ []) ≡ with_top_bits septet (take (i + 1) l)
with_top_bits-more septet l i rest h e =
    let k : length (take i l) ≡ i = length-take-le i l (omega arith) in rw (add-one, take-suc l i 0, with_top_bits-snoc, k, e)

any_high-snoc : (l : List ℕ) (byte : ℕ) → any_high (l ++ (byte ∷ [])) ≡ (any_high l || leb 0x80 byte)
unfolding any_high
any_high-snoc [] byte = or-false _
any_high-snoc (b ∷ l) byte = rw (any_high-snoc l byte) (sym (or_assoc (leb 0x80 b) _ _))

-- no high byte so far, and none here
pub any_high-more : (l : List ℕ) (i : ℕ) → i < length l → get_or l i 0 < 0x80 → any_high (take i l) ≡ false → any_high (take (i + 1) l) ≡ false
any_high-more l i h k e = rw (add-one, take-suc l i 0, any_high-snoc, e, lt-leb 0x80 (get_or l i 0))

-- a high byte is found
pub any_high-at : (l : List ℕ) (i : ℕ) → i < length l → 0x80 ≤ get_or l i 0 → any_high l ≡ true
unfolding any_high
any_high-at [] i h k = absurd (not-suc-le-zero h)
any_high-at (b ∷ l) zero h k = rw (le-leb 0x80 b k)
any_high-at (b ∷ l) (suc i) h k = rw (any_high-at l i (le_of_suc-le-suc h) k) (or-true (leb 0x80 b))

-- a byte stored behind the first i, of seven places whose others are zero
pub padded-set : (l : List ℕ) (i v : ℕ) → length l ≡ i → i < 7 → set (padded i l) i v ≡ padded (i + 1) (l ++ (v ∷ []))
padded-set l i v e h =
    let k : 7 - i ≡ suc (7 - (i + 1)) = omega arith in
    rw (k, append_assoc) (set_at l 0 (replicate (7 - (i + 1)) 0) v i e)

-- zeros that stay behind the first n
pub drop-zeros : (n m : ℕ) → drop {A = ℕ} n (replicate m 0) ≡ replicate (m - n) 0
drop-zeros zero m = rw sub-zero
drop-zeros (suc n) zero = rw zero-sub
drop-zeros (suc n) (suc m) = rw suc-sub-suc (drop-zeros n m)

-- a block at the start of seven places that were zero
pub over-zeros : (block : List ℕ) (n : ℕ) → length block ≡ n → over block (replicate 7 0) ≡ padded n block
over-zeros block n e = rw (e, drop-zeros n 7)

-- ── as many places lent as the block has bytes

-- places that a list fills hold it, and what lay behind them lies there still
pub filled : (p l new : List ℕ) (n : ℕ) → length p ≡ n → n ≤ length l → new ≡ over p (take n l) → new ++ drop n l ≡ over p l
filled p l new n e fits k =
    let none : drop (length p) (take n l) ≡ [] = drop_of_length-le (take n l) {i = length p} (omega (arith, length-take-le n l fits)) in
    rw (k, none, append-nil, e)
