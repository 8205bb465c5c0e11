-- Laws of a buffer that is written to from its start, and of the parts that are lent for it.
use Prim.Native.Nat.{ℕ, suc, ◌+◌, ◌-◌, ◌<◌, ◌≤◌}
use native.Mathlib.Omega.{arith}
use native.Mathlib.Numerals.{add-one}
use mathlib.Core.Path.{◌≡◌, ap, ◌∙◌}
use mathlib.Core.List.{List, [], ◌∷◌, ◌++◌, append_assoc, append-nil}
use lib.ListN.{length, take, drop, get_or, set, length-append, length-drop, drop_of_length-le}
use lib.Seq.{take_all, take-length, take_at, drop_at, drop-cons, drop-append_seam, drop-drop, set_at}
use Rattle.basics.specs.Bytes.{over}

-- one byte more
pub over-set : (p l : List ℕ) (v i : ℕ) → length p ≡ i → i < length l → set (p ++ drop i l) i v ≡ (p ++ (v ∷ [])) ++ drop (i + 1) l
over-set p l v i e h = rw (add-one, append_assoc, drop-cons l i 0) (set_at p (get_or l i 0) (drop (suc i) l) v i e)

-- a longer list over a shorter one that it begins with
pub over-over : (p q l : List ℕ) → over (p ++ q) (over p l) ≡ over (p ++ q) l
over-over p q l =
    ap (λ (r : List ℕ). (p ++ q) ++ r)
    (rw (length-append, ← drop-drop (length q) (length p) (over p l), drop-append_seam, drop-drop))

-- a list over what follows another
pub over-behind : (p q l : List ℕ) → p ++ over q (drop (length p) l) ≡ over (p ++ q) l
over-behind p q l = rw (drop-drop, append_assoc, length-append)

-- of a list that fits all is counted, and written
pub all-counted : (p l : List ℕ) (n : ℕ) → n ≡ length (take (length l) p) → length p ≤ length l → n ≡ length p
all-counted p l n e fits = e ∙ ap length (take_all (length l) p fits)

pub all-written : (p l new : List ℕ) → new ≡ over (take (length l) p) l → length p ≤ length l → new ≡ over p l
all-written p l new e fits = e ∙ ap (λ (q : List ℕ). over q l) (take_all (length l) p fits)

-- the part from a on is all that follows
pub part : (l : List ℕ) (a : ℕ) → take (length l - a) (drop a l) ≡ drop a l
part l a = take_all (length l - a) (drop a l) (simp length-drop (omega arith))

-- the part from a on comes back
pub put : (l new : List ℕ) (a : ℕ) → take a l ++ (new ++ drop (length l - a) (drop a l)) ≡ take a l ++ new
put l new a =
    ap (λ (r : List ℕ). take a l ++ (new ++ r)) (drop_of_length-le (drop a l) {i = length l - a} (simp length-drop (omega arith)))
    ∙ ap (λ (r : List ℕ). take a l ++ r) (append-nil new)

-- a list copied over the start, as the copying of bytes says it
pub copied : (p source l new : List ℕ) → source ≡ p → new ≡ take (length source) source ++ drop (length source) l → new ≡ over p l
copied p source l new e k = k ∙ rw (take-length, e)

-- the part behind p, lent to be written over by q
pub lent : (p q l₀ l new : List ℕ) (a : ℕ) → length p ≡ a → l ≡ over p l₀ → new ≡ over q (take (length l - a) (drop a l))
    → take a l ++ (new ++ drop (length l - a) (drop a l)) ≡ over (p ++ q) l₀
lent p q l₀ l new a e h k =
    put l new a
    ∙ rw (k, part, h, take_at p (drop (length p) l₀) a e, drop_at p (drop (length p) l₀) a e) (over-behind p q l₀)
