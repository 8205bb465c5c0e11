-- Laws of writing: how long what is written is, a checksum behind other bytes, and frames one by one.
use Prim.Native.Nat.{ℕ, zero, suc, ◌+◌, ◌-◌, ◌*◌, ◌<◌, ◌≤◌}
use native.Mathlib.Omega.{arith}
use native.Mathlib.Numerals.{add-one, one-add}
use native.Mathlib.Nat.{mul-zero, mul-suc}
use mathlib.Core.Path.{◌≡◌, ap, sym, ◌∙◌}
use mathlib.Core.List.{List, [], ◌∷◌, ◌++◌, append_assoc, append-nil}
use lib.ListN.{length, take, drop, set, length-append, length-drop}
use lib.Seq.{length-take-le, set_split, take_at, drop-drop}
use Rattle.basics.specs.Bytes.{over}
use Rattle.basics.proofs.Over.{over-set, over-over, over-behind, part, put}
use Rattle.checksum.specs.Checksum.{checksum_of}
use Rattle.septet.proofs.Laws.{length-low_bits}
use Rattle.record.specs.Record.{with_checksum, with_septet, framed}

-- ── lengths

pub length-with_septet : (unused : ℕ) (block : List ℕ) → length (with_septet unused block) ≡ length block + 1
length-with_septet unused block = simp (length-append, length-low_bits)

pub length-with_checksum : (block : List ℕ) → length (with_checksum block) ≡ length block + 1
length-with_checksum block = simp length-append

pub length-frame : (unused : ℕ) (block : List ℕ) → length (with_checksum (with_septet unused block)) ≡ length block + 2
length-frame unused block = rw (length-with_checksum, length-with_septet) (omega arith)

-- ── a byte behind other bytes

pub stored : (p l₀ l : List ℕ) (v a : ℕ) → length p ≡ a → a < length l₀ → l ≡ over p l₀ → set l a v ≡ over (p ++ (v ∷ [])) l₀
stored p l₀ l v a e h k =
    let more : a + 1 ≡ length (p ++ (v ∷ [])) = omega (arith, length-append p (v ∷ [])) in
    ap (λ (l : List ℕ). set l a v) (k ∙ ap (λ (n : ℕ). p ++ drop n l₀) e)
    ∙ over-set p l₀ v a e h
    ∙ ap (λ (n : ℕ). (p ++ (v ∷ [])) ++ drop n l₀) more

-- ── checksums

-- a checksum behind the first n
pub summed : (body l₀ l new : List ℕ) (n : ℕ) → length body ≡ n → l ≡ over body l₀ → new ≡ over (with_checksum (take n l)) l → new ≡ over (with_checksum body) l₀
summed body l₀ l new n e h k = k ∙ rw (h, take_at body (drop (length body) l₀) n e) (over-over body _ l₀)

-- a checksum behind the n that follow the first, in the part that is lent for it
pub summed-behind : (a : ℕ) (body l₀ l new : List ℕ) (n : ℕ) → length body ≡ n → l ≡ over (a ∷ body) l₀
    → new ≡ over (with_checksum (take n (take (length l - 1) (drop 1 l)))) (take (length l - 1) (drop 1 l))
    → take 1 l ++ (new ++ drop (length l - 1) (drop 1 l)) ≡ over (a ∷ with_checksum body) l₀
summed-behind a body l₀ l new n e h k =
    let follows : drop 1 l ≡ over body (drop 1 l₀) = rw (h, drop-drop, one-add) in
    let written : new ≡ over (with_checksum body) (drop 1 l₀) = summed body (drop 1 l₀) (drop 1 l) new n e follows (rw part at k) in
    put l new 1 ∙ rw (written, h) (over-behind (a ∷ []) (with_checksum body) l₀)

-- the checksum of the first n stored behind them
pub sum-set : (l : List ℕ) (n sum : ℕ) → n < length l → sum ≡ checksum_of (take n l) → set l n sum ≡ over (with_checksum (take n l)) l
sum-set l n sum h e =
    let k : length (take n l) ≡ n = length-take-le n l (omega arith) in
    set_split l n sum h ∙ rw (append_assoc, length-append, k, e, add-one)

-- ── frames

-- one frame more
pub framed-more : (width n : ℕ) (payload : List ℕ)
    → framed width (suc n) [] payload ≡ framed width n [] payload ++ with_checksum (with_septet 0 (take width (drop (width * n) payload)))
unfolding framed
framed-more width zero payload = rw (append-nil, mul-zero)
framed-more width (suc n) payload =
    let next : width + width * n ≡ width * suc n = omega (arith, mul-suc width n) in
    let first = with_checksum (with_septet 0 (take width payload)) in
    let others = framed width n [] (drop width payload) in
    ap (λ (l : List ℕ). first ++ l) (framed-more width n (drop width payload))
    ∙ sym (append_assoc first others _)
    ∙ ap (λ (l : List ℕ). (first ++ others) ++ with_checksum (with_septet 0 (take width l))) (drop-drop (width * n) width payload ∙ ap (λ (k : ℕ). drop k payload) next)

-- one frame fewer
pub fewer : (width n : ℕ) → 0 < n → width * n ≡ width * (n - 1) + width
fewer width n h = let e : n ≡ suc (n - 1) = omega arith in ap (λ (m : ℕ). width * m) e ∙ mul-suc width (n - 1)

pub framed-length : (width n : ℕ) (unused payload : List ℕ) → width * n ≤ length payload → length (framed width n unused payload) ≡ (width + 2) * n
unfolding framed
framed-length width zero unused payload enough = sym (mul-zero (width + 2))
framed-length width (suc n) unused payload enough =
    let less : width * suc n ≡ width * n + width = mul-suc width n in
    let full : length (take width payload) ≡ width = length-take-le width payload (omega arith) in
    let rest : length (framed width n (drop 1 unused) (drop width payload)) ≡ (width + 2) * n =
    framed-length width n (drop 1 unused) (drop width payload) (omega (arith, length-drop width payload)) in
    rw (length-append, length-frame, full, rest) (omega (arith, mul-suc (width + 2) n))
