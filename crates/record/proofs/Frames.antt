-- Laws of frames: what is framed is right and reads back.
use Prim.Native.Nat.{ℕ, zero, suc, ◌+◌, ◌-◌, ◌*◌, ◌%◌, ◌^◌, ◌<◌, ◌≤◌}
use native.Mathlib.Omega.{arith}
use native.Mathlib.Numerals.{add-one}
use native.Mathlib.Nat.{mul-zero, mul-suc, zero-add, not-suc-le-zero, le_of_suc-le-suc}
use mathlib.Core.Path.{◌≡◌, refl, sym, ap, ap₂, ◌∙◌}
use mathlib.Core.List.{List, [], ◌∷◌, ◌++◌, append_assoc}
use lib.ListN.{length, get_or, take, drop, length-append, length-drop, take-append-drop}
use lib.Pow.{pow_pos}
use lib.Seq.{take_at, drop_at, get_or_at, take-suc, take-add, get_or-drop, length-take-le}
use Rattle.checksum.specs.Checksum.{checksum_of}
use Rattle.checksum.proofs.Laws.{checksum_of-below}
use Rattle.basics.specs.Bytes.{AllBelow}
use Rattle.septet.specs.Septet.{low_bits, with_top_bits, unused_bits, septet_with}
use Rattle.basics.proofs.Bytes.{get_d-below, all_append, all_take, all_drop, take_below}
use Rattle.septet.proofs.Laws.{length-low_bits, length-with_top_bits, low_bits-below, with_top_bits-below, unused-below, septet_with-unused, septet_with-below, septet_with-none, with_top_bits-septet_with, low_bits-with_top_bits, septet_of-with_top_bits, septet_with-with_top_bits}
use Rattle.stream.specs.Unused.{unused_frames, count_nonzero}
use Rattle.stream.proofs.UnusedSeptets.{nonzero-none, count-first, count-short}
use Rattle.stream.proofs.Whole.{FrameSum, frame-drop, drop-frame}
use Rattle.record.proofs.StreamParts.{length-with_septet, length-with_checksum}
use Rattle.record.specs.Record.{with_checksum, with_septet, framed, unframed}

-- ── one frame, with anything behind it

pub with_septet-below : (unused : ℕ) (block : List ℕ) (width : ℕ) → length block ≡ width → width ≤ 7 → unused < 2 ^ (7 - width) → AllBelow 256 block
    → AllBelow 128 (with_septet unused block)
with_septet-below unused block width sized short few bytes =
    all_append 128 (low_bits block) (septet_with unused block ∷ []) (low_bits-below block) (septet_with-below unused block bytes width sized short few, tt)

pub with_checksum-below : (block : List ℕ) → AllBelow 128 block → AllBelow 128 (with_checksum block)
with_checksum-below block low = all_append 128 block (checksum_of block ∷ []) low (checksum_of-below block, tt)

module _ (block rest : List ℕ) (n : ℕ) (sized : length block ≡ n) where
  pub with_septet-septet : (unused : ℕ) → get_or (with_septet unused block ++ rest) n 0 ≡ septet_with unused block
  with_septet-septet unused = rw append_assoc (get_or_at (low_bits block) (septet_with unused block) rest 0 n (length-low_bits block ∙ sized))

  pub with_septet-low : (unused : ℕ) → take n (with_septet unused block ++ rest) ≡ low_bits block
  with_septet-low unused = rw append_assoc (take_at (low_bits block) (septet_with unused block ∷ rest) n (length-low_bits block ∙ sized))

  pub with_checksum-block : take n (with_checksum block ++ rest) ≡ block
  with_checksum-block = rw append_assoc (take_at block (checksum_of block ∷ rest) n sized)

  pub with_checksum-sum : get_or (with_checksum block ++ rest) n 0 ≡ checksum_of block
  with_checksum-sum = rw append_assoc (get_or_at block (checksum_of block) rest 0 n sized)

module _ (unused : ℕ) (block rest : List ℕ) (width : ℕ) (sized : length block ≡ width) where
  with-septet : length (with_septet unused block) ≡ width + 1
  with-septet = omega (arith, length-with_septet unused block)

  frame-septet : get_or (with_checksum (with_septet unused block) ++ rest) width 0 ≡ septet_with unused block
  frame-septet = rw append_assoc (with_septet-septet block (checksum_of (with_septet unused block) ∷ rest) width sized unused)

  frame-low : take width (with_checksum (with_septet unused block) ++ rest) ≡ low_bits block
  frame-low = rw append_assoc (with_septet-low block (checksum_of (with_septet unused block) ∷ rest) width sized unused)

  frame-rest : drop (width + 2) (with_checksum (with_septet unused block) ++ rest) ≡ rest
  frame-rest = drop_at (with_checksum (with_septet unused block)) rest (width + 2) (omega (arith, length-with_checksum (with_septet unused block), with-septet))

  frame-sum : FrameSum width (with_checksum (with_septet unused block) ++ rest) 0
  frame-sum =
      rw (zero-add (width + 1), with_checksum-sum (with_septet unused block) rest (width + 1) with-septet, with_checksum-block (with_septet unused block) rest (width + 1) with-septet)

-- ── a block again

pub take_next : (l : List ℕ) (k : ℕ) → k < length l → take (k + 1) l ≡ take k l ++ (get_or l k 0 ∷ [])
take_next l k h = rw add-one (take-suc l k 0 h)

-- low bytes and a septet are what is read from them, with the septet's unused bits
pub with_septet-again : (width : ℕ) (x : List ℕ) → width < length x → AllBelow 128 (take width x)
    → with_septet (unused_bits width (get_or x width 0)) (with_top_bits (get_or x width 0) (take width x)) ≡ take (width + 1) x
with_septet-again width x held low =
    let q = get_or x width 0 in
    let sized : length (take width x) ≡ width = length-take-le width x (omega arith) in
    let all : septet_with (unused_bits width q) (with_top_bits q (take width x)) ≡ q = rw sized at (septet_with-with_top_bits q (take width x) low) in
    rw (low_bits-with_top_bits q (take width x) low, all) (sym (take_next x width held))

-- read and written, a block keeps its low bytes, and of its septet the bits in use
pub with_septet-rewritten : (q : ℕ) (block : List ℕ) → AllBelow 128 block → with_septet 0 (with_top_bits q block) ≡ block ++ (q % 2 ^ length block ∷ [])
with_septet-rewritten q block low =
    let septet : septet_with 0 (with_top_bits q block) ≡ q % 2 ^ length block = septet_with-none (with_top_bits q block) ∙ septet_of-with_top_bits q block low in
    rw (low_bits-with_top_bits q block low, septet)

-- ── frames

module _ (width : ℕ) where
  -- what the first frame takes, and what it leaves
  first_block : (n : ℕ) (payload : List ℕ) → width * suc n ≤ length payload → length (take width payload) ≡ width
  first_block n payload enough = length-take-le width payload (omega (arith, mul-suc width n))

  other-blocks : (n : ℕ) (payload : List ℕ) → width * suc n ≤ length payload → width * n ≤ length (drop width payload)
  other-blocks n payload enough = omega (arith, mul-suc width n, length-drop width payload)

  pub framed-below : (n : ℕ) (unused payload : List ℕ) → width ≤ 7 → AllBelow (2 ^ (7 - width)) unused → AllBelow 256 payload → width * n ≤ length payload
      → AllBelow 128 (framed width n unused payload)
  unfolding framed
  framed-below zero unused payload short small bytes enough = tt
  framed-below (suc n) unused payload short small bytes enough =
      let u = get_or unused 0 0 in
      let block = take width payload in
      let sized = first_block n payload enough in
      let few : u < 2 ^ (7 - width) = get_d-below (2 ^ (7 - width)) unused small (pow_pos (7 - width)) 0 in
      all_append 128 (with_checksum (with_septet u block)) (framed width n (drop 1 unused) (drop width payload))
      (with_checksum-below (with_septet u block) (with_septet-below u block width sized short few (all_take 256 width payload bytes)))
      (framed-below n (drop 1 unused) (drop width payload) short (all_drop (2 ^ (7 - width)) 1 unused small) (all_drop 256 width payload bytes) (other-blocks n payload enough))

  pub framed-sum : (n : ℕ) (unused payload t : List ℕ) → width * n ≤ length payload → (f : ℕ) → f < n → FrameSum width (framed width n unused payload ++ t) ((width + 2) * f)
  unfolding framed
  framed-sum zero unused payload t enough f h = absurd (not-suc-le-zero h)
  framed-sum (suc n) unused payload t enough zero h =
      rw (append_assoc, mul-zero (width + 2))
      (frame-sum (get_or unused 0 0) (take width payload) (framed width n (drop 1 unused) (drop width payload) ++ t) width (first_block n payload enough))
  framed-sum (suc n) unused payload t enough (suc f) h =
      let next : (width + 2) * suc f ≡ (width + 2) + (width + 2) * f = omega (arith, mul-suc (width + 2) f) in
      rw (append_assoc, next)
      (frame-drop width _ (width + 2) ((width + 2) * f)
      (rw (frame-rest (get_or unused 0 0) (take width payload) (framed width n (drop 1 unused) (drop width payload) ++ t) width (first_block n payload enough))
      (framed-sum n (drop 1 unused) (drop width payload) t (other-blocks n payload enough) f (le_of_suc-le-suc h))))

  pub unframed-framed : (n : ℕ) (unused payload t : List ℕ) → AllBelow 256 payload → length payload ≡ width * n
      → unframed width n (framed width n unused payload ++ t) ≡ payload
  unfolding framed unframed
  unframed-framed zero unused [] t bytes exact = refl
  unframed-framed zero unused (x ∷ xs) t bytes exact = absurd (omega arith)
  unframed-framed (suc n) unused payload t bytes exact =
      let u = get_or unused 0 0 in
      let block = take width payload in
      let rest = framed width n (drop 1 unused) (drop width payload) ++ t in
      let sized : length block ≡ width = first_block n payload (omega arith) in
      let left : length (drop width payload) ≡ width * n = omega (arith, mul-suc width n, length-drop width payload) in
      rw (
        append_assoc,
        frame-septet u block rest width sized,
        frame-low u block rest width sized,
        frame-rest u block rest width sized,
        with_top_bits-septet_with u block (all_take 256 width payload bytes),
        unframed-framed n (drop 1 unused) (drop width payload) t (all_drop 256 width payload bytes) left,
      )
      (take-append-drop width payload)

  -- as many blocks have unused bits as are given some
  pub unused-framed : (n : ℕ) (unused payload t : List ℕ) → AllBelow 256 payload → width * n ≤ length payload → length unused ≤ n
      → count_nonzero (unused_frames width n (framed width n unused payload ++ t)) ≡ count_nonzero unused
  unfolding framed unused_frames count_nonzero
  unused-framed zero unused payload t bytes enough few = sym (count-short unused (omega arith))
  unused-framed (suc n) unused payload t bytes enough few =
      let u = get_or unused 0 0 in
      let block = take width payload in
      let rest = framed width n (drop 1 unused) (drop width payload) ++ t in
      let sized : length block ≡ width = first_block n payload enough in
      let here = septet_with-unused u block (all_take 256 width payload bytes) width sized in
      rw (
        append_assoc,
        frame-septet u block rest width sized,
        frame-rest u block rest width sized,
        here,
        unused-framed n (drop 1 unused) (drop width payload) t (all_drop 256 width payload bytes) (other-blocks n payload enough) (omega (arith, length-drop 1 unused)),
      )
      (sym (count-first unused))

  -- where all that are given are zero, none might as well be
  pub framed-none : (n : ℕ) (unused payload : List ℕ) → count_nonzero unused ≡ 0 → framed width n unused payload ≡ framed width n [] payload
  unfolding framed
  framed-none zero unused payload none = refl
  framed-none (suc n) unused payload none =
      let less = count-first unused in
      let zero : get_or unused 0 0 ≡ 0 = nonzero-none (get_or unused 0 0) (omega arith) in
      ap₂ (λ (u : ℕ) (rest : List ℕ). with_checksum (with_septet u (take width payload)) ++ rest) zero
      (framed-none n (drop 1 unused) (drop width payload) (omega arith))

  -- ── right frames, read and written again

  first_frame : (n k : ℕ) → k < width + 2 → k < (width + 2) * suc n
  first_frame n k h = omega (arith, mul-suc (width + 2) n)

  other-frames : (n : ℕ) (x : List ℕ) → (width + 2) * suc n ≤ length x → (width + 2) * n ≤ length (drop (width + 2) x)
  other-frames n x held = omega (arith, mul-suc (width + 2) n, length-drop (width + 2) x)

  low-drop : (n : ℕ) (x : List ℕ) → ((k : ℕ) → k < (width + 2) * suc n → get_or x k 0 < 128)
      → (k : ℕ) → k < (width + 2) * n → get_or (drop (width + 2) x) k 0 < 128
  low-drop n x low k h = rw (get_or-drop (width + 2) x k 0) (low (width + 2 + k) (omega (arith, mul-suc (width + 2) n)))

  pub unframed-length : (n : ℕ) (x : List ℕ) → (width + 2) * n ≤ length x → length (unframed width n x) ≡ width * n
  unfolding unframed
  unframed-length zero x held = omega arith
  unframed-length (suc n) x held =
      let q = get_or x width 0 in
      let b = take width x in
      omega (
        arith,
        length-append (with_top_bits q b) (unframed width n (drop (width + 2) x)),
        length-with_top_bits q b,
        length-take-le width x (omega (arith, first_frame n width (omega arith))),
        unframed-length n (drop (width + 2) x) (other-frames n x held),
        mul-suc width n,
      )

  pub unframed-below : (n : ℕ) (x : List ℕ) → AllBelow 256 (unframed width n x)
  unfolding unframed
  unframed-below zero x = tt
  unframed-below (suc n) x =
      all_append 256 (with_top_bits (get_or x width 0) (take width x)) (unframed width n (drop (width + 2) x))
      (with_top_bits-below (get_or x width 0) (take width x))
      (unframed-below n (drop (width + 2) x))

  -- one frame again
  reframed : (x : List ℕ) → width + 2 ≤ length x → AllBelow 128 (take width x) → FrameSum width x 0
      → with_checksum (with_septet (unused_bits width (get_or x width 0)) (with_top_bits (get_or x width 0) (take width x))) ≡ take (width + 2) x
  reframed x held low right =
      let sum : get_or x (width + 1) 0 ≡ checksum_of (take (width + 1) x) = rw (zero-add (width + 1)) at right in
      let two : width + 2 ≡ width + 1 + 1 = omega arith in
      rw (with_septet-again width x (omega arith) low, ← sum, two) (sym (take_next x (width + 1) (omega arith)))

  pub framed-unframed : (n : ℕ) (x : List ℕ) → (width + 2) * n ≤ length x → ((k : ℕ) → k < (width + 2) * n → get_or x k 0 < 128)
      → ((f : ℕ) → f < n → FrameSum width x ((width + 2) * f)) → framed width n (unused_frames width n x) (unframed width n x) ≡ take ((width + 2) * n) x
  unfolding framed unframed unused_frames
  framed-unframed zero x held low right = rw (mul-zero (width + 2))
  framed-unframed (suc n) x held low right =
      let block = with_top_bits (get_or x width 0) (take width x) in
      let others = unframed width n (drop (width + 2) x) in
      let long : width + 2 ≤ length x = omega (arith, mul-suc (width + 2) n) in
      let sized : length block ≡ width = length-with_top_bits (get_or x width 0) (take width x) ∙ length-take-le width x (omega arith) in
      let next : (f : ℕ) → (width + 2) * suc f ≡ width + 2 + (width + 2) * f = λ f. omega (arith, mul-suc (width + 2) f) in
      let again = framed-unframed n (drop (width + 2) x) (other-frames n x held) (low-drop n x low)
      (λ f h. drop-frame width x (width + 2) ((width + 2) * f) (rw (next f) at (right (suc f) (omega arith)))) in
      let here = reframed x long (take_below 128 width x (λ i h. low i (first_frame n i (omega arith)))) (rw (mul-zero (width + 2)) at (right 0 (omega arith))) in
      rw (take_at block others width sized, drop_at block others width sized, here, again, next n) (sym (take-add (width + 2) ((width + 2) * n) x))

  -- as many numbers as frames, and each has room above the septet's own bits
  pub unused-length : (n : ℕ) (x : List ℕ) → length (unused_frames width n x) ≡ n
  unfolding unused_frames
  unused-length zero x = refl
  unused-length (suc n) x = ap suc (unused-length n (drop (width + 2) x))

  pub unused-small : (n : ℕ) (x : List ℕ) → width ≤ 7 → ((k : ℕ) → k < (width + 2) * n → get_or x k 0 < 128) → AllBelow (2 ^ (7 - width)) (unused_frames width n x)
  unfolding unused_frames
  unused-small zero x short low = tt
  unused-small (suc n) x short low =
      (unused-below width (get_or x width 0) short (low width (first_frame n width (omega arith))), unused-small n (drop (width + 2) x) short (low-drop n x low))

  -- frames read and written, one by one
  pub rewritten-step : (n : ℕ) (x : List ℕ) → 0 < n → width ≤ length x
      → framed width n [] (unframed width n x)
      ≡ with_checksum (with_septet 0 (with_top_bits (get_or x width 0) (take width x))) ++ framed width (n - 1) [] (unframed width (n - 1) (drop (width + 2) x))
  unfolding framed unframed
  rewritten-step n x pos long =
      let e : n ≡ suc (n - 1) = omega arith in
      let block = with_top_bits (get_or x width 0) (take width x) in
      let others = unframed width (n - 1) (drop (width + 2) x) in
      let sized : length block ≡ width = length-with_top_bits (get_or x width 0) (take width x) ∙ length-take-le width x long in
      ap (λ (m : ℕ). framed width m [] (unframed width m x)) e ∙ rw (take_at block others width sized, drop_at block others width sized)
