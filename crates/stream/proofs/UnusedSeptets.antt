-- Laws of unused septet bits: frame by frame, and how many blocks have them.
use Prim.Native.Nat.{ℕ, suc, ◌+◌, ◌-◌, ◌*◌, ◌<◌, ◌≤◌}
use native.Mathlib.Omega.{arith}
use native.Mathlib.Decide.{ℕ_discrete}
use native.Mathlib.Nat.{mul-suc, add-zero}
use mathlib.Core.Path.{◌≡◌, refl, sym, ap, ◌∙◌}
use mathlib.Core.Logic.{dite}
use mathlib.Core.List.{List, [], ◌∷◌}
use borrow.Author.Tests.{eq-eqb, ne_eqb}
use lib.ListN.{length, get_or, drop}
use lib.Seq.{get_or-drop, drop-drop}
use Rattle.std.specs.Int.{from_bool}
use Rattle.std.specs.Prelude.{not, eqb}
use Rattle.basics.specs.Bytes.{AllBelow}
use Rattle.basics.specs.Choice.{choose}
use Rattle.septet.specs.Septet.{unused_bits}
use Rattle.stream.specs.Layout.{kind, header_length, telegram_frames, frame_count}
use Rattle.stream.specs.Unused.{block_width, unused_frames, unused_in, nonzero, count_nonzero, unused_septets_of}
use Rattle.stream.specs.declared.Kind.{Kind}
use Rattle.stream.specs.declared.Kind.TheVariants.{Packet, Datagram, Telegram}

pub nonzero-zero : (n : ℕ) → n ≡ 0 → nonzero n ≡ 0
unfolding choose
nonzero-zero n e = simp (eq-eqb n 0 e)

pub nonzero-one : (n : ℕ) → (n ≡ 0 → ⊥) → nonzero n ≡ 1
unfolding choose
nonzero-one n e = simp (ne_eqb n 0 e)

-- the test for it, as a number
pub bit-nonzero : (n : ℕ) → from_bool (not (eqb n 0)) ≡ nonzero n
unfolding choose
bit-nonzero n = dite (ℕ_discrete n 0) (λ e. simp (eq-eqb n 0 e)) (λ ne. simp (ne_eqb n 0 ne))

pub nonzero-most : (n : ℕ) → nonzero n ≤ 1
nonzero-most n = dite (ℕ_discrete n 0) (λ e. omega (arith, nonzero-zero n e)) (λ ne. omega (arith, nonzero-one n ne))

pub nonzero-none : (n : ℕ) → nonzero n ≡ 0 → n ≡ 0
nonzero-none n e = dite (ℕ_discrete n 0) (λ z. z) (λ ne. absurd (omega (arith, nonzero-one n ne)))

-- ── the count of a list

-- a list that is too short has a zero in front
pub count-first : (l : List ℕ) → count_nonzero l ≡ nonzero (get_or l 0 0) + count_nonzero (drop 1 l)
unfolding count_nonzero
count-first [] = omega (arith, nonzero-zero 0 refl)
count-first (n ∷ l) = refl

pub count-short : (l : List ℕ) → length l ≡ 0 → count_nonzero l ≡ 0
unfolding count_nonzero
count-short [] e = refl
count-short (n ∷ l) e = absurd (omega arith)

pub count_zeros : (l : List ℕ) → AllBelow 1 l → count_nonzero l ≡ 0
unfolding count_nonzero
count_zeros [] all = refl
count_zeros (n ∷ l) all = omega (arith, nonzero-zero n (omega (arith, all.0)), count_zeros l all.1)

-- ── frame by frame

-- one frame fewer
unused-step : (width n : ℕ) (s : List ℕ) → 0 < n
    → count_nonzero (unused_frames width n s) ≡ nonzero (unused_bits width (get_or s width 0)) + count_nonzero (unused_frames width (n - 1) (drop (width + 2) s))
unfolding unused_frames count_nonzero
unused-step width n s h = let e : n ≡ suc (n - 1) = omega arith in ap (λ (m : ℕ). count_nonzero (unused_frames width m s)) e

-- the same, from a place on
pub unused-next : (width n : ℕ) (s : List ℕ) (from : ℕ) → 0 < n
    → count_nonzero (unused_frames width n (drop from s))
    ≡ nonzero (unused_bits width (get_or s (from + width) 0)) + count_nonzero (unused_frames width (n - 1) (drop (from + (width + 2)) s))
unused-next width n s from h = unused-step width n (drop from s) h ∙ rw (get_or-drop, drop-drop)

-- a frame fewer, counted in bytes
pub frame-fewer : (width n : ℕ) → 0 < n → (width + 2) * n ≡ width + 2 + (width + 2) * (n - 1)
frame-fewer width n h = let e : n ≡ suc (n - 1) = omega arith in ap (λ (m : ℕ). (width + 2) * m) e ∙ omega (arith, mul-suc (width + 2) (n - 1))

-- ── by the kind

-- of the kind that a match found
pub unused-as : (s : List ℕ) (K : Kind) → kind s ≡ K → unused_septets_of s ≡ count_nonzero (unused_in K s)
unfolding unused_septets_of
unused-as s K e = ap (λ (x : Kind). count_nonzero (unused_in x s)) e

pub packet-counted : (s : List ℕ) → kind s ≡ Packet → count_nonzero (unused_frames 4 (get_or s 8 0) (drop 10 s)) ≡ unused_septets_of s
unfolding unused_in block_width header_length frame_count
packet-counted s e = sym (unused-as s Packet e)

pub datagram-counted : (s : List ℕ) → kind s ≡ Datagram → nonzero (unused_bits 6 (get_or s 14 0)) ≡ unused_septets_of s
unfolding unused_in block_width count_nonzero
datagram-counted s e = sym (add-zero _) ∙ sym (unused-as s Datagram e)

pub telegram-counted : (s : List ℕ) → kind s ≡ Telegram → count_nonzero (unused_frames 7 (telegram_frames (get_or s 6 0)) (drop 8 s)) ≡ unused_septets_of s
unfolding unused_in block_width header_length frame_count
telegram-counted s e = sym (unused-as s Telegram e)
