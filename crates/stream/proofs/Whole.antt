-- A whole stream by its parts: no offset has a fault exactly if the sync byte, the low bytes, the header and each frame are right.
use Prim.Native.Nat.{ℕ, ◌+◌, ◌-◌, ◌*◌, ◌/◌, ◌%◌, ◌<◌, ◌≤◌}
use native.Mathlib.Omega.{arith}
use native.Mathlib.Nat.{mul-suc, mul_comm, mul-le-mul_left, mod-lt, div-add-mod, div-lt_iff_lt-mul, eq-zero-or-pos, add_assoc}
use native.Mathlib.Decide.{dec_lt}
use mathlib.Core.Path.{◌≡◌, refl, sym, ◌∙◌}
use mathlib.Core.Bool.{true}
use mathlib.Core.Logic.{⊎_elim, dite}
use mathlib.Core.List.{List}
use lib.Dec.{eqb}
use lib.ListN.{get_or, take, drop}
use lib.Seq.{get_or-drop, drop-drop}
use borrow.Author.Tests.{eqb-true}
use Rattle.basics.specs.Choice.{choose}
use Rattle.basics.proofs.Choice.{choose-by}
use Rattle.checksum.specs.Checksum.{checksum_of}
use Rattle.stream.specs.Layout.{kind_of, kind, header_length, frame_width, frame_count, length_as, stream_length}
use Rattle.stream.specs.Validation.{Rule, frame_rule, header_rule, rule_at, breach, fault_at}
use Rattle.stream.specs.Stage.{Clean}
use Rattle.stream.specs.declared.Kind.{Kind}
use Rattle.stream.specs.declared.Kind.TheVariants.{Packet, Datagram, Telegram, Unknown}
use Rattle.stream.proofs.Faults.{frame_base, rule-header, rule-frame, place-any, place-sum, by_place, unknown-held, header_sum-right, header_sum-held, frame_sum-right, frame_sum-held, sync-right, sync-held, fault-low, low_held, breach-any}
use Rattle.stream.proofs.Headers.{header_length-least}

-- ── the header

-- the header's checksum is right
abbrev pub HeaderSum : Kind → List ℕ → Type 0
HeaderSum Packet s = get_or s 9 0 ≡ checksum_of (take 8 (drop 1 s))
HeaderSum Datagram s = get_or s 15 0 ≡ checksum_of (take 14 (drop 1 s))
HeaderSum Telegram s = get_or s 7 0 ≡ checksum_of (take 6 (drop 1 s))
HeaderSum Unknown s = ⊥

header-right : (K : Kind) (s : List ℕ) → ((k : ℕ) → 0 < k → k < header_length K → breach (header_rule K k) s k ≡ 0) → HeaderSum K s
unfolding header_length header_rule choose
header-right Packet s clean = header_sum-held 8 s 9 (clean 9 (omega arith) (omega arith))
header-right Datagram s clean = header_sum-held 14 s 15 (clean 15 (omega arith) (omega arith))
header-right Telegram s clean = header_sum-held 6 s 7 (clean 7 (omega arith) (omega arith))
header-right Unknown s clean = absurd (unknown-held s 5 (clean 5 (omega arith) (omega arith)))

header-clean : (K : Kind) (s : List ℕ) → HeaderSum K s → (k : ℕ) → breach (header_rule K k) s k ≡ 0
unfolding header_rule
header-clean Packet s sum k =
    choose-by (λ (r : Rule). breach r s k ≡ 0) _ (λ e. rw (eqb-true k 9 e) (header_sum-right 8 s 9 sum)) (λ e. breach-any _ s k refl)
header-clean Datagram s sum k =
    choose-by (λ (r : Rule). breach r s k ≡ 0) _ (λ e. rw (eqb-true k 15 e) (header_sum-right 14 s 15 sum)) (λ e. breach-any _ s k refl)
header-clean Telegram s sum k =
    choose-by (λ (r : Rule). breach r s k ≡ 0) _ (λ e. rw (eqb-true k 7 e) (header_sum-right 6 s 7 sum)) (λ e. breach-any _ s k refl)
header-clean Unknown s sum k = absurd sum

-- ── a frame

-- its checksum is right
abbrev pub FrameSum : ℕ → List ℕ → ℕ → Type 0
FrameSum width s base = get_or s (base + (width + 1)) 0 ≡ checksum_of (take (width + 1) (drop base s))

frame_right : (width : ℕ) (s : List ℕ) (base : ℕ) → ((i : ℕ) → i < width + 2 → breach (frame_rule width i) s (base + i) ≡ 0) → FrameSum width s base
frame_right width s base clean = frame_sum-held width s base (rw (place-sum width) at (clean (width + 1) (omega arith)))

frame-clean : (width : ℕ) (s : List ℕ) (base : ℕ) → FrameSum width s base → (i : ℕ) → i < width + 2 → breach (frame_rule width i) s (base + i) ≡ 0
frame-clean width s base right =
    by_place (λ (i : ℕ). breach (frame_rule width i) s (base + i) ≡ 0) width
    (λ i inside. breach-any _ s (base + i) (place-any width i inside))
    (rw place-sum (frame_sum-right width s base right))

-- ── the stream

-- the parts of a stream that is read as one of a kind
pub record WholeAs (K : Kind) (s : List ℕ) : Type 0 where
  pub sync : get_or s 0 0 ≡ 0xAA
  pub low : (k : ℕ) → 0 < k → k < length_as K s → get_or s k 0 < 0x80
  pub sum : HeaderSum K s
  pub frames : (f : ℕ) → f < frame_count K s → FrameSum (frame_width K) s (frame_base K f)

abbrev pub WholeStream : List ℕ → Type 0
WholeStream s = WholeAs (kind s) s

-- a place of frame f is one of the stream
frame-within : (s : List ℕ) (f i : ℕ) → f < frame_count (kind s) s → i < frame_width (kind s) + 2 → frame_base (kind s) f + i < stream_length s
unfolding stream_length
frame-within s f i hf hi =
    omega (arith, mul-suc (frame_width (kind s) + 2) f, mul-le-mul_left (frame_width (kind s) + 2) hf)

header-within : (s : List ℕ) (k : ℕ) → k < header_length (kind s) → k < stream_length s
unfolding stream_length
header-within s k h = omega arith

-- each offset behind the header is a place of a frame
record Place (s : List ℕ) (k : ℕ) : Type 0 where
  frame : ℕ
  place : ℕ
  framed : frame < frame_count (kind s) s
  placed : place < frame_width (kind s) + 2
  there : k ≡ frame_base (kind s) frame + place

frame-place : (s : List ℕ) (k : ℕ) → header_length (kind s) ≤ k → k < stream_length s → Place s k
unfolding stream_length
frame-place s k behind h =
    let w = frame_width (kind s) + 2 in
    let d = k - header_length (kind s) in
    let pos : 0 < w = omega arith in
    let short : d < frame_count (kind s) s * w = omega (arith, mul_comm (frame_count (kind s) s) w) in
    record {
      frame = d / w;
      place = d % w;
      framed = (div-lt_iff_lt-mul pos).1 short;
      placed = mod-lt d pos;
      there = omega (arith, div-add-mod d w);
    }

pub whole-of-clean : (s : List ℕ) → Clean (fault_at s) (stream_length s) → WholeStream s
unfolding stream_length
whole-of-clean s clean =
    let K = kind s in
    let low : (k : ℕ) → 0 < k → k < stream_length s → get_or s k 0 < 0x80 = λ k pos h. low_held s k pos (clean k h) in
    let kept : (k : ℕ) → 0 < k → k < stream_length s → breach (rule_at (kind s) k) s k ≡ 0 =
    λ k pos h. sym (fault-low s k pos (low k pos h)) ∙ clean k h in
    let header = header-right K s (λ k pos h. rw (rule-header K k h) at (kept k pos (header-within s k h))) in
    record {
      sync = sync-held s (clean 0 (header-within s 0 (omega (arith, header_length-least (kind s)))));
      low = low;
      sum = header;
      frames = λ f hf. frame_right (frame_width K) s (frame_base K f) (λ i hi. rw (rule-frame K f i hi) at (kept (frame_base K f + i) (omega (arith, header_length-least (kind s))) (frame-within s f i hf hi)));
    }

pub clean-of-whole : (s : List ℕ) → WholeStream s → Clean (fault_at s) (stream_length s)
unfolding stream_length
clean-of-whole s whole k h =
    ⊎_elim (λ e. rw e (sync-right s whole.sync)) (λ pos. fault-low s k pos (whole.low k pos h) ∙ inside) (eq-zero-or-pos k)
  where
    inside : breach (rule_at (kind s) k) s k ≡ 0
    inside =
        dite (dec_lt k (header_length (kind s)))
        (λ l. rw (rule-header (kind s) k l) (header-clean (kind s) s whole.sum k))
        (λ l.
        let p = frame-place s k (omega arith) h in
        rw (p.there, rule-frame (kind s) p.frame p.place p.placed)
        (frame-clean (frame_width (kind s)) s (frame_base (kind s) p.frame) (whole.frames p.frame p.framed) p.place p.placed))

-- ── a frame of what is left of a stream

pub frame-drop : (width : ℕ) (s : List ℕ) (base k : ℕ) → FrameSum width (drop base s) k → FrameSum width s (base + k)
frame-drop width s base k right = rw (add_assoc base k (width + 1), ← get_or-drop base s, ← drop-drop k base s) right

pub drop-frame : (width : ℕ) (s : List ℕ) (base k : ℕ) → FrameSum width s (base + k) → FrameSum width (drop base s) k
drop-frame width s base k right = rw (get_or-drop, drop-drop, ← add_assoc base k (width + 1)) right

-- ── kinds

pub known-below : (version : ℕ) → (kind_of version ≡ Unknown → ⊥) → version < 0x80
unfolding kind_of
known-below version =
    choose-by Known _ (low _ (omega arith))
    (λ d. choose-by Known _ (low _ (omega arith))
    (λ d. choose-by Known _ (low _ (omega arith))
    (λ d. choose-by Known _ (low _ (omega arith)) (λ e h. absurd (h refl)))))
  where
    Known : Kind → Type 0
    Known K = (K ≡ Unknown → ⊥) → version < 0x80

    low : {K : Kind} (n : ℕ) → n < 0x80 → eqb version n ≡ true → Known K
    low n small e h = let same = eqb-true version n e in omega arith
