-- What is whole can be written: its record is writable and, with its unused septet bits, is the bytes that it was read from.
use Prim.Native.Nat.{ℕ, zero, suc, ◌+◌, ◌*◌, ◌/◌, ◌%◌, ◌^◌, ◌<◌, ◌≤◌}
use native.Mathlib.Omega.{arith}
use mathlib.Core.Path.{◌≡◌, refl, sym, ap, ap₂, subst, ◌∙◌}
use mathlib.Core.Bool.{false, true≢false}
use mathlib.Core.List.{List, [], ◌∷◌, ◌++◌, append-nil}
use lib.ListN.{length, get_or, take, drop, length-drop}
use lib.Seq.{drop-cons, get_or-drop, drop-drop, take-add, length-take-le}
use Rattle.basics.specs.Bytes.{AllBelow}
use Rattle.basics.specs.Words.{word_bytes}
use Rattle.basics.proofs.Bytes.{take_below}
use Rattle.checksum.specs.Checksum.{checksum_of}
use Rattle.septet.specs.Septet.{with_top_bits, unused_bits}
use Rattle.septet.proofs.Laws.{length-with_top_bits, with_top_bits-below, unused-below}
use Rattle.stream.specs.Layout.{kind, header_length, frame_width, frame_count, length_as, payload_length_of, telegram_frames}
use Rattle.stream.specs.Unused.{block_width, block_count, unused_in}
use Rattle.stream.specs.Validation.{validation_of}
use Rattle.stream.specs.declared.Kind.{Kind}
use Rattle.stream.specs.declared.Kind.TheVariants.{Packet, Datagram, Telegram, Unknown}
use Rattle.stream.proofs.Headers.{header_length-least, length-as}
use Rattle.stream.proofs.Reached.{whole-clean, whole-counted}
use Rattle.stream.proofs.UnusedSeptets.{unused-as, count_zeros}
use Rattle.stream.proofs.Whole.{WholeAs, FrameSum, whole-of-clean, drop-frame}
use Rattle.record.specs.Encode.{is_unknown, InRange, Writable}
use Rattle.record.specs.Record.{with_checksum, with_septet, framed, unframed, frames_of, frames_in, address_bytes, kind_bytes, stream_as, stream_with, stream_of, record_as, record_of, command_in, payload_in, UnusedAs, UnusedFor}
use Rattle.record.proofs.Carried.{Carried, CommandLow, carried-length, carried-writable}
use Rattle.record.proofs.Frames.{take_next, with_septet-again, with_septet-rewritten, unframed-length, unframed-below, framed-unframed, unused-length, unused-small}

-- ── the payload

-- it is as long as the header says
pub payload-sized : (K : Kind) (s : List ℕ) → length_as K s ≤ length s → length (payload_in K s) ≡ payload_length_of K (frame_count K s)
unfolding payload_in payload_length_of header_length frame_width
payload-sized Packet s held = unframed-length 4 (frame_count Packet s) (drop 10 s) (omega (arith, length-drop 10 s))
payload-sized Datagram s held =
    length-with_top_bits (get_or s 14 0) (take 6 (drop 8 s)) ∙ length-take-le 6 (drop 8 s) (omega (arith, length-drop 8 s))
payload-sized Telegram s held = unframed-length 7 (frame_count Telegram s) (drop 8 s) (omega (arith, length-drop 8 s))
payload-sized Unknown s held = refl

payload-below : (K : Kind) (s : List ℕ) → AllBelow 256 (payload_in K s)
unfolding payload_in
payload-below Packet s = unframed-below 4 (frame_count Packet s) (drop 10 s)
payload-below Datagram s = with_top_bits-below (get_or s 14 0) (take 6 (drop 8 s))
payload-below Telegram s = unframed-below 7 (frame_count Telegram s) (drop 8 s)
payload-below Unknown s = tt

-- as many frames are written as were announced
counted : (K : Kind) (s : List ℕ) → length_as K s ≤ length s → frames_in K (record_as K s) ≡ frame_count K s
unfolding payload_length_of frame_count frames_of command_in
counted Packet s held = omega (arith, payload-sized Packet s held)
counted Datagram s held = refl
counted Telegram s held = refl
counted Unknown s held = refl

-- ── what is read can be carried

module _ (K : Kind) (s : List ℕ) (whole : WholeAs K s) where
  header-low : (k : ℕ) → 0 < k → k < header_length K → get_or s k 0 < 128
  header-low k pos h = whole.low k pos (omega arith)

  address-low : (k : ℕ) → 0 < k → k < 6 → get_or s k 0 < 128
  address-low k pos h = header-low k pos (omega (arith, header_length-least K))

  frames-low : (k : ℕ) → k < (frame_width K + 2) * frame_count K s → get_or (drop (header_length K) s) k 0 < 128
  frames-low k h = rw (get_or-drop (header_length K) s k 0) (whole.low (header_length K + k) (omega (arith, header_length-least K)) (omega arith))

  frames-right : (f : ℕ) → f < frame_count K s → FrameSum (frame_width K) (drop (header_length K) s) ((frame_width K + 2) * f)
  frames-right f h = drop-frame (frame_width K) s (header_length K) ((frame_width K + 2) * f) (whole.frames f h)

  frames-held : length_as K s ≤ length s → (frame_width K + 2) * frame_count K s ≤ length (drop (header_length K) s)
  frames-held held = omega (arith, length-drop (header_length K) s)

known_as : (K : Kind) (s : List ℕ) → WholeAs K s → is_unknown K ≡ false
known_as Packet s whole = refl
known_as Datagram s whole = refl
known_as Telegram s whole = refl
known_as Unknown s whole = absurd whole.sum

command-as : (K : Kind) (s : List ℕ) → WholeAs K s → CommandLow K (command_in K s)
unfolding command_in header_length
command-as Packet s whole =
    omega (arith, header-low Packet s whole 6 (omega arith) (omega arith), header-low Packet s whole 7 (omega arith) (omega arith))
command-as Datagram s whole =
    omega (arith, header-low Datagram s whole 6 (omega arith) (omega arith), header-low Datagram s whole 7 (omega arith) (omega arith))
command-as Telegram s whole = header-low Telegram s whole 6 (omega arith) (omega arith)
command-as Unknown s whole = tt

pub few-as : (K : Kind) (s : List ℕ) → WholeAs K s → frame_count K s ≤ 127
unfolding frame_count header_length
few-as Packet s whole = omega (arith, header-low Packet s whole 8 (omega arith) (omega arith))
few-as Datagram s whole = omega arith
few-as Telegram s whole = omega arith
few-as Unknown s whole = omega arith

carried-as : (K : Kind) (s : List ℕ) → WholeAs K s → length_as K s ≤ length s → Carried K (record_as K s)
carried-as K s whole held =
    let count = counted K s held in
    record {
      known = known_as K s whole;
      destination = omega (arith, address-low K s whole 1 (omega arith) (omega arith), address-low K s whole 2 (omega arith) (omega arith));
      source = omega (arith, address-low K s whole 3 (omega arith) (omega arith), address-low K s whole 4 (omega arith) (omega arith));
      command = command-as K s whole;
      few = omega (arith, few-as K s whole);
      sized = payload-sized K s held ∙ ap (payload_length_of K) (sym count);
    }

range-command : (K : Kind) (command : ℕ) → is_unknown K ≡ false → CommandLow K command → command < 2 ^ 16
range-command Packet command known low = omega arith
range-command Datagram command known low = omega arith
range-command Telegram command known low = omega arith
range-command Unknown command known low = absurd (true≢false known)

range-as : (K : Kind) (s : List ℕ) → WholeAs K s → InRange (record_as K s)
range-as K s whole =
    let byte = address-low K s whole in
    record {
      version = omega (arith, byte 5 (omega arith) (omega arith));
      destination = omega (arith, byte 1 (omega arith) (omega arith), byte 2 (omega arith) (omega arith));
      source = omega (arith, byte 3 (omega arith) (omega arith), byte 4 (omega arith) (omega arith));
      command = range-command K (command_in K s) (known_as K s whole) (command-as K s whole);
      payload = payload-below K s;
    }

-- the parts of a whole stretch
pub record Parts (s : List ℕ) : Type 0 where
  pub whole : WholeAs (kind s) s
  pub held : length_as (kind s) s ≤ length s
  pub sized : (validation_of s).offset ≡ length_as (kind s) s

module _ (s : List ℕ) (w : (validation_of s).verdict ≡ 0) where
  pub whole_parts : Parts s
  whole_parts =
      let c = whole-clean s w in
      let e = length-as s (kind s) refl in
      record { whole = whole-of-clean s c.clean; held = omega (arith, c.held); sized = c.offset ∙ e }

  pub whole-writable : Writable (record_of s)
  unfolding record_of
  whole-writable =
      carried-writable (record_as (kind s) s) (range-as (kind s) s whole_parts.whole) (carried-as (kind s) s whole_parts.whole whole_parts.held)

  -- what is written for it is as long
  pub whole_length : length (stream_of (record_of s)) ≡ (validation_of s).offset
  unfolding record_of stream_of stream_with
  whole_length =
      carried-length (kind s) [] (record_as (kind s) s) (carried-as (kind s) s whole_parts.whole whole_parts.held)
      ∙ ap (λ (f : ℕ). header_length (kind s) + (frame_width (kind s) + 2) * f) (counted (kind s) s whole_parts.held)
      ∙ sym whole_parts.sized

-- ── written again

-- n bytes from offset j, one by one
abbrev cells : List ℕ → ℕ → ℕ → List ℕ
cells s j zero = []
cells s j (suc n) = get_or s j 0 ∷ cells s (suc j) n

cells-take : (s : List ℕ) (j n : ℕ) → j + n ≤ length s → take n (drop j s) ≡ cells s j n
cells-take s j zero h = refl
cells-take s j (suc n) h =
    let here : j < length s = omega arith in
    rw (drop-cons s j 0 here) (ap {B = List ℕ} (λ l. get_or s j 0 ∷ l) (cells-take s (suc j) n (omega arith)))

word-again : (a b : ℕ) → a < 128 → word_bytes (a + 256 * b) ≡ a ∷ b ∷ []
word-again a b h =
    let low : (a + 256 * b) % 256 ≡ a = omega arith in
    let high : (a + 256 * b) / 256 ≡ b = omega arith in
    rw (low, high)

address-again : (K : Kind) (s : List ℕ) → WholeAs K s → address_bytes (record_as K s).header ≡ cells s 1 5
address-again K s whole =
    ap₂ (λ (d : List ℕ) (e : List ℕ). d ++ (e ++ (get_or s 5 0 ∷ [])))
    (word-again (get_or s 1 0) (get_or s 2 0) (address-low K s whole 1 (omega arith) (omega arith)))
    (word-again (get_or s 3 0) (get_or s 4 0) (address-low K s whole 3 (omega arith) (omega arith)))

join : (s : List ℕ) (j n m : ℕ) → take n (drop j s) ++ take m (drop (j + n) s) ≡ take (n + m) (drop j s)
join s j n m = rw (← drop-drop n j s) (sym (take-add n m (drop j s)))

-- offset 6 up to the checksum, and the checksum
record KindAgain (K : Kind) (s : List ℕ) : Type 0 where
  size : ℕ
  sized : size + 7 ≡ header_length K
  bytes : kind_bytes K (unused_in K s) (record_as K s) ≡ take size (drop 6 s)
  sum : get_or s (6 + size) 0 ≡ checksum_of (take (5 + size) (drop 1 s))

kind-again : (K : Kind) (s : List ℕ) → WholeAs K s → length_as K s ≤ length s → KindAgain K s
unfolding header_length kind_bytes unused_in block_width command_in payload_in frame_count frame_width
kind-again Packet s whole held =
    let word = word-again (get_or s 6 0) (get_or s 7 0) (header-low Packet s whole 6 (omega arith) (omega arith)) in
    record {
      size = 3;
      sized = refl;
      bytes = ap₂ (λ (l : List ℕ) (n : ℕ). l ++ (n ∷ [])) word (counted Packet s held) ∙ sym (cells-take s 6 3 (omega arith));
      sum = whole.sum;
    }
kind-again Datagram s whole held =
    let word = word-again (get_or s 6 0) (get_or s 7 0) (header-low Datagram s whole 6 (omega arith) (omega arith)) in
    let low : AllBelow 128 (take 6 (drop 8 s)) =
    take_below 128 6 (drop 8 s) (λ i h. rw (get_or-drop 8 s i 0) (header-low Datagram s whole (8 + i) (omega arith) (omega arith))) in
    let block : with_septet (unused_bits 6 (get_or s 14 0)) (with_top_bits (get_or s 14 0) (take 6 (drop 8 s))) ≡ take 7 (drop 8 s) =
    rw (get_or-drop 8 s 6 0) at (with_septet-again 6 (drop 8 s) (omega (arith, length-drop 8 s)) low) in
    record {
      size = 9;
      sized = refl;
      bytes = ap₂ ◌++◌ (word ∙ sym (cells-take s 6 2 (omega arith))) block ∙ join s 6 2 7;
      sum = whole.sum;
    }
kind-again Telegram s whole held =
    record { size = 1; sized = refl; bytes = sym (cells-take s 6 1 (omega arith)); sum = whole.sum }
kind-again Unknown s whole held = absurd whole.sum

header-again : (K : Kind) (s : List ℕ) → WholeAs K s → length_as K s ≤ length s
    → 0xAA ∷ with_checksum (address_bytes (record_as K s).header ++ kind_bytes K (unused_in K s) (record_as K s)) ≡ take (header_length K) s
header-again K s whole held =
    let k = kind-again K s whole held in
    let n = 5 + k.size in
    let body : address_bytes (record_as K s).header ++ kind_bytes K (unused_in K s) (record_as K s) ≡ take n (drop 1 s) =
    ap₂ ◌++◌ (address-again K s whole ∙ sym (cells-take s 1 5 (omega (arith, header_length-least K)))) k.bytes ∙ join s 1 5 k.size in
    let place : 1 + n ≡ 6 + k.size = omega arith in
    let sum : get_or (drop 1 s) n 0 ≡ checksum_of (take n (drop 1 s)) = rw (get_or-drop 1 s n 0, place) k.sum in
    let behind : with_checksum (take n (drop 1 s)) ≡ take (n + 1) (drop 1 s) =
    rw (← sum) (sym (take_next (drop 1 s) n (omega (arith, length-drop 1 s, k.sized)))) in
    let first : 0xAA ∷ [] ≡ take 1 (drop 0 s) = sym (rw (cells-take s 0 1 (omega (arith, k.sized)), whole.sync)) in
    let all : 1 + (n + 1) ≡ header_length K = omega (arith, k.sized) in
    ap₂ ◌++◌ first (ap with_checksum body ∙ behind) ∙ join s 0 1 (n + 1) ∙ ap (λ (i : ℕ). take i s) all

counted-again : (K : Kind) (s : List ℕ) → WholeAs K s → length_as K s ≤ length s
    → framed (frame_width K) (frame_count K s) (unused_in K s) (payload_in K s) ≡ take ((frame_width K + 2) * frame_count K s) (drop (header_length K) s)
unfolding header_length payload_in frame_count frame_width framed unused_in block_width
counted-again Packet s whole held =
    framed-unframed 4 (get_or s 8 0) (drop 10 s) (frames-held Packet s whole held) (frames-low Packet s whole) (frames-right Packet s whole)
counted-again Datagram s whole held = refl
counted-again Telegram s whole held =
    framed-unframed 7 (telegram_frames (get_or s 6 0)) (drop 8 s) (frames-held Telegram s whole held) (frames-low Telegram s whole) (frames-right Telegram s whole)
counted-again Unknown s whole held = absurd whole.sum

frames-again : (K : Kind) (s : List ℕ) → WholeAs K s → length_as K s ≤ length s
    → framed (frame_width K) (frames_in K (record_as K s)) (unused_in K s) (payload_in K s) ≡ take ((frame_width K + 2) * frame_count K s) (drop (header_length K) s)
frames-again K s whole held = ap (λ (f : ℕ). framed (frame_width K) f (unused_in K s) (payload_in K s)) (counted K s held) ∙ counted-again K s whole held

stream-again : (K : Kind) (s : List ℕ) → WholeAs K s → length_as K s ≤ length s → stream_as K (unused_in K s) (record_as K s) ≡ take (length_as K s) s
unfolding stream_as
stream-again K s whole held =
    ap₂ ◌++◌ (header-again K s whole held) (frames-again K s whole held) ∙ sym (take-add (header_length K) ((frame_width K + 2) * frame_count K s) s)

-- a number for each block, and each fits
unused-fits : (K : Kind) (s : List ℕ) → WholeAs K s → length_as K s ≤ length s → UnusedAs K (unused_in K s) (record_as K s)
unfolding header_length frame_width unused_in block_width block_count
unused-fits Packet s whole held =
    record {
      few = omega (arith, unused-length 4 (frame_count Packet s) (drop 10 s), counted Packet s held);
      small = unused-small 4 (frame_count Packet s) (drop 10 s) (omega arith) (frames-low Packet s whole);
    }
unused-fits Datagram s whole held =
    record { few = omega arith; small = (unused-below 6 (get_or s 14 0) (omega arith) (header-low Datagram s whole 14 (omega arith) (omega arith)), tt) }
unused-fits Telegram s whole held =
    record {
      few = omega (arith, unused-length 7 (frame_count Telegram s) (drop 8 s), counted Telegram s held);
      small = unused-small 7 (frame_count Telegram s) (drop 8 s) (omega arith) (frames-low Telegram s whole);
    }
unused-fits Unknown s whole held = record { few = omega arith; small = tt }

module _ (s : List ℕ) (w : (validation_of s).verdict ≡ 0) where
  -- a whole stream is that of its record, with its unused septet bits
  pub whole_again : stream_with (unused_in (kind s) s) (record_of s) ≡ take (validation_of s).offset s
  unfolding record_of stream_with
  whole_again =
      let parts = whole_parts s w in
      stream-again (kind s) s parts.whole parts.held ∙ ap (λ (n : ℕ). take n s) (sym parts.sized)

  pub whole-unused : UnusedFor (unused_in (kind s) s) (record_of s)
  unfolding record_of
  whole-unused = let parts = whole_parts s w in unused-fits (kind s) s parts.whole parts.held

-- ── written without its unused septet bits

packet-rewritten : (s : List ℕ) → WholeAs Packet s → length_as Packet s ≤ length s
    → stream_as Packet [] (record_as Packet s) ≡ take 10 s ++ framed 4 (get_or s 8 0) [] (unframed 4 (get_or s 8 0) (drop 10 s))
unfolding stream_as header_length frame_width kind_bytes payload_in frame_count
packet-rewritten s whole held =
    ap₂ ◌++◌ (header-again Packet s whole held) (ap (λ (f : ℕ). framed 4 f [] (payload_in Packet s)) (counted Packet s held))

datagram-rewritten : (s : List ℕ) → WholeAs Datagram s → length_as Datagram s ≤ length s
    → stream_as Datagram [] (record_as Datagram s) ≡ 0xAA ∷ with_checksum (take 13 (drop 1 s) ++ (get_or s 14 0 % 64 ∷ []))
unfolding stream_as header_length frame_width frames_of framed kind_bytes command_in payload_in frame_count
datagram-rewritten s whole held =
    let word = word-again (get_or s 6 0) (get_or s 7 0) (header-low Datagram s whole 6 (omega arith) (omega arith)) in
    let low : AllBelow 128 (take 6 (drop 8 s)) =
    take_below 128 6 (drop 8 s) (λ i h. rw (get_or-drop 8 s i 0) (header-low Datagram s whole (8 + i) (omega arith) (omega arith))) in
    let six : length (take 6 (drop 8 s)) ≡ 6 = length-take-le 6 (drop 8 s) (omega (arith, length-drop 8 s)) in
    let block : with_septet 0 (with_top_bits (get_or s 14 0) (take 6 (drop 8 s))) ≡ take 6 (drop 8 s) ++ (get_or s 14 0 % 64 ∷ []) =
    rw six at (with_septet-rewritten (get_or s 14 0) (take 6 (drop 8 s)) low) in
    let before : address_bytes (record_as Datagram s).header ++ (word_bytes (get_or s 6 0 + 256 * get_or s 7 0) ++ take 6 (drop 8 s)) ≡ take 13 (drop 1 s) =
    ap₂ ◌++◌ (address-again Datagram s whole ∙ sym (cells-take s 1 5 (omega arith))) (ap (λ (l : List ℕ). l ++ take 6 (drop 8 s)) (word ∙ sym (cells-take s 6 2 (omega arith))) ∙ join s 6 2 6)
    ∙ join s 1 5 8 in
    rw (append-nil, block, ← before)

-- the parts of a whole stretch of a kind
parts-as : (s : List ℕ) → (validation_of s).verdict ≡ 0 → (K : Kind) → kind s ≡ K → WholeAs K s × (length_as K s ≤ length s)
parts-as s w K e = subst (λ (K : Kind). WholeAs K s × (length_as K s ≤ length s)) e ((whole_parts s w).whole, (whole_parts s w).held)

module _ (s : List ℕ) (w : (validation_of s).verdict ≡ 0) where
  stream-as : (K : Kind) → kind s ≡ K → stream_of (record_of s) ≡ stream_as K [] (record_as K s)
  unfolding record_of stream_of stream_with
  stream-as K e = ap (λ (K : Kind). stream_as K [] (record_as K s)) e

  pub packet-again : kind s ≡ Packet → stream_of (record_of s) ≡ take 10 s ++ framed 4 (get_or s 8 0) [] (unframed 4 (get_or s 8 0) (drop 10 s))
  packet-again e = let (whole, held) = parts-as s w Packet e in stream-as Packet e ∙ packet-rewritten s whole held

  pub datagram-again : kind s ≡ Datagram → stream_of (record_of s) ≡ 0xAA ∷ with_checksum (take 13 (drop 1 s) ++ (get_or s 14 0 % 64 ∷ []))
  datagram-again e = let (whole, held) = parts-as s w Datagram e in stream-as Datagram e ∙ datagram-rewritten s whole held

  -- the septet of a telegram's frame has no unused bit
  pub telegram-unused : kind s ≡ Telegram → (validation_of s).unused_septets ≡ 0
  unfolding block_width
  telegram-unused e =
      let (whole, held) = parts-as s w Telegram e in
      whole-counted s w ∙ unused-as s Telegram e ∙ count_zeros (unused_in Telegram s) (unused-fits Telegram s whole held).small
