-- What is written reads back: demand 2 on lists.
use Prim.Native.Nat.{ℕ, zero, suc, ◌+◌, ◌*◌, ◌/◌, ◌%◌, ◌<◌, ◌≤◌, zero-le}
use native.Mathlib.Omega.{arith}
use mathlib.Core.Path.{◌≡◌, refl, sym, ap, ap₂, subst, ◌∙◌}
use mathlib.Core.Bool.{true≢false}
use mathlib.Core.Logic.{◌↔◌}
use mathlib.Core.List.{List, [], ◌∷◌, ◌++◌, append_assoc, append-nil}
use lib.ListN.{length, get_or, take, drop, length-append, length-drop, get_or-append, take-append-drop}
use lib.Seq.{drop_at, take_at, take-append_seam}
use Rattle.basics.specs.Bytes.{AllBelow}
use Rattle.basics.specs.Choice.{choose}
use Rattle.basics.specs.Words.{word_bytes}
use Rattle.basics.proofs.Bytes.{all_append, get_d-below}
use Rattle.checksum.specs.Checksum.{checksum_of}
use Rattle.septet.proofs.Laws.{septet_with-unused, with_top_bits-septet_with}
use Rattle.stream.specs.Layout.{kind, header_length, frame_width, frame_count, stream_length, payload_length_of}
use Rattle.stream.specs.Unused.{block_width, block_count, unused_in, nonzero, count_nonzero, unused_septets_of}
use Rattle.stream.specs.Validation.{validation_of}
use Rattle.stream.specs.declared.Validation.{Validation}
use Rattle.stream.specs.declared.Kind.{Kind}
use Rattle.stream.specs.declared.Kind.TheVariants.{Packet, Datagram, Telegram, Unknown}
use Rattle.stream.proofs.Headers.{length-as}
use Rattle.stream.proofs.Reached.{clean-whole, whole-counted}
use Rattle.stream.proofs.UnusedSeptets.{nonzero-none, count-first, count-short}
use Rattle.stream.proofs.Whole.{WholeStream, HeaderSum, frame-drop, clean-of-whole, known-below}
use Rattle.record.specs.Encode.{refusal, is_unknown, Writable}
use Rattle.record.specs.Record.{Record, with_checksum, with_septet, framed, frames_of, frames_in, address_bytes, kind_bytes, stream_as, stream_with, stream_of, record_of, command_in, payload_in, UnusedAs, UnusedFor}
use Rattle.record.proofs.Carried.{Carried, carried-length, kind_in, writable-carried, refusal-unwritable}
use Rattle.record.proofs.Frames.{with_septet-below, with_checksum-below, with_septet-septet, with_septet-low, with_checksum-block, with_checksum-sum, framed-below, framed-sum, framed-none, unframed-framed, unused-framed}
use Rattle.record.proofs.StreamParts.{length-with_septet, length-with_checksum}
use Rattle.record.proofs.WholeAgain.{whole-writable, whole_again, whole-unused}

-- ── what each kind writes

abbrev header_bytes : Kind → List ℕ → Record → List ℕ
header_bytes K u r = address_bytes r.header ++ kind_bytes K u r

-- the sync byte, the header and its checksum
header-sized : (K : Kind) (u : List ℕ) (r : Record) → Carried K r → suc (length (with_checksum (header_bytes K u r))) ≡ header_length K
unfolding kind_bytes header_length payload_length_of
header-sized Packet u r carried = refl
header-sized Datagram u r carried = omega (arith, length-with_checksum (header_bytes Datagram u r), length-with_septet (get_or u 0 0) r.payload, carried.sized)
header-sized Telegram u r carried = refl
header-sized Unknown u r carried = absurd (true≢false carried.known)

kind-below : (K : Kind) (u : List ℕ) (r : Record) → UnusedAs K u r → Carried K r → AllBelow 256 r.payload → AllBelow 128 (kind_bytes K u r)
unfolding kind_bytes payload_length_of block_width
kind-below Packet u r fits carried bytes = (carried.command.0, (carried.command.1, (omega (arith, carried.few), tt)))
kind-below Datagram u r fits carried bytes =
    let small = get_d-below 2 u fits.small (omega arith) 0 in
    (carried.command.0, (carried.command.1, with_septet-below (get_or u 0 0) r.payload 6 carried.sized (omega arith) small bytes))
kind-below Telegram u r fits carried bytes = (carried.command, tt)
kind-below Unknown u r fits carried bytes = tt

-- the payload holds the frames
enough : (K : Kind) (r : Record) → Carried K r → frame_width K * frames_in K r ≤ length r.payload
unfolding frame_width frames_of payload_length_of
enough Packet r carried = omega (arith, carried.sized)
enough Datagram r carried = omega arith
enough Telegram r carried = omega (arith, carried.sized)
enough Unknown r carried = omega arith

abbrev frames_bytes : Kind → List ℕ → Record → List ℕ
frames_bytes K u r = framed (frame_width K) (frames_in K r) u r.payload

frames-below : (K : Kind) (u : List ℕ) (r : Record) → UnusedAs K u r → Carried K r → AllBelow 256 r.payload → AllBelow 128 (frames_bytes K u r)
unfolding frame_width frames_of framed block_width
frames-below Packet u r fits carried bytes = framed-below 4 (frames_in Packet r) u r.payload (omega arith) fits.small bytes (enough Packet r carried)
frames-below Datagram u r fits carried bytes = tt
frames-below Telegram u r fits carried bytes = framed-below 7 (frames_in Telegram r) u r.payload (omega arith) fits.small bytes (enough Telegram r carried)
frames-below Unknown u r fits carried bytes = tt

known : (K : Kind) (r : Record) → Carried K r → K ≡ Unknown → ⊥
known K r carried e = true≢false (sym (ap is_unknown e) ∙ carried.known)

-- ── what is read there

-- the sync byte, the header, and what follows
abbrev begun : Kind → List ℕ → Record → List ℕ → List ℕ
begun K u r rest = 0xAA ∷ (with_checksum (header_bytes K u r) ++ rest)

module _ (u : List ℕ) (r : Record) (rest : List ℕ) where
  count-read : (K : Kind) → frame_count K (begun K u r rest) ≡ frames_in K r
  unfolding frame_count frames_of kind_bytes
  count-read Packet = refl
  count-read Datagram = refl
  count-read Telegram = refl
  count-read Unknown = refl

  sum-read : (K : Kind) → Carried K r → HeaderSum K (begun K u r rest)
  unfolding kind_bytes payload_length_of
  sum-read Packet carried = refl
  sum-read Datagram carried =
      let bytes14 : length (header_bytes Datagram u r) ≡ 14 = omega (arith, length-with_septet (get_or u 0 0) r.payload, carried.sized) in
      with_checksum-sum (header_bytes Datagram u r) rest 14 bytes14 ∙ ap checksum_of (sym (with_checksum-block (header_bytes Datagram u r) rest 14 bytes14))
  sum-read Telegram carried = refl
  sum-read Unknown carried = absurd (true≢false carried.known)

  command-read : (K : Kind) → Carried K r → command_in K (begun K u r rest) ≡ r.header.command
  unfolding kind_bytes command_in
  command-read Packet carried = omega arith
  command-read Datagram carried = omega arith
  command-read Telegram carried = refl
  command-read Unknown carried = absurd (true≢false carried.known)

module _ (u : List ℕ) (r : Record) (t : List ℕ) (bytes : AllBelow 256 r.payload) where
  payload-read : (K : Kind) → Carried K r → payload_in K (begun K u r (frames_bytes K u r ++ t)) ≡ r.payload
  unfolding payload_in kind_bytes frames_of frame_width frame_count payload_length_of
  payload-read Packet carried = unframed-framed 4 (frames_in Packet r) u r.payload t bytes carried.sized
  payload-read Datagram carried =
      rw (append_assoc, with_septet-septet r.payload _ 6 carried.sized, with_septet-low r.payload _ 6 carried.sized)
      (with_top_bits-septet_with (get_or u 0 0) r.payload bytes)
  payload-read Telegram carried = unframed-framed 7 (frames_in Telegram r) u r.payload t bytes carried.sized
  payload-read Unknown carried = absurd (true≢false carried.known)

  unused-read : (K : Kind) → UnusedAs K u r → Carried K r → count_nonzero (unused_in K (begun K u r (frames_bytes K u r ++ t))) ≡ count_nonzero u
  unfolding unused_in block_width block_count header_length count_nonzero kind_bytes frames_of frame_width frame_count payload_length_of
  unused-read Packet fits carried = unused-framed 4 (frames_in Packet r) u r.payload t bytes (enough Packet r carried) fits.few
  unused-read Datagram fits carried =
      rw (append_assoc, with_septet-septet r.payload _ 6 carried.sized, septet_with-unused (get_or u 0 0) r.payload bytes 6 carried.sized)
      (ap (λ (n : ℕ). nonzero (get_or u 0 0) + n) (sym (count-short (drop 1 u) (omega (arith, length-drop 1 u, fits.few)))) ∙ sym (count-first u))
  unused-read Telegram fits carried = unused-framed 7 (frames_in Telegram r) u r.payload t bytes (enough Telegram r carried) fits.few
  unused-read Unknown fits carried = absurd (true≢false carried.known)

-- ── the whole stream

behind-first : (a : ℕ) (l : List ℕ) (k : ℕ) → AllBelow 128 l → 0 < k → get_or (a ∷ l) k 0 < 128
behind-first a l zero low pos = absurd (omega arith)
behind-first a l (suc k) low pos = get_d-below 128 l low (omega arith) k

parts : (u : List ℕ) (r : Record) (t : List ℕ) → stream_with u r ++ t ≡ begun (kind_in r) u r (frames_bytes (kind_in r) u r ++ t)
unfolding stream_with stream_as
parts u r t = ap {B = List ℕ} (λ l. 0xAA ∷ l) (append_assoc (with_checksum (header_bytes (kind_in r) u r)) (frames_bytes (kind_in r) u r) t)

module _ (u : List ℕ) (r : Record) (w : Writable r) (fits : UnusedFor u r) where
  carried : Carried (kind_in r) r
  carried = writable-carried r w

  bytes : AllBelow 256 r.payload
  bytes = w.range.payload

  address_below : AllBelow 128 (address_bytes r.header)
  address_below = (
    carried.destination.0,
    (carried.destination.1, (carried.source.0, (carried.source.1, (known-below r.header.version (known (kind_in r) r carried), tt)))),
  )

  -- every byte after the first is below 0x80
  tail : (l : List ℕ) × (stream_with u r ≡ 0xAA ∷ l) × AllBelow 128 l
  unfolding stream_with stream_as
  tail =
      let header = header_bytes (kind_in r) u r in (
        with_checksum header ++ frames_bytes (kind_in r) u r,
        refl,
        all_append 128 (with_checksum header) (frames_bytes (kind_in r) u r)
            (with_checksum-below header (all_append 128 (address_bytes r.header) (kind_bytes (kind_in r) u r) address_below (kind-below (kind_in r) u r fits carried bytes)))
            (frames-below (kind_in r) u r fits carried bytes),
      )

  low : (k : ℕ) → 0 < k → get_or (stream_with u r) k 0 < 128
  low k pos = rw tail.1 (behind-first 0xAA tail.0 k tail.2 pos)

  announced : (t : List ℕ) → stream_length (stream_with u r ++ t) ≡ length (stream_with u r)
  unfolding stream_with stream_as stream_length
  announced t = rw (parts u r t, count-read u r (frames_bytes (kind_in r) u r ++ t) (kind_in r)) (sym (carried-length (kind_in r) u r carried))

  whole : (t : List ℕ) → WholeStream (stream_with u r ++ t)
  whole t =
      record {
        sync = rw (parts u r t);
        low = λ k pos h.
            let inside : k < length (stream_with u r) = omega (arith, announced t, length-as (stream_with u r ++ t) _ refl) in
            rw (get_or-append (stream_with u r) t 0 k inside) (low k pos);
        sum = rw (parts u r t) (sum-read u r (frames_bytes (kind_in r) u r ++ t) (kind_in r) carried);
        frames = rw (parts u r t) (λ f h.
            frame-drop (frame_width (kind_in r)) (begun (kind_in r) u r (frames_bytes (kind_in r) u r ++ t)) (header_length (kind_in r)) ((frame_width (kind_in r) + 2) * f)
            (rw (drop_at (0xAA ∷ with_checksum (header_bytes (kind_in r) u r)) (frames_bytes (kind_in r) u r ++ t) (header_length (kind_in r)) (header-sized (kind_in r) u r carried))
            (framed-sum (frame_width (kind_in r)) (frames_in (kind_in r) r) u r.payload t (enough (kind_in r) r carried) f
            (rw (count-read u r (frames_bytes (kind_in r) u r ++ t) (kind_in r)) at h))));
      }

  counted : (t : List ℕ) → unused_septets_of (stream_with u r ++ t) ≡ count_nonzero u
  unfolding unused_septets_of
  counted t = rw (parts u r t) (unused-read u r t bytes (kind_in r) fits carried)

  verdict : (t : List ℕ) → validation_of (stream_with u r ++ t) ≡ record { verdict = 0; offset = length (stream_with u r); unused_septets = count_nonzero u }
  unfolding choose
  verdict t =
      let held : stream_length (stream_with u r ++ t) ≤ length (stream_with u r ++ t) = omega (arith, announced t, length-append (stream_with u r) t) in
      clean-whole (stream_with u r ++ t) (clean-of-whole (stream_with u r ++ t) (whole t)) held ∙ rw (announced t, counted t)

  contents : (t : List ℕ) → record_of (stream_with u r ++ t) ≡ r
  unfolding record_of
  contents t =
      let destination : r.header.destination % 256 + 256 * (r.header.destination / 256) ≡ r.header.destination = omega arith in
      let source : r.header.source % 256 + 256 * (r.header.source / 256) ≡ r.header.source = omega arith in
      rw
      (parts u r t, destination, source, command-read u r (frames_bytes (kind_in r) u r ++ t) (kind_in r) carried, payload-read u r t bytes (kind_in r) carried)

  -- the stream of a writable record with any unused septet bits, whatever stands behind it, is whole to its end, has as many blocks with
  -- unused bits as are given some, and reads as that record
  pub read-with : (t : List ℕ)
      → (validation_of (stream_with u r ++ t) ≡ record { verdict = 0; offset = length (stream_with u r); unused_septets = count_nonzero u })
      × (record_of (stream_with u r ++ t) ≡ r)
  read-with t = (verdict t, contents t)

-- ── no unused septet bits

none-fit : (r : Record) → UnusedFor [] r
none-fit r = record { few = zero-le; small = tt }

kind-none : (K : Kind) (u : List ℕ) (r : Record) → count_nonzero u ≡ 0 → kind_bytes K u r ≡ kind_bytes K [] r
unfolding kind_bytes
kind-none Packet u r none = refl
kind-none Datagram u r none =
    ap (λ (n : ℕ). word_bytes r.header.command ++ with_septet n r.payload) (nonzero-none (get_or u 0 0) (omega (arith, count-first u)))
kind-none Telegram u r none = refl
kind-none Unknown u r none = refl

-- where all that are given are zero, it is the stream that writing gives
pub with_none : (u : List ℕ) (r : Record) → count_nonzero u ≡ 0 → stream_with u r ≡ stream_of r
unfolding stream_of stream_with stream_as
with_none u r none =
    ap₂ (λ (header : List ℕ) (frames : List ℕ). 0xAA ∷ (with_checksum (address_bytes r.header ++ header) ++ frames))
    (kind-none (kind_in r) u r none)
    (framed-none (frame_width (kind_in r)) (frames_in (kind_in r) r) u r.payload none)

module _ (r : Record) (w : Writable r) where
  -- every byte after the first is below 0x80
  pub stream_of-tail : (l : List ℕ) × (stream_of r ≡ 0xAA ∷ l) × AllBelow 128 l
  unfolding stream_of
  stream_of-tail = tail [] r w (none-fit r)

  -- what is written for a writable record, whatever stands behind it, is whole to its end, has no unused septet bits, and reads as that record
  pub read_back : (t : List ℕ) → (validation_of (stream_of r ++ t) ≡ record { verdict = 0; offset = length (stream_of r); unused_septets = 0 }) × (record_of (stream_of r ++ t) ≡ r)
  unfolding stream_of count_nonzero
  read_back t = read-with [] r w (none-fit r) t

-- ── exactly

-- a stretch begins with a whole stream that reads as the record r and has n blocks with unused septet bits set, exactly if the wire can
-- carry r and the stretch begins with the stream of r with such bits in n blocks
pub whole-exactly : (s : List ℕ) (r : Record) (n : ℕ)
    → (((validation_of s).verdict ≡ 0) × (record_of s ≡ r) × ((validation_of s).unused_septets ≡ n))
    ↔ (Writable r × (u : List ℕ) × (t : List ℕ) × UnusedFor u r × (count_nonzero u ≡ n) × (s ≡ stream_with u r ++ t))
unfolding unused_septets_of
whole-exactly s r n = (
  (λ (w, read, count).
      let rest = drop (validation_of s).offset s in
      rw (← read) (
        whole-writable s w,
        unused_in (kind s) s,
        rest,
        whole-unused s w,
        sym (whole-counted s w) ∙ count,
        sym (ap (λ (l : List ℕ). l ++ rest) (whole_again s w) ∙ take-append-drop (validation_of s).offset s),
      )),
  (λ (w, u, t, fits, count, e).
      let (said, read) = read-with u r w fits t in (
        ap (λ (l : List ℕ). (validation_of l).verdict) e ∙ ap (λ (v : Validation). v.verdict) said,
        ap record_of e ∙ read,
        ap (λ (l : List ℕ). (validation_of l).unused_septets) e ∙ ap (λ (v : Validation). v.unused_septets) said ∙ count,
      )),
)

-- request No. 3: "reading and then writing gives back the same bytes only where no bit strayed", and there it does
pub rewritten-same : (s : List ℕ) → (validation_of s).verdict ≡ 0 → (stream_of (record_of s) ≡ take (validation_of s).offset s) ↔ ((validation_of s).unused_septets ≡ 0)
unfolding unused_septets_of
rewritten-same s w = (
  (λ same.
      let rest = drop (validation_of s).offset s in
      let stands : s ≡ stream_of (record_of s) ++ rest = sym (ap (λ (l : List ℕ). l ++ rest) same ∙ take-append-drop (validation_of s).offset s) in
      ap (λ (l : List ℕ). (validation_of l).unused_septets) stands ∙ ap (λ (v : Validation). v.unused_septets) (read_back (record_of s) (whole-writable s w) rest).0),
  (λ none. sym (with_none (unused_in (kind s) s) (record_of s) (sym (whole-counted s w) ∙ none)) ∙ whole_again s w),
)

-- a record that writing refuses with 1 to 4 is the record of no whole stream
pub refused-unwritable : (r : Record) (room : ℕ) → 0 < refusal r room → refusal r room < 5 → (s : List ℕ) → (validation_of s).verdict ≡ 0 → record_of s ≡ r → ⊥
refused-unwritable r room p q s w e =
    let writable : Writable r = subst Writable e (whole-writable s w) in
    omega (arith, refusal-unwritable r room p q, writable.carried)

-- ── what stands behind a stream isn't looked at

module _ (s t : List ℕ) where
  pub whole-more : (validation_of s).verdict ≡ 0 → (validation_of (s ++ t) ≡ validation_of s) × (record_of (s ++ t) ≡ record_of s)
  whole-more whole =
      let r = record_of s in
      let (w, u, rest, fits, count, e) = (whole-exactly s r _).0 (whole, refl, refl) in
      let more : s ++ t ≡ stream_with u r ++ (rest ++ t) = ap (λ (l : List ℕ). l ++ t) e ∙ append_assoc (stream_with u r) rest t in (
        ap validation_of more ∙ (read-with u r w fits (rest ++ t)).0 ∙ sym (ap validation_of e ∙ (read-with u r w fits rest).0),
        ap record_of more ∙ (read-with u r w fits (rest ++ t)).1,
      )

  -- all of it is its own bytes
  pub whole-alone : (validation_of (s ++ t)).verdict ≡ 0 → (validation_of (s ++ t)).offset ≡ length s → (validation_of s).verdict ≡ 0
  whole-alone whole sized =
      let r = record_of (s ++ t) in
      let (w, u, rest, fits, count, e) = (whole-exactly (s ++ t) r _).0 (whole, refl, refl) in
      let told = ap validation_of e ∙ (read-with u r w fits rest).0 in
      let long : length (stream_with u r) ≡ length s = sym (ap (λ (v : Validation). v.offset) told) ∙ sized in
      let same : s ≡ stream_with u r ++ [] =
      sym (take-append_seam s t) ∙ ap (take (length s)) e ∙ take_at (stream_with u r) rest (length s) long ∙ sym (append-nil (stream_with u r)) in
      ap (λ (l : List ℕ). (validation_of l).verdict) same ∙ ap (λ (v : Validation). v.verdict) (read-with u r w fits []).0
