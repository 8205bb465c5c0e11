-- Laws of clearing: a whole stream without its unused septet bits is what writing gives for its record.
use Prim.Native.Nat.{ℕ, ◌+◌, ◌-◌, ◌*◌, ◌%◌, ◌<◌, ◌≤◌}
use native.Mathlib.Omega.{arith}
use mathlib.Core.Path.{◌≡◌, refl, sym, ap, subst, ◌∙◌}
use mathlib.Core.List.{List, [], ◌∷◌, ◌++◌, append_assoc}
use lib.ListN.{length, get_or, take, drop, set, length-set, length-append, length-drop, take-append-drop}
use lib.Seq.{set_split, take_at, drop_at, drop-cons, drop-set-lt, get_or-drop, length-take-le, take-length}
use Rattle.basics.specs.Bytes.{over}
use Rattle.basics.proofs.Bytes.{take_below}
use Rattle.basics.proofs.Over.{part, lent}
use Rattle.checksum.specs.Checksum.{checksum_of}
use Rattle.septet.specs.Septet.{with_top_bits}
use Rattle.stream.specs.Layout.{kind, header_length, frame_width, frame_count, length_as}
use Rattle.stream.specs.Validation.{validation_of}
use Rattle.stream.specs.declared.Validation.{Validation}
use Rattle.stream.specs.declared.Kind.{Kind}
use Rattle.stream.specs.declared.Kind.TheVariants.{Packet, Datagram, Telegram, Unknown}
use Rattle.stream.proofs.Whole.{HeaderSum}
use Rattle.record.specs.Record.{with_checksum, with_septet, framed, unframed, record_of, stream_of}
use Rattle.record.proofs.Frames.{with_septet-rewritten}
use Rattle.record.proofs.ReadBack.{rewritten-same, whole-more}
use Rattle.record.proofs.StreamParts.{sum-set}
use Rattle.record.proofs.WholeAgain.{whole_parts, whole_length, packet-again, datagram-again, telegram-unused}
use Rattle.recording.specs.Stage.{LowTo, cleared}
use Rattle.recording.proofs.Deliveries.{Whole, whole-sync, whole_long}

-- ── one septet

pub length-cleared : (place limit : ℕ) (x : List ℕ) → place ≤ length x → length (cleared place limit x) ≡ place + 2
length-cleared place limit x long = rw (length-append, length-append) (omega (arith, length-take-le place x long))

module _ (block : List ℕ) (place : ℕ) (room : place + 1 < length block) where
  -- with its septet replaced
  replaced : (value : ℕ) → take (place + 1) (set block place value) ≡ take place block ++ (value ∷ [])
  replaced value =
      let sized : length (take place block ++ (value ∷ [])) ≡ place + 1 = rw length-append (omega (arith, length-take-le place block (omega arith))) in
      let here : place < length block = omega arith in
      rw (set_split block place value here, ← append_assoc (take place block) (value ∷ [])) (take_at (take place block ++ (value ∷ [])) _ (place + 1) sized)

  -- and then the checksum
  pub cleared-set : (limit sum : ℕ)
      → sum ≡ checksum_of (take (place + 1) (set block place (get_or block place 0 % limit)))
      → set (set block place (get_or block place 0 % limit)) (place + 1) sum ≡ over (cleared place limit block) block
  cleared-set limit sum e =
      let value = get_or block place 0 % limit in
      let size = length-cleared place limit block (omega arith) in
      sum-set (set block place value) (place + 1) sum (rw length-set room) e
      ∙ rw (replaced value, size) (ap (λ (l : List ℕ). cleared place limit block ++ l) (drop-set-lt (place + 2) block place value (omega arith)))

-- of a frame it is what writing gives for the payload that is read
pub frame-cleared : (x : List ℕ) → 4 < length x → LowTo 4 x → cleared 4 16 x ≡ with_checksum (with_septet 0 (with_top_bits (get_or x 4 0) (take 4 x)))
frame-cleared x long low =
    let four : length (take 4 x) ≡ 4 = length-take-le 4 x (omega arith) in
    ap with_checksum (sym (rw four at (with_septet-rewritten (get_or x 4 0) (take 4 x) (take_below 128 4 x low))))

-- ── a stream

module _ (s : List ℕ) (w : Whole s) where
  pub packet-frames : kind s ≡ Packet → (6 * get_or s 8 0 ≤ length (drop 10 s)) × LowTo (6 * get_or s 8 0) (drop 10 s)
  unfolding header_length frame_width frame_count
  packet-frames e =
      let parts = whole_parts s w in
      let size : length_as (kind s) s ≡ 10 + 6 * get_or s 8 0 = ap (λ (K : Kind). length_as K s) e in (
        omega (arith, length-drop 10 s, parts.held),
        λ k h. rw (get_or-drop 10 s k 0) (parts.whole.low (10 + k) (omega arith) (omega (arith, size))),
      )

  pub packet-held : kind s ≡ Packet → 10 ≤ length s
  unfolding header_length frame_width frame_count
  packet-held e = let size : length_as (kind s) s ≡ 10 + 6 * get_or s 8 0 = ap (λ (K : Kind). length_as K s) e in omega (arith, (whole_parts s w).held)

  pub datagram-held : kind s ≡ Datagram → 16 ≤ length s
  unfolding header_length frame_width frame_count
  datagram-held e = let size : length_as (kind s) s ≡ 16 = ap (λ (K : Kind). length_as K s) e in omega (arith, (whole_parts s w).held)

  pub unknown-not : kind s ≡ Unknown → ⊥
  unknown-not e = subst (λ (K : Kind). HeaderSum K s) e (whole_parts s w).whole.sum

  -- the first bytes, and the rest over what stood there
  begun : (n : ℕ) → n ≤ length s → s ≡ over (take n s) s
  begun n long = rw (length-take-le n s long) (sym (take-append-drop n s))

  pub packet-cleared : kind s ≡ Packet → (new : List ℕ)
      → new ≡ over (framed 4 (get_or s 8 0) [] (unframed 4 (get_or s 8 0) (take (length s - 10) (drop 10 s)))) (take (length s - 10) (drop 10 s))
      → take 10 s ++ (new ++ drop (length s - 10) (drop 10 s)) ≡ over (stream_of (record_of s)) s
  packet-cleared e new k =
      let long : 10 ≤ length s = packet-held e in
      lent (take 10 s) (framed 4 (get_or s 8 0) [] (unframed 4 (get_or s 8 0) (take (length s - 10) (drop 10 s)))) s s new 10 (length-take-le 10 s long) (begun 10 long) k
      ∙ rw (part s 10) (ap (λ (l : List ℕ). over l s) (sym (packet-again s w e)))

  pub datagram-cleared : kind s ≡ Datagram → (new : List ℕ)
      → new ≡ over (cleared 13 64 (take (length s - 1) (drop 1 s))) (take (length s - 1) (drop 1 s))
      → take 1 s ++ (new ++ drop (length s - 1) (drop 1 s)) ≡ over (stream_of (record_of s)) s
  datagram-cleared e new k =
      let long = datagram-held e in
      let first : s ≡ over (0xAA ∷ []) s = sym (ap (λ (n : ℕ). n ∷ drop 1 s) (sym (whole-sync s w)) ∙ sym (drop-cons s 0 0 (omega arith))) in
      let block : cleared 13 64 (take (length s - 1) (drop 1 s)) ≡ with_checksum (take 13 (drop 1 s) ++ (get_or s 14 0 % 64 ∷ [])) =
      ap (cleared 13 64) (part s 1) ∙ ap (λ (n : ℕ). with_checksum (take 13 (drop 1 s) ++ (n % 64 ∷ []))) (get_or-drop 1 s 13 0) in
      lent (0xAA ∷ []) (cleared 13 64 (take (length s - 1) (drop 1 s))) s s new 1 refl first k
      ∙ ap (λ (l : List ℕ). over (0xAA ∷ l) s) block
      ∙ ap (λ (l : List ℕ). over l s) (sym (datagram-again s w e))

  -- without unused bits nothing is to be cleared
  same-cleared : (validation_of s).unused_septets ≡ 0 → s ≡ over (stream_of (record_of s)) s
  same-cleared none =
      begun (validation_of s).offset (whole_long s w).1 ∙ ap (λ (l : List ℕ). over l s) (sym ((rewritten-same s w).1 none))

  pub telegram-cleared : kind s ≡ Telegram → s ≡ over (stream_of (record_of s)) s
  telegram-cleared e = same-cleared (telegram-unused s w e)

-- ── the stream copied to an output, and cleared there

module _ (s out : List ℕ) where
  pub copy-whole : Whole s → Whole (over s out)
  copy-whole w = ap (λ (v : Validation). v.verdict) (whole-more s (drop (length s) out) w).0 ∙ w

  module _ (w : Whole s) (alone : (validation_of s).offset ≡ length s) where
    pub copy-same : (validation_of s).unused_septets ≡ 0 → over s out ≡ over (stream_of (record_of s)) out
    copy-same none = ap (λ (l : List ℕ). over l out) (sym ((rewritten-same s w).1 none ∙ ap (λ (n : ℕ). take n s) alone ∙ take-length s))

    pub copy-cleared : over (stream_of (record_of (over s out))) (over s out) ≡ over (stream_of (record_of s)) out
    copy-cleared =
        let size : length (stream_of (record_of s)) ≡ length s = whole_length s w ∙ alone in
        rw ((whole-more s (drop (length s) out) w).1, size, drop_at s (drop (length s) out) (length s) refl)
