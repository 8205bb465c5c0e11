-- Laws of one byte: what is delivered from an unfinished stream and the bytes behind it.
use Prim.Native.Nat.{ℕ, suc, ◌+◌, ◌<◌, ◌≤◌}
use native.Mathlib.Omega.{arith}
use native.Mathlib.Nat.{add-zero}
use native.Mathlib.Decide.{dec_lt, ℕ_discrete}
use mathlib.Core.Path.{◌≡◌, refl, sym, ap, ap₂, ◌∙◌}
use mathlib.Core.Logic.{dite}
use mathlib.Core.List.{List, [], ◌∷◌, ◌++◌, append_assoc, append-nil}
use lib.ListN.{length, length-append}
use lib.Seq.{get_or-append_seam, drop_at}
use Rattle.basics.specs.Bytes.{AllBelow}
use Rattle.basics.proofs.Bytes.{all_append}
use Rattle.stream.specs.Layout.{stream_length}
use Rattle.stream.specs.Validation.{validation_of}
use Rattle.stream.specs.declared.Validation.{Validation}
use Rattle.stream.proofs.Faults.{low_held}
use Rattle.stream.proofs.Lengths.{length-early, length-settled, length-grows, length-next}
use Rattle.stream.proofs.Reached.{whole-clean}
use Rattle.record.proofs.ReadBack.{whole-more, whole-alone}
use Rattle.recording.specs.Recording.{Delivery, delivery_at, deliveries_from}
use Rattle.recording.proofs.Deliveries.{Whole, whole-sync, passed, skip, first-whole}
use Rattle.receiver.specs.Holding.{extended, kept}
use Rattle.receiver.proofs.Extending.{extended-sync, extended-high, extended_none, extended-low, kept-short, kept-long, kept-early}

-- what a receiver that began fresh may hold: nothing, or an unfinished stream
pub data Held : List ℕ → Type 0 where
  none : Held []
  some : (l : List ℕ) → AllBelow 128 l → suc (length l) < stream_length (0xAA ∷ l) → stream_length (0xAA ∷ l) ≤ 772 → Held (0xAA ∷ l)

pub held_kept : (h : List ℕ) → Held h → kept h ≡ h
held_kept h none = kept-early [] (omega arith)
held_kept h (some l low short most) = kept-short (0xAA ∷ l) short most

-- ── positions that deliver nothing

-- a stream that isn't whole, and then low bytes
passed-low : (p byte : ℕ) (l t : List ℕ) → AllBelow 128 l → (Whole (byte ∷ (l ++ t)) → ⊥) → deliveries_from p (byte ∷ (l ++ t)) ≡ deliveries_from (p + suc (length l)) t
passed-low p byte l t low faulty =
    passed p byte (l ++ t) faulty ∙ skip (suc p) l t low ∙ ap (λ (n : ℕ). deliveries_from n t) (omega arith)

-- a whole stream has no byte of 0x80 or more where it isn't complete yet
cut_off : (s : List ℕ) (byte : ℕ) (t : List ℕ) → 0 < length s → length s < stream_length s → 0x80 ≤ byte → Whole (s ++ (byte ∷ t)) → ⊥
cut_off s byte t some_bytes short high w =
    let inside : length s < stream_length (s ++ (byte ∷ t)) = omega (arith, length-grows s (byte ∷ t)) in
    let low = low_held (s ++ (byte ∷ t)) (length s) some_bytes ((whole-clean (s ++ (byte ∷ t)) w).clean (length s) inside) in
    omega (arith, rw (get_or-append_seam s byte t 0) at low)

-- a byte of 0x80 or more ends what is held
ended : (p : ℕ) (h : List ℕ) → Held h → (byte : ℕ) (t : List ℕ) → 0x80 ≤ byte → deliveries_from p (h ++ (byte ∷ t)) ≡ deliveries_from (p + length h) (byte ∷ t)
ended p h none byte t high = rw (add-zero p)
ended p h (some l low short most) byte t high =
    passed-low p 0xAA l (byte ∷ t) low (cut_off (0xAA ∷ l) byte t (omega arith) short high)

-- what is held delivers nothing yet
pub held-nothing : (p : ℕ) (h : List ℕ) → Held h → deliveries_from p h ≡ []
unfolding deliveries_from
held-nothing p h none = refl
held-nothing p h (some l low short most) =
    ap (deliveries_from p) (sym (append-nil (0xAA ∷ l)))
    ∙ passed-low p 0xAA l [] low (λ w. omega (arith, (whole-clean (0xAA ∷ l) (rw (append-nil l) at w)).held))

-- ── a byte that completes no stream

-- k is held from now on, and what was to be delivered from the held bytes on is to be delivered from there on
pub record Onward (p byte : ℕ) (h k : List ℕ) : Type 0 where
  pub position : ℕ
  pub there : position + length k ≡ suc (p + length h)
  pub held : Held k
  pub same : (t : List ℕ) → deliveries_from p (h ++ (byte ∷ t)) ≡ deliveries_from position (k ++ t)

-- nothing is held from now on
dropped : (p byte : ℕ) (h k : List ℕ) → k ≡ [] → ((t : List ℕ) → deliveries_from p (h ++ (byte ∷ t)) ≡ deliveries_from (suc (p + length h)) t) → Onward p byte h k
dropped p byte h k e same = rw e (record { position = suc (p + length h); there = omega arith; held = none; same = same })

module _ (p byte : ℕ) (h : List ℕ) where
  onward-sync : Held h → byte ≡ 0xAA → Onward p byte h (kept (extended h byte))
  onward-sync held e =
      let one : stream_length (0xAA ∷ []) ≡ 6 = length-early (0xAA ∷ []) (omega arith) in
      rw (extended-sync h byte e, kept-early (byte ∷ []) (omega arith), e) (record {
        position = p + length h;
        there = omega arith;
        held = some [] tt (omega (arith, one)) (omega (arith, one));
        same = λ t. ended p h held 0xAA t (omega arith);
      })

  onward-high : Held h → (byte ≡ 0xAA → ⊥) → 0x80 ≤ byte → Onward p byte h (kept (extended h byte))
  onward-high held other high =
      dropped p byte h (kept (extended h byte)) (ap kept (extended-high h byte other high) ∙ kept-early [] (omega arith))
      (λ t. ended p h held byte t high ∙ passed (p + length h) byte t (λ w. other (whole-sync (byte ∷ t) w)))

onward-none : (p byte : ℕ) → byte < 0x80 → Onward p byte [] (kept (extended [] byte))
onward-none p byte low =
    dropped p byte [] (kept (extended [] byte)) (ap kept (extended_none [] byte low refl) ∙ kept-early [] (omega arith))
    (λ t. passed p byte t (λ w. omega (arith, whole-sync (byte ∷ t) w)) ∙ ap (λ (n : ℕ). deliveries_from (suc n) t) (sym (add-zero p)))

-- a stream that a byte completes: it began with the held bytes, it ends here, and what follows it is delivered after it
pub record Completes (p byte : ℕ) (h s : List ℕ) : Type 0 where
  pub sized : (validation_of s).offset ≡ suc (length h)
  pub long : length s ≡ suc (length h)
  pub same : (t : List ℕ) → deliveries_from p (h ++ (byte ∷ t)) ≡ delivery_at p s ∷ deliveries_from (suc (p + length h)) t

-- a low byte behind a stream's beginning
module _ (p byte : ℕ) (l : List ℕ) (below : AllBelow 128 l) (short : suc (length l) < stream_length (0xAA ∷ l)) (most : stream_length (0xAA ∷ l) ≤ 772) (low : byte < 0x80) where
  longer : List ℕ
  longer = l ++ (byte ∷ [])

  is-longer : extended (0xAA ∷ l) byte ≡ 0xAA ∷ longer
  unfolding longer
  is-longer = extended-low (0xAA ∷ l) byte low (omega arith)

  all-low : AllBelow 128 longer
  unfolding longer
  all-low = all_append 128 l (byte ∷ []) below (low, tt)

  size : length longer ≡ suc (length l)
  unfolding longer
  size = length-append l (byte ∷ []) ∙ omega arith

  -- it is at most as long as it announces
  reaches : suc (length longer) ≤ stream_length (0xAA ∷ longer)
  unfolding longer
  reaches = omega (arith, size, length-grows (0xAA ∷ l) (byte ∷ []))

  split : (t : List ℕ) → (0xAA ∷ l) ++ (byte ∷ t) ≡ 0xAA ∷ (longer ++ t)
  unfolding longer
  split t = ap {B = List ℕ} (λ r. 0xAA ∷ r) (sym (append_assoc l (byte ∷ []) t))

  onward-short : suc (length longer) < stream_length (0xAA ∷ longer) → Onward p byte (0xAA ∷ l) (kept (0xAA ∷ longer))
  unfolding longer
  onward-short less =
      let fits = length-next (0xAA ∷ l) byte low most in
      rw (kept-short (0xAA ∷ longer) less fits) (record {
        position = p;
        there = omega (arith, size);
        held = some longer all-low less fits;
        same = λ t. ap (deliveries_from p) (split t);
      })

  onward-full : (Whole (0xAA ∷ longer) → ⊥) → suc (length longer) ≡ stream_length (0xAA ∷ longer) → Onward p byte (0xAA ∷ l) (kept (0xAA ∷ longer))
  onward-full faulty full =
      let alone : (t : List ℕ) → Whole (0xAA ∷ (longer ++ t)) → ⊥ =
      λ t w. faulty (whole-alone (0xAA ∷ longer) t w ((whole-clean (0xAA ∷ (longer ++ t)) w).offset ∙ length-settled (0xAA ∷ longer) t (omega arith) ∙ sym full)) in
      dropped p byte (0xAA ∷ l) (kept (0xAA ∷ longer)) (kept-long (0xAA ∷ longer) (omega arith))
      (λ t.
      ap (deliveries_from p) (split t)
      ∙ passed-low p 0xAA longer t all-low (alone t)
      ∙ ap (λ (n : ℕ). deliveries_from n t) (omega (arith, size)))

  onward-low : (Whole (0xAA ∷ longer) → ⊥) → Onward p byte (0xAA ∷ l) (kept (0xAA ∷ longer))
  onward-low faulty =
      dite (dec_lt (suc (length longer)) (stream_length (0xAA ∷ longer))) onward-short
      (λ full. onward-full faulty (omega (arith, reaches)))

  completes-low : Whole (0xAA ∷ longer) → Completes p byte (0xAA ∷ l) (0xAA ∷ longer)
  completes-low w =
      let s : List ℕ = 0xAA ∷ longer in
      let whole = whole-clean s w in
      let offset : (validation_of s).offset ≡ suc (length longer) = omega (arith, whole.offset, whole.held, reaches) in
      record {
        sized = omega (arith, offset, size);
        long = omega (arith, size);
        same = λ t.
            let (verdict, read) = whole-more s t w in
            let behind : (validation_of (s ++ t)).offset ≡ suc (length longer) = ap (λ (v : Validation). v.offset) verdict ∙ offset in
            ap (deliveries_from p) (split t)
            ∙ first-whole p (s ++ t) (ap (λ (v : Validation). v.verdict) verdict ∙ w)
            ∙ ap₂ {C = List Delivery} (λ d r. d ∷ r) (rw (verdict, read))
            (rw (behind, drop_at s t (suc (length longer)) refl) (ap (λ (n : ℕ). deliveries_from n t) (omega (arith, size))));
      }

-- ── any byte

pub onward : (p byte : ℕ) (h : List ℕ) → Held h → (Whole (extended h byte) → ⊥) → Onward p byte h (kept (extended h byte))
onward p byte h held faulty =
    dite (ℕ_discrete byte 0xAA) (onward-sync p byte h held)
    (λ other. dite (dec_lt byte 0x80) (by-held h held faulty) (λ high. onward-high p byte h held other (omega arith)))
  where
    by-held : (h : List ℕ) → Held h → (Whole (extended h byte) → ⊥) → byte < 0x80 → Onward p byte h (kept (extended h byte))
    by-held h none faulty low = onward-none p byte low
    by-held h (some l below short most) faulty low =
        let is = is-longer p byte l below short most low in
        rw is (onward-low p byte l below short most low (λ w. faulty (rw is w)))

-- what completes a stream is a low byte behind a stream's beginning
pub few-whole : (s : List ℕ) → length s < 2 → Whole s → ⊥
few-whole s few w = omega (arith, (whole-clean s w).held, length-early s (omega arith))

pub completes : (p byte : ℕ) (h : List ℕ) → Held h → Whole (extended h byte) → Completes p byte h (extended h byte)
completes p byte h held w =
    dite (ℕ_discrete byte 0xAA)
    (λ e. absurd (few-whole (extended h byte) (rw (extended-sync h byte e) (omega arith)) w))
    (λ other. dite (dec_lt byte 0x80) (by-held h held w)
    (λ high. absurd (few-whole (extended h byte) (rw (extended-high h byte other (omega arith)) (omega arith)) w)))
  where
    by-held : (h : List ℕ) → Held h → Whole (extended h byte) → byte < 0x80 → Completes p byte h (extended h byte)
    by-held h none w low = absurd (few-whole (extended [] byte) (rw (extended_none [] byte low refl) (omega arith)) w)
    by-held h (some l below short most) w low =
        let is = is-longer p byte l below short most low in
        rw is (completes-low p byte l below short most low (rw is at w))
