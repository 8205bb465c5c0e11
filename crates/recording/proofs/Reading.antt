-- Laws for the loops and calls that read: frames one by one, and the search from one sync byte to the next.
use Prim.Native.Nat.{ℕ, suc, ◌+◌, ◌-◌, ◌*◌, ◌<◌, ◌≤◌}
use native.Mathlib.Omega.{arith}
use native.Mathlib.Nat.{add-zero}
use mathlib.Core.Path.{◌≡◌, refl, ap, sym, ◌∙◌, subst, subst⁻¹}
use mathlib.Core.List.{List, ◌++◌}
use lib.ListN.{length, take, drop, get_or, length-drop}
use Rattle.basics.proofs.Over.{part}
use Rattle.stream.specs.Layout.{kind, header_length, frame_width, frame_count, length_as, payload_length_of}
use Rattle.stream.specs.declared.Kind.{Kind}
use Rattle.stream.specs.Validation.{validation_of}
use Rattle.stream.proofs.Offsets.{low-before}
use Rattle.stream.proofs.Syncs.{NextSync}
use native.Mathlib.Decide.{ℕ_discrete}
use mathlib.Core.Logic.{dite}
use lib.Seq.{get_or-drop}
use Rattle.septet.specs.Septet.{with_top_bits}
use Rattle.record.specs.Record.{unframed, record_of, payload_in}
use Rattle.record.proofs.WholeAgain.{whole_parts, few-as, payload-sized}
use Rattle.recording.specs.Recording.{deliveries_after}
use Rattle.recording.specs.Stage.{PayloadHeld}
use Rattle.recording.proofs.Deliveries.{Whole, whole-sync, after-skip}

-- one frame fewer
pub unframed-step : (width n : ℕ) (s : List ℕ) → 0 < n → unframed width n s ≡ with_top_bits (get_or s width 0) (take width s) ++ unframed width (n - 1) (drop (width + 2) s)
unfolding unframed
unframed-step width n s h = let e : n ≡ suc (n - 1) = omega arith in ap (λ (m : ℕ). unframed width m s) e

-- no stream begins before the next sync byte
pub after-sync : (s : List ℕ) (start r : ℕ) → NextSync s start r → deliveries_after s start ≡ deliveries_after s r
after-sync s start r sync =
    let back : start + (r - start) ≡ r = omega (arith, sync.after) in
    after-skip s start (r - start)
    (λ k above below inside w. sync.passed k (omega arith) above inside (ap (λ (n : ℕ). get_or s n 0) (sym (add-zero k)) ∙ sym (get_or-drop k s 0 0) ∙ whole-sync (drop k s) w))
    ∙ ap (deliveries_after s) back

-- nor between a sync byte that begins none and the fault that is found behind it
pub after-fault : (s : List ℕ) (at : ℕ) → (Whole (drop at s) → ⊥) → deliveries_after s at ≡ deliveries_after s (at + (validation_of (drop at s)).offset)
after-fault s at faulty = after-skip s at (validation_of (drop at s)).offset passed
  where
    passed : (k : ℕ) → at ≤ k → k < at + (validation_of (drop at s)).offset → k < length s → Whole (drop k s) → ⊥
    passed k above below inside w =
        dite (ℕ_discrete k at) (λ e. faulty (rw (sym e) w))
        (λ ne.
        let low = low-before (drop at s) (k - at) (omega arith) (omega arith) in
        let same : get_or (drop at s) (k - at) 0 ≡ get_or (drop k s) 0 0 =
        get_or-drop at s (k - at) 0 ∙ ap (λ (n : ℕ). get_or s n 0) (omega arith) ∙ sym (get_or-drop k s 0 0) in
        omega (arith, low, same, whole-sync (drop k s) w))

-- ── a payload's bytes are there, and have room

module _ {K : Kind} {s : List ℕ} {count room : ℕ} where
  -- of the kind that a match found
  pub held-as : {L : Kind} → K ≡ L → PayloadHeld K s count room → PayloadHeld L s count room
  held-as {L} e held = subst (λ (x : Kind). PayloadHeld x s count room) e held

  pub held-there : PayloadHeld K s count room → header_length K + (frame_width K + 2) * count ≤ length s
  held-there held = subst⁻¹ (λ (n : ℕ). header_length K + (frame_width K + 2) * n ≤ length s) held.counted held.there

-- the length of the part from a on
pub length_part : (s : List ℕ) (a : ℕ) → length (take (length s - a) (drop a s)) ≡ length s - a
length_part s a = rw (part s a) (length-drop a s)

-- ── a whole stream, by the kind that its version names

module _ (s : List ℕ) (w : Whole s) (K : Kind) (e : K ≡ kind s) where
  pub whole-there : length_as K s ≤ length s
  whole-there = rw e (whole_parts s w).held

  pub whole-few : frame_count K s < 256
  whole-few = rw e (omega (arith, few-as (kind s) s (whole_parts s w).whole))

  pub whole-size : payload_length_of K (frame_count K s) ≡ length (record_of s).payload
  unfolding record_of
  whole-size = rw e (sym (payload-sized (kind s) s (whole_parts s w).held))

  pub whole-payload : payload_in K s ≡ (record_of s).payload
  unfolding record_of
  whole-payload = rw e refl

-- what reading the frames of a kind asks for, whose payload is all theirs
pub frames-ready : {K : Kind} {s : List ℕ} {count room : ℕ} → frame_width K ≤ 7 → payload_length_of K count ≡ frame_width K * count → PayloadHeld K s count room
    → (frame_width K ≤ 7)
    × (count < 256)
    × ((frame_width K + 2) * count ≤ length (take (length s - header_length K) (drop (header_length K) s)))
    × (frame_width K * count ≤ room)
frames-ready {K} {s} {count} {room} narrow sized held =
    (narrow, held.few, omega (arith, held-there held, length_part s (header_length K)), omega (arith, held.fits, sized))
