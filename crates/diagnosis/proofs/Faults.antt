-- Laws of the faults, from place to place.
use Prim.Native.Nat.{ℕ, zero, suc, ◌+◌, ◌-◌, ◌≤◌, ◌<◌}
use native.Mathlib.Omega.{arith}
use native.Mathlib.Nat.{add-zero}
use native.Mathlib.Numerals.{add-one}
use native.Mathlib.Decide.{dec_lt, ℕ_discrete}
use mathlib.Core.Path.{◌≡◌, refl, ap, ◌∙◌, sym}
use mathlib.Core.Bool.{Bool, true, false, not, ◌&&◌, true≢false}
use mathlib.Core.Logic.{dite, ◌≢◌}
use mathlib.Core.List.{List, [], ◌∷◌}
use borrow.Author.Tests.{eq-eqb, ne_eqb, eqb-true}
use lib.Dec.{eqb}
use lib.ListN.{length, get_or, take, drop, drop_of_length-le}
use lib.Seq.{drop-cons, get_or-drop}
use Rattle.basics.specs.Choice.{choose}
use Rattle.checksum.specs.Checksum.{checksum_of}
use Rattle.stream.specs.Layout.{kind, payload_length_of}
use Rattle.stream.specs.declared.Kind.{Kind}
use Rattle.stream.specs.declared.Kind.TheVariants.{Packet, Datagram, Telegram, Unknown}
use Rattle.stream.specs.Validation.{number, header_sum, frame_sum, rule_at, validation_of, is_whole}
use Rattle.stream.specs.declared.Verdict.{Verdict}
use Rattle.stream.specs.declared.Verdict.TheVariants.{Whole as V0, NoSync, HighByte, UnknownVersion, HeaderChecksum, FrameChecksum, Ended}
use Rattle.stream.specs.declared.stop.Stop.{Stop}
use Rattle.std.specs.Prelude.{Some, None}
use Rattle.std.specs.Option.{is_some, unwrap_or}
use Rattle.diagnosis.specs.Stage.{byte_wanted}
use Rattle.stream.proofs.Offsets.{low-before}
use Rattle.stream.proofs.Syncs.{NextSync}
use Rattle.recording.proofs.Deliveries.{Whole, whole-sync}
use Rattle.diagnosis.specs.declared.Fault.{Fault}
use Rattle.diagnosis.specs.Fault.{is_fault, has_wanted_of, wanted_at, fault_of, faults_from, faults_after, none, first_of, next_fault}

-- ── a stretch

module _ (s : List ℕ) where
  pub fault-is : get_or s 0 0 ≡ 0xAA → (Whole s → ⊥) → is_fault s ≡ true
  fault-is sync bad = rw (eq-eqb _ _ sync, ne_eqb _ _ bad) refl

  pub no-sync-no-fault : (get_or s 0 0 ≡ 0xAA → ⊥) → is_fault s ≡ false
  no-sync-no-fault other = rw (ne_eqb _ _ other) refl

  pub whole-no-fault : get_or s 0 0 ≡ 0xAA → Whole s → is_fault s ≡ false
  whole-no-fault sync w = rw (eq-eqb _ _ sync, eq-eqb _ _ w) refl

both : (a b : Bool) → (a && b) ≡ true → (a ≡ true) × (b ≡ true)
both true b e = (refl, e)
both false b e = absurd (true≢false (sym e))

module _ (s : List ℕ) (e : is_fault s ≡ true) where
  pub fault-sync : get_or s 0 0 ≡ 0xAA
  fault-sync = eqb-true (get_or s 0 0) 0xAA (both _ _ e).0

  pub fault-not-whole : Whole s → ⊥
  fault-not-whole w = true≢false (sym (rw (eq-eqb (validation_of s).verdict 0 w) at (both (eqb (get_or s 0 0) 0xAA) (not (is_whole s)) e).1))

-- ── the byte wanted, by the verdict

named : (test : Bool) (x : ℕ) → is_some (choose test (Some x) None) ≡ test
unfolding choose
named true x = refl
named false x = refl

or-zero : (test : Bool) (x : ℕ) → unwrap_or (choose test (Some (choose test x 0)) None) 0 ≡ choose test x 0
unfolding choose
or-zero true x = refl
or-zero false x = refl

none-wanted : (verdict : Verdict) → verdict ≢ HeaderChecksum → verdict ≢ FrameChecksum → has_wanted_of (number verdict) ≡ false
none-wanted V0 header frame = refl
none-wanted NoSync header frame = refl
none-wanted HighByte header frame = refl
none-wanted UnknownVersion header frame = refl
none-wanted HeaderChecksum header frame = absurd (header refl)
none-wanted FrameChecksum header frame = absurd (frame refl)
none-wanted Ended header frame = refl

module _ (s : List ℕ) (stop : Stop) where
  abbrev v : ℕ
  v = number stop.verdict

  abbrev k : ℕ
  k = stop.offset

  pub wanted-header : v ≡ 4 → rule_at (kind s) k ≡ header_sum (k - 1) → (byte : ℕ) → byte ≡ checksum_of (take (k - 1) (drop 1 s)) → Some byte ≡ byte_wanted s stop
  unfolding wanted_at choose
  wanted-header four rule byte is = rw (eq-eqb v 4 four, rule, is) refl

  pub wanted-frame : v ≡ 6 → (w : ℕ) → rule_at (kind s) k ≡ frame_sum w → w + 1 ≤ k
      → (byte : ℕ) → byte ≡ checksum_of (take (k - (k - (w + 1))) (drop (k - (w + 1)) s)) → Some byte ≡ byte_wanted s stop
  unfolding wanted_at choose
  wanted-frame six w rule room byte is =
      let size : k - (k - (w + 1)) ≡ w + 1 = omega arith in
      rw (is, size, rule, six) refl

  pub wanted-none : stop.verdict ≢ HeaderChecksum → stop.verdict ≢ FrameChecksum → None ≡ byte_wanted s stop
  unfolding choose
  wanted-none header frame = rw (none-wanted stop.verdict header frame) refl

  -- a byte is named if one is wanted, and is 0 if none is
  pub wanted-some : is_some (byte_wanted s stop) ≡ has_wanted_of v
  wanted-some = named (has_wanted_of v) _

  pub wanted-or : unwrap_or (byte_wanted s stop) 0 ≡ wanted_at s v k
  unfolding wanted_at
  wanted-or = or-zero (has_wanted_of v) _

-- the payload bytes of a frame of s, where it has frames
abbrev pub width : List ℕ → ℕ
width s = payload_length_of (kind s) 1

-- they are few
pub width-most : (K : Kind) → payload_length_of K 1 ≤ 7
unfolding payload_length_of
width-most Packet = omega arith
width-most Datagram = omega arith
width-most Telegram = omega arith
width-most Unknown = omega arith

-- ── one place

pub first-of : (s : List ℕ) (at : ℕ) → get_or (drop at s) 0 0 ≡ get_or s at 0
first-of s at = get_or-drop at s 0 0 ∙ rw (add-zero at) refl

-- ── from a starting place on

module _ (s : List ℕ) (at : ℕ) where
  pub after-end : length s ≤ at → faults_after s at ≡ []
  unfolding faults_from
  after-end past = rw (drop_of_length-le s {i = at} past)

  after-fault : at < length s → is_fault (drop at s) ≡ true → faults_after s at ≡ fault_of at (drop at s) ∷ faults_after s (at + 1)
  unfolding faults_from choose
  after-fault inside e =
      let begins = drop-cons s at 0 inside in
      rw (begins, add-one) (rw (rw begins at e))

  after_on : at < length s → is_fault (drop at s) ≡ false → faults_after s at ≡ faults_after s (at + 1)
  unfolding faults_from choose
  after_on inside e =
      let begins = drop-cons s at 0 inside in
      rw (begins, add-one) (rw (rw begins at e))

-- past places that have none
after-skip : (s : List ℕ) (start n : ℕ) → ((k : ℕ) → start ≤ k → k < start + n → k < length s → is_fault (drop k s) ≡ false) → faults_after s start ≡ faults_after s (start + n)
after-skip s start zero free = rw (add-zero start)
after-skip s start (suc n) free =
    let last : start + n + 1 ≡ start + suc n = omega arith in
    after-skip s start n (λ k above below. free k above (omega arith))
    ∙ dite (dec_lt (start + n) (length s))
    (λ inside. after_on s (start + n) inside (free (start + n) (omega arith) (omega arith) inside) ∙ ap (faults_after s) last)
    (λ outside. after-end s (start + n) (omega arith) ∙ sym (after-end s (start + suc n) (omega arith)))

-- none before the next sync byte
pub after-sync : (s : List ℕ) (start r : ℕ) → NextSync s start r → faults_after s start ≡ faults_after s r
after-sync s start r sync =
    let back : start + (r - start) ≡ r = omega (arith, sync.after) in
    after-skip s start (r - start) (λ k above below inside. no-sync-no-fault (drop k s) (λ e. sync.passed k (omega arith) above inside (sym (first-of s k) ∙ e)))
    ∙ ap (faults_after s) back

-- nor within a whole stream
pub after-whole : (s : List ℕ) (at : ℕ) → Whole (drop at s) → faults_after s at ≡ faults_after s (at + (validation_of (drop at s)).offset)
after-whole s at w = after-skip s at (validation_of (drop at s)).offset free
  where
    free : (k : ℕ) → at ≤ k → k < at + (validation_of (drop at s)).offset → k < length s → is_fault (drop k s) ≡ false
    free k above below inside =
        dite (ℕ_discrete k at)
        (λ e. rw e (whole-no-fault (drop at s) (whole-sync (drop at s) w) w))
        (λ ne. no-sync-no-fault (drop k s)
        (λ e.
        let low = low-before (drop at s) (k - at) (omega arith) (omega arith) in
        let same : get_or (drop at s) (k - at) 0 ≡ get_or (drop k s) 0 0 =
        get_or-drop at s (k - at) 0 ∙ ap (λ (n : ℕ). get_or s n 0) (omega arith) ∙ sym (get_or-drop k s 0 0) in
        omega (arith, low, same, e)))

-- the same faults have the same first
pub next-by : (s : List ℕ) (at start : ℕ) → faults_after s at ≡ faults_after s start → next_fault s at ≡ next_fault s start
unfolding next_fault
next-by s at start e = ap first_of e

-- a sync byte that gave no record is the first fault from there on
pub next_here : (s : List ℕ) (at : ℕ) → at < length s → get_or s at 0 ≡ 0xAA → (Whole (drop at s) → ⊥) → next_fault s at ≡ fault_of at (drop at s)
unfolding next_fault
next_here s at inside sync bad = ap first_of (after-fault s at inside (fault-is (drop at s) (first-of s at ∙ sync) bad))

pub next-end : (s : List ℕ) (at : ℕ) → length s ≤ at → next_fault s at ≡ none
unfolding next_fault
next-end s at past = ap first_of (after-end s at past)

-- ── the first from a starting place on

-- nothing, or the first fault, before which there is none, and then those behind its place
pub data FirstAfter (s : List ℕ) (start : ℕ) : List Fault → Type 0 where
  nothing : ((k : ℕ) → start ≤ k → k < length s → is_fault (drop k s) ≡ false) → FirstAfter s start []
  first : (q : ℕ) → start ≤ q → q < length s → is_fault (drop q s) ≡ true → ((k : ℕ) → start ≤ k → k < q → is_fault (drop k s) ≡ false)
      → FirstAfter s start (fault_of q (drop q s) ∷ faults_after s (q + 1))

-- no fault from a start on, where there is none behind it
from_start : (s : List ℕ) (start k : ℕ) → is_fault (drop start s) ≡ false → (start + 1 ≤ k → is_fault (drop k s) ≡ false) → start ≤ k → is_fault (drop k s) ≡ false
from_start s start k here later after =
    dite (dec_lt start k) (λ more. later (omega arith))
    (λ same. let e : k ≡ start = omega arith in ap (λ (n : ℕ). is_fault (drop n s)) e ∙ here)

earlier : (s : List ℕ) (start : ℕ) (fs : List Fault) → is_fault (drop start s) ≡ false → FirstAfter s (start + 1) fs → FirstAfter s start fs
earlier s start fs here (nothing free) = nothing (λ k after inside. from_start s start k here (λ later. free k later inside) after)
earlier s start fs here (first q after inside is free) =
    first q (omega arith) inside is (λ k after below. from_start s start k here (λ later. free k later below) after)

first-within : (fuel : ℕ) (s : List ℕ) (start : ℕ) → length s ≤ start + fuel → FirstAfter s start (faults_after s start)
first-within zero s start past = rw (after-end s start (omega arith)) (nothing (λ k after inside. absurd (omega arith)))
first-within (suc fuel) s start past =
    dite (dec_lt start (length s))
    (λ inside. by-test (is_fault (drop start s)) refl inside (first-within fuel s (start + 1) (omega arith)))
    (λ outside. rw (after-end s start (omega arith)) (nothing (λ k after inside. absurd (omega arith))))
  where
    by-test : (b : Bool) → is_fault (drop start s) ≡ b → start < length s → FirstAfter s (start + 1) (faults_after s (start + 1)) → FirstAfter s start (faults_after s start)
    by-test true e inside later = rw (after-fault s start inside e) (first start (omega arith) inside e (λ k after below. absurd (omega arith)))
    by-test false e inside later = rw (after_on s start inside e) (earlier s start _ e later)

pub first-after : (s : List ℕ) (start : ℕ) → FirstAfter s start (faults_after s start)
first-after s start = first-within (length s) s start (omega arith)

-- what an answer f tells: a fault stands at its place, and none before it
pub record FoundAt (s : List ℕ) (start : ℕ) (f : Fault) : Type 0 where
  pub after : start ≤ f.place
  pub inside : f.place < length s
  pub is : is_fault (drop f.place s) ≡ true
  pub tells : f ≡ fault_of f.place (drop f.place s)
  pub free : (k : ℕ) → start ≤ k → k < f.place → is_fault (drop k s) ≡ false
  pub rest : faults_after s start ≡ f ∷ faults_after s (f.place + 1)

module _ (s : List ℕ) (start : ℕ) where
  pub found_at : (next_fault s start).found ≡ true → FoundAt s start (next_fault s start)
  unfolding next_fault
  found_at e = by_first (faults_after s start) refl (first-after s start) e
    where
      by_first : (fs : List Fault) → faults_after s start ≡ fs → FirstAfter s start fs → (first_of fs).found ≡ true → FoundAt s start (first_of fs)
      by_first fs same (nothing free) e = absurd (true≢false (sym e))
      by_first fs same (first q after inside is free) e = record { after = after; inside = inside; is = is; tells = refl; free = free; rest = same }

  pub none_after : (next_fault s start).found ≡ false → faults_after s start ≡ []
  unfolding next_fault
  none_after e = by_first (faults_after s start) (first-after s start) e
    where
      by_first : (fs : List Fault) → FirstAfter s start fs → (first_of fs).found ≡ false → fs ≡ []
      by_first fs (nothing free) e = refl
      by_first fs (first q after inside is free) e = absurd (true≢false e)
