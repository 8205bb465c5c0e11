-- Laws of frames: what the check of one frame has reached, at each place where it answers, and what that says of the stream.
use Prim.Native.Nat.{ℕ, suc, ◌+◌, ◌-◌, ◌*◌, ◌≤◌, ◌<◌}
use native.Mathlib.Omega.{arith}
use native.Mathlib.Nat.{mul-zero, mul-suc, zero-add, add-zero}
use mathlib.Core.Path.{◌≡◌, refl, ap, ◌∙◌, sym, subst}
use mathlib.Core.Logic.{◌↔◌}
use mathlib.Core.List.{List}
use Rattle.std.specs.Prelude.{min}
use lib.ListN.{length, get_or, take, drop, length-drop}
use lib.Seq.{length-take-le}
use Rattle.checksum.specs.Checksum.{checksum_of}
use Rattle.septet.specs.Septet.{unused_bits}
use Rattle.stream.specs.Layout.{kind, stream_length}
use Rattle.stream.specs.Validation.{frame_rule, rule_at, breach, fault_at}
use Rattle.stream.specs.Stage.{Clean, Reached, whole, found, frame_fault, ReachedFrame, AllLow, LowUpTo, StopsAt, FramesFrom, CountedFrom}
use Rattle.stream.specs.Unused.{unused_frames, nonzero, count_nonzero, unused_septets_of}
use Rattle.stream.specs.declared.stop.Stop.{Stop}
use Rattle.stream.proofs.Faults.{place-any, place-sum, by_place, frame_sum-right, frame_sum-wrong, frame_sum-held, frame-high, frame-low, frame-low-held, frame-part, breach-any, stop-reached}
use Rattle.stream.proofs.Reached.{through, joined, moved}
use Rattle.stream.proofs.UnusedSeptets.{nonzero-most, unused-next, frame-fewer}

-- ── one frame by itself

abbrev pub SumRight : ℕ → List ℕ → Type 0
SumRight width part = get_or part (width + 1) 0 ≡ checksum_of (take (width + 1) part)

module _ (width : ℕ) {part : List ℕ} where
  -- no fault below k, where the checksum is right if it stands below k
  clean-to : {end : ℕ} → LowUpTo part 0 end → end ≤ width + 2 → (k : ℕ) → k ≤ end → (width + 1 < k → SumRight width part) → Clean (frame_fault width part) k
  clean-to low short k below sum i h =
      frame-low width part i (low.low i (omega arith) (omega arith))
      ∙ by_place (λ (i : ℕ). i < k → breach (frame_rule width i) part i ≡ 0) width
      (λ i inside h. breach-any _ part i (place-any width i inside))
      (λ h. rw place-sum (rw (zero-add (width + 1)) at (frame_sum-right width part 0 (rw (zero-add (width + 1)) (sum h)))))
      i (omega arith) h

  -- it stopped at the end or at a high byte
  pub frame-stops : {stop : Stop} → StopsAt part 0 (width + 2) stop → ReachedFrame width part stop
  frame-stops {stop} stops =
      stop-reached stops (omega arith) (clean-to stops.before (omega (arith, stops.short)) stop.offset (omega arith) (λ far. absurd (omega (arith, stops.short)))) (frame-high width part stop.offset)

  module _ (low : LowUpTo part 0 (width + 2)) where
    pub frame-sum : (SumRight width part → ⊥) → Reached (frame_fault width part) (width + 2) (length part) 6 (width + 1)
    frame-sum bad =
        found
        (frame-low width part (width + 1) (low.low (width + 1) (omega arith) (omega arith))
        ∙ rw place-sum (rw (zero-add (width + 1)) at (frame_sum-wrong width part 0 (λ e. bad (rw (zero-add (width + 1)) at e)))))
        (omega arith)
        (clean-to low (omega arith) (width + 1) (omega arith) (λ far. absurd (omega arith)))
        (omega arith)
        (omega (arith, low.within))

    pub frame-whole : SumRight width part → Reached (frame_fault width part) (width + 2) (length part) 0 (width + 2)
    frame-whole sum = whole refl refl (clean-to low (omega arith) (width + 2) (omega arith) (λ far. sum)) (omega (arith, low.within))

-- a frame that passes every test has no fault
pub frame_right : (width : ℕ) (part : List ℕ) → length part ≡ width + 2 → AllLow part → SumRight width part → Clean (frame_fault width part) (width + 2)
frame_right width part long low sum =
    through (frame-whole width (record { within = omega arith; low = λ i h above. low i (omega arith) }) sum) (omega arith)

-- and one that has no fault passes them
module _ (width : ℕ) (part : List ℕ) (clean : Clean (frame_fault width part) (width + 2)) where
  kept : (i : ℕ) → i < width + 2 → breach (frame_rule width i) part i ≡ 0
  kept i inside = sym (frame-low width part i (frame-low-held width part i (clean i inside))) ∙ clean i inside

  pub clean-low : length part ≡ width + 2 → AllLow part
  clean-low long i h = frame-low-held width part i (clean i (omega arith))

  pub clean-sum : SumRight width part
  clean-sum = rw zero-add at (frame_sum-held width part 0 (rw zero-add (rw place-sum at (kept (width + 1) (omega arith)))))

-- ── the frames of a stream, from one on

-- the bytes from a up to e
abbrev pub between : List ℕ → ℕ → ℕ → List ℕ
between s a e = take (e - a) (drop a s)

pub length_part : (s : List ℕ) (a e : ℕ) → e ≤ length s → length (between s a e) ≡ e - a
length_part s a e inside = length-take-le (e - a) (drop a s) (simp length-drop (omega arith))

module _ (s : List ℕ) (a width count : ℕ) (frames : FramesFrom s a width count) where
  same : (e i : ℕ) → i < width + 2 → a + i < e → fault_at s (a + i) ≡ frame_fault width (between s a e) i
  same e i inside there =
      frame-part width s a (e - a) i (omega (arith, frames.after)) (rw (mul-zero, add-zero) at (frames.rules 0 i inside)) inside (omega arith)

  -- the first of them has no fault exactly if the stream has none up to that frame's end
  pub first-clean : (e : ℕ) → a + (width + 2) ≤ e → Clean (frame_fault width (between s a e)) (width + 2) ↔ Clean (fault_at s) (a + (width + 2))
  first-clean e long = (
    joined (fault_at s) (frame_fault width (between s a e)) a (width + 2) frames.clean (λ i inside. same e i inside (omega arith)),
    λ clean i inside. sym (same e i inside (omega arith)) ∙ clean (a + i) (omega arith),
  )

  -- there are none left
  pub frames-end : count ≡ 0 → Reached (fault_at s) (stream_length s) (length s) 0 a
  frames-end none =
      let last : a ≡ stream_length s = omega (arith, frames.total, ap (λ (n : ℕ). (width + 2) * n) none, mul-zero (width + 2)) in
      whole refl last (subst (Clean (fault_at s)) last frames.clean) (omega (arith, frames.there))

  module _ (more : 0 < count) where
    room : stream_length s ≡ a + (width + 2) + (width + 2) * (count - 1)
    room = omega (arith, frames.total, frame-fewer width count more)

    -- the first of them is right: what follows it
    frames-next : a + (width + 2) ≤ length s → Clean (fault_at s) (a + (width + 2)) → FramesFrom s (a + (width + 2)) width (count - 1)
    frames-next inside clean =
        record {
          there = inside;
          clean = clean;
          after = omega arith;
          narrow = frames.narrow;
          total = room;
          rules = λ j i h. subst (λ (n : ℕ). rule_at (kind s) (n + i) ≡ frame_rule width i) (omega (arith, mul-suc (width + 2) j)) (frames.rules (suc j) i h);
        }

    -- the first of them isn't right: what it brings, or its bytes up to the input's end, the stream brings
    module _ (wrong : a + (width + 2) ≤ length s → Clean (fault_at s) (a + (width + 2)) → ⊥) (end : ℕ) (least : end ≡ min (a + (width + 2)) (length s)) where
      size : length (between s a end) ≡ end - a
      size = length_part s a end (omega arith)

      first-faulty : width + 2 ≤ length (between s a end) → Clean (frame_fault width (between s a end)) (width + 2) → ⊥
      first-faulty long clean = wrong (omega (arith, size, frames.there)) ((first-clean end (omega (arith, size, frames.there))).0 clean)

      pub frames-stop : {v k : ℕ} → Reached (frame_fault width (between s a end)) (width + 2) (length (between s a end)) v k
          → Reached (fault_at s) (stream_length s) (length s) v (a + k)
      frames-stop {v} {k} reached =
          moved (fault_at s) (frame_fault width (between s a end)) a (width + 2) (stream_length s) (length s) (length (between s a end)) v k frames.clean
          (λ i short there. same end i short (omega (arith, size, frames.there)))
          (omega (arith, room)) (omega (arith, size, frames.there))
          (λ cut. omega (arith, size, frames.there))
          first-faulty
          reached

module _ (s : List ℕ) (a width count unused : ℕ) (from : CountedFrom s a width count unused) where
  -- there are none left: all are counted
  pub counted-end : count ≡ 0 → unused ≡ unused_septets_of s
  unfolding unused_frames count_nonzero
  counted-end none =
      let zero = ap (λ (n : ℕ). count_nonzero (unused_frames width n (drop a s))) none in
      omega (arith, from.counted, zero)

  -- the first of them is right: what follows it, with its own counted
  pub counted_next : 0 < count → a + (width + 2) ≤ length s → Clean (fault_at s) (a + (width + 2))
      → CountedFrom s (a + (width + 2)) width (count - 1) (unused + nonzero (unused_bits width (get_or s (a + width) 0)))
  counted_next more inside clean =
      record {
        frames = frames-next s a width count from.frames more inside clean;
        counted = omega (arith, from.counted, unused-next width count s a more);
        few = omega (arith, from.few, nonzero-most (unused_bits width (get_or s (a + width) 0)));
      }
