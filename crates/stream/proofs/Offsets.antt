-- Laws of any bytes, up to the offset of the verdict on them.
use Prim.Native.Nat.{ℕ, ◌<◌, ◌≤◌}
use native.Mathlib.Omega.{arith}
use native.Mathlib.Nat.{eq-zero-or-pos}
use mathlib.Core.Path.{◌≡◌}
use mathlib.Core.Logic.{⊎_elim}
use mathlib.Core.List.{List}
use lib.ListN.{length, get_or}
use Rattle.stream.specs.Layout.{stream_length}
use Rattle.stream.specs.Validation.{fault_at, validation_of}
use Rattle.stream.specs.Stage.{Reached, whole, ended, found}
use Rattle.stream.proofs.Faults.{sync-right, low_held}
use Rattle.stream.proofs.Headers.{at-least-six}
use Rattle.stream.proofs.Reached.{complete, clean-before, bounded}

pub offset-within : (s : List ℕ) → (validation_of s).offset ≤ length s
offset-within s = (bounded (complete s)).1

pub low-before : (s : List ℕ) (k : ℕ) → 0 < k → k < (validation_of s).offset → get_or s k 0 < 0x80
low-before s k pos h = low_held s k pos (clean-before (complete s) k h)

-- where the sync byte comes first, the offset lies behind it
pub offset-behind : (s : List ℕ) → 0 < length s → get_or s 0 0 ≡ 0xAA → 0 < (validation_of s).offset
offset-behind s there sync = by-case _ _ (complete s)
  where
    by-case : (v k : ℕ) → Reached (fault_at s) (stream_length s) (length s) v k → 0 < k
    by-case v k (whole z o clean inside) = omega (arith, at-least-six s)
    by-case v k (ended z o clean below) = omega arith
    by-case v k (found e bad clean below inside) =
        ⊎_elim (λ first. absurd (omega (arith, rw first at e, sync-right s sync))) (λ pos. pos) (eq-zero-or-pos k)

-- why a stretch isn't whole, nothing before offset k being wrong: it ends there, before the stream does, or the byte there is at fault
pub data NotWhole (s : List ℕ) (v k : ℕ) : Type 0 where
  cut : v ≡ 7 → k ≡ length s → ((i : ℕ) → i < k → fault_at s i ≡ 0) → k < stream_length s → NotWhole s v k
  broken : fault_at s k ≡ v → 0 < v → ((i : ℕ) → i < k → fault_at s i ≡ 0) → k < stream_length s → k < length s → NotWhole s v k

reached-not-whole : (s : List ℕ) (v k : ℕ) → Reached (fault_at s) (stream_length s) (length s) v k → (v ≡ 0 → ⊥) → NotWhole s v k
reached-not-whole s v k (whole z o clean inside) bad = absurd (bad z)
reached-not-whole s v k (ended z o clean below) bad = cut z o (λ i h. clean i (omega arith)) (omega arith)
reached-not-whole s v k (found e pos clean below inside) bad = broken e pos clean below inside

pub not-whole : (s : List ℕ) → ((validation_of s).verdict ≡ 0 → ⊥) → NotWhole s (validation_of s).verdict (validation_of s).offset
not-whole s bad = reached-not-whole s _ _ (complete s) bad
