-- Demand 3 of runs: of what `normalize` leaves in any output, whatever stood in it, and of the number that it answers.
use Prim.Native.Nat.{ℕ, ◌≤◌}
use native.Mathlib.Omega.{arith}
use mathlib.Core.Path.{◌≡◌, sym, ap, ap₂, ◌∙◌}
use mathlib.Core.Logic.{◌↔◌}
use mathlib.Core.List.{List, []}
use lib.ListN.{length, take, drop}
use lib.Seq.{take-append_seam}
use Rattle.basics.specs.declared.Written.{Written}
use Rattle.stream.specs.Validation.{validation_of}
use Rattle.basics.proofs.Output.{unrefused, answered-fits, output-written}
use Rattle.recording.specs.Normalize.{streams, normalized, normalizing_of, output_after}
use Rattle.recording.specs.Recording.{records}
use Rattle.recording.proofs.Normalizing.{records-normalized, normalized-again, normalized-same, normalized-unused}

-- a run that isn't refused
abbrev pub Accepted : List ℕ → List ℕ → Type 0
Accepted s out = (normalizing_of s (length out)).number ≡ 0

-- document 01's washed bytes: as many from the output's start as the run answers
abbrev pub run_bytes : List ℕ → List ℕ → List ℕ
run_bytes s out = take (normalizing_of s (length out)).length (output_after s out)

-- a run isn't refused exactly if the output has room for the records' streams
pub accepted-exactly : (s out : List ℕ) → Accepted s out ↔ (length (normalized s) ≤ length out)
accepted-exactly s out = (
  (λ accepted. unrefused (normalized s) (length out) accepted),
  (λ fits. ap (λ (a : Written). a.number) (answered-fits (normalized s) (length out) fits)),
)

module _ (s out : List ℕ) (accepted : Accepted s out) where
  fits : length (normalized s) ≤ length out
  fits = (accepted-exactly s out).0 accepted

  answered-length : (normalizing_of s (length out)).length ≡ length (normalized s)
  answered-length = ap (λ (a : Written). a.length) (answered-fits (normalized s) (length out) fits)

  run-bytes : run_bytes s out ≡ normalized s
  run-bytes =
      ap₂ (λ (n : ℕ) (l : List ℕ). take n l) answered-length (output-written (normalized s) out fits)
      ∙ take-append_seam (normalized s) (drop (length (normalized s)) out)

  -- the number answered is the number of those bytes
  pub run-number : (normalizing_of s (length out)).length ≡ length (run_bytes s out)
  run-number = answered-length ∙ sym (ap length run-bytes)

  -- normalized bytes deliver the same records
  pub run-delivers : records (run_bytes s out) ≡ records s
  run-delivers = ap records run-bytes ∙ records-normalized s

  -- and have no unused septet bits
  pub run-unused : (q : ℕ) → (validation_of (drop q (run_bytes s out))).unused_septets ≡ 0
  run-unused q = ap (λ (l : List ℕ). (validation_of (drop q l)).unused_septets) run-bytes ∙ normalized-unused s q

-- normalizing again, given room: not refused, the same bytes and the same number of them
pub run-again : (s out again : List ℕ) → Accepted s out → length (run_bytes s out) ≤ length again
    → Accepted (run_bytes s out) again
    × (run_bytes (run_bytes s out) again ≡ run_bytes s out)
    × ((normalizing_of (run_bytes s out) (length again)).length ≡ (normalizing_of s (length out)).length)
run-again s out again accepted room =
    let once = run_bytes s out in
    let same : normalized once ≡ once = ap normalized (run-bytes s out accepted) ∙ normalized-again s ∙ sym (run-bytes s out accepted) in
    let twice : Accepted once again = (accepted-exactly once again).1 (rw same room) in
    let bytes : run_bytes once again ≡ once = run-bytes once again twice ∙ same in
    (twice, bytes, run-number once again twice ∙ ap length bytes ∙ sym (run-number s out accepted))

-- equal normalized bytes exactly if the same records were delivered
pub runs_same : (a b out_a out_b : List ℕ) → Accepted a out_a → Accepted b out_b → (run_bytes a out_a ≡ run_bytes b out_b) ↔ (records a ≡ records b)
runs_same a b out_a out_b ra rb =
    let l = run-bytes a out_a ra in
    let r = run-bytes b out_b rb in
    ((λ e. (normalized-same a b).0 (sym l ∙ e ∙ r)), (λ e. l ∙ (normalized-same a b).1 e ∙ sym r))

-- with no delivered record nothing is refused or written, whatever the output
pub run_none : (s out : List ℕ) → records s ≡ [] → (normalizing_of s (length out) ≡ record { number = 0; length = 0 }) × (output_after s out ≡ out)
unfolding streams
run_none s out none =
    let empty : normalized s ≡ [] = ap streams none in
    rw empty (answered-fits [] (length out) (omega arith), output-written [] out (omega arith))
