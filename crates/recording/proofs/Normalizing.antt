-- Demand 3 on lists: a normalized recording delivers the same records.
use Prim.Native.Nat.{ℕ, ◌+◌, ◌-◌, ◌≤◌}
use native.Mathlib.Omega.{arith}
use native.Mathlib.Decide.{ℕ_discrete}
use native.Mathlib.Nat.{sub-zero, eq-zero-or-pos}
use mathlib.Core.Path.{◌≡◌, refl, sym, ap, ◌∙◌}
use mathlib.Core.Logic.{◌↔◌, ⊎_elim, dite}
use mathlib.Core.List.{List, [], ◌∷◌, ◌++◌}
use lib.ListN.{length, drop, length-append, length-drop}
use lib.Seq.{drop_at, drop-drop}
use Rattle.stream.specs.Validation.{validation_of}
use Rattle.stream.specs.declared.Validation.{Validation}
use Rattle.stream.proofs.Reached.{faulty-counted}
use Rattle.record.specs.Encode.{Writable}
use Rattle.record.specs.Record.{Record, record_of, stream_of}
use Rattle.record.proofs.ReadBack.{read_back}
use Rattle.record.proofs.WholeAgain.{whole-writable, whole_length}
use Rattle.recording.specs.Normalize.{streams, normalized}
use Rattle.recording.specs.Recording.{deliveries_from, deliveries_after, contents_of, records}
use Rattle.recording.proofs.Deliveries.{Whole, whole_long, no-overlap, first-whole, after-ind, contents-moved}

-- a written stream delivers its record, and then what is behind it
records-stream : (r : Record) → Writable r → (t : List ℕ) → records (stream_of r ++ t) ≡ r ∷ records t
records-stream r w t =
    let s = stream_of r ++ t in
    let (verdict, read) = read_back r w t in
    let whole : Whole s = ap (λ (v : Validation). v.verdict) verdict in
    let size : (validation_of s).offset ≡ length (stream_of r) = ap (λ (v : Validation). v.offset) verdict in
    let rest : drop (validation_of s).offset s ≡ t = drop_at (stream_of r) t (validation_of s).offset (sym size) in
    ap contents_of (first-whole 0 s whole)
    ∙ rw read (ap {B = List Record} (λ l. r ∷ l) (contents-moved (0 + (validation_of s).offset) 0 (drop (validation_of s).offset s) ∙ ap records rest))

-- records that can be written
abbrev AllWritable : List Record → Type 0
AllWritable [] = Unit {0}
AllWritable (r ∷ rest) = Writable r × AllWritable rest

records-writable : (s : List ℕ) → AllWritable (records s)
records-writable s =
    after-ind s (λ start ds. AllWritable (contents_of ds)) (λ start. tt) (λ start q after whole rest. (whole-writable (drop q s) whole, rest)) 0

records-streams : (rs : List Record) → AllWritable rs → records (streams rs) ≡ rs
unfolding streams deliveries_from
records-streams [] all = refl
records-streams (r ∷ rest) all = records-stream r all.0 (streams rest) ∙ ap {B = List Record} (λ l. r ∷ l) (records-streams rest all.1)

-- normalized bytes deliver the same records
pub records-normalized : (s : List ℕ) → records (normalized s) ≡ records s
records-normalized s = records-streams (records s) (records-writable s)

-- normalizing again changes nothing
pub normalized-again : (s : List ℕ) → normalized (normalized s) ≡ normalized s
normalized-again s = ap streams (records-normalized s)

-- equal normalized bytes exactly if the same records were delivered
pub normalized-same : (a b : List ℕ) → (normalized a ≡ normalized b) ↔ (records a ≡ records b)
normalized-same a b = ((λ e. sym (records-normalized a) ∙ ap records e ∙ records-normalized b), (λ e. ap streams e))

-- ── no unused septet bits

unused-streams : (rs : List Record) → AllWritable rs → (q : ℕ) → (validation_of (drop q (streams rs))).unused_septets ≡ 0
unfolding streams
unused-streams [] all q = faulty-counted (drop q []) (λ w. omega (arith, whole_long (drop q []) w, length-drop {A = ℕ} q []))
unused-streams (r ∷ rest) all q =
    let s = stream_of r ++ streams rest in
    let verdict = (read_back r all.0 (streams rest)).0 in
    let size : (validation_of s).offset ≡ length (stream_of r) = ap (λ (v : Validation). v.offset) verdict in
    dite (ℕ_discrete (validation_of (drop q s)).verdict 0)
    (λ w. ⊎_elim
    (λ first. rw first (ap (λ (v : Validation). v.unused_septets) verdict))
    (λ behind.
    let n = length (stream_of r) in
    let past = no-overlap s 0 q (ap (λ (v : Validation). v.verdict) verdict) w behind in
    let place : n + (q - n) ≡ q = omega arith in
    let same : drop q s ≡ drop (q - n) (streams rest) =
    ap (λ (k : ℕ). drop k s) (sym place) ∙ sym (drop-drop (q - n) n s) ∙ ap (drop (q - n)) (drop_at (stream_of r) (streams rest) n refl) in
    ap (λ (l : List ℕ). (validation_of l).unused_septets) same ∙ unused-streams rest all.1 (q - n))
    (eq-zero-or-pos q))
    (λ faulty. faulty-counted (drop q s) faulty)

-- at no place of normalized bytes is a block with unused septet bits counted
pub normalized-unused : (s : List ℕ) (q : ℕ) → (validation_of (drop q (normalized s))).unused_septets ≡ 0
normalized-unused s q = unused-streams (records s) (records-writable s) q

-- ── one stream after the other

-- a normalized recording is no longer than the recording
pub normalized-shorter : (s : List ℕ) → length (normalized s) ≤ length s
unfolding streams
normalized-shorter s =
    rw sub-zero at (after-ind s (λ start ds. length (streams (contents_of ds)) ≤ length s - start) (λ start. omega arith)
    (λ start q after whole rest.
    let long = whole_long (drop q s) whole in
    omega (
      arith,
      length-append (stream_of (record_of (drop q s))) (streams (contents_of (deliveries_after s (q + (validation_of (drop q s)).offset)))),
      whole_length (drop q s) whole,
      length-drop q s,
    ))
    0)
