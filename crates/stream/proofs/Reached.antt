-- Laws of what is reached: it is the answer of the definition, and what parts reach makes up what the whole does.
use Prim.Native.Nat.{ℕ, zero, suc, ◌+◌, ◌-◌, ◌≤◌, ◌<◌}
use native.Mathlib.Omega.{arith}
use native.Mathlib.Decide.{dec_lt, ℕ_discrete}
use native.Mathlib.Numerals.{add-one}
use mathlib.Core.Path.{◌≡◌, refl, ap, ap₂, ◌∙◌, sym, subst}
use mathlib.Core.Logic.{dite}
use mathlib.Core.List.{List, [], ◌∷◌}
use borrow.Author.Count.{below_more}
use borrow.Author.Tests.{eq-eqb, ne_eqb}
use lib.ListN.{length, drop}
use Rattle.std.specs.Prelude.{false, Result, Ok, Err, is_ok}
use lib.Seq.{drop-cons, drop-length}
use Rattle.basics.specs.Choice.{choose}
use Rattle.stream.specs.Layout.{stream_length}
use Rattle.stream.specs.Unused.{unused_septets_of}
use Rattle.stream.specs.declared.Validation.{Validation}
use Rattle.stream.specs.declared.Verdict.{Verdict}
use Rattle.stream.specs.declared.Verdict.TheVariants.{Whole, NoSync, HighByte, UnknownVersion, HeaderChecksum, FrameChecksum, Ended}
use Rattle.stream.specs.declared.WholeStream.{WholeStream}
use Rattle.stream.specs.declared.stop.Stop.{Stop}
use Rattle.stream.specs.Validation.{number, fault_at, verdict_at, validation_from, validation_of, said_by, is_whole}
use Rattle.stream.specs.Stage.{Clean, Reached, whole, ended, found, ReachedBy}
use Rattle.stream.proofs.Faults.{fault-by}

-- ── what is reached is the answer

-- past a byte with no fault
step : (s : List ℕ) (k : ℕ) → fault_at s k ≡ 0 → k < length s → k < stream_length s → validation_from s k (drop k s) ≡ validation_from s (suc k) (drop (suc k) s)
unfolding validation_from choose
step s k clean inside below =
    rw (drop-cons s k 0) (simp (ne_eqb k (stream_length s) (λ e. omega arith), eq-eqb (fault_at s k) 0 clean))

-- past the bytes below k
skip : (s : List ℕ) (k : ℕ) → Clean (fault_at s) k → k ≤ length s → k ≤ stream_length s → validation_of s ≡ validation_from s k (drop k s)
skip s zero clean inside below = refl
skip s (suc k) clean inside below =
    skip s k (λ i h. clean i (omega arith)) (omega arith) (omega arith) ∙ step s k (clean k (omega arith)) inside below

at-whole : (s rest : List ℕ) (k : ℕ) → k ≡ stream_length s → validation_from s k rest ≡ verdict_at s 0 k
unfolding validation_from choose
at-whole s [] k e = simp (eq-eqb k (stream_length s) e)
at-whole s (byte ∷ rest) k e = simp (eq-eqb k (stream_length s) e)

at-end : (s : List ℕ) (k : ℕ) → k < stream_length s → validation_from s k [] ≡ verdict_at s 7 k
unfolding validation_from choose
at-end s k h = simp (ne_eqb k (stream_length s) (λ e. omega arith))

at-fault : (s : List ℕ) (k : ℕ) → 0 < fault_at s k → k < length s → k < stream_length s → validation_from s k (drop k s) ≡ verdict_at s (fault_at s k) k
unfolding validation_from choose
at-fault s k bad inside below =
    rw (drop-cons s k 0) (simp (ne_eqb k (stream_length s) (λ e. omega arith), ne_eqb (fault_at s k) 0 (λ e. omega arith)))

pub sound : (s : List ℕ) (v k : ℕ) → Reached (fault_at s) (stream_length s) (length s) v k → verdict_at s v k ≡ validation_of s
sound s v k (whole z o clean inside) =
    ap₂ (verdict_at s) z o ∙ sym (skip s (stream_length s) clean inside (omega arith) ∙ at-whole s _ _ refl)
sound s v k (ended z o clean below) =
    ap₂ (verdict_at s) z o ∙ sym (skip s (length s) clean (omega arith) (omega arith) ∙ rw drop-length (at-end s _ below))
sound s v k (found e bad clean below inside) =
    ap (λ (n : ℕ). verdict_at s n k) (sym e) ∙ sym (skip s k clean (omega arith) (omega arith) ∙ at-fault s k (omega arith) inside below)

-- ── and the answer is reached

reached-from : (s : List ℕ) (k : ℕ) (rest : List ℕ) → length rest + k ≡ length s → Clean (fault_at s) k → k ≤ stream_length s
    → Reached (fault_at s) (stream_length s) (length s) (validation_from s k rest).verdict (validation_from s k rest).offset
unfolding validation_from choose
reached-from s k [] len clean below =
    dite (ℕ_discrete k (stream_length s))
    (λ e. simp (eq-eqb k (stream_length s) e) (whole refl e (subst (Clean (fault_at s)) e clean) (omega arith)))
    (λ ne. simp (ne_eqb k (stream_length s) ne) (ended refl (omega arith) (subst (Clean (fault_at s)) (omega arith) clean) (omega arith)))
reached-from s k (byte ∷ rest) len clean below =
    dite (ℕ_discrete k (stream_length s))
    (λ e. simp (eq-eqb k (stream_length s) e) (whole refl e (subst (Clean (fault_at s)) e clean) (omega arith)))
    (λ ne. simp (ne_eqb k (stream_length s) ne)
    (dite (ℕ_discrete (fault_at s k) 0)
    (λ here. simp (eq-eqb (fault_at s k) 0 here)
    (reached-from s (suc k) rest (omega arith) (rw (← add-one) (below_more (λ (n : ℕ). fault_at s n ≡ 0) k clean here)) (omega arith)))
    (λ bad. simp (ne_eqb (fault_at s k) 0 bad) (found refl (omega arith) clean (omega arith) (omega arith)))))

pub complete : (s : List ℕ) → Reached (fault_at s) (stream_length s) (length s) (validation_of s).verdict (validation_of s).offset
complete s = reached-from s 0 s (omega arith) (λ i h. absurd (omega arith)) (omega arith)

-- ── a part, and what follows it

module _ {fault : ℕ → ℕ} {m n v k : ℕ} where
  -- what is reached before the part's end stands, however much follows
  pub early : {total : ℕ} → Reached fault m n v k → k < m → m ≤ total → Reached fault total n v k
  early (whole z o clean inside) short longer = absurd (omega arith)
  early (ended z o clean below) short longer = ended z o clean (omega arith)
  early (found e bad clean below inside) short longer = found e bad clean (omega arith) inside

  -- what reaches the part's end has no fault in it
  pub through : Reached fault m n v k → m ≤ k → Clean fault m
  through (whole z o clean inside) long = clean
  through (ended z o clean below) long = absurd (omega arith)
  through (found e bad clean below inside) long = absurd (omega arith)

  -- no fault stands before the one that is reached
  pub clean-before : Reached fault m n v k → Clean fault k
  clean-before (whole z o clean inside) = rw o clean
  clean-before (ended z o clean below) = rw o clean
  clean-before (found e bad clean below inside) = clean

  pub bounded : Reached fault m n v k → (k ≤ m) × (k ≤ n)
  bounded (whole z o clean inside) = omega arith
  bounded (ended z o clean below) = omega arith
  bounded (found e bad clean below inside) = omega arith

-- what has no fault below a, and none below m from a on, has none below a + m
pub joined : (fault part : ℕ → ℕ) (a m : ℕ) → Clean fault a → ((i : ℕ) → i < m → fault (a + i) ≡ part i) → Clean part m → Clean fault (a + m)
joined fault part a m clean same rest i h =
    dite
    (dec_lt i a)
    (λ short. clean i short)
    (λ long. subst (λ (k : ℕ). fault k ≡ 0) (omega arith) (same (i - a) (omega arith) ∙ rest (i - a) (omega arith)))

-- what is reached in a part that starts at a, that only the end cuts off, and that isn't right
pub moved : (fault part : ℕ → ℕ) (a m total n count v k : ℕ)
    → Clean fault a → ((i : ℕ) → i < m → i < count → fault (a + i) ≡ part i) → a + m ≤ total
    → a + count ≤ n → (count < m → a + count ≡ n) → (m ≤ count → Clean part m → ⊥)
    → Reached part m count v k → Reached fault total n v (a + k)
moved fault part a m total n count v k clean same room within cut wrong (whole z o rest inside) = absurd (wrong inside rest)
moved fault part a m total n count v k clean same room within cut wrong (ended z o rest below) =
    let end = cut below in
    ended z (omega arith) (subst (Clean fault) end (joined fault part a count clean (λ i h. same i (omega arith) h) rest)) (omega arith)
moved fault part a m total n count v k clean same room within cut wrong (found e bad rest below inside) =
    found (same k below inside ∙ e) bad (joined fault part a k clean (λ i h. same i (omega arith) (omega arith)) rest) (omega arith) (omega arith)

-- ── a whole stream

pub record WholeTo (s : List ℕ) : Type 0 where
  pub offset : (validation_of s).offset ≡ stream_length s
  pub held : stream_length s ≤ length s
  pub clean : Clean (fault_at s) (stream_length s)

whole_to : (s : List ℕ) (v k : ℕ) → Reached (fault_at s) (stream_length s) (length s) v k → v ≡ 0
    → (k ≡ stream_length s) × (stream_length s ≤ length s) × Clean (fault_at s) (stream_length s)
whole_to s v k (whole z o clean inside) w = (o, inside, clean)
whole_to s v k (ended z o clean below) w = absurd (omega arith)
whole_to s v k (found e bad clean below inside) w = absurd (omega arith)

pub whole-clean : (s : List ℕ) → (validation_of s).verdict ≡ 0 → WholeTo s
whole-clean s w =
    let (offset, held, clean) = whole_to s (validation_of s).verdict (validation_of s).offset (complete s) w in
    record { offset = offset; held = held; clean = clean }

pub clean-whole : (s : List ℕ) → Clean (fault_at s) (stream_length s) → stream_length s ≤ length s → validation_of s ≡ verdict_at s 0 (stream_length s)
clean-whole s clean held = sym (sound s _ _ (whole refl refl clean held))

-- ── its unused septets

said-again : (s : List ℕ) → validation_of s ≡ verdict_at s (validation_of s).verdict (validation_of s).offset
said-again s = sym (sound s _ _ (complete s))

pub whole-counted : (s : List ℕ) → (validation_of s).verdict ≡ 0 → (validation_of s).unused_septets ≡ unused_septets_of s
unfolding choose
whole-counted s w = ap (λ (v : Validation). v.unused_septets) (said-again s) ∙ simp (eq-eqb _ 0 w)

-- where there is no whole stream none are counted
pub faulty-counted : (s : List ℕ) → ((validation_of s).verdict ≡ 0 → ⊥) → (validation_of s).unused_septets ≡ 0
unfolding choose
faulty-counted s bad = ap (λ (v : Validation). v.unused_septets) (said-again s) ∙ simp (ne_eqb _ 0 bad)

-- ── what is told

-- only V0 has the number 0
pub number-faulty : (verdict : Verdict) → (verdict ≡ Whole → ⊥) → number verdict ≡ 0 → ⊥
number-faulty Whole bad e = bad refl
number-faulty NoSync bad e = omega arith
number-faulty HighByte bad e = omega arith
number-faulty UnknownVersion bad e = omega arith
number-faulty HeaderChecksum bad e = omega arith
number-faulty FrameChecksum bad e = omega arith
number-faulty Ended bad e = omega arith

pub told-fault : (s : List ℕ) {v k : ℕ} → Reached (fault_at s) (stream_length s) (length s) v k → (v ≡ 0 → ⊥) → record { verdict = v; offset = k; unused_septets = 0 } ≡ validation_of s
unfolding choose
told-fault s {v} {k} reached bad = simp (ne_eqb v 0 bad) at (sound s v k reached)

pub told-whole : (s : List ℕ) (stream : WholeStream) → Reached (fault_at s) (stream_length s) (length s) 0 stream.length → stream.unused_septets ≡ unused_septets_of s
    → said_by (Ok stream) ≡ validation_of s
unfolding choose
told-whole s stream reached count =
    ap (λ (n : ℕ). record { verdict = 0; offset = stream.length; unused_septets = n }) count ∙ sound s 0 stream.length reached

-- a fault is reached before the end
pub faulty-early : {fault : ℕ → ℕ} {total n v k : ℕ} → Reached fault total n v k → (v ≡ 0 → ⊥) → k < total
faulty-early (whole z o clean inside) bad = absurd (bad z)
faulty-early (ended z o clean below) bad = omega arith
faulty-early (found e pos clean below inside) bad = below

-- a fault of the first bytes is the stream's
pub told-early : (s : List ℕ) {m : ℕ} (stop : Stop) → ReachedBy (fault_at s) m (length s) stop → m ≤ stream_length s → said_by (Err stop) ≡ validation_of s
told-early s stop reached within =
    let bad = number-faulty stop.verdict stop.faulty in
    told-fault s (early reached (faulty-early reached bad) within) bad

-- a fault is no whole stream
pub told-broken : (s : List ℕ) {v k n : ℕ} → record { verdict = v; offset = k; unused_septets = n } ≡ validation_of s → (v ≡ 0 → ⊥) → false ≡ is_whole s
told-broken s e bad = sym (ne_eqb _ 0 (λ w. bad (ap (λ (v : Validation). v.verdict) e ∙ w)))

-- an answer is a stream where there is a whole one
pub told-ok : (s : List ℕ) (answer : Result WholeStream Stop) → said_by answer ≡ validation_of s → is_ok answer ≡ is_whole s
told-ok s (Ok stream) e = sym (eq-eqb _ 0 (sym (ap (λ (v : Validation). v.verdict) e)))
told-ok s (Err stop) e = told-broken s e (number-faulty stop.verdict stop.faulty)

-- ── V5

fault-five : (s : List ℕ) (k : ℕ) → fault_at s k ≡ 5 → ⊥
fault-five = fault-by (λ (v : ℕ). v ≡ 5 → ⊥) (λ e. omega arith) (λ e. omega arith) (λ e. omega arith) (λ e. omega arith) (λ e. omega arith) (λ e. omega arith)

never-reached : (s : List ℕ) (total n v k : ℕ) → Reached (fault_at s) total n v k → v ≡ 5 → ⊥
never-reached s total n v k (whole z o clean inside) e = omega arith
never-reached s total n v k (ended z o clean below) e = omega arith
never-reached s total n v k (found is bad clean below inside) e = fault-five s k (is ∙ e)

-- request No. 3: "V5 is never given again"
pub never-five : (s : List ℕ) → (validation_of s).verdict ≡ 5 → ⊥
never-five s = never-reached s _ _ _ _ (complete s)
