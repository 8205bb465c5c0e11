-- What *next* answers, in terms of positions and records: demand 2's "exactly".
use Prim.Native.Nat.{ℕ, ◌+◌, ◌<◌, ◌≤◌}
use native.Mathlib.Omega.{arith}
use native.Mathlib.Decide.{ℕ_discrete}
use mathlib.Core.Path.{◌≡◌, refl, sym, ap, subst, ◌∙◌}
use mathlib.Core.Bool.{true, false, true≢false, false≢true}
use mathlib.Core.Logic.{◌↔◌, dite}
use mathlib.Core.List.{List, [], ◌∷◌, ◌++◌}
use borrow.Author.Tests.{lt-ltb, le-ltb, eq-eqb, ne_eqb, ltb-false}
use lib.Dec.{ltb}
use lib.ListN.{length, drop, length-drop}
use Rattle.basics.specs.Bytes.{over}
use Rattle.basics.specs.Choice.{choose}
use Rattle.basics.proofs.Table.{line-passed}
use Rattle.stream.specs.Validation.{validation_of}
use Rattle.stream.specs.declared.Validation.{Validation}
use Rattle.record.specs.Encode.{InRange, output_after, refusal as encode-refusal}
use Rattle.record.specs.Record.{Record, record_of, stream_of}
use Rattle.record.proofs.Carried as Carried
use Rattle.record.proofs.WholeAgain.{whole-writable}
use Rattle.record.proofs.ReadBack.{read_back}
use Rattle.recording.specs.Next.{without, first_of, payload_of, refusal, next_of, payload_after}
use Rattle.recording.specs.declared.Found.{Found}
use Rattle.recording.specs.Recording.{Delivery, delivery_at, deliveries_from, deliveries_after, contents_of, records}
use Rattle.recording.proofs.Deliveries.{Whole, whole_long, FirstAfter, none, some, first-after, first-whole, contents-after}

-- a is the answer for the first whole stream at or after the start, and the records from there on are its own and those behind it
pub record Finds (s : List ℕ) (start : ℕ) (a : Found) : Type 0 where
  pub after : start ≤ a.position
  pub whole : Whole (drop a.position s)
  pub sized : a.length ≡ (validation_of (drop a.position s)).offset
  pub header : a.header ≡ (record_of (drop a.position s)).header
  pub payload : a.payload_length ≡ length (record_of (drop a.position s)).payload
  pub first : (q : ℕ) → start ≤ q → q < a.position → Whole (drop q s) → ⊥
  pub rest : records (drop start s) ≡ record_of (drop a.position s) ∷ records (drop (a.position + a.length) s)

finds : (s : List ℕ) (start : ℕ) (ds : List Delivery) → deliveries_after s start ≡ ds → FirstAfter s start ds → (first_of ds).found ≡ true → Finds s start (first_of ds)
finds s start ds same (none free) found = absurd (false≢true found)
finds s start ds same (some q after inside whole free) found =
    record {
      after = after;
      whole = whole;
      sized = refl;
      header = refl;
      payload = refl;
      first = free;
      rest =
          sym (contents-after s start)
          ∙ ap contents_of same
          ∙ ap {B = List Record} (λ l. record_of (drop q s) ∷ l) (contents-after s (q + (validation_of (drop q s)).offset));
    }

-- ── the answer, by the refusal

module _ (s : List ℕ) (start room : ℕ) where
  pub refusal-past : length s < start → refusal s start room ≡ 6
  unfolding refusal choose
  refusal-past past = simp (lt-ltb (length s) start past)

  pub refusal-short : start ≤ length s → room < length (payload_of (deliveries_after s start)) → refusal s start room ≡ 5
  unfolding refusal choose
  refusal-short within short = simp (le-ltb (length s) start within, lt-ltb room _ short)

  pub refusal-none : start ≤ length s → length (payload_of (deliveries_after s start)) ≤ room → refusal s start room ≡ 0
  unfolding refusal choose
  refusal-none within fits = simp (le-ltb (length s) start within, le-ltb room _ fits)

  unrefused-within : refusal s start room ≡ 0 → start ≤ length s
  unfolding refusal
  unrefused-within e = ltb-false (length s) start (line-passed (ltb (length s) start) 6 _ (omega arith) e).0

  pub next-answers : refusal s start room ≡ 0 → next_of s start room ≡ first_of (deliveries_after s start)
  unfolding choose
  next-answers e = rw (eq-eqb _ 0 e)

  pub next-refuses : (n : ℕ) → 0 < n → refusal s start room ≡ n → next_of s start room ≡ without n
  unfolding choose
  next-refuses n pos e = rw (ne_eqb (refusal s start room) 0 (λ z. omega arith), e)

  number-refusal : (next_of s start room).number ≡ 0 → refusal s start room ≡ 0
  number-refusal e =
      dite (ℕ_discrete (refusal s start room) 0) (λ z. z)
      (λ other. sym (ap (λ (a : Found). a.number) (next-refuses (refusal s start room) (omega arith) refl)) ∙ e)

  found-refusal : (next_of s start room).found ≡ true → refusal s start room ≡ 0
  found-refusal e =
      dite (ℕ_discrete (refusal s start room) 0) (λ z. z)
      (λ other. absurd (false≢true (sym (ap (λ (a : Found). a.found) (next-refuses (refusal s start room) (omega arith) refl)) ∙ e)))

module _ (s : List ℕ) (start : ℕ) (out : List ℕ) where
  pub output-kept : 0 < refusal s start (length out) → payload_after s start out ≡ out
  unfolding choose
  output-kept refused = rw (ne_eqb (refusal s start (length out)) 0 (λ z. omega arith))

  pub output-written : refusal s start (length out) ≡ 0 → payload_after s start out ≡ over (payload_of (deliveries_after s start)) out
  unfolding choose
  output-written e = rw (eq-eqb (refusal s start (length out)) 0 e)

-- ── found

-- next gives the first position at or after the start where a whole stream stands, with its record
pub next-first : (s : List ℕ) (start room : ℕ) → (next_of s start room).found ≡ true → Finds s start (next_of s start room)
next-first s start room found =
    let e = next-answers s start room (found-refusal s start room found) in
    rw e (finds s start (deliveries_after s start) refl (first-after s start) (rw e at found))

-- ── none

-- no whole stream begins at or after the start
abbrev pub NoneAfter : List ℕ → ℕ → Type 0
NoneAfter s start = (q : ℕ) → start ≤ q → q < length s → Whole (drop q s) → ⊥

empty-none : (s : List ℕ) (start : ℕ) (ds : List Delivery) → FirstAfter s start ds → (first_of ds).found ≡ false → NoneAfter s start
empty-none s start ds (none free) e = free
empty-none s start ds (some q after inside whole free) e = absurd (true≢false e)

none-empty : (s : List ℕ) (start : ℕ) (ds : List Delivery) → FirstAfter s start ds → NoneAfter s start → ds ≡ []
none-empty s start ds (none free) no_whole = refl
none-empty s start ds (some q after inside whole free) no_whole = absurd (no_whole q after inside whole)

-- the answer is "none" exactly if there is no such position
pub next-none : (s : List ℕ) (start room : ℕ)
    → (((next_of s start room).number ≡ 0) × ((next_of s start room).found ≡ false)) ↔ ((start ≤ length s) × NoneAfter s start)
next-none s start room = (
  (λ (number, unfound).
      let e = number-refusal s start room number in
      (unrefused-within s start room e, empty-none s start (deliveries_after s start) (first-after s start) (rw (next-answers s start room e) at unfound))),
  (λ (within, free).
      let empty = none-empty s start (deliveries_after s start) (first-after s start) free in
      let answer : next_of s start room ≡ without 0 =
      next-answers s start room (refusal-none s start room within (rw empty (omega arith))) ∙ ap first_of empty in
      (ap (λ (a : Found). a.number) answer, ap (λ (a : Found). a.found) answer)),
)

-- ── what was written is found

-- next over what encode wrote, whatever stands behind it, gives that record at 0
pub encode-next : (r : Record) (out buffer : List ℕ) → InRange r → encode-refusal r (length out) ≡ 0 → length r.payload ≤ length buffer
    → (next_of (output_after r out) 0 (length buffer)
    ≡ record { number = 0; found = true; position = 0; length = length (stream_of r); header = r.header; payload_length = length r.payload })
    × (payload_after (output_after r out) 0 buffer ≡ over r.payload buffer)
unfolding choose
encode-next r out buffer range written room =
    let (writable, held) = Carried.unrefused r (length out) range written in
    let t = drop (length (stream_of r)) out in
    let s = stream_of r ++ t in
    let (verdict, read) = read_back r writable t in
    let d : deliveries_after s 0 ≡ delivery_at 0 s ∷ deliveries_from (0 + (validation_of s).offset) (drop (validation_of s).offset s) =
    first-whole 0 s (ap (λ (v : Validation). v.verdict) verdict) in
    let delivered : first_of (deliveries_after s 0) ≡ record { number = 0; found = true; position = 0; length = length (stream_of r); header = r.header; payload_length = length r.payload } =
    ap first_of d ∙ rw (verdict, read) in
    let payload : payload_of (deliveries_after s 0) ≡ r.payload = ap payload_of d ∙ rw read in
    let unrefused-next : refusal s 0 (length buffer) ≡ 0 = refusal-none s 0 (length buffer) (omega arith) (rw payload room) in
    let e : output_after r out ≡ s = rw (eq-eqb (encode-refusal r (length out)) 0 written) in
    rw e (next-answers s 0 (length buffer) unrefused-next ∙ delivered, output-written s 0 buffer unrefused-next ∙ rw payload)

-- ── exactly

found_here : (s : List ℕ) (q : ℕ) (ds : List Delivery) → FirstAfter s q ds
    → (((first_of ds).found ≡ true) × ((first_of ds).position ≡ q)) ↔ ((q < length s) × Whole (drop q s))
found_here s q ds (none free) = ((λ (found, at). absurd (false≢true found)), (λ (inside, whole). absurd (free q (omega arith) inside whole)))
found_here s q ds (some p after inside whole free) = (
  (λ (found, at). (omega arith, subst (λ (n : ℕ). Whole (drop n s)) at whole)),
  (λ (within, here). (refl, dite (ℕ_discrete p q) (λ same. same) (λ other. absurd (free q (omega arith) (omega arith) here)))),
)

-- no payload is longer than 508 bytes
payload-most : (s : List ℕ) (start : ℕ) (ds : List Delivery) → FirstAfter s start ds → length (payload_of ds) ≤ 508
payload-most s start ds (none free) = omega arith
payload-most s start ds (some q after inside whole free) = Carried.payload-most (record_of (drop q s)) (whole-writable (drop q s) whole)

-- given room for any payload, next finds a record at a position exactly if the bytes from there on begin with one whole valid stream
pub next-exactly : (s : List ℕ) (q room : ℕ) → q ≤ length s → 508 ≤ room
    → (((next_of s q room).found ≡ true) × ((next_of s q room).position ≡ q)) ↔ Whole (drop q s)
next-exactly s q room within fits =
    let answers = next-answers s q room (refusal-none s q room within (omega (arith, payload-most s q (deliveries_after s q) (first-after s q)))) in
    let exactly = found_here s q (deliveries_after s q) (first-after s q) in
    rw answers (
      (λ found. (exactly.0 found).1),
      (λ whole. exactly.1 (omega (arith, whole_long (drop q s) whole, length-drop q s), whole)),
    )
