-- What the search for a whole stream tells of the deliveries, and what is answered by it.
use Prim.Native.Nat.{ℕ, ◌+◌, ◌<◌, ◌≤◌}
use native.Mathlib.Omega.{arith}
use native.Mathlib.Decide.{dec_lt}
use mathlib.Core.Logic.{dite}
use mathlib.Core.Path.{◌≡◌, refl, sym, ap, subst, ◌∙◌}
use mathlib.Core.List.{List, [], ◌∷◌}
use borrow.Author.Tests.{lt-ltb, le-ltb}
use lib.ListN.{length, drop, length-drop}
use Rattle.std.specs.Prelude.{Option, Some, None, Ok, Err}
use Rattle.basics.specs.Bytes.{over}
use Rattle.basics.specs.Choice.{choose}
use Rattle.basics.specs.Output.{output_for}
use Rattle.basics.specs.declared.refusal.Refusal.{Refusal}
use Rattle.basics.specs.declared.refusal.Refusal.TheVariants.{OutputTooShort}
use Rattle.basics.proofs.Output as output
use Rattle.stream.specs.Validation.{validation_of}
use Rattle.record.specs.Record.{Record, record_of}
use Rattle.recording.specs.Next.{without, first_of, payload_of, refusal, next_of, payload_after}
use Rattle.recording.specs.Recording.{Delivery, delivery_at, deliveries_after}
use Rattle.recording.specs.Stage.{searched, WholeAt, delivered_of, contents_for}
use Rattle.recording.specs.declared.read.Contents.{Contents}
use Rattle.recording.specs.declared.search.Span.{Span}
use Rattle.recording.proofs.Deliveries.{whole_long, FirstAfter, none, some, first-after}
use Rattle.recording.proofs.Nexts.{refusal-none, refusal-short, next-answers, next-refuses, output-kept, output-written}

-- the stream that was found, and what follows it
pub record FoundAt (s : List ℕ) (start : ℕ) (span : Span) : Type 0 where
  pub after : start ≤ span.position
  pub whole-at : WholeAt s span
  pub long : 8 ≤ span.stream.length
  pub inside : span.position + span.stream.length ≤ length s
  pub deliveries : deliveries_after s start ≡ delivery_at span.position (drop span.position s) ∷ deliveries_after s (span.position + span.stream.length)

found_at : (s : List ℕ) (start : ℕ) (ds : List Delivery) (span : Span) → deliveries_after s start ≡ ds → FirstAfter s start ds → searched s ds ≡ Some span → FoundAt s start span
found_at s start ds span same (none free) e = absurd cc
found_at s start ds span same (some q after inside whole free) e =
    let is : record { position = q; stream = record { length = (validation_of (drop q s)).offset; unused_septets = (validation_of (drop q s)).unused_septets } } ≡ span = cc in
    let long = whole_long (drop q s) whole in
    subst (FoundAt s start) is
    (record {
      after = after;
      whole-at = record { within = omega arith; whole = whole; sized = refl; counted = refl };
      long = omega arith;
      inside = omega (arith, length-drop q s);
      deliveries = same;
    })

module _ (s : List ℕ) (start : ℕ) where
  pub search-found : (span : Span) (x : Option Span) → x ≡ searched s (deliveries_after s start) → x ≡ Some span → FoundAt s start span
  search-found span x told e = found_at s start (deliveries_after s start) span refl (first-after s start) (sym told ∙ e)

  pub search-none : (x : Option Span) → x ≡ searched s (deliveries_after s start) → x ≡ None → deliveries_after s start ≡ []
  search-none x told e = by_first (deliveries_after s start) (first-after s start) (sym told ∙ e)
    where
      by_first : (ds : List Delivery) → FirstAfter s start ds → searched s ds ≡ None → ds ≡ []
      by_first ds (none free) e = refl
      by_first ds (some q after inside whole free) e = absurd cc

-- ── what is answered for it

-- what is read of a record that has room, or has none
module _ (r : Record) (room : ℕ) where
  pub contents-short : room < length r.payload → contents_for r room ≡ Err OutputTooShort
  unfolding choose
  contents-short short = rw (lt-ltb room _ short)

  pub contents-fits : length r.payload ≤ room → contents_for r room ≡ Ok (record { header = r.header; payload_length = length r.payload })
  unfolding choose
  contents-fits fits = rw (le-ltb room _ fits)

  pub refused-short : (refusal : Refusal) → Err refusal ≡ contents_for r room → (room < length r.payload) × (refusal ≡ OutputTooShort)
  refused-short refusal e =
      dite (dec_lt room (length r.payload))
      (λ short. let is = e ∙ contents-short short in (short, cc is))
      (λ fits. let is = e ∙ contents-fits (omega arith) in absurd (cc is))

  pub read-fits : (contents : Contents) → Ok contents ≡ contents_for r room
      → (length r.payload ≤ room) × (contents ≡ record { header = r.header; payload_length = length r.payload })
  read-fits contents e =
      dite (dec_lt room (length r.payload))
      (λ short. let is = e ∙ contents-short short in absurd (cc is))
      (λ fits. let is = e ∙ contents-fits (omega arith) in (omega arith, cc is))

module _ (s : List ℕ) (position room : ℕ) where
  pub delivered-short : room < length (record_of (drop position s)).payload → delivered_of s position room ≡ without 5
  unfolding choose
  delivered-short short = rw (lt-ltb room _ short)

  pub delivered-fits : length (record_of (drop position s)).payload ≤ room → delivered_of s position room ≡ first_of (delivery_at position (drop position s) ∷ [])
  unfolding choose
  delivered-fits fits = rw (le-ltb room _ fits)

module _ (s : List ℕ) (start : ℕ) (span : Span) (found : FoundAt s start span) (within : start ≤ length s) where
  payload : List ℕ
  payload = (record_of (drop span.position s)).payload

  is : payload_of (deliveries_after s start) ≡ payload
  unfolding payload
  is = ap payload_of found.deliveries

  short : (room : ℕ) → room < length payload → refusal s start room ≡ 5
  short room h = refusal-short s start room within (rw is h)

  fits : (room : ℕ) → length payload ≤ room → refusal s start room ≡ 0
  fits room h = refusal-none s start room within (rw is h)

  pub next-found : (room : ℕ) → delivered_of s span.position room ≡ next_of s start room
  unfolding payload
  next-found room =
      dite (dec_lt room (length payload))
      (λ less. delivered-short s span.position room less ∙ sym (next-refuses s start room 5 (omega arith) (short room less)))
      (λ enough.
      delivered-fits s span.position room (omega arith)
      ∙ sym (next-answers s start room (fits room (omega arith)) ∙ ap first_of found.deliveries))

  pub output-found : (out : List ℕ) → output_for (record_of (drop span.position s)).payload out ≡ payload_after s start out
  unfolding payload
  output-found out =
      dite (dec_lt (length out) (length payload))
      (λ less. output.output-kept payload out less ∙ sym (output-kept s start out (omega (arith, short (length out) less))))
      (λ enough.
      output.output-written payload out (omega arith)
      ∙ sym (output-written s start out (fits (length out) (omega arith)) ∙ ap (λ (l : List ℕ). over l out) is))
