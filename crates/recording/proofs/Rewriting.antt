-- Laws of rewriting: one record after the other, from one stream that is found to the next.
use Prim.Native.Nat.{ℕ, ◌+◌, ◌-◌, ◌≤◌}
use native.Mathlib.Omega.{arith}
use mathlib.Core.Path.{◌≡◌, sym, ap, ◌∙◌}
use mathlib.Core.List.{List, [], ◌++◌, append_assoc}
use lib.ListN.{length, take, drop, length-append, length-drop, take-append-drop}
use lib.Seq.{length-take-le}
use Rattle.stream.specs.Validation.{validation_of}
use Rattle.stream.specs.declared.Validation.{Validation}
use Rattle.record.specs.Record.{record_of, stream_of}
use Rattle.record.proofs.ReadBack.{whole-more, whole-alone}
use Rattle.record.proofs.WholeAgain.{whole_length}
use Rattle.recording.specs.Normalize.{streams, normalized}
use Rattle.recording.specs.Recording.{Delivery, deliveries_after, contents_of}
use Rattle.recording.specs.Stage.{OneStream}
use Rattle.recording.specs.declared.search.Span.{Span}
use Rattle.recording.proofs.Searching.{FoundAt}

-- what is still to be written from a position on
abbrev pub remaining : List ℕ → ℕ → List ℕ
remaining s start = streams (contents_of (deliveries_after s start))

pub remaining-none : (s : List ℕ) (start : ℕ) → deliveries_after s start ≡ [] → remaining s start ≡ []
unfolding streams
remaining-none s start e = ap (λ (ds : List Delivery). streams (contents_of ds)) e

module _ (s : List ℕ) (start : ℕ) (span : Span) (found : FoundAt s start span) where
  remaining-found : remaining s start ≡ stream_of (record_of (drop span.position s)) ++ remaining s (span.position + span.stream.length)
  unfolding streams
  remaining-found = ap (λ (ds : List Delivery). streams (contents_of ds)) found.deliveries

  pub found-length : length (stream_of (record_of (drop span.position s))) ≡ span.stream.length
  found-length = whole_length (drop span.position s) found.whole-at.whole ∙ sym found.whole-at.sized

  -- the bytes that it stands on
  abbrev stretch : List ℕ
  stretch = take (span.position + span.stream.length - span.position) (drop span.position s)

  stretch-length : length stretch ≡ span.stream.length
  stretch-length =
      length-take-le (span.position + span.stream.length - span.position) (drop span.position s) (omega (arith, length-drop span.position s, found.inside))
      ∙ omega arith

  -- they are that stream and no more
  stretch-more : stretch ++ drop span.stream.length (drop span.position s) ≡ drop span.position s
  stretch-more =
      let size : span.position + span.stream.length - span.position ≡ span.stream.length = omega arith in
      ap (λ (n : ℕ). take n (drop span.position s) ++ drop span.stream.length (drop span.position s)) size ∙ take-append-drop span.stream.length (drop span.position s)

  stretch-whole : (validation_of stretch).verdict ≡ 0
  stretch-whole =
      whole-alone stretch (drop span.stream.length (drop span.position s)) (rw stretch-more found.whole-at.whole)
      (rw stretch-more (sym found.whole-at.sized ∙ sym stretch-length))

  stretch-said : (validation_of stretch ≡ validation_of (drop span.position s)) × (record_of stretch ≡ record_of (drop span.position s))
  stretch-said =
      let (said, read) = whole-more stretch (drop span.stream.length (drop span.position s)) stretch-whole in
      (sym said ∙ ap validation_of stretch-more, sym read ∙ ap record_of stretch-more)

  pub stretch-record : record_of stretch ≡ record_of (drop span.position s)
  stretch-record = stretch-said.1

  pub stretch-one : (room : ℕ) → span.stream.length ≤ room → OneStream stretch span.stream.unused_septets room
  stretch-one room fits =
      record {
        whole = stretch-whole;
        sized = ap (λ (v : Validation). v.offset) stretch-said.0 ∙ sym found.whole-at.sized ∙ sym stretch-length;
        counted = found.whole-at.counted ∙ sym (ap (λ (v : Validation). v.unused_septets) stretch-said.0);
        held = omega (arith, stretch-length);
      }

  pub found-counts : length (remaining s start) ≡ span.stream.length + length (remaining s (span.position + span.stream.length))
  found-counts = ap length remaining-found ∙ rw (length-append, found-length)

  -- what is written so far and the stream that is found are no longer than all
  pub found-fits : (done : List ℕ) → done ++ remaining s start ≡ normalized s → length done + span.stream.length ≤ length (normalized s)
  found-fits done e = omega (arith, ap length e, length-append done (remaining s start), found-counts)

  pub found-next : (done : List ℕ) → done ++ remaining s start ≡ normalized s
      → (done ++ stream_of (record_of (drop span.position s))) ++ remaining s (span.position + span.stream.length) ≡ normalized s
  found-next done e = rw append_assoc (ap (λ (l : List ℕ). done ++ l) (sym remaining-found) ∙ e)
