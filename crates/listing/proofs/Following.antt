-- The listing of a recording, record by record: a line for what *next* finds, and then the listing of what stands behind it.
use Prim.Native.Nat.{ℕ, ◌+◌, ◌<◌, ◌≤◌}
use native.Mathlib.Omega.{arith}
use mathlib.Core.Path.{◌≡◌, refl, ap, sym, ◌∙◌}
use mathlib.Core.Bool.{true, false, true≢false, false≢true}
use mathlib.Core.List.{List, [], ◌++◌}
use lib.ListN.{length, take, drop, replicate, length-drop}
use lib.Seq.{take-append_seam}
use Rattle.basics.specs.Bytes.{over}
use Rattle.stream.specs.Validation.{validation_of}
use Rattle.record.specs.Record.{Record, record_of}
use Rattle.record.proofs.Carried.{payload-most}
use Rattle.record.proofs.WholeAgain.{whole-writable}
use Rattle.recording.specs.declared.Found.{Found}
use Rattle.recording.specs.Next.{first_of, payload_of, next_of, payload_after}
use Rattle.recording.specs.Recording.{Delivery, deliveries_after, contents_of}
use Rattle.recording.proofs.Deliveries.{FirstAfter, none, some, first-after, whole_long, contents-after}
use Rattle.recording.proofs.Nexts.{refusal-none, next-answers, output-written}
use Rattle.listing.specs.Line.{line_of}
use Rattle.listing.specs.Listing.{lines_of, listing_of}

-- the record of an answer, its payload read off a buffer
abbrev pub record_in : Found → List ℕ → Record
record_in a buffer = record { header = a.header; payload = take a.payload_length buffer }

-- its line comes next, and the next start lies behind its stream
pub record Next (s : List ℕ) (start : ℕ) (a : Found) (buffer : List ℕ) : Type 0 where
  pub small : a.payload_length ≤ 508
  pub on : start < a.position + a.length
  pub inside : a.position + a.length ≤ length s
  pub rest : listing_of (drop start s) ≡ line_of (record_in a buffer) ++ listing_of (drop (a.position + a.length) s)

-- what an answer says of the listing from the starting place on
abbrev pub Lists : List ℕ → ℕ → Found → List ℕ → Type 0
Lists s start a buffer = (a.found ≡ true → Next s start a buffer) × (a.found ≡ false → listing_of (drop start s) ≡ [])

lists : (s : List ℕ) (start : ℕ) (buffer : List ℕ) (ds : List Delivery) → deliveries_after s start ≡ ds → FirstAfter s start ds
    → (length (payload_of ds) ≤ 508) × Lists s start (first_of ds) (over (payload_of ds) buffer)
unfolding lines_of
lists s start buffer ds same (none free) =
    (omega arith, ((λ found. absurd (false≢true found)), (λ unfound. ap lines_of (sym (contents-after s start) ∙ ap contents_of same))))
lists s start buffer ds same (some q after inside whole free) =
    let r = record_of (drop q s) in
    let next = q + (validation_of (drop q s)).offset in
    let long = whole_long (drop q s) whole in
    let small = payload-most r (whole-writable (drop q s) whole) in (
      small,
      (
        (λ found.
            record {
              small = small;
              on = omega (arith, long);
              inside = omega (arith, long, length-drop q s);
              rest =
                  ap lines_of (sym (contents-after s start) ∙ ap contents_of same)
                  ∙ ap (λ (l : List Record). line_of r ++ lines_of l) (contents-after s next)
                  ∙ ap (λ (l : List ℕ). line_of (record { header = r.header; payload = l }) ++ listing_of (drop next s))
                  (sym (take-append_seam r.payload (drop (length r.payload) buffer)));
            }),
        (λ unfound. absurd (true≢false unfound)),
      ),
    )

-- with room for 508 bytes *next* is not refused
abbrev buffer : List ℕ
buffer = replicate 508 0

module _ (s : List ℕ) (start : ℕ) (within : start ≤ length s) (a : Found) (after : List ℕ)
    (said : a ≡ next_of s start (length buffer)) (left : after ≡ payload_after s start buffer) where
  told : Lists s start a after
  told =
      let (small, answer) = lists s start buffer (deliveries_after s start) refl (first-after s start) in
      let unrefused = refusal-none s start (length buffer) within (omega (arith, small)) in
      rw (said ∙ next-answers s start (length buffer) unrefused, left ∙ output-written s start buffer unrefused) answer

  pub next-record : a.found ≡ true → Next s start a after
  next-record = told.0

  pub next-none : a.found ≡ false → listing_of (drop start s) ≡ []
  next-none = told.1
