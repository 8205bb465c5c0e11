-- What *decode* answers, by whether the stretch is whole.
use Prim.Native.Nat.{ℕ, ◌≤◌}
use native.Mathlib.Omega.{arith}
use native.Mathlib.Decide.{dec_lt, ℕ_discrete}
use mathlib.Core.Logic.{◌↔◌, dite}
use mathlib.Core.Bool.{true, false≢true}
use mathlib.Core.Path.{◌≡◌, sym, ap, ◌∙◌}
use mathlib.Core.List.{List, [], ◌∷◌}
use borrow.Author.Tests.{eq-eqb, ne_eqb}
use lib.ListN.{length}
use Rattle.basics.specs.Bytes.{over}
use Rattle.basics.specs.Choice.{choose}
use Rattle.basics.specs.Output.{room_refusal, output_for}
use Rattle.basics.proofs.Output.{refusal-short, refusal-none, output-written}
use Rattle.stream.specs.Validation.{validation_of}
use Rattle.record.specs.Record.{record_of}
use Rattle.record.proofs.Carried as Carried
use Rattle.record.proofs.WholeAgain.{whole-writable}
use Rattle.recording.specs.Decode.{beginning, decoded_of, decoded_after}
use Rattle.recording.specs.Next.{without, first_of, payload_of}
use Rattle.recording.specs.Recording.{Delivery, delivery_at}
use Rattle.recording.specs.Stage.{delivered_of}
use Rattle.recording.proofs.Deliveries.{Whole}
use Rattle.recording.proofs.Searching.{delivered-short, delivered-fits}

module _ (q : ℕ) (s : List ℕ) where
  pub beginning-whole : Whole s → beginning q s ≡ delivery_at q s ∷ []
  unfolding beginning choose
  beginning-whole w = rw (eq-eqb _ 0 w)

  pub beginning-none : (Whole s → ⊥) → beginning q s ≡ []
  unfolding beginning choose
  beginning-none faulty = rw (ne_eqb _ 0 faulty)

module _ (s : List ℕ) where
  -- ── by the room

  decoded-short : (room : ℕ) → room_refusal (payload_of (beginning 0 s)) room ≡ 5 → decoded_of s room ≡ without 5
  unfolding choose
  decoded-short room e = rw e

  decoded-fits : (room : ℕ) → room_refusal (payload_of (beginning 0 s)) room ≡ 0 → decoded_of s room ≡ first_of (beginning 0 s)
  unfolding choose
  decoded-fits room e = rw e

  -- ── what `decode` does

  pub decoded-none : (Whole s → ⊥) → (room : ℕ) → decoded_of s room ≡ without 0
  decoded-none faulty room =
      let empty = beginning-none 0 s faulty in
      decoded-fits room (refusal-none (payload_of (beginning 0 s)) room (rw empty (omega arith))) ∙ ap first_of empty

  pub output-none : (Whole s → ⊥) → (out : List ℕ) → decoded_after s out ≡ out
  output-none faulty out = rw (beginning-none 0 s faulty) (output-written [] out (omega arith))

  pub decoded-whole : Whole s → (room : ℕ) → decoded_of s room ≡ delivered_of s 0 room
  decoded-whole w room =
      let one = beginning-whole 0 s w in
      let payload : payload_of (beginning 0 s) ≡ (record_of s).payload = ap payload_of one in
      dite (dec_lt room (length (record_of s).payload))
      (λ short.
      decoded-short room (refusal-short (payload_of (beginning 0 s)) room (rw payload short)) ∙ sym (delivered-short s 0 room short))
      (λ fits.
      decoded-fits room (refusal-none (payload_of (beginning 0 s)) room (rw payload (omega arith)))
      ∙ ap first_of one
      ∙ sym (delivered-fits s 0 room (omega arith)))

  pub output-whole : Whole s → (out : List ℕ) → decoded_after s out ≡ output_for (record_of s).payload out
  output-whole w out = ap (λ (ds : List Delivery). output_for (payload_of ds) out) (beginning-whole 0 s w)

  -- ── with room for any payload

  payload-most : length (payload_of (beginning 0 s)) ≤ 508
  payload-most =
      dite (ℕ_discrete (validation_of s).verdict 0)
      (λ w. rw (beginning-whole 0 s w) (Carried.payload-most (record_of s) (whole-writable s w)))
      (λ faulty. rw (beginning-none 0 s faulty) (omega arith))

  pub decoded-room : (room : ℕ) → 508 ≤ room → decoded_of s room ≡ first_of (beginning 0 s)
  decoded-room room fits = decoded-fits room (refusal-none (payload_of (beginning 0 s)) room (omega (arith, payload-most)))

  pub output-room : (out : List ℕ) → 508 ≤ length out → decoded_after s out ≡ over (payload_of (beginning 0 s)) out
  output-room out fits = output-written (payload_of (beginning 0 s)) out (omega (arith, payload-most))

  -- given room for any payload, decode finds a record exactly if the bytes begin with one whole valid stream
  pub decode-exactly : (room : ℕ) → 508 ≤ room → ((decoded_of s room).found ≡ true) ↔ Whole s
  decode-exactly room fits = rw (decoded-room room fits) (
    (λ found. dite (ℕ_discrete (validation_of s).verdict 0) (λ w. w)
        (λ faulty. absurd (false≢true (rw (beginning-none 0 s faulty) at found)))),
    (λ w. ap (λ (ds : List Delivery). (first_of ds).found) (beginning-whole 0 s w)),
  )
