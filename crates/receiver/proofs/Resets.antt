-- After a reset only positions and 12 differ from a fresh receiver's (document 02, No. 5).
use Prim.Native.Nat.{ℕ, ◌+◌, ◌-◌, ◌≤◌}
use native.Mathlib.Omega.{arith}
use native.Mathlib.Nat.{add-zero}
use native.Mathlib.Decide.{ℕ_discrete}
use mathlib.Core.Path.{◌≡◌, refl, sym, ap, ap₂, ◌∙◌}
use mathlib.Core.Logic.{◌≢◌, dite}
use mathlib.Core.List.{List, [], ◌∷◌}
use lib.ListN.{length}
use Rattle.basics.specs.Bytes.{over}
use Rattle.basics.specs.Choice.{choose}
use Rattle.stream.specs.Validation.{validation_of}
use Rattle.recording.specs.Next.{payload_of, without}
use Rattle.recording.proofs.Decoding.{beginning-whole, beginning-none}
use Rattle.receiver.specs.Holding.{kept}
use Rattle.receiver.specs.Receive.{Outcome, outcome_of, held_in, outcome_in, answer_of, completed_in, accepted_of, reset_of}
use Rattle.receiver.specs.Feeding.{fresh, Called, Arguments, Result, Calls, finished, again, NoneOverflows, moved_state, moved_answer, moved}
use Rattle.receiver.specs.declared.Receiver.{Receiver}
use Rattle.receiver.specs.declared.Received.{Received}
use Rattle.receiver.proofs.Extending.{held-zero}
use Rattle.receiver.proofs.Answers.{refusal-room, refusal-none, refusal-by, called-exists, called-number, refused-nothing, within-used, answer-is, output-is, held_after}

-- two receivers that hold the same bytes, one p positions further on than the other
record Alike (p : ℕ) (receiver : Receiver) (memory : List ℕ) (other : Receiver) (memory₂ : List ℕ) : Type 0 where
  state : receiver ≡ moved_state p other
  held : held_in receiver memory ≡ held_in other memory₂

reset-alike : (receiver : Receiver) (memory memory₂ : List ℕ) → Alike receiver.position (reset_of receiver) memory fresh memory₂
reset-alike receiver memory memory₂ =
    record {
      state = ap (λ (n : ℕ). record { held = 0; position = n }) (sym (add-zero receiver.position));
      held = held-zero (reset_of receiver) memory refl ∙ sym (held-zero fresh memory₂ refl);
    }

-- the same chunk, p positions further on: the answers differ in their positions alone, and the same payload is written
moved-completed : (p before : ℕ) (o : Outcome) → length o.stream ≤ before + o.used
    → (accepted_of (p + before) o ≡ moved_answer p (accepted_of before o)) × (payload_of (completed_in (p + before) o) ≡ payload_of (completed_in before o))
unfolding choose
moved-completed p before o within =
    let s = o.stream in
    let q = before + o.used - length s in
    let at : p + before + o.used - length s ≡ p + q = omega arith in
    let end : p + before + o.used ≡ p + (before + o.used) = omega arith in
    dite (ℕ_discrete (validation_of s).verdict 0)
    (λ w. rw (beginning-whole (p + before + o.used - length s) s w, beginning-whole q s w, at, end) (refl, refl))
    (λ faulty. rw (beginning-none (p + before + o.used - length s) s faulty, beginning-none q s faulty, end) (refl, refl))

-- two receivers that are alike answer a call alike: unless the one that is further on refuses it as 12, the answers differ in their positions
-- alone, the outputs are the same, and the receivers are alike again
module _ {p : ℕ} {receiver other : Receiver} {memory memory₂ chunk out : List ℕ} {answer answer₂ : Received} {out' out₂' memory' memory₂' : List ℕ}
    (alike : Alike p receiver memory other memory₂)
    (called : Called receiver memory chunk out answer out' memory') (called₂ : Called other memory₂ chunk out answer₂ out₂' memory₂') where
  abbrev AnswersAlike : Type 0
  AnswersAlike = (answer ≡ moved_answer p answer₂) × (out' ≡ out₂') × Alike p answer.receiver memory' answer₂.receiver memory₂'

  alike-accepted : answer.number ≡ 0 → answer₂.number ≡ 0 → AnswersAlike
  alike-accepted accept accept₂ =
      let before = other.position in
      let o = outcome_in other memory₂ chunk in
      let is-o : outcome_in receiver memory chunk ≡ o = ap (λ (x : List ℕ). outcome_of x chunk) alike.held in
      let position : receiver.position ≡ p + before = ap (λ (r : Receiver). r.position) alike.state in
      let within : length o.stream ≤ before + o.used = omega (arith, within-used other memory₂ chunk) in
      let (answered, payload) = moved-completed p before o within in
      let same : answer ≡ moved_answer p answer₂ =
      answer-is called accept ∙ ap₂ accepted_of position is-o ∙ answered ∙ sym (ap (moved_answer p) (answer-is called₂ accept₂)) in (
        same,
        output-is called accept
            ∙ ap₂ (λ (n : ℕ) (x : Outcome). over (payload_of (completed_in n x)) out) position is-o
            ∙ ap (λ (l : List ℕ). over l out) payload
            ∙ sym (output-is called₂ accept₂),
        record {
          state = ap (λ (r : Received). r.receiver) same;
          held = held_after called accept ∙ ap (λ (x : Outcome). kept x.held) is-o ∙ sym (held_after called₂ accept₂);
        },
      )

  alike-refused : answer.number ≡ 5 → answer₂.number ≡ 5 → AnswersAlike
  unfolding choose
  alike-refused five five₂ =
      let (answered, written, remembered) = refused-nothing called (λ none. omega arith) in
      let (answered₂, written₂, remembered₂) = refused-nothing called₂ (λ none. omega arith) in
      let is : answer ≡ answer_of (without 5) 0 receiver = answered ∙ ap (λ (n : ℕ). answer_of (without n) 0 receiver) five in
      let is₂ : answer₂ ≡ answer_of (without 5) 0 other = answered₂ ∙ ap (λ (n : ℕ). answer_of (without n) 0 other) five₂ in
      rw (is, is₂, written, written₂, remembered, remembered₂) (ap (answer_of (without 5) 0) alike.state, refl, alike)

  alike-answers : answer.number ≢ 12 → AnswersAlike
  alike-answers counted =
      let position = ap (λ (r : Receiver). r.position) alike.state in
      refusal-by receiver chunk (length out) (λ (n : ℕ). answer.number ≡ n → AnswersAlike)
      (λ short five. alike-refused five (called-number called₂ ∙ refusal-room other chunk (length out) short))
      (λ fits past twelve. absurd (counted twelve))
      (λ fits within accept. alike-accepted accept (called-number called₂ ∙ refusal-none other chunk (length out) fits (omega (arith, position))))
      (called-number called)

alike-calls : {p : ℕ} {receiver other : Receiver} {memory memory₂ : List ℕ} {arguments : List Arguments} {results results₂ : List Result}
    → Alike p receiver memory other memory₂ → Calls receiver memory arguments results → Calls other memory₂ arguments results₂ → NoneOverflows results
    → results ≡ moved p results₂
alike-calls alike finished finished none = refl
alike-calls {p} alike (again chunk out answer out' memory' called calls) (again _ _ answer₂ out₂' memory₂' called₂ calls₂) (counted, none) =
    let (same, written, later) = alike-answers alike called called₂ counted in
    let more = alike-calls later calls calls₂ none in
    cc

-- any calls can be made, of any receiver
pub calls-exist : (receiver : Receiver) (memory : List ℕ) (arguments : List Arguments) → (results : List Result) × Calls receiver memory arguments results
calls-exist receiver memory [] = ([], finished)
calls-exist receiver memory (a ∷ rest) =
    let (answer, out', memory', called) = called-exists receiver memory a.chunk a.out in
    let (results, calls) = calls-exist answer.receiver memory' rest in
    (_, again a.chunk a.out answer out' memory' called calls)

-- after a reset the same calls, as long as none is refused as 12, bring what they bring of a fresh receiver, whatever the memories hold, but
-- that all positions are further on by the count
pub reset-fresh : (receiver : Receiver) (memory memory₂ : List ℕ) (arguments : List Arguments) (results results₂ : List Result)
    → Calls (reset_of receiver) memory arguments results → Calls fresh memory₂ arguments results₂ → NoneOverflows results
    → results ≡ moved receiver.position results₂
reset-fresh receiver memory memory₂ arguments results results₂ = alike-calls (reset-alike receiver memory memory₂)
