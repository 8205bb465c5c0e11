-- Runs of calls: however a recording is cut, they deliver just what it delivers.
use Prim.Native.Nat.{ℕ, zero, suc, ◌+◌, ◌-◌, ◌^◌, ◌<◌, ◌≤◌}
use native.Mathlib.Omega.{arith}
use native.Mathlib.Nat.{add-zero}
use native.Mathlib.Decide.{dec_lt, ℕ_discrete}
use mathlib.Core.Path.{◌≡◌, refl, sym, ap, subst, ◌∙◌}
use mathlib.Core.Logic.{◌≢◌, dite}
use mathlib.Core.List.{List, [], ◌∷◌, ◌++◌, append-nil}
use lib.ListN.{length, take, drop, length-append, length-drop, take-append-drop}
use lib.Seq.{take-append_seam}
use Rattle.basics.specs.Bytes.{over}
use Rattle.basics.specs.Choice.{choose}
use Rattle.stream.specs.Validation.{validation_of}
use Rattle.record.specs.Record.{record_of}
use Rattle.recording.specs.Next.{payload_of}
use Rattle.recording.specs.Recording.{Delivery, deliveries_from}
use Rattle.recording.proofs.Decoding.{beginning-whole, beginning-none}
use Rattle.receiver.specs.Holding.{kept}
use Rattle.receiver.specs.Receive.{Outcome, outcome_of, held_in, outcome_in, completed_in, accepted_of, reset_of}
use Rattle.receiver.specs.Feeding.{fresh, Called, delivered_in, Run, ended, call}
use Rattle.receiver.specs.declared.Receiver.{Receiver}
use Rattle.receiver.specs.declared.Received.{Received}
use Rattle.receiver.proofs.Extending.{held-zero}
use Rattle.receiver.proofs.Steps.{Held, none, held_kept, held-nothing}
use Rattle.receiver.proofs.Outcomes.{follows}
use Rattle.receiver.proofs.Answers.{refusal-none, called-exists, called-number, refused-nothing, received-used, answer-is, output-is, held_after}

-- ── what one call delivers

-- as its answer and the output say it
told : (before : ℕ) (o : Outcome) (out : List ℕ) → delivered_in (accepted_of before o) (over (payload_of (completed_in before o)) out) ≡ completed_in before o
unfolding choose
told before o out =
    let s = o.stream in
    let q = before + o.used - length s in
    dite (ℕ_discrete (validation_of s).verdict 0)
    (λ w. rw (beginning-whole q s w, take-append_seam (record_of s).payload (drop (length (record_of s).payload) out)))
    (λ faulty. rw (beginning-none q s faulty))

-- k is held from now on: what was to be delivered from the held bytes h on, which stand from p on, is what the call delivers and what is to
-- be delivered from then on, whatever follows
record Continues (p : ℕ) (h chunk : List ℕ) (answer : Received) (out' memory' : List ℕ) : Type 0 where
  position : ℕ
  k : List ℕ
  held : Held k
  is : held_in answer.receiver memory' ≡ k
  there : position + length k ≡ answer.receiver.position
  same : (t : List ℕ) → deliveries_from p (h ++ (chunk ++ t)) ≡ delivered_in answer out' ++ deliveries_from position (k ++ (drop answer.used chunk ++ t))

module _ {receiver : Receiver} {memory chunk out : List ℕ} {answer : Received} {out' memory' : List ℕ} (called : Called receiver memory chunk out answer out' memory')
    (p : ℕ) (h : List ℕ) (is : held_in receiver memory ≡ h) (held : Held h) (from : p + length h ≡ receiver.position) where
  continues-accepted : answer.number ≡ 0 → Continues p h chunk answer out' memory'
  continues-accepted accept =
      let before = receiver.position in
      let o = outcome_of h chunk in
      let is-o : outcome_in receiver memory chunk ≡ o = ap (λ (x : List ℕ). outcome_of x chunk) is in
      let answered : answer ≡ accepted_of before o = answer-is called accept ∙ ap (accepted_of before) is-o in
      let written : out' ≡ over (payload_of (completed_in before o)) out = output-is called accept ∙ ap (λ (x : Outcome). over (payload_of (completed_in before x)) out) is-o in
      let one = follows h chunk held p in
      record {
        position = one.position;
        k = o.held;
        held = one.held;
        is = held_after called accept ∙ ap (λ (x : Outcome). kept x.held) is-o ∙ held_kept o.held one.held;
        there = rw answered (one.there ∙ omega arith);
        same = rw (answered, written)
            (λ t.
            one.same t
            ∙ ap (λ (ds : List Delivery). ds ++ deliveries_from one.position (o.held ++ (drop o.used chunk ++ t)))
            (ap (λ (n : ℕ). completed_in n o) from ∙ sym (told before o out)));
      }

  continues-refused : answer.number ≢ 0 → Continues p h chunk answer out' memory'
  unfolding choose
  continues-refused refused =
      let (answered, written, remembered) = refused-nothing called refused in
      rw (answered, remembered) (record { position = p; k = h; held = held; is = is; there = from; same = λ t. refl })

  continues : Continues p h chunk answer out' memory'
  continues = dite (ℕ_discrete answer.number 0) continues-accepted continues-refused

-- ── any number of calls

-- from a state that holds h, which stands from p on
run-deliveries : {receiver : Receiver} {memory bytes : List ℕ} {ds : List Delivery} (p : ℕ) (h : List ℕ)
    → held_in receiver memory ≡ h → Held h → p + length h ≡ receiver.position → Run receiver memory bytes ds → ds ≡ deliveries_from p (h ++ bytes)
run-deliveries p h is held from ended = sym (ap (deliveries_from p) (append-nil h) ∙ held-nothing p h held)
run-deliveries p h is held from (call chunk later out answer out' memory' cut called run) =
    let next = continues called p h is held from in
    let more = run-deliveries next.position next.k next.is next.held next.there run in
    ap (λ (ds : List Delivery). delivered_in answer out' ++ ds) more
    ∙ sym (ap (λ (l : List ℕ). deliveries_from p (h ++ l)) cut ∙ next.same later)

-- a receiver that is reset, whatever it held, delivers from there on as on a recording that begins at that byte; the positions go on
pub reset-records : (receiver : Receiver) (memory bytes : List ℕ) (ds : List Delivery)
    → Run (reset_of receiver) memory bytes ds → ds ≡ deliveries_from receiver.position bytes
reset-records receiver memory bytes ds run =
    run-deliveries receiver.position [] (held-zero (reset_of receiver) memory refl) none (add-zero receiver.position) run

-- a recording that is fed to a fresh receiver until it is used up gives exactly its records, in order and each with its position in the
-- recording, however it is cut
pub received-records : (memory recording : List ℕ) (ds : List Delivery) → Run fresh memory recording ds → ds ≡ deliveries_from 0 recording
received-records memory recording ds run = reset-records fresh memory recording ds run

-- ── any recording can be used up that the count has room for, from any state and with any memory, in chunks of any length

-- a way to cut: how many bytes, but for one, a call is handed of those that are left
abbrev Cut : Type 0
Cut = List ℕ → ℕ

module _ (cut : Cut) (out : List ℕ) (room : 508 ≤ length out) where
  abbrev Fed : List ℕ → Type 0
  Fed bytes = (receiver : Receiver) (memory : List ℕ) → receiver.position + length bytes < 2 ^ 64 → (ds : List Delivery) × Run receiver memory bytes ds

  none_left : (bytes : List ℕ) → length bytes ≡ 0 → Fed bytes
  none_left [] empty receiver memory within = ([], ended)
  none_left (byte ∷ rest) empty receiver memory within = absurd (omega arith)

  -- one call, which uses a byte at least
  one-call : (chunk later : List ℕ) → 0 < length chunk → ((n : ℕ) → 0 < n → Fed (drop n chunk ++ later)) → Fed (chunk ++ later)
  one-call chunk later some rest receiver memory within =
      let all : receiver.position + length chunk + length later < 2 ^ 64 = omega (arith, length-append chunk later) in
      let (answer, out', memory', called) = called-exists receiver memory chunk out in
      let used = received-used called (called-number called ∙ refusal-none receiver chunk (length out) room (omega arith)) in
      let left : answer.receiver.position + length (drop answer.used chunk ++ later) < 2 ^ 64 =
      omega (arith, used.counts, used.within, length-append (drop answer.used chunk) later, length-drop answer.used chunk) in
      let (ds, run) = rest answer.used (used.some some) answer.receiver memory' left in
      (_, call chunk later out answer out' memory' refl called run)

  fed : (fuel : ℕ) (bytes : List ℕ) → length bytes ≤ fuel → Fed bytes
  fed zero bytes enough = none_left bytes (omega arith)
  fed (suc fuel) bytes enough =
      dite (dec_lt 0 (length bytes))
      (λ some.
      let n = suc (cut bytes) in
      let chunk = take n bytes in
      let later = drop n bytes in
      let whole : chunk ++ later ≡ bytes = take-append-drop n bytes in
      let sum = sym (length-append chunk later) ∙ ap length whole in
      subst Fed whole
      (one-call chunk later (omega (arith, sum, length-drop n bytes))
      (λ used pos. fed fuel (drop used chunk ++ later) (omega (arith, sum, length-drop n bytes, length-append (drop used chunk) later, length-drop used chunk)))))
      (λ none. none_left bytes (omega arith))

  -- so a run over a recording is there, and comes to its end
  pub run-exists : (bytes : List ℕ) → Fed bytes
  run-exists bytes = fed (length bytes) bytes (omega arith)
