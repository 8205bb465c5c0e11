-- What a call answers, by its room, by the count and by what the chunk brings; and what holds of it whatever the state and the memory.
use Prim.Native.Nat.{ℕ, ◌+◌, ◌-◌, ◌^◌, ◌<◌, ◌≤◌}
use native.Mathlib.Omega.{arith}
use native.Mathlib.Decide.{dec_lt, ℕ_discrete}
use mathlib.Core.Path.{◌≡◌, refl, sym, ap, ap₂, ◌∙◌}
use mathlib.Core.Bool.{Bool, true, false, true≢false, false≢true}
use mathlib.Core.Logic.{◌≢◌, ◌↔◌, dite}
use mathlib.Core.List.{List, [], ◌∷◌, ◌++◌, append-nil}
use borrow.Author.Tests.{lt-ltb, le-ltb}
use lib.ListN.{length, take, drop, length-append, length-take}
use lib.Seq.{take-append_seam}
use Rattle.basics.specs.Bytes.{over}
use Rattle.basics.specs.Choice.{choose}
use Rattle.basics.proofs.Table.{when-none, when-refused}
use Rattle.stream.specs.Validation.{validation_of}
use Rattle.record.specs.Record.{record_of}
use Rattle.recording.specs.Next.{without, first_of, payload_of}
use Rattle.recording.specs.Recording.{Delivery, delivery_at}
use Rattle.recording.proofs.Decoding.{beginning-whole, beginning-none}
use Rattle.recording.proofs.Deliveries.{Whole}
use Rattle.receiver.specs.Holding.{kept}
use Rattle.receiver.specs.Receive.{Outcome, held_in, outcome_in, refusal, answer_of, completed_in, accepted_of, received_of}
use Rattle.receiver.specs.Feeding.{Called}
use Rattle.receiver.specs.declared.Receiver.{Receiver}
use Rattle.receiver.specs.declared.Received.{Received}
use Rattle.receiver.proofs.Extending.{held-counted, held-unfinished, held-used}
use Rattle.receiver.proofs.Outcomes.{uses, last-used, whole-or-none}

-- ── the refusal

uppermost : (test : Bool) (number rest : ℕ) → test ≡ true → choose test number rest ≡ number
unfolding choose
uppermost test number rest applies = ap (λ (b : Bool). choose b number rest) applies

module _ (receiver : Receiver) (chunk : List ℕ) (room : ℕ) where
  pub refusal-room : room < 508 → refusal receiver chunk room ≡ 5
  unfolding refusal
  refusal-room short = uppermost _ _ _ (lt-ltb room _ (omega arith))

  pub refusal-count : 508 ≤ room → 2 ^ 64 ≤ receiver.position + length chunk → refusal receiver chunk room ≡ 12
  unfolding refusal choose
  refusal-count fits past = ap₂ (λ (a b : Bool). choose a 5 (choose b 12 0)) (le-ltb room _ (omega arith)) (lt-ltb _ (receiver.position + length chunk) (omega arith))

  pub refusal-none : 508 ≤ room → receiver.position + length chunk < 2 ^ 64 → refusal receiver chunk room ≡ 0
  unfolding refusal choose
  refusal-none fits within = ap₂ (λ (a b : Bool). choose a 5 (choose b 12 0)) (le-ltb room _ (omega arith)) (le-ltb _ (receiver.position + length chunk) (omega arith))

  -- what holds of each of the three holds of the refusal
  pub refusal-by : (P : ℕ → Type 0) → (room < 508 → P 5) → (508 ≤ room → 2 ^ 64 ≤ receiver.position + length chunk → P 12)
      → (508 ≤ room → receiver.position + length chunk < 2 ^ 64 → P 0) → P (refusal receiver chunk room)
  refusal-by P five twelve none =
      dite (dec_lt room 508) (λ short. rw (refusal-room short) (five short))
      (λ fits. dite (dec_lt (receiver.position + length chunk) (2 ^ 64))
      (λ within. rw (refusal-none (omega arith) within) (none (omega arith) within))
      (λ past. rw (refusal-count (omega arith) (omega arith)) (twelve (omega arith) (omega arith))))

-- ── the answer, by the refusal

first-number : (ds : List Delivery) → (first_of ds).number ≡ 0
first-number [] = refl
first-number (d ∷ rest) = refl

module _ (receiver : Receiver) (memory chunk : List ℕ) (room : ℕ) where
  answers-accepted : refusal receiver chunk room ≡ 0 → received_of receiver memory chunk room ≡ accepted_of receiver.position (outcome_in receiver memory chunk)
  answers-accepted none = when-none (refusal receiver chunk room) _ _ none

  answers-refused : refusal receiver chunk room ≢ 0 → received_of receiver memory chunk room ≡ answer_of (without (refusal receiver chunk room)) 0 receiver
  answers-refused some = when-refused (refusal receiver chunk room) _ _ some

  number_is : (received_of receiver memory chunk room).number ≡ refusal receiver chunk room
  number_is =
      dite (ℕ_discrete (refusal receiver chunk room) 0)
      (λ none.
      ap (λ (r : Received). r.number) (answers-accepted none)
      ∙ first-number (completed_in receiver.position (outcome_in receiver memory chunk))
      ∙ sym none)
      (λ some. ap (λ (r : Received). r.number) (answers-refused some))

  -- room and count decide, and nothing else
  pub accepted-exactly : ((received_of receiver memory chunk room).number ≡ 0) ↔ ((508 ≤ room) × (receiver.position + length chunk < 2 ^ 64))
  accepted-exactly = rw number_is (
    refusal-by receiver chunk room (λ (n : ℕ). n ≡ 0 → (508 ≤ room) × (receiver.position + length chunk < 2 ^ 64))
        (λ short e. absurd (omega arith)) (λ fits past e. absurd (omega arith)) (λ fits within e. (fits, within)),
    (λ (fits, within). refusal-none receiver chunk room fits within),
  )

  pub refused-exactly : ((received_of receiver memory chunk room).number ≡ 5) ↔ (room < 508)
  refused-exactly = rw number_is (
    refusal-by receiver chunk room (λ (n : ℕ). n ≡ 5 → room < 508) (λ short e. short) (λ fits past e. absurd (omega arith)) (λ fits within e. absurd (omega arith)),
    refusal-room receiver chunk room,
  )

  -- after 5: the count would pass the largest 64-bit number
  pub overflow-exactly : ((received_of receiver memory chunk room).number ≡ 12) ↔ ((508 ≤ room) × (2 ^ 64 ≤ receiver.position + length chunk))
  overflow-exactly = rw number_is (
    refusal-by receiver chunk room (λ (n : ℕ). n ≡ 12 → (508 ≤ room) × (2 ^ 64 ≤ receiver.position + length chunk))
        (λ short e. absurd (omega arith)) (λ fits past e. (fits, past)) (λ fits within e. absurd (omega arith)),
    (λ (fits, past). refusal-count receiver chunk room fits past),
  )

-- ── what `receive` does

module _ (receiver : Receiver) (memory chunk out : List ℕ) where
  pub refused_all : (n : ℕ) → 0 < n → refusal receiver chunk (length out) ≡ n → Called receiver memory chunk out (answer_of (without n) 0 receiver) out memory
  refused_all n pos is =
      let some : refusal receiver chunk (length out) ≢ 0 = λ none. omega (arith, is) in
      record {
        answers = ap (λ (n : ℕ). answer_of (without n) 0 receiver) (sym is) ∙ sym (answers-refused receiver memory chunk (length out) some);
        output = sym (when-refused (refusal receiver chunk (length out)) _ _ some);
        remembers = record { refused = λ more. refl; held = λ none. absurd (some none) };
      }

  pub accepted-all : (answer : Received) (out' memory' : List ℕ) → refusal receiver chunk (length out) ≡ 0
      → answer ≡ accepted_of receiver.position (outcome_in receiver memory chunk)
      → out' ≡ over (payload_of (completed_in receiver.position (outcome_in receiver memory chunk))) out
      → take answer.receiver.held memory' ≡ (outcome_in receiver memory chunk).held
      → Called receiver memory chunk out answer out' memory'
  accepted-all answer out' memory' none is output held =
      record {
        answers = is ∙ sym (answers-accepted receiver memory chunk (length out) none);
        output = output ∙ sym (when-none (refusal receiver chunk (length out)) _ _ none);
        remembers = record { refused = λ more. absurd (omega (arith, none)); held = λ same. rw is at held };
      }

  -- what it promises can be kept, whatever it is handed
  pub called-exists : (answer : Received) × (out' : List ℕ) × (memory' : List ℕ) × Called receiver memory chunk out answer out' memory'
  called-exists =
      let number = refusal receiver chunk (length out) in
      let o = outcome_in receiver memory chunk in
      dite (ℕ_discrete number 0)
      (λ none. (_, _, over o.held memory, accepted-all _ _ _ none refl refl (take-append_seam o.held (drop (length o.held) memory))))
      (λ some. (_, _, _, refused_all number (omega (arith, some)) refl))

-- its answer has the refusal's number
pub called-number : {receiver : Receiver} {memory chunk out : List ℕ} {answer : Received} {out' memory' : List ℕ}
    → Called receiver memory chunk out answer out' memory' → answer.number ≡ refusal receiver chunk (length out)
called-number {receiver} {memory} {chunk} {out} called = ap (λ (r : Received). r.number) called.answers ∙ number_is receiver memory chunk (length out)

-- ── a refused call

-- it uses nothing and changes nothing
pub refused-nothing : {receiver : Receiver} {memory chunk out : List ℕ} {answer : Received} {out' memory' : List ℕ}
    → Called receiver memory chunk out answer out' memory' → answer.number ≢ 0
    → (answer ≡ answer_of (without answer.number) 0 receiver) × (out' ≡ out) × (memory' ≡ memory)
refused-nothing {receiver} {memory} {chunk} {out} called refused =
    let number = called-number called in
    let some : refusal receiver chunk (length out) ≢ 0 = λ none. refused (number ∙ none) in (
      called.answers ∙ answers-refused receiver memory chunk (length out) some ∙ ap (λ (n : ℕ). answer_of (without n) 0 receiver) (sym number),
      called.output ∙ when-refused (refusal receiver chunk (length out)) _ _ some,
      called.remembers.refused (omega (arith, some)),
    )

-- ── a call that isn't refused

-- what is completed, and what is held then, isn't longer than all the bytes used
pub within-used : (receiver : Receiver) (memory chunk : List ℕ)
    → length (outcome_in receiver memory chunk).stream + length (outcome_in receiver memory chunk).held ≤ receiver.position + (outcome_in receiver memory chunk).used
within-used receiver memory chunk =
    let h = held_in receiver memory in
    let o = outcome_in receiver memory chunk in
    let last = last-used h chunk in
    let all : length h + length (take o.used chunk) ≡ length last.before + (length o.stream + length o.held) =
    sym (length-append h (take o.used chunk)) ∙ ap length last.is ∙ length-append last.before (o.stream ++ o.held)
    ∙ ap (λ (n : ℕ). length last.before + n) (length-append o.stream o.held) in
    omega (arith, all, length-take o.used chunk, held-used receiver memory)

-- how many bytes are used and held: no more than there are, and than fit; of some bytes one at least is used; and they are counted
pub record UsesSome (receiver : Receiver) (chunk : List ℕ) (answer : Received) : Type 0 where
  pub within : answer.used ≤ length chunk
  pub some : 0 < length chunk → 0 < answer.used
  pub less : answer.receiver.held < 772
  pub counts : answer.receiver.position ≡ receiver.position + answer.used

-- a whole stream that ends with the last byte used, among the bytes held before and used, where it stands, and its record as the answer and
-- the output tell it
pub record DeliversWhole (receiver : Receiver) (memory chunk : List ℕ) (answer : Received) (out' : List ℕ) : Type 0 where
  pub before : List ℕ
  pub stream : List ℕ
  pub bytes : held_in receiver memory ++ take answer.used chunk ≡ before ++ stream
  pub whole : (validation_of stream).verdict ≡ 0
  pub ends : (validation_of stream).offset ≡ length stream
  pub at : answer.position + length stream ≡ receiver.position + answer.used
  pub sized : answer.length ≡ length stream
  pub header : answer.header ≡ (record_of stream).header
  pub payload : take answer.payload_length out' ≡ (record_of stream).payload
  pub payload-sized : answer.payload_length ≡ length (record_of stream).payload
  pub forgets : answer.receiver.held ≡ 0

module _ {receiver : Receiver} {memory chunk out : List ℕ} {answer : Received} {out' memory' : List ℕ}
    (called : Called receiver memory chunk out answer out' memory') (accept : answer.number ≡ 0) where
  abbrev o : Outcome
  o = outcome_in receiver memory chunk

  unrefused : refusal receiver chunk (length out) ≡ 0
  unrefused = sym (called-number called) ∙ accept

  pub answer-is : answer ≡ accepted_of receiver.position o
  answer-is = called.answers ∙ answers-accepted receiver memory chunk (length out) unrefused

  pub output-is : out' ≡ over (payload_of (completed_in receiver.position o)) out
  output-is = called.output ∙ when-none (refusal receiver chunk (length out)) _ _ unrefused

  pub memory-is : take (length o.held) memory' ≡ o.held
  memory-is = called.remembers.held unrefused

  -- the state afterwards holds what is held
  pub held_after : held_in answer.receiver memory' ≡ kept o.held
  held_after =
      rw answer-is
      (held-counted (record { held = length o.held; position = receiver.position + o.used }) memory' (omega (arith, within-used receiver memory chunk))
      ∙ ap kept memory-is)

  -- where the completed stream stands
  abbrev position : ℕ
  position = receiver.position + o.used - length o.stream

  found-whole : answer.found ≡ true → Whole o.stream
  found-whole found =
      dite (ℕ_discrete (validation_of o.stream).verdict 0) (λ w. w)
      (λ faulty.
      absurd (false≢true (sym (ap (λ (r : Received). r.found) answer-is ∙ ap (λ (ds : List Delivery). (first_of ds).found) (beginning-none position o.stream faulty)) ∙ found)))

  unfound-faulty : answer.found ≡ false → Whole o.stream → ⊥
  unfound-faulty unfound w =
      true≢false (sym (ap (λ (r : Received). r.found) answer-is ∙ ap (λ (ds : List Delivery). (first_of ds).found) (beginning-whole position o.stream w)) ∙ unfound)

  pub received-used : UsesSome receiver chunk answer
  received-used =
      let brings = uses (held_in receiver memory) chunk in
      rw answer-is (record { within = brings.within; some = brings.some; less = brings.less (omega (arith, held-unfinished receiver memory)); counts = refl })

  -- with no record all bytes are used, and the output stays as it was
  pub received_none : answer.found ≡ false → (answer.used ≡ length chunk) × (out' ≡ out)
  received_none unfound =
      let faulty = unfound-faulty unfound in (
        ap (λ (r : Received). r.used) answer-is ∙ (uses (held_in receiver memory) chunk).all faulty,
        output-is ∙ ap (λ (ds : List Delivery). over (payload_of ds) out) (beginning-none position o.stream faulty),
      )

  -- whatever the state and the memory, nothing is delivered but the record of a whole stream that ends with the last byte used,
  -- at that stream's position
  pub received-whole : answer.found ≡ true → DeliversWhole receiver memory chunk answer out'
  received-whole found =
      let s = o.stream in
      let w = found-whole found in
      let one = beginning-whole position s w in
      let brings = whole-or-none (held_in receiver memory) chunk (held-unfinished receiver memory).0 in
      let state : Receiver = record { held = length o.held; position = receiver.position + o.used } in
      let is : answer ≡ answer_of (first_of (delivery_at position s ∷ [])) o.used state =
      answer-is ∙ ap (λ (ds : List Delivery). answer_of (first_of ds) o.used state) one in
      let last = last-used (held_in receiver memory) chunk in
      let bytes = last.is ∙ ap (λ (l : List ℕ). last.before ++ (s ++ l)) (brings.forgets w) ∙ ap (λ (l : List ℕ). last.before ++ l) (append-nil s) in
      let sized = brings.sized w in
      rw is (record {
        before = last.before;
        stream = s;
        bytes = bytes;
        whole = w;
        ends = sized;
        at = omega (arith, within-used receiver memory chunk);
        sized = sized;
        header = refl;
        payload = rw (output-is, one) (take-append_seam (record_of s).payload (drop (length (record_of s).payload) out));
        payload-sized = refl;
        forgets = ap length (brings.forgets w);
      })

-- ── a call without a record, refused or not

-- every field that speaks of a record is zero
pub unfound-zero : {receiver : Receiver} {memory chunk out : List ℕ} {answer : Received} {out' memory' : List ℕ}
    → Called receiver memory chunk out answer out' memory' → answer.found ≡ false
    → answer
    ≡ record {
      number = answer.number;
      found = false;
      used = answer.used;
      position = 0;
      length = 0;
      header = record { version = 0; destination = 0; source = 0; command = 0 };
      payload_length = 0;
      receiver = answer.receiver;
    }
unfound-zero {receiver} {memory} {chunk} {out} {answer} called unfound =
    dite (ℕ_discrete answer.number 0)
    (λ accept.
    let o = outcome_in receiver memory chunk in
    let none = beginning-none (receiver.position + o.used - length o.stream) o.stream (unfound-faulty called accept unfound) in
    rw (answer-is called accept, none) refl)
    (λ refused. rw (called.answers, answers-refused receiver memory chunk (length out) (λ none. refused (called-number called ∙ none))) refl)
