-- A receiver that is fed a recording as it arrives: what any sequence of calls delivers.
use Rattle.std.specs.Prelude.{ℕ, ◌+◌, ◌≡◌, ◌≢◌, List, [], ◌∷◌, ◌++◌, length, take, drop}
use Rattle.basics.specs.Choice.{choose}
use Rattle.recording.specs.Recording.{Delivery}
use Rattle.receiver.specs.Receive.{received_of, output_after, Remembered}
use Rattle.receiver.specs.declared.Receiver.{Receiver}
use Rattle.receiver.specs.declared.Received.{Received}

-- a receiver that is fresh: zeroed
abbrev pub fresh : Receiver
fresh = record { held = 0; position = 0 }

-- what `receive` promises of a call: its answer, and what output and memory hold afterwards
pub record Called (receiver : Receiver) (memory chunk out : List ℕ) (answer : Received) (out' memory' : List ℕ) : Type 0 where
  pub answers : answer ≡ received_of receiver memory chunk (length out)
  pub output : out' ≡ output_after receiver memory chunk out
  pub remembers : Remembered receiver memory chunk (length out) memory'

-- the record that a call delivers, as its answer and the output say it, or none
abbrev pub delivered_in : Received → List ℕ → List Delivery
delivered_in answer out =
    choose answer.found
    (record {
      position = answer.position;
      length = answer.length;
      contents = record { header = answer.header; payload = take answer.payload_length out };
    } ∷ [])
    []

-- calls that use up the bytes of a recording, and what they deliver. Each call is handed a chunk, any part that the bytes not used yet begin
-- with; it may be refused. What the output holds before a call, and its room, may be anything
pub data Run : Receiver → List ℕ → List ℕ → List Delivery → Type 0 where
  ended : {receiver : Receiver} {memory : List ℕ} → Run receiver memory [] []
  call : {receiver : Receiver} {memory bytes : List ℕ} {ds : List Delivery} (chunk later out : List ℕ) (answer : Received) (out' memory' : List ℕ)
      → bytes ≡ chunk ++ later
      → Called receiver memory chunk out answer out' memory'
      → Run answer.receiver memory' (drop answer.used chunk ++ later) ds
      → Run receiver memory bytes (delivered_in answer out' ++ ds)

-- what a call is handed beside the receiver and its memory
pub record Arguments : Type 0 where
  pub chunk : List ℕ
  pub out : List ℕ

-- what comes back of it: the answer, and the output afterwards
pub record Result : Type 0 where
  pub answer : Received
  pub out : List ℕ

-- calls one after the other, each with any chunk and any output, and what came back of them
pub data Calls : Receiver → List ℕ → List Arguments → List Result → Type 0 where
  finished : {receiver : Receiver} {memory : List ℕ} → Calls receiver memory [] []
  again : {receiver : Receiver} {memory : List ℕ} {arguments : List Arguments} {results : List Result} (chunk out : List ℕ) (answer : Received) (out' memory' : List ℕ)
      → Called receiver memory chunk out answer out' memory'
      → Calls answer.receiver memory' arguments results
      → Calls receiver memory (record { chunk = chunk; out = out } ∷ arguments) (record { answer = answer; out = out' } ∷ results)

-- none of them was refused as 12
abbrev pub NoneOverflows : List Result → Type 0
NoneOverflows [] = Unit {0}
NoneOverflows (r ∷ rest) = (r.answer.number ≢ 12) × NoneOverflows rest

-- the same but for the positions, which are p further on: of a state, of an answer, of what came back
abbrev pub moved_state : ℕ → Receiver → Receiver
moved_state p receiver = record { held = receiver.held; position = p + receiver.position }

abbrev pub moved_answer : ℕ → Received → Received
moved_answer p answer =
    record {
      number = answer.number;
      found = answer.found;
      used = answer.used;
      position = choose answer.found (p + answer.position) 0;
      length = answer.length;
      header = answer.header;
      payload_length = answer.payload_length;
      receiver = moved_state p answer.receiver;
    }

abbrev pub moved : ℕ → List Result → List Result
moved p [] = []
moved p (r ∷ rest) = record { answer = moved_answer p r.answer; out = r.out } ∷ moved p rest
