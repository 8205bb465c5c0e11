-- What a receiver answers to a chunk, and what the output and the memory hold then: document 02's No. 1, with document 01's refusal 5, and
-- No. 5, positions and refusal 12.
use Rattle.std.specs.Prelude.{ℕ, suc, ◌+◌, ◌-◌, ◌^◌, ◌<◌, ◌≡◌, List, [], ◌∷◌, ltb, leb, eqb, length, take}
use Rattle.basics.specs.Choice.{choose, first}
use Rattle.basics.specs.Output.{output_with}
use Rattle.stream.specs.Validation.{is_whole}
use Rattle.recording.specs.Next.{without, first_of, payload_of}
use Rattle.recording.specs.Decode.{beginning}
use Rattle.recording.specs.Recording.{Delivery}
use Rattle.recording.specs.declared.Found.{Found}
use Rattle.receiver.specs.Holding.{extended, kept}
use Rattle.receiver.specs.declared.Receiver.{Receiver}
use Rattle.receiver.specs.declared.Received.{Received}

-- what a chunk brings: the whole stream that it completes, or no bytes; the unfinished stream that is held then; and how many of its
-- bytes were used
pub record Outcome : Type 0 where
  pub stream : List ℕ
  pub held : List ℕ
  pub used : ℕ

-- one byte was used before
abbrev pub one_more : Outcome → Outcome
one_more o = record { stream = o.stream; held = o.held; used = suc o.used }

-- "stops with the last byte of each delivered record's stream, saying how many bytes it used; with no record it uses them all"
unfoldable pub outcome_of : List ℕ → List ℕ → Outcome
outcome_of held [] = record { stream = []; held = held; used = 0 }
outcome_of held (byte ∷ rest) =
    choose (is_whole (extended held byte))
    (record { stream = extended held byte; held = []; used = 1 })
    (one_more (outcome_of (kept (extended held byte)) rest))

-- the bytes that a state holds: as many as it says, if so many were used and by their length they are an unfinished stream; else none: no
-- calls lead to such a state
unfoldable pub held_in : Receiver → List ℕ → List ℕ
held_in receiver memory = choose (leb receiver.held receiver.position) (kept (take receiver.held memory)) []

-- what the chunk brings if it isn't refused
abbrev pub outcome_in : Receiver → List ℕ → List ℕ → Outcome
outcome_in receiver memory chunk = outcome_of (held_in receiver memory) chunk

-- "It wants 508 bytes of payload room on each call (5 otherwise, nothing used)"; No. 5: "a scrap that, wholly used, would push the count past
-- the largest 64-bit number is refused as 12, after 5"
unfoldable pub refusal : Receiver → List ℕ → ℕ → ℕ
refusal receiver chunk room = first ((ltb room 508, 5) ∷ (ltb (2 ^ 64 - 1) (receiver.position + length chunk), 12) ∷ [])

-- an answer: a record or none, how many bytes were used, and the state afterwards
abbrev pub answer_of : Found → ℕ → Receiver → Received
answer_of f used receiver =
    record {
      number = f.number;
      found = f.found;
      used = used;
      position = f.position;
      length = f.length;
      header = f.header;
      payload_length = f.payload_length;
      receiver = receiver;
    }

-- the delivery of the stream that was completed, or none, where so many bytes were used before the chunk. No. 5: "the position of its
-- 0xAA": the stream ends with the last byte used
abbrev pub completed_in : ℕ → Outcome → List Delivery
completed_in before o = beginning (before + o.used - length o.stream) o.stream

-- its record or none, and the count of all bytes used
abbrev pub accepted_of : ℕ → Outcome → Received
accepted_of before o = answer_of (first_of (completed_in before o)) o.used (record { held = length o.held; position = before + o.used })

-- what is answered for an output of the given room; a refusal uses nothing and gives the state back as it was
abbrev pub received_of : Receiver → List ℕ → List ℕ → ℕ → Received
received_of receiver memory chunk room =
    choose (eqb (refusal receiver chunk room) 0) (accepted_of receiver.position (outcome_in receiver memory chunk))
    (answer_of (without (refusal receiver chunk room)) 0 receiver)

-- the output afterwards
abbrev pub output_after : Receiver → List ℕ → List ℕ → List ℕ → List ℕ
output_after receiver memory chunk out =
    output_with (refusal receiver chunk (length out)) (payload_of (completed_in receiver.position (outcome_in receiver memory chunk))) out

-- the memory afterwards: refused, every byte as it was; else it begins with the unfinished stream, and what stands behind that is free
pub record Remembered (receiver : Receiver) (memory chunk : List ℕ) (room : ℕ) (after : List ℕ) : Type 0 where
  pub refused : 0 < refusal receiver chunk room → after ≡ memory
  pub held : refusal receiver chunk room ≡ 0 → take (length (outcome_in receiver memory chunk).held) after ≡ (outcome_in receiver memory chunk).held

-- "A reset forgets only the unfinished stream"; No. 5: it "doesn't set the count back"
abbrev pub reset_of : Receiver → Receiver
reset_of receiver = record { held = 0; position = receiver.position }
