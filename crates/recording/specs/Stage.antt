-- What the private functions under `next` and `normalize` promise. No public contract cites this file.
use Rattle.std.specs.Prelude.{ℕ, ◌%◌, ◌≤◌, ◌<◌, ◌≡◌, List, [], ◌∷◌, ◌++◌, ltb, length, get_or, take, drop, Option, Some, None, Result, Ok, Err}
use Rattle.basics.specs.Choice.{choose}
use Rattle.basics.specs.declared.refusal.Refusal.{Refusal}
use Rattle.basics.specs.declared.refusal.Refusal.TheVariants.{OutputTooShort}
use Rattle.stream.specs.Layout.{length_as, frame_count, payload_length_of}
use Rattle.stream.specs.Validation.{validation_of}
use Rattle.stream.specs.declared.Kind.{Kind}
use Rattle.record.specs.Record.{Record, record_of, with_checksum}
use Rattle.recording.specs.Recording.{Delivery, delivery_at}
use Rattle.recording.specs.Next.{without, first_of}
use Rattle.recording.specs.declared.Found.{Found}
use Rattle.recording.specs.declared.read.Contents.{Contents}
use Rattle.recording.specs.declared.search.Span.{Span}

-- where the first delivery of s stands, how long its stream is, and the unused septets there
abbrev pub searched : List ℕ → List Delivery → Option Span
searched s [] = None
searched s (d ∷ rest) =
    Some (record {
      position = d.position;
      stream = record { length = d.length; unused_septets = (validation_of (drop d.position s)).unused_septets };
    })

-- a whole stream stands at the position, as long and with as many unused septets as is said
pub record WholeAt (s : List ℕ) (span : Span) : Type 0 where
  pub within : span.position ≤ length s
  pub whole : (validation_of (drop span.position s)).verdict ≡ 0
  pub sized : span.stream.length ≡ (validation_of (drop span.position s)).offset
  pub counted : span.stream.unused_septets ≡ (validation_of (drop span.position s)).unused_septets

-- the bytes are one whole stream and no more, with so many unused septets, and the output has room for them
pub record OneStream (s : List ℕ) (unused room : ℕ) : Type 0 where
  pub whole : (validation_of s).verdict ≡ 0
  pub sized : (validation_of s).offset ≡ length s
  pub counted : unused ≡ (validation_of s).unused_septets
  pub held : length s ≤ room

-- the first n bytes are below 0x80
abbrev pub LowTo : ℕ → List ℕ → Type 0
LowTo n s = (k : ℕ) → k < n → get_or s k 0 < 0x80

-- the first bytes up to a place, of the septet there what is below the limit, and the checksum of all these
abbrev pub cleared : ℕ → ℕ → List ℕ → List ℕ
cleared place limit block = with_checksum (take place block ++ (get_or block place 0 % limit ∷ []))

-- the stream of a kind is there, with its frames, and the output has room for its payload
pub record PayloadHeld (K : Kind) (s : List ℕ) (count room : ℕ) : Type 0 where
  pub there : length_as K s ≤ length s
  pub counted : count ≡ frame_count K s
  pub few : count < 256
  pub fits : payload_length_of K count ≤ room

-- what is read of a record, by the output's room
abbrev pub contents_for : Record → ℕ → Result Contents Refusal
contents_for r room =
    choose (ltb room (length r.payload)) (Err OutputTooShort) (Ok (record { header = r.header; payload_length = length r.payload }))

-- the answer for a whole stream at a position, by the output's room
abbrev pub delivered_of : List ℕ → ℕ → ℕ → Found
delivered_of s position room =
    choose (ltb room (length (record_of (drop position s)).payload)) (without 5) (first_of (delivery_at position (drop position s) ∷ []))
