-- What writing a record answers: document 01's refusals 1 to 5, and what the wire can carry.
use Rattle.std.specs.Prelude.{ℕ, ◌<◌, ◌^◌, ◌≡◌, Bool, true, false, ◌||◌, not, List, [], ◌∷◌, ◌++◌, ltb, eqb, length}
use Rattle.basics.specs.Bytes.{AllBelow}
use Rattle.basics.specs.Choice.{first}
use Rattle.basics.specs.Output.{too_short, answered, output_with}
use Rattle.basics.specs.declared.Written.{Written}
use Rattle.basics.specs.Words.{high_word}
use Rattle.stream.specs.Layout.{payload_length_of}
use Rattle.stream.specs.declared.Kind.{Kind}
use Rattle.stream.specs.declared.Kind.TheVariants.{Packet, Datagram, Telegram, Unknown}
use Rattle.record.specs.Record.{Record, kind_in, frames_of, stream_of}

-- 1: the version is none of 10, 20, 30, 31 hex
abbrev pub is_unknown : Kind → Bool
is_unknown Packet = false
is_unknown Datagram = false
is_unknown Telegram = false
is_unknown Unknown = true

-- 3: a packet's or datagram's command has bit 7 or 15 set, or a telegram's is above 0x7F
abbrev pub high_command : Kind → ℕ → Bool
high_command Packet command = high_word command
high_command Datagram command = high_word command
high_command Telegram command = ltb 0x7F command
high_command Unknown command = false

-- 4: the payload's length n doesn't fit: F is above 127, or n is not the length of F frames
abbrev pub wrong_length : Kind → ℕ → ℕ → Bool
wrong_length K command n = ltb 127 (frames_of K command n) || not (eqb n (payload_length_of K (frames_of K command n)))

-- the table's lines 1 to 4, of a record that is taken as one of a kind
abbrev pub lines_as : Kind → Record → List (Bool × ℕ)
lines_as K r =
    (is_unknown K, 1)
    ∷ (high_word r.header.destination || high_word r.header.source, 2)
    ∷ (high_command K r.header.command, 3)
    ∷ (wrong_length K r.header.command (length r.payload), 4)
    ∷ []

-- the first of the lines 1 to 4 that applies, or 0: what the wire can't carry
unfoldable pub unwritable : Record → ℕ
unwritable r = first (lines_as (kind_in r) r)

-- each field is a number of its type
pub record InRange (r : Record) : Type 0 where
  pub version : r.header.version < 2 ^ 8
  pub destination : r.header.destination < 2 ^ 16
  pub source : r.header.source < 2 ^ 16
  pub command : r.header.command < 2 ^ 16
  pub payload : AllBelow (2 ^ 8) r.payload

-- none of the refusals 1 to 4 applies
pub record Writable (r : Record) : Type 0 where
  pub range : InRange r
  pub carried : unwritable r ≡ 0

-- the refusal for an output of the given room, or 0; the last line is 5: the output is shorter than the stream
unfoldable pub refusal : Record → ℕ → ℕ
refusal r room = first (lines_as (kind_in r) r ++ (too_short room (stream_of r) ∷ []))

-- what is answered for an output of the given room
abbrev pub encoding_of : Record → ℕ → Written
encoding_of r room = answered (refusal r room) (stream_of r)

-- the output afterwards
abbrev pub output_after : Record → List ℕ → List ℕ
output_after r out = output_with (refusal r (length out)) (stream_of r) out
