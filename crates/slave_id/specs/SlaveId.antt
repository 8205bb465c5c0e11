-- The slave ID response: request No. 7, with its refusal 18 in both meanings.
use Rattle.std.specs.Prelude.{ℕ, ◌+◌, ◌*◌, ◌/◌, ◌%◌, ◌^◌, Bool, true, false, ◌&&◌, ◌||◌, not, List, [], ◌∷◌, ◌++◌, eqb, leb, length, get_or, Result, Ok, Err}
use Rattle.basics.specs.Choice.{choose, first}
use Rattle.basics.specs.Output.{too_short, answered, output_with}
use Rattle.basics.specs.Refusal.{number}
use Rattle.basics.specs.declared.refusal.Refusal.{Refusal}
use Rattle.basics.specs.Words.{word_at, high_word}
use Rattle.basics.specs.declared.Written.{Written}
use Rattle.stream.specs.Layout.{kind_of}
use Rattle.stream.specs.declared.Kind.{Kind}
use Rattle.stream.specs.declared.Kind.TheVariants.{Packet, Datagram, Telegram, Unknown}
use Rattle.record.specs.Record.{Record, stream_of}
use Rattle.slave_id.specs.declared.identifiers.Identifiers.{Identifiers}
use Rattle.slave_id.specs.declared.SlaveId.{SlaveId}

-- ── reading

-- version 30 or 31 hex
abbrev pub is_telegram : Kind → Bool
is_telegram Packet = false
is_telegram Datagram = false
is_telegram Telegram = true
is_telegram Unknown = false

-- "a telegram with command 0x23, seven payload bytes and the seventh 0"
unfoldable pub is_response : Record → Bool
is_response r =
    is_telegram (kind_of r.header.version)
    && (eqb r.header.command 0x23 && (eqb (length r.payload) 7 && eqb (get_or r.payload 6 0) 0))

-- "product identifier and device identifier, 24 bits each": three bytes from offset k on, low byte first
abbrev pub identifier_at : List ℕ → ℕ → ℕ
identifier_at payload k = word_at payload k + 65536 * get_or payload (k + 2) 0

-- "Device identifier is production week (below 128) times 131072 plus consecutive number (below 131072), and reading tells both too"
abbrev pub identified : ℕ → ℕ → SlaveId
identified product device =
    record { number = 0; product = product; device = device; week = device / 131072; serial = device % 131072 }

-- a refused answer: its number and zeros
abbrev pub unidentified : ℕ → SlaveId
unidentified number = record { number = number; product = 0; device = 0; week = 0; serial = 0 }

-- what was found as C gets it
abbrev pub slave_id_as : Result Identifiers Refusal → SlaveId
slave_id_as (Ok found) = identified found.product found.device
slave_id_as (Err refusal) = unidentified (number refusal)

-- 18 when reading: the record is no such telegram
abbrev pub read_refusal : Record → ℕ
read_refusal r = first ((not (is_response r), 18) ∷ [])

-- what reading answers
unfoldable pub slave_id_of : Record → SlaveId
slave_id_of r =
    choose (eqb (read_refusal r) 0) (identified (identifier_at r.payload 0) (identifier_at r.payload 3)) (unidentified (read_refusal r))

-- ── writing

-- 18 when writing or entering: "an identifier needs more than 24 bits"
unfoldable pub too_wide : ℕ → ℕ → Bool
too_wide product device = leb (2 ^ 24) product || leb (2 ^ 24) device

abbrev pub identifier_bytes : ℕ → List ℕ
identifier_bytes x = x % 256 ∷ x / 256 % 256 ∷ x / 65536 % 256 ∷ []

-- "seventh payload byte 0"
abbrev pub payload_of : ℕ → ℕ → List ℕ
payload_of product device = identifier_bytes product ++ (identifier_bytes device ++ (0 ∷ []))

-- "Writing uses version 0x30"
abbrev pub response : ℕ → ℕ → ℕ → ℕ → Record
response destination source product device =
    record {
      header = record { version = 0x30; destination = destination; source = source; command = 0x23 };
      payload = payload_of product device;
    }

-- "and gives 18 before 2 and 5"
unfoldable pub write_refusal : ℕ → ℕ → ℕ → ℕ → ℕ → ℕ
write_refusal destination source product device room =
    first (
    (too_wide product device, 18)
    ∷ (high_word destination || high_word source, 2)
    ∷ too_short room (stream_of (response destination source product device))
    ∷ []
    )

-- what writing answers for an output of the given room
abbrev pub written_of : ℕ → ℕ → ℕ → ℕ → ℕ → Written
written_of destination source product device room =
    answered (write_refusal destination source product device room) (stream_of (response destination source product device))

-- the output afterwards
abbrev pub output_after : ℕ → ℕ → ℕ → ℕ → List ℕ → List ℕ
output_after destination source product device out =
    output_with (write_refusal destination source product device (length out)) (stream_of (response destination source product device)) out
