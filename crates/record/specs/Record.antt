-- A record, as a whole stream says it and as it is written.
use Rattle.std.specs.Prelude.{ℕ, zero, suc, ◌+◌, ◌-◌, ◌/◌, ◌^◌, ◌≤◌, List, [], ◌∷◌, ◌++◌, length, get_or, take, drop}
use Rattle.basics.specs.Bytes.{AllBelow}
use Rattle.basics.specs.Words.{word_at, word_bytes}
use Rattle.checksum.specs.Checksum.{checksum_of}
use Rattle.septet.specs.Septet.{low_bits, with_top_bits, septet_with}
use Rattle.stream.specs.Layout.{kind_of, kind, frame_width, frame_count, telegram_frames}
use Rattle.stream.specs.Unused.{block_width, block_count}
use Rattle.stream.specs.declared.Kind.{Kind}
use Rattle.stream.specs.declared.Kind.TheVariants.{Packet, Datagram, Telegram, Unknown}
use Rattle.record.specs.declared.Header.{Header}

-- document 01: version, destination, source, command (the header) and payload
pub record Record : Type 0 where
  pub header : Header
  pub payload : List ℕ

-- its kind, by its version
abbrev pub kind_in : Record → Kind
kind_in r = kind_of r.header.version

-- ── reading

-- the payload of n frames, with its top bits put back
unfoldable pub unframed : ℕ → ℕ → List ℕ → List ℕ
unframed width zero s = []
unframed width (suc n) s = with_top_bits (get_or s width 0) (take width s) ++ unframed width n (drop (width + 2) s)

-- a packet's or a datagram's command stands at 6-7, a telegram's at 6
unfoldable pub command_in : Kind → List ℕ → ℕ
command_in Packet s = word_at s 6
command_in Datagram s = word_at s 6
command_in Telegram s = get_or s 6 0
command_in Unknown s = 0

-- frames follow a packet's header at 10 and a telegram's at 8; a datagram has parameter and value at 8-13, with their septet at 14
unfoldable pub payload_in : Kind → List ℕ → List ℕ
payload_in Packet s = unframed 4 (frame_count Packet s) (drop 10 s)
payload_in Datagram s = with_top_bits (get_or s 14 0) (take 6 (drop 8 s))
payload_in Telegram s = unframed 7 (frame_count Telegram s) (drop 8 s)
payload_in Unknown s = []

-- a stream read as one of a kind: destination at 1-2, source at 3-4, version at 5
abbrev pub record_as : Kind → List ℕ → Record
record_as K s =
    record {
      header = record { version = get_or s 5 0; destination = word_at s 1; source = word_at s 3; command = command_in K s };
      payload = payload_in K s;
    }

-- the record of a whole stream
unfoldable pub record_of : List ℕ → Record
record_of s = record_as (kind s) s

-- ── on the wire

-- bytes with their checksum behind them
abbrev pub with_checksum : List ℕ → List ℕ
with_checksum block = block ++ (checksum_of block ∷ [])

-- a block's bytes without their top bits, with the septet behind them and the unused bits in it
abbrev pub with_septet : ℕ → List ℕ → List ℕ
with_septet unused block = low_bits block ++ (septet_with unused block ∷ [])

-- n frames of the payload, with the unused septet bits of each; none are set in a frame for which none are given
unfoldable pub framed : ℕ → ℕ → List ℕ → List ℕ → List ℕ
framed width zero unused payload = []
framed width (suc n) unused payload =
    with_checksum (with_septet (get_or unused 0 0) (take width payload)) ++ framed width n (drop 1 unused) (drop width payload)

-- the frame count F: of a packet by its payload's length n, of a telegram fixed by the command
unfoldable pub frames_of : Kind → ℕ → ℕ → ℕ
frames_of Packet command n = n / 4
frames_of Datagram command n = 0
frames_of Telegram command n = telegram_frames command
frames_of Unknown command n = 0

-- the frame count of a record
abbrev pub frames_in : Kind → Record → ℕ
frames_in K r = frames_of K r.header.command (length r.payload)

-- offsets 1 to 5, alike in every kind
abbrev pub address_bytes : Header → List ℕ
address_bytes h = word_bytes h.destination ++ (word_bytes h.source ++ (h.version ∷ []))

-- offset 6 up to the header's checksum, or a datagram's: only a datagram has a septet there
unfoldable pub kind_bytes : Kind → List ℕ → Record → List ℕ
kind_bytes Packet unused r = word_bytes r.header.command ++ (frames_in Packet r ∷ [])
kind_bytes Datagram unused r = word_bytes r.header.command ++ with_septet (get_or unused 0 0) r.payload
kind_bytes Telegram unused r = r.header.command ∷ []
kind_bytes Unknown unused r = []

-- 0xAA, the header with its checksum, and the frames: of a record that is taken as one of a kind
unfoldable pub stream_as : Kind → List ℕ → Record → List ℕ
stream_as K unused r =
    0xAA ∷ (with_checksum (address_bytes r.header ++ kind_bytes K unused r) ++ framed (frame_width K) (frames_in K r) unused r.payload)

-- the stream of a record, with the unused septet bits of each of its blocks; checksums cover the bytes as they stand
unfoldable pub stream_with : List ℕ → Record → List ℕ
stream_with unused r = stream_as (kind_in r) unused r

-- the stream that writing gives for a record; request No. 3: "Writing still puts zeros there"
unfoldable pub stream_of : Record → List ℕ
stream_of r = stream_with [] r

-- ── which unused septet bits there can be

-- the unused bits of a record's blocks, as numbers: no more of them than blocks, each within the septet's seven bits;
-- of a record that is taken as one of a kind
pub record UnusedAs (K : Kind) (unused : List ℕ) (r : Record) : Type 0 where
  pub few : length unused ≤ block_count K (frames_in K r)
  pub small : AllBelow (2 ^ (7 - block_width K)) unused

-- and of a record by its own version
abbrev pub UnusedFor : List ℕ → Record → Type 0
UnusedFor unused r = UnusedAs (kind_in r) unused r
