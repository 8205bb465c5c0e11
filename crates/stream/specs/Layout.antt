-- The layout of a stream, by document 01's table of the three kinds.
use Rattle.std.specs.Prelude.{ℕ, ◌+◌, ◌*◌, ◌/◌, ◌%◌, List, eqb, get_or}
use Rattle.basics.specs.Choice.{choose}
use Rattle.stream.specs.declared.Kind.{Kind}
use Rattle.stream.specs.declared.Kind.TheVariants.{Packet, Datagram, Telegram, Unknown}

-- packets (version byte 0x10), datagrams (0x20) and telegrams (0x30, 0x31)
unfoldable pub kind_of : ℕ → Kind
kind_of version =
    choose (eqb version 0x10) Packet
    (choose (eqb version 0x20) Datagram
    (choose (eqb version 0x30) Telegram
    (choose (eqb version 0x31) Telegram Unknown)))

-- offset 5 is the version
abbrev pub kind : List ℕ → Kind
kind s = kind_of (get_or s 5 0)

-- the bytes up to the header's checksum, or a datagram's; of an unknown kind the bytes that tell it
unfoldable pub header_length : Kind → ℕ
header_length Packet = 10
header_length Datagram = 16
header_length Telegram = 8
header_length Unknown = 6

-- the payload bytes of a frame; a septet and a checksum follow them
unfoldable pub frame_width : Kind → ℕ
frame_width Packet = 4
frame_width Datagram = 0
frame_width Telegram = 7
frame_width Unknown = 0

-- F is bits 5-6 of a telegram's command
abbrev pub telegram_frames : ℕ → ℕ
telegram_frames command = command / 32 % 4

-- the frame count F, as the header announces it
unfoldable pub frame_count : Kind → List ℕ → ℕ
frame_count Packet s = get_or s 8 0
frame_count Datagram s = 0
frame_count Telegram s = telegram_frames (get_or s 6 0)
frame_count Unknown s = 0

-- the length of a stream that is read as one of a kind
abbrev pub length_as : Kind → List ℕ → ℕ
length_as kind s = header_length kind + (frame_width kind + 2) * frame_count kind s

unfoldable pub stream_length : List ℕ → ℕ
stream_length s = length_as (kind s) s

-- payload lengths: packet 4F, datagram 6, telegram 7F
unfoldable pub payload_length_of : Kind → ℕ → ℕ
payload_length_of Packet frames = 4 * frames
payload_length_of Datagram frames = 6
payload_length_of Telegram frames = 7 * frames
payload_length_of Unknown frames = 0
