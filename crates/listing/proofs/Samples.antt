-- Document 01's example of a listing, computed: it ties the definitions to the paper, since every law holds as well of other digits or letters.
use Prim.Native.Nat.{ℕ}
use mathlib.Core.Path.{◌≡◌, refl}
use mathlib.Core.List.{List, [], ◌∷◌, ◌++◌}
use lib.ListN.{length, replicate}
use Rattle.basics.specs.Choice.{choose}
use Rattle.basics.specs.Output.{room_refusal}
use Rattle.checksum.specs.Checksum.{checksum_from}
use Rattle.septet.specs.Septet.{with_top_bits}
use Rattle.stream.specs.Layout.{kind_of, header_length, frame_width, frame_count, stream_length}
use Rattle.stream.specs.Validation.{frame_rule, header_rule, rule_at, breach, fault_at, validation_from}
use Rattle.record.specs.Record.{Record, record_of, command_in, payload_in, unframed}
use Rattle.recording.specs.Recording.{deliveries_from}
use Rattle.text.specs.Ascii.{ascii}
use Rattle.listing.specs.Line.{hex_bytes, hex_command, hex_payload, hex_head, line_of, line_written, line_after}
use Rattle.listing.specs.Listing.{lines_of, listing_of, limited, output_of, list_refusal, listed_of}

-- AA 11 44 10 66 10 00 02 01 21 07 04 0F 00 00 65
p1 : List ℕ
p1 = 0xAA ∷ 0x11 ∷ 0x44 ∷ 0x10 ∷ 0x66 ∷ 0x10 ∷ 0x00 ∷ 0x02 ∷ 0x01 ∷ 0x21 ∷ 0x07 ∷ 0x04 ∷ 0x0F ∷ 0x00 ∷ 0x00 ∷ 0x65 ∷ []

-- AA 20 00 11 19 20 00 01 00 00 00 00 00 00 00 14
d1 : List ℕ
d1 = 0xAA ∷ 0x20 ∷ 0x00 ∷ 0x11 ∷ 0x19 ∷ 0x20 ∷ 0x00 ∷ 0x01 ∷ 0x00 ∷ 0x00 ∷ 0x00 ∷ 0x00 ∷ 0x00 ∷ 0x00 ∷ 0x00 ∷ 0x14 ∷ []

-- AA 31 77 10 20 30 23 54 38 10 0D 36 46 23 00 1A 71
t2 : List ℕ
t2 = 0xAA ∷ 0x31 ∷ 0x77 ∷ 0x10 ∷ 0x20 ∷ 0x30 ∷ 0x23 ∷ 0x54 ∷ 0x38 ∷ 0x10 ∷ 0x0D ∷ 0x36 ∷ 0x46 ∷ 0x23 ∷ 0x00 ∷ 0x1A ∷ 0x71 ∷ []

-- fed P1, D1, T2 one after the other, the whole output is these three lines
example : output_of (p1 ++ (d1 ++ t2))
    ≡ ascii "P 4411 6610 10 0200 07040F00\n" ++ (ascii "D 0020 1911 20 0100 000000000000\n" ++ ascii "T 7731 2010 30 23 38900DB6C62300\n")
unfolding p1 d1 t2 lines_of line_of hex_head hex_payload hex_command hex_bytes deliveries_from record_of command_in payload_in unframed with_top_bits validation_from stream_length kind_of choose header_length frame_width frame_count fault_at breach rule_at header_rule frame_rule checksum_from
example = refl

-- of 65,536 bytes the text is given, and one more is too long
most : (s text : List ℕ) → length s ≡ 65536 → limited s text ≡ text
unfolding choose
most s text sized = rw sized

pub one_more : (s text : List ℕ) → length s ≡ 65537 → limited s text ≡ ascii "too long\n"
unfolding choose
one_more s text sized = rw sized

too_long : (s : List ℕ) → length s ≡ 65537 → output_of s ≡ ascii "too long\n"
too_long s sized = one_more s (listing_of s) sized

-- an output of 147,456 bytes has room for all, and a shorter one is refused
room-enough : (s : List ℕ) → listed_of s 147456 ≡ record { number = 0; length = length (output_of s) }
unfolding choose list_refusal
room-enough s = refl

room-less : (s : List ℕ) → listed_of s 147455 ≡ record { number = 5; length = 0 }
unfolding choose list_refusal
room-less s = refl

-- a line with no payload, which ends after the command
abbrev without : ℕ → ℕ → List ℕ
without version command =
    line_of (record { header = record { version = version; destination = 0xABCD; source = 0xEF01; command = command }; payload = [] })

-- a packet's and a datagram's command takes four digits, a telegram's two
packet-0023 : without 0x10 0x23 ≡ ascii "P ABCD EF01 10 0023\n"
unfolding line_of hex_head hex_payload hex_command kind_of choose
packet-0023 = refl

datagram-0023 : without 0x20 0x23 ≡ ascii "D ABCD EF01 20 0023\n"
unfolding line_of hex_head hex_payload hex_command kind_of choose
datagram-0023 = refl

telegram-FF : without 0x31 0xFF ≡ ascii "T ABCD EF01 31 FF\n"
unfolding line_of hex_head hex_payload hex_command kind_of choose
telegram-FF = refl

-- what no delivered record has
telegram-0100 : without 0x30 0x0100 ≡ ascii "T ABCD EF01 30 0100\n"
unfolding line_of hex_head hex_payload hex_command kind_of choose
telegram-0100 = refl

unknown-0023 : without 0x99 0x23 ≡ ascii "? ABCD EF01 99 0023\n"
unfolding line_of hex_head hex_payload hex_command kind_of choose
unknown-0023 = refl

-- the room that a line of 18 bytes needs
shortest : Record
shortest = record { header = record { version = 0x30; destination = 0; source = 0; command = 0 }; payload = [] }

room-18 : line_written shortest 18 ≡ record { number = 0; length = 18 }
unfolding shortest room_refusal line_of hex_head hex_payload hex_command kind_of choose
room-18 = refl

room-17 : line_written shortest 17 ≡ record { number = 5; length = 0 }
unfolding shortest room_refusal line_of hex_head hex_payload hex_command kind_of choose
room-17 = refl

output-20 : line_after shortest (replicate 20 0xEE) ≡ line_of shortest ++ (0xEE ∷ 0xEE ∷ [])
unfolding shortest room_refusal line_of hex_head hex_payload hex_command kind_of choose
output-20 = refl

output-17 : line_after shortest (replicate 17 0xEE) ≡ replicate 17 0xEE
unfolding shortest room_refusal line_of hex_head hex_payload hex_command kind_of choose
output-17 = refl
