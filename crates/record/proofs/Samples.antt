-- What is in range, at its bounds: the laws ask it of records that the wire can carry, which leaves most of each bound open. And streams
-- with unused septet bits, byte by byte.
use Prim.Native.Nat.{ℕ, ◌<◌}
use native.Mathlib.Omega.{arith}
use mathlib.Core.Path.{◌≡◌, refl}
use mathlib.Core.List.{List, [], ◌∷◌}
use Rattle.basics.specs.Bytes.{AllBelow}
use Rattle.basics.specs.Choice.{choose}
use Rattle.checksum.specs.Checksum.{checksum_from}
use Rattle.septet.specs.Septet.{septet_of, low_bits}
use Rattle.stream.specs.Layout.{kind_of, frame_width}
use Rattle.record.specs.Record.{Record, framed, frames_of, kind_bytes, stream_as, stream_with}
use Rattle.record.specs.Encode.{InRange}

-- the greatest number of each field's type is in range
widest : InRange (record { header = record { version = 0xFF; destination = 0xFFFF; source = 0xFFFF; command = 0xFFFF }; payload = 0xFF ∷ [] })
widest = record { version = omega arith; destination = omega arith; source = omega arith; command = omega arith; payload = (omega arith, tt) }

-- and none above
bounds : (r : Record) → InRange r
    → (r.header.version < 0x100) × (r.header.destination < 0x10000) × (r.header.source < 0x10000) × (r.header.command < 0x10000) × AllBelow 0x100 r.payload
bounds r range =
    (omega (arith, range.version), omega (arith, range.destination), omega (arith, range.source), omega (arith, range.command), range.payload)

-- request No. 3's sample, P1 with bit 4 of its septet set, and a packet of three frames, with unused bits in the first and the last
packet : List ℕ → Record
packet payload = record { header = record { version = 0x10; destination = 0x4411; source = 0x6610; command = 0x0200 }; payload = payload }

unused-one : stream_with (1 ∷ []) (packet (0x07 ∷ 0x04 ∷ 0x0F ∷ 0x00 ∷ []))
    ≡ 0xAA ∷ 0x11 ∷ 0x44 ∷ 0x10 ∷ 0x66 ∷ 0x10 ∷ 0x00 ∷ 0x02 ∷ 0x01 ∷ 0x21 ∷ 0x07 ∷ 0x04 ∷ 0x0F ∷ 0x00 ∷ 0x10 ∷ 0x55 ∷ []
unfolding packet stream_with stream_as kind_bytes framed kind_of frame_width frames_of septet_of low_bits checksum_from choose
unused-one = refl

unused-two : stream_with (1 ∷ 0 ∷ 6 ∷ []) (packet (0xE8 ∷ 0x03 ∷ 0xF4 ∷ 0x01 ∷ 0x07 ∷ 0x04 ∷ 0x0F ∷ 0x00 ∷ 0x80 ∷ 0xFF ∷ 0x7F ∷ 0x12 ∷ []))
    ≡ 0xAA ∷ 0x11 ∷ 0x44 ∷ 0x10 ∷ 0x66 ∷ 0x10 ∷ 0x00 ∷ 0x02 ∷ 0x03 ∷ 0x1F
    ∷ 0x68 ∷ 0x03 ∷ 0x74 ∷ 0x01 ∷ 0x15 ∷ 0x0A ∷ 0x07 ∷ 0x04 ∷ 0x0F ∷ 0x00 ∷ 0x00 ∷ 0x65 ∷ 0x00 ∷ 0x7F ∷ 0x7F ∷ 0x12 ∷ 0x63 ∷ 0x0C ∷ []
unfolding packet stream_with stream_as kind_bytes framed kind_of frame_width frames_of septet_of low_bits checksum_from choose
unused-two = refl

-- D1 with bit 6 of its septet set
unused-datagram : stream_with (1 ∷ [])
    (record { header = record { version = 0x20; destination = 0x0020; source = 0x1911; command = 0x0100 }; payload = 0 ∷ 0 ∷ 0 ∷ 0 ∷ 0 ∷ 0 ∷ [] })
    ≡ 0xAA ∷ 0x20 ∷ 0x00 ∷ 0x11 ∷ 0x19 ∷ 0x20 ∷ 0x00 ∷ 0x01 ∷ 0x00 ∷ 0x00 ∷ 0x00 ∷ 0x00 ∷ 0x00 ∷ 0x00 ∷ 0x40 ∷ 0x54 ∷ []
unfolding stream_with stream_as kind_bytes framed kind_of frame_width frames_of septet_of low_bits checksum_from choose
unused-datagram = refl
