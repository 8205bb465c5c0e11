-- The streams and records that the table asks of.
use Prim.Native.Nat.{ℕ, zero, suc, ◌+◌, ◌-◌, ◌*◌, ◌/◌, ◌%◌}
use mathlib.Core.Bool.{Bool, true, false}
use mathlib.Core.List.{List, [], ◌∷◌, ◌++◌}
use lib.ListN.{take, replicate, set}
use Rattle.record.specs.Record.{Record}
use Rattle.record.specs.declared.Header.{Header}
use Rattle.slave_plans.specs.Table.{none}
use Rattle.slave_plans.specs.declared.Slave.{Slave}

-- the n bytes that a number's digits show
abbrev pub bytes : ℕ → ℕ → List ℕ
bytes zero digits = []
bytes (suc n) digits = bytes n (digits / 256) ++ (digits % 256 ∷ [])

abbrev pub recorded : ℕ → ℕ → ℕ → ℕ → List ℕ → Record
recorded version destination source command payload =
    record {
      header = record { version = version; destination = destination; source = source; command = command };
      payload = payload;
    }

-- P1, D1, T1 up to its checksum, and T2
abbrev pub p1 : List ℕ
p1 = bytes 16 0xAA114410_66100002_01210704_0F000065

abbrev pub d1 : List ℕ
d1 = bytes 16 0xAA200011_19200001_00000000_00000014

abbrev pub t1 : ℕ → List ℕ
t1 sum = bytes 7 0xAA102031_773001 ++ (sum ∷ [])

abbrev pub t2 : List ℕ
t2 = bytes 17 0xAA317710_20302354_38100D36_4623001A_71

-- a packet of two frames and a telegram of three, with top bits, and a datagram with all of them
abbrev pub two_frames : List ℕ
two_frames = bytes 22 0xAA214E72_3B100312_023C6803_7401051A_007F7F12_036C

abbrev pub six_top_bits : List ℕ
six_top_bits = bytes 16 0xAA221144_33205605_01122334_45563F16

abbrev pub three_frames : List ℕ
three_frames = bytes 35 0xAA317710_2031690D_01020304_0506077F_64010203_04050607_00630809_0A0B0C0D_0E555D

abbrev pub three_frames_payload : List ℕ
three_frames_payload = bytes 21 0x81828384_85868701_02030405_06078809_8A0B8C0D_8E

-- P1 and D1 with an unused septet bit, and the checksum of the byte as it stands
abbrev pub p1_unused : List ℕ
p1_unused = take 14 p1 ++ (0x10 ∷ 0x55 ∷ [])

abbrev pub d1_unused : List ℕ
d1_unused = take 14 d1 ++ (0x40 ∷ 0x54 ∷ [])

-- a packet of three frames: bit 4 is set in the first one's septet, and bits 5 and 6 in the last one's
abbrev pub three_unused : List ℕ
three_unused = bytes 28 0xAA114410_66100002_031F6803_7401150A_07040F00_0065007F_7F12630C

-- without them
abbrev pub three_clear : List ℕ
three_clear = bytes 28 0xAA114410_66100002_031F6803_7401051A_07040F00_0065007F_7F12036C

-- T2 with every bit of the septet set: all of them are in use
abbrev pub t2_septet : List ℕ
t2_septet = take 15 t2 ++ (0x7F ∷ 0x0C ∷ [])

-- P1, noise, the first ten bytes of D1, and T2, inside the length that D1 announces
abbrev pub damaged : List ℕ
damaged = p1 ++ (0x00 ∷ 0xFF ∷ 0x7F ∷ (take 10 d1 ++ t2))

-- records that differ from P1's, D1's and T2's in one field
abbrev pub packet : ℕ → ℕ → ℕ → ℕ → Record
packet destination source command n = recorded 0x10 destination source command (replicate n 0x80)

abbrev pub datagram : ℕ → ℕ → Record
datagram command n = recorded 0x20 0x0020 0x1911 command (replicate n 0)

abbrev pub telegram : ℕ → ℕ → Record
telegram command n = recorded 0x30 0x7731 0x2010 command (replicate n 0)

-- a block packet's header, and document 000's example payload
abbrev pub block_header : Header
block_header = record { version = 0x10; destination = 0x0015; source = 0x7E11; command = 0x0100 }

abbrev pub example : List ℕ
example = bytes 24 0x020A0000_03000800_00000000_010B0000_00000000_04080000 ++ (replicate 16 0 ++ bytes 8 0x010C0000_00000000)

-- a section of each type in the table, one frame each but two of the smart display; and a type that isn't in it
abbrev pub each_type : List ℕ
each_type =
    bytes 24 0x01010000_A1A2A3A4_01050000_B1B2B3B4_01080000_C1C2C3C4
    ++ (bytes 20 0x020A0000_D1D2D3D4_D5D6D7D8_010B0000_E1E2E3E4 ++ bytes 24 0x010C0000_F1F2F3F4_010D0000_91929394_01020000_00000000)

-- one section of the smart display
abbrev pub display : ℕ → List ℕ
display frames = frames ∷ 0x0A ∷ 0x00 ∷ 0x00 ∷ replicate (4 * frames) 0xD1

-- the two owners
abbrev pub no : Bool
no = false

abbrev pub yes : Bool
yes = true

-- a slave, and a table with entries at some indices
abbrev pub slave : Bool → ℕ → ℕ → ℕ → Slave
slave owner address product device = record { address = address; owner = owner; product = product; device = device }

abbrev pub slaves : List (ℕ × Slave) → List Slave
slaves [] = replicate 32 none
slaves ((index, entry) ∷ rest) = set (slaves rest) index entry

-- a table with one address twice, and one that no slave can have
abbrev pub twice : List Slave
twice = slaves ((3, slave no 0x2010 30 31) ∷ (5, slave no 0x2011 50 51) ∷ (9, slave no 0x2010 90 91) ∷ (31, slave no 0x0001 310 311) ∷ [])

-- a table of both owners, with one address under both
abbrev pub shared : List Slave
shared = slaves ((3, slave yes 0x2010 30 31) ∷ (5, slave no 0x2010 50 51) ∷ (7, slave no 0x2011 70 71) ∷ (9, slave yes 0x2012 90 91) ∷ [])

-- so many slaves of an owner, with addresses from one on
abbrev pub slaves_from : Bool → ℕ → ℕ → List Slave
slaves_from owner address zero = []
slaves_from owner address (suc n) = slave owner address 1 2 ∷ slaves_from owner (suc address) n

-- a table with so many of each
abbrev pub holding : ℕ → ℕ → List Slave
holding n m = slaves_from no 0x2100 n ++ (slaves_from yes 0x2100 m ++ replicate (32 - (n + m)) none)
