-- The definitions of specs/ hold of document 01's starred samples, and of more that pin their numbers: one statement over a table,
-- by computation. Assumes nothing.
use Prim.Native.Nat.{ℕ, ◌+◌, ◌-◌, ◌^◌}
use mathlib.Core.Path.{◌≡◌, refl}
use mathlib.Core.List.{List, [], ◌∷◌, ◌++◌, map, flatten}
use lib.ListN.{take, drop, replicate}
use Rattle.basics.specs.Choice.{choose}
use Rattle.basics.specs.Output.{room_refusal}
use Rattle.basics.specs.Words.{signed}
use Rattle.checksum.specs.Checksum.{checksum_from}
use Rattle.septet.specs.Septet.{septet_of, low_bits, with_top_bits}
use Rattle.septet.specs.Answer.{any_high}
use Rattle.stream.specs.Layout.{kind_of, header_length, frame_width, frame_count, stream_length, payload_length_of}
use Rattle.stream.specs.Unused.{block_width, unused_frames, unused_in, count_nonzero, unused_septets_of}
use Rattle.stream.specs.Validation.{frame_rule, header_rule, rule_at, breach, fault_at, validation_from}
use Rattle.stream.specs.declared.Verdict.TheVariants.{Whole, NoSync, HighByte, UnknownVersion, HeaderChecksum, FrameChecksum, Ended}
use Rattle.record.specs.Record.{record_of, unframed, command_in, payload_in, framed, frames_of, kind_bytes, stream_as, stream_with, stream_of}
use Rattle.record.specs.Encode.{unwritable}
use Rattle.record.specs.Encode as Encodings
use Rattle.recording.specs.Recording.{deliveries_from}
use Rattle.recording.specs.Next as Nexts
use Rattle.recording.specs.Normalize.{streams}
use Rattle.recording.specs.Decode.{beginning}
use Rattle.receiver.specs.Holding.{extended, kept}
use Rattle.receiver.specs.Receive.{outcome_of, held_in}
use Rattle.receiver.specs.Receive as Receptions
use Rattle.receiver.specs.declared.Receiver.{Receiver}
use Rattle.diagnosis.specs.Fault.{wanted_at, faults_from, next_fault}
use Rattle.sections.specs.Section.{cut, some_short}
use Rattle.sections.specs.Element.{element_size}
use Rattle.sections.specs.Answer.{not_block}
use Rattle.slave_id.specs.SlaveId.{is_response, slave_id_of, too_wide, write_refusal}
use Rattle.slave_plans.specs.Table.{is_free, belongs_to, has_address, lowest, count}
use Rattle.slave_plans.specs.History.{run_from, answers_by}
use Rattle.slave_plans.specs.Answer.{not_slave, is_absent, is_full, is_taken, enter_refusal, found_by, change_refusal, remove_refusal}
use Rattle.slave_figures.specs.Keeping.{held_by, figures_with, enter_refusal_by, check_by}
use Rattle.samples.proofs.Slaves.{slave_ids, slave_tables, two_owners, histories}
use Rattle.samples.proofs.Figures.{kept_figures}
use Rattle.samples.proofs.Questions.{Row, refused, checksum, extract, inject, validate, read, carry, encode, value, next, receive, reset, fault, normalize, sections, section, elements, element, temperature, verdict, untouched, answer}
use Rattle.samples.proofs.Samples.{bytes, recorded, p1, d1, t1, t2, p1_unused, d1_unused, three_unused, three_clear, t2_septet, two_frames, six_top_bits, three_frames, three_frames_payload, damaged, packet, datagram, telegram, block_header, example, each_type, display}

-- refused septets; no next record, and any number with it
abbrev no_septets : List ℕ
no_septets = 7 ∷ replicate 9 0

abbrev no_record : ℕ → ℕ → List ℕ
no_record number room = number ∷ (replicate 8 0 ++ untouched room)

abbrev starred : List Row
starred =
    (validate p1, 0 ∷ 16 ∷ 0 ∷ [])
    ∷ (validate d1, 0 ∷ 16 ∷ 0 ∷ [])
    ∷ (validate (t1 0x76), 0 ∷ 8 ∷ 0 ∷ [])
    ∷ (validate (t1 0x77), 4 ∷ 7 ∷ 0 ∷ [])
    ∷ (validate t2, 0 ∷ 17 ∷ 0 ∷ [])
    ∷ (read t2, 0x30 ∷ 0x7731 ∷ 0x2010 ∷ 0x23 ∷ bytes 7 0x38900DB6_C62300)
    ∷ (extract (bytes 7 0xE803F401_000000) 4, 0 ∷ 4 ∷ 0x05 ∷ bytes 7 0x68037401_000000)
    ∷ (checksum (bytes 5 0x68037401_05), 0x1A ∷ [])
    ∷ (validate [], 7 ∷ 0 ∷ 0 ∷ [])
    ∷ (next [] 0 2, no_record 0 2)
    ∷ (next [] 1 2, no_record 6 2)
    ∷ (validate p1_unused, 0 ∷ 16 ∷ 1 ∷ [])
    ∷ (validate (0xAA ∷ p1), 2 ∷ 1 ∷ 0 ∷ [])
    ∷ (next (0xAA ∷ p1) 0 5, 0 ∷ 1 ∷ 1 ∷ 16 ∷ 0x10 ∷ 0x4411 ∷ 0x6610 ∷ 0x0200 ∷ 4 ∷ bytes 5 0x07040F00_EE)
    ∷ (encode (packet 0x0080 0x6610 0x0200 4) 16, refused 2 16)
    ∷ []

abbrev septets : List Row
septets =
    (checksum [], 0x7F ∷ [])
    ∷ (checksum (0x80 ∷ []), 0x7F ∷ [])
    ∷ (checksum (0xFF ∷ 0xFF ∷ []), 0x01 ∷ [])
    ∷ (extract (replicate 7 0xFF) 7, 0 ∷ 7 ∷ 0x7F ∷ replicate 7 0x7F)
    ∷ (extract (bytes 7 0x38900DB6_C623FF) 6, 0 ∷ 6 ∷ 0x1A ∷ bytes 7 0x38100D36_462300)
    ∷ (extract (replicate 7 0xFF) 0, replicate 10 0)
    ∷ (extract (replicate 7 0xFF) 8, no_septets)
    ∷ (inject (replicate 7 0x7F) 7 0x7F, 0 ∷ 7 ∷ 0 ∷ replicate 7 0xFF)
    ∷ (inject (bytes 7 0x68037401_FFFFFF) 4 0x05, 0 ∷ 4 ∷ 0 ∷ bytes 7 0xE803F401_000000)
    ∷ (inject (replicate 7 0x7F) 0 0, replicate 10 0)
    ∷ (inject (replicate 7 0) 8 0, no_septets)
    ∷ (inject (bytes 7 0x68037480_000000) 4 0x05, no_septets)
    ∷ (inject (replicate 7 0) 7 0x80, no_septets)
    ∷ (inject (bytes 7 0x68037401_000000) 4 0x75, 0 ∷ 4 ∷ 0 ∷ bytes 7 0xE803F401_000000)
    ∷ (inject (replicate 7 0) 6 0x40, 0 ∷ 6 ∷ replicate 8 0)
    ∷ (inject (replicate 7 0x7F) 0 0x7F, replicate 10 0)
    ∷ (inject (replicate 7 0) 4 0x80, no_septets)
    ∷ []

abbrev verdicts : List Row
verdicts =
    (validate (two_frames ++ (0xFF ∷ [])), 0 ∷ 22 ∷ 0 ∷ [])
    ∷ (validate six_top_bits, 0 ∷ 16 ∷ 0 ∷ [])
    ∷ (validate three_frames, 0 ∷ 35 ∷ 0 ∷ [])
    ∷ (validate (bytes 8 0xAA102031_77301463), 0 ∷ 8 ∷ 0 ∷ [])
    ∷ (validate (0xAB ∷ []), 1 ∷ 0 ∷ 0 ∷ [])
    ∷ (validate (bytes 8 0x2A102031_77300176), 1 ∷ 0 ∷ 0 ∷ [])
    ∷ (validate (0xAA ∷ 0x7F ∷ 0x80 ∷ []), 2 ∷ 2 ∷ 0 ∷ [])
    ∷ (validate (bytes 6 0xAA102031_7790), 2 ∷ 5 ∷ 0 ∷ [])
    ∷ (validate (bytes 13 0xAA114410_66100002_01210704_80), 2 ∷ 12 ∷ 0 ∷ [])
    ∷ (validate (t1 0xF6), 2 ∷ 7 ∷ 0 ∷ [])
    ∷ (validate (bytes 15 0xAA114410_66100002_01210704_0F0080), 2 ∷ 14 ∷ 0 ∷ [])
    ∷ (validate (bytes 16 0xAA114410_66100002_01210704_0F0000E5), 2 ∷ 15 ∷ 0 ∷ [])
    ∷ (validate (bytes 16 0xAA200011_19200001_00000000_00008014), 2 ∷ 14 ∷ 0 ∷ [])
    ∷ (validate (bytes 8 0xAA102031_77110176), 3 ∷ 5 ∷ 0 ∷ [])
    ∷ (validate (bytes 10 0xAA114410_66100002_0122), 4 ∷ 9 ∷ 0 ∷ [])
    ∷ (validate (bytes 16 0xAA200011_19200001_00000000_00000015), 4 ∷ 15 ∷ 0 ∷ [])
    ∷ (validate d1_unused, 0 ∷ 16 ∷ 1 ∷ [])
    ∷ (validate three_unused, 0 ∷ 28 ∷ 2 ∷ [])
    ∷ (validate three_clear, 0 ∷ 28 ∷ 0 ∷ [])
    ∷ (validate t2_septet, 0 ∷ 17 ∷ 0 ∷ [])
    ∷ (validate (take 20 two_frames ++ (0x23 ∷ 0x4C ∷ [])), 0 ∷ 22 ∷ 1 ∷ [])
    ∷ (validate (take 15 p1_unused ++ (0x65 ∷ [])), 6 ∷ 15 ∷ 0 ∷ [])
    ∷ (validate (take 15 d1_unused ++ (0x14 ∷ [])), 4 ∷ 15 ∷ 0 ∷ [])
    ∷ (validate (take 27 three_unused ++ (0x6C ∷ [])), 6 ∷ 27 ∷ 0 ∷ [])
    ∷ (validate (take 27 three_unused), 7 ∷ 27 ∷ 0 ∷ [])
    ∷ (validate (take 21 two_frames ++ (0x6D ∷ [])), 6 ∷ 21 ∷ 0 ∷ [])
    ∷ (validate (take 34 three_frames ++ (0x5E ∷ [])), 6 ∷ 34 ∷ 0 ∷ [])
    ∷ (validate (take 5 p1), 7 ∷ 5 ∷ 0 ∷ [])
    ∷ (validate (take 6 p1), 7 ∷ 6 ∷ 0 ∷ [])
    ∷ (validate (take 15 p1), 7 ∷ 15 ∷ 0 ∷ [])
    ∷ (validate (take 15 d1), 7 ∷ 15 ∷ 0 ∷ [])
    ∷ (validate (take 16 t2), 7 ∷ 16 ∷ 0 ∷ [])
    ∷ []

abbrev records : List Row
records =
    (read two_frames, 0x10 ∷ 0x4E21 ∷ 0x3B72 ∷ 0x1203 ∷ bytes 8 0xE803F401_80FF7F12)
    ∷ (read six_top_bits, 0x20 ∷ 0x1122 ∷ 0x3344 ∷ 0x0556 ∷ bytes 6 0x8192A3B4_C5D6)
    ∷ (read three_unused, 0x10 ∷ 0x4411 ∷ 0x6610 ∷ 0x0200 ∷ bytes 12 0xE803F401_07040F00_80FF7F12)
    ∷ (read d1_unused, 0x20 ∷ 0x0020 ∷ 0x1911 ∷ 0x0100 ∷ replicate 6 0)
    ∷ (read t2_septet, 0x30 ∷ 0x7731 ∷ 0x2010 ∷ 0x23 ∷ bytes 7 0xB8908DB6_C6A380)
    ∷ (read three_frames, 0x31 ∷ 0x7731 ∷ 0x2010 ∷ 0x69 ∷ three_frames_payload)
    ∷ (encode (recorded 0x10 0x4E21 0x3B72 0x1203 (bytes 8 0xE803F401_80FF7F12)) 23, 0 ∷ 22 ∷ (two_frames ++ (0xEE ∷ [])))
    ∷ (encode (recorded 0x20 0x1122 0x3344 0x0556 (bytes 6 0x8192A3B4_C5D6)) 16, 0 ∷ 16 ∷ six_top_bits)
    ∷ (encode (recorded 0x31 0x7731 0x2010 0x69 three_frames_payload) 35, 0 ∷ 35 ∷ three_frames)
    ∷ (carry (packet 0x4411 0x6610 0x0200 0), 0 ∷ [])
    ∷ (carry (telegram 0x01 0), 0 ∷ [])
    ∷ (carry (telegram 0x7F 21), 0 ∷ [])
    ∷ (carry (telegram 0x60 21), 0 ∷ [])
    ∷ (carry (packet 0x7F7F 0x7F7F 0x7F7F 508), 0 ∷ [])
    ∷ (carry (recorded 0x11 0x0080 0x6610 0x0080 []), 1 ∷ [])
    ∷ (carry (packet 0x8000 0x6610 0x0080 3), 2 ∷ [])
    ∷ (carry (packet 0x0180 0x6610 0x0200 4), 2 ∷ [])
    ∷ (carry (packet 0x4411 0x0080 0x0200 4), 2 ∷ [])
    ∷ (carry (packet 0x4411 0x8000 0x0200 4), 2 ∷ [])
    ∷ (carry (packet 0x4411 0x6610 0x0080 3), 3 ∷ [])
    ∷ (carry (packet 0x4411 0x6610 0x8000 4), 3 ∷ [])
    ∷ (carry (datagram 0x0080 6), 3 ∷ [])
    ∷ (carry (datagram 0x8000 6), 3 ∷ [])
    ∷ (carry (telegram 0x80 0), 3 ∷ [])
    ∷ (carry (telegram 0x0100 0), 3 ∷ [])
    ∷ (carry (packet 0x4411 0x6610 0x0200 3), 4 ∷ [])
    ∷ (carry (packet 0x4411 0x6610 0x0200 512), 4 ∷ [])
    ∷ (carry (datagram 0x0100 5), 4 ∷ [])
    ∷ (carry (telegram 0x23 0), 4 ∷ [])
    ∷ (encode (recorded 0x11 0x4411 0x6610 0x0200 []) 2, refused 1 2)
    ∷ (encode (packet 0x4411 0x6610 0x0080 4) 2, refused 3 2)
    ∷ (encode (packet 0x4411 0x6610 0x0200 3) 2, refused 4 2)
    ∷ (encode (packet 0x4411 0x6610 0x0200 4) 15, refused 5 15)
    ∷ (value (bytes 6 0x3412FFFF_FFFF), 1 ∷ 1 ∷ [])
    ∷ (value (bytes 6 0x34120000_0080), 1 ∷ 2147483648 ∷ [])
    ∷ (value (bytes 6 0x3412FFFF_FF7F), 0 ∷ 2147483647 ∷ [])
    ∷ (value (bytes 6 0x34120102_0304), 0 ∷ 0x04030201 ∷ [])
    ∷ []

abbrev recordings : List Row
recordings =
    (next damaged 1 7, 0 ∷ 1 ∷ 29 ∷ 17 ∷ 0x30 ∷ 0x7731 ∷ 0x2010 ∷ 0x23 ∷ 7 ∷ bytes 7 0x38900DB6_C62300)
    ∷ (next damaged 30 2, no_record 0 2)
    ∷ (next damaged 46 0, no_record 0 0)
    ∷ (next damaged 47 0, no_record 6 0)
    ∷ (next damaged 0 3, no_record 5 3)
    ∷ (normalize damaged 34, 0 ∷ 33 ∷ (p1 ++ (t2 ++ (0xEE ∷ []))))
    ∷ (normalize damaged 33, 0 ∷ 33 ∷ (p1 ++ t2))
    ∷ (normalize damaged 32, refused 5 32)
    ∷ (normalize [] 2, 0 ∷ 0 ∷ untouched 2)
    ∷ (normalize p1_unused 16, 0 ∷ 16 ∷ p1)
    ∷ (normalize d1_unused 16, 0 ∷ 16 ∷ d1)
    ∷ (normalize (three_unused ++ t2_septet) 46, 0 ∷ 45 ∷ (three_clear ++ (t2_septet ++ (0xEE ∷ []))))
    ∷ (normalize three_unused 27, refused 5 27)
    ∷ []

-- a receiver that holds so many bytes, of so many used
abbrev state : ℕ → ℕ → Receiver
state held position = record { held = held; position = position }

-- nothing received: the number, how many bytes were used, and the state
abbrev none_received : ℕ → ℕ → ℕ → ℕ → ℕ → List ℕ
none_received number used held position room = number ∷ 0 ∷ used ∷ (replicate 7 0 ++ (held ∷ position ∷ untouched room))

-- P1 received, with so many bytes used, at a position
abbrev p1_received : ℕ → ℕ → List ℕ
p1_received used position =
    0 ∷ 1 ∷ used ∷ position ∷ 16 ∷ 0x10 ∷ 0x4411 ∷ 0x6610 ∷ 0x0200 ∷ 4 ∷ 0 ∷ (position + 16) ∷ (bytes 4 0x07040F00 ++ untouched 504)

-- a state and the memory, a chunk and a room
abbrev receptions : List Row
receptions =
    (receive (state 0 0) [] p1 508, p1_received 16 0)
    ∷ (receive (state 0 0) [] (take 7 p1) 508, none_received 0 7 7 7 508)
    ∷ (receive (state 7 7) p1 (drop 7 p1 ++ d1) 508, p1_received 9 0)
    ∷ (receive (state 7 40) p1 (drop 7 p1) 508, p1_received 9 33)
    ∷ (receive (state 7 40) p1 (drop 7 p1) 507, none_received 5 0 7 40 507)
    ∷ (receive (state 7 40) p1 [] 508, none_received 0 0 7 40 508)
    ∷ (receive (state 7 40) p1 p1 508, p1_received 16 40)
    ∷ (receive (state 7 40) p1 (0x80 ∷ drop 7 p1) 508, none_received 0 10 0 50 508)
    ∷ (receive (state 15 40) p1 (0x64 ∷ p1) 508, p1_received 17 41)
    ∷ (receive (state 16 40) p1 (0x00 ∷ []) 508, none_received 0 1 0 41 508)
    ∷ (receive (state 3 3) (0x01 ∷ 0x02 ∷ 0x03 ∷ []) (0x04 ∷ []) 508, none_received 0 1 4 4 508)
    ∷ (receive (state 800 800) (p1 ++ replicate 756 0) [] 508, none_received 0 0 0 800 508)
    ∷ (receive (state 9 9) (bytes 9 0xAA114410_66100002_7F) [] 508, none_received 0 0 9 9 508)
    ∷ (receive (state 9 9) (bytes 9 0xAA114410_66100002_80) [] 508, none_received 0 0 0 9 508)
    ∷ (receive (state 5 5) (bytes 5 0xAA102031_77) (0x11 ∷ []) 508, none_received 0 1 0 6 508)
    ∷ (receive (state 7 6) p1 (drop 7 p1) 508, none_received 0 9 0 15 508)
    ∷ (receive (state 7 6) p1 (drop 7 p1) 507, none_received 5 0 7 6 507)
    ∷ (receive (state 0 (2 ^ 64 - 17)) [] (take 15 p1) 508, none_received 0 15 15 (2 ^ 64 - 2) 508)
    ∷ (receive (state 0 (2 ^ 64 - 17)) [] p1 508, p1_received 16 (2 ^ 64 - 17))
    ∷ (receive (state 0 (2 ^ 64 - 17)) [] (p1 ++ (0x00 ∷ [])) 508, none_received 12 0 0 (2 ^ 64 - 17) 508)
    ∷ (receive (state 7 (2 ^ 64 - 10)) p1 (drop 7 p1) 508, p1_received 9 (2 ^ 64 - 17))
    ∷ (receive (state 7 (2 ^ 64 - 9)) p1 (drop 7 p1) 508, none_received 12 0 7 (2 ^ 64 - 9) 508)
    ∷ (receive (state 7 (2 ^ 64 - 9)) p1 (drop 7 p1) 507, none_received 5 0 7 (2 ^ 64 - 9) 507)
    ∷ (receive (state 7 (2 ^ 64 - 1)) p1 [] 508, none_received 0 0 7 (2 ^ 64 - 1) 508)
    ∷ (reset (state 7 40), 0 ∷ 40 ∷ [])
    ∷ (reset (state 800 (2 ^ 64 - 1)), 0 ∷ (2 ^ 64 - 1) ∷ [])
    ∷ []

-- a fault that was found: place, verdict and offset; then the byte there; for a wrong checksum also the byte wanted
abbrev ended_at : ℕ → ℕ → List ℕ
ended_at place offset = 1 ∷ place ∷ 7 ∷ offset ∷ replicate 4 0

abbrev broken_at : ℕ → ℕ → ℕ → ℕ → List ℕ
broken_at place v offset byte = 1 ∷ place ∷ v ∷ offset ∷ 1 ∷ byte ∷ 0 ∷ 0 ∷ []

abbrev wrong_sum : ℕ → ℕ → ℕ → ℕ → ℕ → List ℕ
wrong_sum place v offset byte wanted = 1 ∷ place ∷ v ∷ offset ∷ 1 ∷ byte ∷ 1 ∷ wanted ∷ []

abbrev no_fault : List ℕ
no_fault = replicate 8 0

abbrev faults : List Row
faults =
    (fault (d1 ++ t1 0x77) 0, wrong_sum 16 4 7 0x77 0x76)
    ∷ (fault (0xAA ∷ p1) 0, broken_at 0 2 1 0xAA)
    ∷ (fault (0xAA ∷ p1) 1, no_fault)
    ∷ (fault [] 0, no_fault)
    ∷ (fault (p1_unused ++ (d1_unused ++ t2)) 0, no_fault)
    ∷ (fault (0x2A ∷ 0x00 ∷ []) 0, no_fault)
    ∷ (fault damaged 0, broken_at 19 2 10 0xAA)
    ∷ (fault damaged 19, broken_at 19 2 10 0xAA)
    ∷ (fault damaged 20, no_fault)
    ∷ (fault damaged 47, no_fault)
    ∷ (fault (0xAA ∷ 0x7F ∷ 0x80 ∷ []) 0, broken_at 0 2 2 0x80)
    ∷ (fault (t1 0xF6) 0, broken_at 0 2 7 0xF6)
    ∷ (fault (bytes 8 0xAA102031_77110176) 0, broken_at 0 3 5 0x11)
    ∷ (fault (bytes 10 0xAA114410_66100002_0122) 0, wrong_sum 0 4 9 0x22 0x21)
    ∷ (fault (bytes 16 0xAA200011_19200001_00000000_00000015) 0, wrong_sum 0 4 15 0x15 0x14)
    ∷ (fault (take 15 d1_unused ++ (0x14 ∷ [])) 0, wrong_sum 0 4 15 0x14 0x54)
    ∷ (fault (take 15 p1_unused ++ (0x65 ∷ [])) 0, wrong_sum 0 6 15 0x65 0x55)
    ∷ (fault (take 21 two_frames ++ (0x6D ∷ [])) 0, wrong_sum 0 6 21 0x6D 0x6C)
    ∷ (fault (0x00 ∷ (take 34 three_frames ++ (0x5E ∷ []))) 0, wrong_sum 1 6 34 0x5E 0x5D)
    ∷ (fault (0xAA ∷ []) 0, ended_at 0 1)
    ∷ (fault (0xAA ∷ []) 1, no_fault)
    ∷ (fault (p1 ++ take 9 p1) 0, ended_at 16 9)
    ∷ (fault (take 15 p1) 0, ended_at 0 15)
    ∷ []

abbrev block_sections : List Row
block_sections =
    (sections block_header example, 0 ∷ 4 ∷ [])
    ∷ (elements block_header example 0, 0 ∷ 1 ∷ [])
    ∷ (elements block_header example 1, 0 ∷ 1 ∷ [])
    ∷ (elements block_header example 2, 0 ∷ 16 ∷ [])
    ∷ (elements block_header example 3, 0 ∷ 1 ∷ [])
    ∷ (section block_header example 1, 0 ∷ 12 ∷ 8 ∷ bytes 8 0x010B0000_00000000)
    ∷ (section block_header example 4, 10 ∷ 0 ∷ 0 ∷ [])
    ∷ (elements block_header example 4, 10 ∷ 0 ∷ [])
    ∷ (element block_header example 4 0, 10 ∷ 0 ∷ 0 ∷ [])
    ∷ (sections block_header (bytes 8 0x020B0000_00000000), 9 ∷ 0 ∷ [])
    ∷ (section block_header (bytes 8 0x020B0000_00000000) 0, 9 ∷ 0 ∷ 0 ∷ [])
    ∷ (section block_header (bytes 8 0x020B0000_00000000) 1, 9 ∷ 0 ∷ 0 ∷ [])
    ∷ (sections block_header (bytes 8 0x010B0000_00000000), 0 ∷ 1 ∷ [])
    ∷ (sections block_header (bytes 8 0x000B0000_010B0000), 9 ∷ 0 ∷ [])
    ∷ (sections block_header [], 0 ∷ 0 ∷ [])
    ∷ (sections block_header (bytes 3 0x000B00), 8 ∷ 0 ∷ [])
    ∷ (sections block_header (bytes 6 0x000B0000_000B), 8 ∷ 0 ∷ [])
    ∷ (sections block_header (replicate 508 0), 0 ∷ 127 ∷ [])
    ∷ (sections block_header (replicate 512 0), 8 ∷ 0 ∷ [])
    ∷ (sections (record { version = 0x10; destination = 0x0015; source = 0; command = 0x0100 }) [], 0 ∷ 0 ∷ [])
    ∷ (sections (record { version = 0x20; destination = 0x0015; source = 0; command = 0x0100 }) [], 8 ∷ 0 ∷ [])
    ∷ (sections (record { version = 0x11; destination = 0x0015; source = 0; command = 0x0100 }) [], 8 ∷ 0 ∷ [])
    ∷ (sections (record { version = 0x10; destination = 0x0016; source = 0; command = 0x0100 }) [], 8 ∷ 0 ∷ [])
    ∷ (sections (record { version = 0x10; destination = 0x0115; source = 0; command = 0x0100 }) [], 8 ∷ 0 ∷ [])
    ∷ (sections (record { version = 0x10; destination = 0x0015; source = 0; command = 0x0101 }) [], 8 ∷ 0 ∷ [])
    ∷ (element block_header each_type 0 0, 0 ∷ 4 ∷ 2 ∷ 0xA1 ∷ 0xA2 ∷ [])
    ∷ (element block_header each_type 0 1, 0 ∷ 6 ∷ 2 ∷ 0xA3 ∷ 0xA4 ∷ [])
    ∷ (element block_header each_type 1 0, 0 ∷ 12 ∷ 4 ∷ bytes 4 0xB1B2B3B4)
    ∷ (element block_header each_type 2 3, 0 ∷ 23 ∷ 1 ∷ 0xC4 ∷ [])
    ∷ (element block_header each_type 3 0, 0 ∷ 28 ∷ 8 ∷ bytes 8 0xD1D2D3D4_D5D6D7D8)
    ∷ (element block_header each_type 4 0, 0 ∷ 40 ∷ 4 ∷ bytes 4 0xE1E2E3E4)
    ∷ (element block_header each_type 5 0, 0 ∷ 48 ∷ 4 ∷ bytes 4 0xF1F2F3F4)
    ∷ (element block_header each_type 6 0, 0 ∷ 56 ∷ 4 ∷ bytes 4 0x91929394)
    ∷ (element block_header each_type 6 1, 10 ∷ 0 ∷ 0 ∷ [])
    ∷ (elements block_header (display 0) 0, 0 ∷ 0 ∷ [])
    ∷ (elements block_header (display 1) 0, 13 ∷ 0 ∷ [])
    ∷ (elements block_header (display 2) 0, 0 ∷ 1 ∷ [])
    ∷ (elements block_header (display 3) 0, 13 ∷ 0 ∷ [])
    ∷ (section block_header (display 3) 0, 0 ∷ 0 ∷ 16 ∷ display 3)
    ∷ (element block_header (display 3) 0 0, 13 ∷ 0 ∷ 0 ∷ [])
    ∷ (element block_header (display 3) 0 (2 ^ 64 - 1), 13 ∷ 0 ∷ 0 ∷ [])
    ∷ (element (record { version = 0x10; destination = 0x0015; source = 0; command = 0x0101 }) (display 3) 0 0, 8 ∷ 0 ∷ 0 ∷ [])
    ∷ (element block_header (take 12 (display 3)) 0 0, 9 ∷ 0 ∷ 0 ∷ [])
    ∷ (elements block_header each_type 7, 11 ∷ 0 ∷ [])
    ∷ (element block_header each_type 7 9, 11 ∷ 0 ∷ 0 ∷ [])
    ∷ (temperature (0xF6 ∷ 0xFF ∷ []), 1 ∷ 10 ∷ [])
    ∷ (temperature (0x00 ∷ 0x80 ∷ []), 1 ∷ 32768 ∷ [])
    ∷ (temperature (0xFF ∷ 0x7F ∷ []), 0 ∷ 32767 ∷ [])
    ∷ []

-- V0 to V7, of which V5 is never given
abbrev verdict_numbers : List Row
verdict_numbers =
    (verdict Whole, 0 ∷ [])
    ∷ (verdict NoSync, 1 ∷ [])
    ∷ (verdict HighByte, 2 ∷ [])
    ∷ (verdict UnknownVersion, 3 ∷ [])
    ∷ (verdict HeaderChecksum, 4 ∷ [])
    ∷ (verdict FrameChecksum, 6 ∷ [])
    ∷ (verdict Ended, 7 ∷ [])
    ∷ []

abbrev table : List Row
table = starred ++ (septets ++ (verdicts ++ (records ++ (recordings ++ (receptions ++ (faults ++ (block_sections ++ (slave_ids ++ (slave_tables ++ (two_owners ++ (histories ++ (kept_figures ++ verdict_numbers))))))))))))

samples : map (λ (row : Row). answer row.0) table ≡ map (λ (row : Row). row.1) table
unfolding choose signed checksum_from septet_of low_bits with_top_bits any_high kind_of header_length frame_width frame_count stream_length payload_length_of frame_rule header_rule rule_at breach fault_at block_width unused_frames unused_in count_nonzero unused_septets_of validation_from record_of unframed command_in payload_in framed frames_of kind_bytes stream_as stream_with stream_of unwritable Encodings.refusal deliveries_from Nexts.refusal streams room_refusal beginning extended kept outcome_of held_in Receptions.refusal wanted_at faults_from next_fault cut some_short element_size not_block flatten is_response slave_id_of too_wide write_refusal is_free belongs_to has_address lowest count not_slave is_absent is_full is_taken enter_refusal found_by change_refusal remove_refusal run_from answers_by held_by figures_with enter_refusal_by check_by
samples = refl
