-- The request's lines and some of every other verdict, computed: they tie the definitions to the paper, since every law holds as well of other
-- letters.
use Prim.Native.Nat.{ℕ}
use mathlib.Core.Path.{◌≡◌, refl}
use mathlib.Core.Bool.{Bool, true, false}
use mathlib.Core.List.{List, [], ◌∷◌, ◌++◌}
use lib.ListN.{length, replicate}
use Rattle.basics.specs.Choice.{choose}
use Rattle.basics.specs.Output.{room_refusal}
use Rattle.checksum.specs.Checksum.{checksum_from}
use Rattle.stream.specs.Layout.{kind_of, header_length, frame_width, frame_count, stream_length}
use Rattle.stream.specs.Validation.{frame_rule, header_rule, rule_at, breach, fault_at, validation_from}
use Rattle.text.specs.Ascii.{ascii}
use Rattle.text.specs.Decimal.{digits_within, decimal}
use Rattle.diagnosis.specs.Fault.{wanted_at, faults_from}
use Rattle.diagnosis.specs.declared.Fault.{Fault}
use Rattle.listing.proofs.Samples.{one_more}
use Rattle.explanation.specs.Line.{numbers_text, byte_text, is_cut_off, remark_text, rest_text, line_of, line_written, line_after}
use Rattle.explanation.specs.Explanation.{lines_of, explanation_of, output_of, explain_refusal, explained_of}

-- ── recordings

-- AA 11 44 10 66 10 00 02 01 21 07 04 0F 00 00, and the last byte, which is 65
p1 : ℕ → List ℕ
p1 last = 0xAA ∷ 0x11 ∷ 0x44 ∷ 0x10 ∷ 0x66 ∷ 0x10 ∷ 0x00 ∷ 0x02 ∷ 0x01 ∷ 0x21 ∷ 0x07 ∷ 0x04 ∷ 0x0F ∷ 0x00 ∷ 0x00 ∷ last ∷ []

-- AA 20 00 11 19 20 00 01 00 00 00 00 00 00 00 14
d1 : List ℕ
d1 = 0xAA ∷ 0x20 ∷ 0x00 ∷ 0x11 ∷ 0x19 ∷ 0x20 ∷ 0x00 ∷ 0x01 ∷ 0x00 ∷ 0x00 ∷ 0x00 ∷ 0x00 ∷ 0x00 ∷ 0x00 ∷ 0x00 ∷ 0x14 ∷ []

-- AA 10 20 31 77 30 01, and the last byte, which is 76
t1 : ℕ → List ℕ
t1 last = 0xAA ∷ 0x10 ∷ 0x20 ∷ 0x31 ∷ 0x77 ∷ 0x30 ∷ 0x01 ∷ last ∷ []

-- "D1 followed by T1 with last byte 77 gives the one line"
wanted : output_of (d1 ++ t1 0x77) ≡ ascii "16 V4 7 77 76\n"
unfolding p1 d1 t1 lines_of line_of rest_text numbers_text byte_text remark_text decimal digits_within faults_from wanted_at validation_from stream_length kind_of choose header_length frame_width frame_count fault_at breach rule_at header_rule frame_rule checksum_from
wanted = refl

-- "AA followed by P1 gives"
cut_off : output_of (0xAA ∷ p1 0x65) ≡ ascii "0 V2 1 AA cut off by a new stream\n"
unfolding p1 d1 t1 lines_of line_of rest_text numbers_text byte_text remark_text decimal digits_within faults_from wanted_at validation_from stream_length kind_of choose header_length frame_width frame_count fault_at breach rule_at header_rule frame_rule checksum_from
cut_off = refl

-- a wrong frame checksum, no known version, another high byte, and the end, one behind the other
others : output_of (p1 0x66 ++ (0xAA ∷ 0x00 ∷ 0x00 ∷ 0x00 ∷ 0x00 ∷ 0x40 ∷ 0xAA ∷ 0x00 ∷ 0x80 ∷ 0xAA ∷ 0x00 ∷ []))
    ≡ ascii "0 V6 15 66 65\n" ++ (ascii "16 V3 5 40\n" ++ (ascii "22 V2 2 80\n" ++ ascii "25 V7 2\n"))
unfolding p1 d1 t1 lines_of line_of rest_text numbers_text byte_text remark_text decimal digits_within faults_from wanted_at validation_from stream_length kind_of choose header_length frame_width frame_count fault_at breach rule_at header_rule frame_rule checksum_from
others = refl

-- no line at all where each 0xAA gave a record, and where there is none
clean : output_of (d1 ++ (p1 0x65 ++ t1 0x76)) ≡ []
unfolding p1 d1 t1 lines_of line_of rest_text numbers_text byte_text remark_text decimal digits_within faults_from wanted_at validation_from stream_length kind_of choose header_length frame_width frame_count fault_at breach rule_at header_rule frame_rule checksum_from
clean = refl

empty : output_of [] ≡ []
unfolding lines_of faults_from choose
empty = refl

-- one byte more than the lister's 65,536 is too long here too
too_long : (s : List ℕ) → length s ≡ 65537 → output_of s ≡ ascii "too long\n"
too_long s sized = one_more s (explanation_of s) sized

-- an output of 2,621,440 bytes has room for all, and a shorter one is refused
room-enough : (s : List ℕ) → explained_of s 2621440 ≡ record { number = 0; length = length (output_of s) }
unfolding choose explain_refusal
room-enough s = refl

room-less : (s : List ℕ) → explained_of s 2621439 ≡ record { number = 5; length = 0 }
unfolding choose explain_refusal
room-less s = refl

-- ── lines

fault : ℕ → ℕ → ℕ → Bool → ℕ → Bool → ℕ → Fault
fault place verdict offset has byte wants wanted =
    record {
      found = true;
      place = place;
      verdict = verdict;
      offset = offset;
      has_byte = has;
      byte = byte;
      has_wanted = wants;
      wanted = wanted;
    }

-- the last place, and the largest offset
last-place : line_of (fault 65535 6 771 true 0x0F true 0x70) ≡ ascii "65535 V6 771 0F 70\n"
unfolding fault line_of rest_text numbers_text byte_text remark_text decimal digits_within choose
last-place = refl

-- only V2 is cut off, and only by another 0xAA
other-high : is_cut_off (fault 0 2 1 true 0xAB false 0) ≡ false
unfolding fault
other-high = refl

other-verdict : is_cut_off (fault 0 3 5 true 0xAA false 0) ≡ false
unfolding fault
other-verdict = refl

-- what no call gives has a line too
odd : line_of (fault 0 10 0 false 0xAA true 0xAA) ≡ ascii "0 V10 0 AA\n"
unfolding fault line_of rest_text numbers_text byte_text remark_text decimal digits_within choose
odd = refl

-- the room that a line of seven bytes needs
shortest : Fault
shortest = fault 0 7 1 false 0 false 0

room-7 : line_written shortest 7 ≡ record { number = 0; length = 7 }
unfolding shortest fault room_refusal line_of rest_text numbers_text byte_text remark_text decimal digits_within choose
room-7 = refl

room-6 : line_written shortest 6 ≡ record { number = 5; length = 0 }
unfolding shortest fault room_refusal line_of rest_text numbers_text byte_text remark_text decimal digits_within choose
room-6 = refl

output-9 : line_after shortest (replicate 9 0xEE) ≡ ascii "0 V7 1\n" ++ (0xEE ∷ 0xEE ∷ [])
unfolding shortest fault room_refusal line_of rest_text numbers_text byte_text remark_text decimal digits_within choose
output-9 = refl

output-6 : line_after shortest (replicate 6 0xEE) ≡ replicate 6 0xEE
unfolding shortest fault room_refusal line_of rest_text numbers_text byte_text remark_text decimal digits_within choose
output-6 = refl
