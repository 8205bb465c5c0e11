-- What is said of a stretch of bytes (document 01: judging), by its table of verdicts.
use Rattle.std.specs.Prelude.{ℕ, suc, ◌+◌, ◌-◌, ◌%◌, Bool, List, [], ◌∷◌, ltb, leb, eqb, get_or, take, drop, Result, Ok, Err}
use Rattle.basics.specs.Choice.{choose}
use Rattle.checksum.specs.Checksum.{checksum_of}
use Rattle.stream.specs.Layout.{kind, header_length, frame_width, stream_length}
use Rattle.stream.specs.Unused.{unused_septets_of}
use Rattle.stream.specs.declared.Kind.{Kind}
use Rattle.stream.specs.declared.Kind.TheVariants.{Packet, Datagram, Telegram, Unknown}
use Rattle.stream.specs.declared.Validation.{Validation}
use Rattle.stream.specs.declared.Verdict.{Verdict}
use Rattle.stream.specs.declared.WholeStream.{WholeStream}
use Rattle.stream.specs.declared.stop.Stop.{Stop}
use Rattle.stream.specs.declared.Verdict.TheVariants.{Whole, NoSync, HighByte, UnknownVersion, HeaderChecksum, FrameChecksum, Ended}

-- the paper's numbers, V0 to V7; by request No. 3 V5 is never given
abbrev pub number : Verdict → ℕ
number Whole = 0
number NoSync = 1
number HighByte = 2
number UnknownVersion = 3
number HeaderChecksum = 4
number FrameChecksum = 6
number Ended = 7

-- what a byte must be by its place: any byte; the version of no kind, never right; the checksum of offsets 1 to n;
-- the checksum of a frame's payload bytes and septet
pub data Rule : Type 0 where
  any unknown : Rule
  header_sum : ℕ → Rule
  frame_sum : ℕ → Rule

-- place i of a frame of the given width
unfoldable pub frame_rule : ℕ → ℕ → Rule
frame_rule width i = choose (eqb i (width + 1)) (frame_sum width) any

-- offset k of the header
unfoldable pub header_rule : Kind → ℕ → Rule
header_rule Packet k = choose (eqb k 9) (header_sum 8) any
header_rule Datagram k = choose (eqb k 15) (header_sum 14) any
header_rule Telegram k = choose (eqb k 7) (header_sum 6) any
header_rule Unknown k = choose (eqb k 5) unknown any

-- offset k of the stream: the header, and then the frames
unfoldable pub rule_at : Kind → ℕ → Rule
rule_at kind k =
    choose (ltb k (header_length kind)) (header_rule kind k)
    (frame_rule (frame_width kind) ((k - header_length kind) % (frame_width kind + 2)))

-- the checksum that a rule asks for at offset k, or 0; request No. 3: "Checksums still cover the bytes as they came"
abbrev pub sum_at : Rule → List ℕ → ℕ → ℕ
sum_at any s k = 0
sum_at unknown s k = 0
sum_at (header_sum n) s k = checksum_of (take n (drop 1 s))
sum_at (frame_sum width) s k = checksum_of (take (width + 1) (drop (k - (width + 1)) s))

-- the verdict's number where the byte at offset k breaks a rule, else 0: V3, V4 and V6
unfoldable pub breach : Rule → List ℕ → ℕ → ℕ
breach any s k = 0
breach unknown s k = 3
breach (header_sum n) s k = choose (eqb (get_or s k 0) (sum_at (header_sum n) s k)) 0 4
breach (frame_sum width) s k = choose (eqb (get_or s k 0) (sum_at (frame_sum width) s k)) 0 6

-- the fault at offset k, or 0; at one offset the upper line of the table wins
unfoldable pub fault_at : List ℕ → ℕ → ℕ
fault_at s k =
    choose (eqb k 0) (choose (eqb (get_or s 0 0) 0xAA) 0 1)
    (choose (leb 0x80 (get_or s k 0)) 2 (breach (rule_at (kind s) k) s k))

-- verdict v at offset k; request No. 3: "tells how many of a V0 stream's blocks had them, else 0"
abbrev pub verdict_at : List ℕ → ℕ → ℕ → Validation
verdict_at s v k = record { verdict = v; offset = k; unused_septets = choose (eqb v 0) (unused_septets_of s) 0 }

-- faults are sought by rising offset, here from k on, where rest is what s has from there: V0 where the stream's length is reached,
-- the first fault, or V7 where the input ends first
unfoldable pub validation_from : List ℕ → ℕ → List ℕ → Validation
validation_from s k [] = verdict_at s (choose (eqb k (stream_length s)) 0 7) k
validation_from s k (byte ∷ rest) =
    choose (eqb k (stream_length s)) (verdict_at s 0 k)
    (choose (eqb (fault_at s k) 0) (validation_from s (suc k) rest) (verdict_at s (fault_at s k) k))

-- what is said of a stretch, from its first byte on
abbrev pub validation_of : List ℕ → Validation
validation_of s = validation_from s 0 s

-- what an answer between crates says: V0 with the count, or another verdict without one
abbrev pub said_by : Result WholeStream Stop → Validation
said_by (Ok stream) = record { verdict = number Whole; offset = stream.length; unused_septets = stream.unused_septets }
said_by (Err stop) = record { verdict = number stop.verdict; offset = stop.offset; unused_septets = 0 }

-- the stretch is V0: it begins with one whole valid stream
abbrev pub is_whole : List ℕ → Bool
is_whole s = eqb (validation_of s).verdict 0
