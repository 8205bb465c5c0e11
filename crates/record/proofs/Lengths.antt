-- Laws of what fits: what the tests say, and how long a stream is.
use Prim.Native.Nat.{ℕ, ◌+◌, ◌*◌, ◌≤◌}
use native.Mathlib.Omega.{arith}
use mathlib.Core.Path.{◌≡◌, sym}
use mathlib.Core.Bool.{false, not, false≢true}
use borrow.Author.Tests.{ltb-false, eqb-true, not-false}
use mathlib.Core.List.{List}
use lib.Dec.{ltb, eqb}
use lib.ListN.{length, length-append}
use Rattle.basics.proofs.Choice.{neither}
use Rattle.septet.proofs.Laws.{length-low_bits}
use Rattle.stream.specs.declared.Kind.{Kind}
use Rattle.stream.specs.declared.Kind.TheVariants.{Packet, Datagram, Telegram, Unknown}
use Rattle.stream.specs.Layout.{header_length, frame_width, payload_length_of}
use Rattle.record.specs.Record.{Record, framed, kind_bytes, frames_of, frames_in, stream_as}
use Rattle.record.specs.Encode.{is_unknown, wrong_length}
use Rattle.record.proofs.StreamParts.{framed-length}

-- a payload's length that isn't wrong
pub few-frames : (K : Kind) (command n : ℕ) → wrong_length K command n ≡ false → frames_of K command n ≤ 127
few-frames K command n h =
    ltb-false 127 (frames_of K command n) (neither (ltb 127 (frames_of K command n)) (not (eqb n (payload_length_of K (frames_of K command n)))) h).0

pub right-length : (K : Kind) (command n : ℕ) → wrong_length K command n ≡ false → n ≡ payload_length_of K (frames_of K command n)
right-length K command n h =
    let right = (neither (ltb 127 (frames_of K command n)) (not (eqb n (payload_length_of K (frames_of K command n)))) h).1 in
    eqb-true n (payload_length_of K (frames_of K command n)) (not-false _ right)

-- the length of a record's stream, by its kind and its frames
abbrev pub length_written : Kind → Record → ℕ
length_written K r = header_length K + (frame_width K + 2) * frames_in K r

-- a stream is as long as its kind and its frames say
pub length-stream : (K : Kind) (unused : List ℕ) (r : Record) → is_unknown K ≡ false → wrong_length K r.header.command (length r.payload) ≡ false
    → length (stream_as K unused r) ≡ length_written K r
unfolding stream_as kind_bytes frames_of framed frame_width header_length payload_length_of
length-stream Packet unused r known h = omega (arith, framed-length 4 (frames_in Packet r) unused r.payload (omega arith))
length-stream Datagram unused r known h = simp (length-append, length-low_bits) (omega (arith, right-length Datagram r.header.command (length r.payload) h))
length-stream Telegram unused r known h =
    omega (arith, framed-length 7 (frames_in Telegram r) unused r.payload (omega (arith, right-length Telegram r.header.command (length r.payload) h)))
length-stream Unknown unused r known h = absurd (false≢true (sym known))
