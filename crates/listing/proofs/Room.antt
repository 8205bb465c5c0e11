-- How long a listing can be: a line has at most 9/4 as many bytes as its record's stream.
use Prim.Native.Nat.{ℕ, ◌+◌, ◌*◌, ◌≤◌}
use native.Mathlib.Omega.{arith}
use mathlib.Core.Path.{◌≡◌, refl, ap}
use mathlib.Core.Bool.{true≢false}
use mathlib.Core.List.{List, []}
use borrow.Author.Tests.{lt-ltb, le-ltb}
use lib.ListN.{length, take, drop, length-append}
use lib.Seq.{take-append_seam}
use Rattle.basics.specs.Choice.{choose}
use Rattle.stream.specs.Layout.{header_length, frame_width, payload_length_of}
use Rattle.stream.specs.Validation.{validation_of}
use Rattle.stream.specs.declared.Kind.{Kind}
use Rattle.stream.specs.declared.Kind.TheVariants.{Packet, Datagram, Telegram, Unknown}
use Rattle.record.specs.Encode.{Writable}
use Rattle.record.specs.Record.{Record, frames_of, frames_in, record_of, stream_as, stream_with, stream_of}
use Rattle.record.proofs.Carried.{Carried, carried-length, kind_in, writable-carried}
use Rattle.record.proofs.WholeAgain.{whole-writable}
use Rattle.recording.specs.Normalize.{streams}
use Rattle.recording.specs.Recording.{deliveries_after, contents_of}
use Rattle.recording.proofs.Deliveries.{after-ind}
use Rattle.recording.proofs.Normalizing.{normalized-shorter}
use Rattle.listing.specs.Line.{hex_command, hex_payload, line_of}
use Rattle.listing.specs.Listing.{lines_of, listing_of, output_of, list_refusal, listed_of, listed_after}
use Rattle.listing.proofs.Lines.{command-byte, length-command, length-hex_payload, length-head, length-line}

-- the lengths of a line's parts and of the stream, by the kind
room_as : (K : Kind) (r : Record) → Carried K r → (n : ℕ) → n ≡ header_length K + (frame_width K + 2) * frames_in K r
    → 4 * (16 + length (hex_command K r.header.command) + length (hex_payload r.payload)) ≤ 9 * n
unfolding header_length frame_width payload_length_of frames_of
room_as Packet r carried n e = omega (arith, carried.sized, length-command Packet r.header.command, length-hex_payload r.payload)
room_as Datagram r carried n e = omega (arith, carried.sized, length-command Datagram r.header.command, length-hex_payload r.payload)
room_as Telegram r carried n e =
    omega
    (arith, carried.sized, ap length (command-byte Telegram r.header.command (lt-ltb r.header.command 256 (omega (arith, carried.command)))), length-hex_payload r.payload)
room_as Unknown r carried n e = absurd (true≢false carried.known)

pub line-room : (r : Record) → Writable r → 4 * length (line_of r) ≤ 9 * length (stream_of r)
unfolding stream_of stream_with
line-room r writable =
    let K = kind_in r in
    let carried = writable-carried r writable in
    omega (arith, room_as K r carried (length (stream_as K [] r)) (carried-length K [] r carried), length-line K r refl, length-head K r.header)

pub listing-room : (s : List ℕ) → 4 * length (listing_of s) ≤ 9 * length s
unfolding lines_of streams
listing-room s =
    let lines =
    after-ind s (λ start ds. 4 * length (lines_of (contents_of ds)) ≤ 9 * length (streams (contents_of ds))) (λ start. omega arith)
    (λ start q after whole rest.
    let r = record_of (drop q s) in
    let more = contents_of (deliveries_after s (q + (validation_of (drop q s)).offset)) in
    omega (arith, rest, line-room r (whole-writable (drop q s) whole), length-append (line_of r) (lines_of more), length-append (stream_of r) (streams more)))
    0 in
    omega (arith, lines, normalized-shorter s)

-- what the program prints: `written_text` of what `list` answers and leaves in an output with room
pub lister-prints : (s out : List ℕ) → 147456 ≤ length out → take (listed_of s (length out)).length (listed_after s out) ≡ output_of s
unfolding list_refusal choose
lister-prints s out room = rw (le-ltb (length out) 147456 room) (take-append_seam (output_of s) (drop (length (output_of s)) out))
