-- `recording::read::payload` meets its contract, kind by kind. Assumes nothing.
use native.Mathlib.Omega.{arith}
use mathlib.Core.Path.{refl, sym, ap, ◌∙◌}
use lib.Seq.{get_or-drop}
use Rattle.basics.specs.Bytes.{over}
use Rattle.basics.proofs.Over.{part}
use Rattle.stream.specs.Layout.{header_length, frame_width, payload_length_of}
use Rattle.stream.specs.declared.Kind.{Kind}
use Rattle.record.specs.Record.{payload_in}
use Rattle.recording.proofs.Reading.{held-as, held-there, length_part, frames-ready}
use Rattle.recording.proofs.read.payload.Goals as goal

pub slice_bounds-frames-count : goal.slice_bounds-frames-count
unfolding header_length frame_width
slice_bounds-frames-count c = omega (arith, held-there (held-as c.in-Packet.is c.requires))

pub slice_bounds-frames-start : goal.slice_bounds-frames-start
unfolding header_length frame_width
slice_bounds-frames-start c = omega (arith, held-there (held-as c.in-Packet.is c.requires))

pub frames-requires : goal.frames-requires
unfolding header_length frame_width payload_length_of
frames-requires c = frames-ready (omega arith) refl (held-as c.in-Packet.is c.requires)

pub slice_bounds-frame-count : goal.slice_bounds-frame-count
unfolding header_length frame_width
slice_bounds-frame-count c = omega (arith, held-there (held-as c.in-Datagram.is c.requires))

pub slice_bounds-frame-start : goal.slice_bounds-frame-start
unfolding header_length frame_width
slice_bounds-frame-start c = omega (arith, held-there (held-as c.in-Datagram.is c.requires))

pub frame-requires : goal.frame-requires
unfolding header_length frame_width payload_length_of
frame-requires c =
    let held = held-as c.in-Datagram.is c.requires in
    let s = c.args.stream.now in
    (omega (arith, held-there held, length_part s 8), omega (arith, held.fits))

pub slice_bounds-frames-count-in-Telegram : goal.slice_bounds-frames-count-in-Telegram
unfolding header_length frame_width
slice_bounds-frames-count-in-Telegram c = omega (arith, held-there (held-as c.in-Telegram.is c.requires))

pub slice_bounds-frames-start-in-Telegram : goal.slice_bounds-frames-start-in-Telegram
unfolding header_length frame_width
slice_bounds-frames-start-in-Telegram c = omega (arith, held-there (held-as c.in-Telegram.is c.requires))

pub frames-requires-in-Telegram : goal.frames-requires-in-Telegram
unfolding header_length frame_width payload_length_of
frames-requires-in-Telegram c = frames-ready (omega arith) refl (held-as c.in-Telegram.is c.requires)

pub returns-in-Packet : goal.returns-in-Packet
unfolding payload_in
returns-in-Packet c =
    let args = c.args in
    let e = c.in-Packet.is in
    let held = held-as e c.requires in
    c.frames.ensures ∙ rw (part, held.counted) (ap (λ (K : Kind). over (payload_in K args.stream.now) args.out.now) (sym e))

pub returns-in-Datagram : goal.returns-in-Datagram
unfolding payload_in
returns-in-Datagram c =
    let args = c.args in
    let e = c.in-Datagram.is in
    let held = held-as e c.requires in
    c.frame.ensures ∙ rw (part, get_or-drop 8 args.stream.now 6 0) (ap (λ (K : Kind). over (payload_in K args.stream.now) args.out.now) (sym e))

pub returns-in-Telegram : goal.returns-in-Telegram
unfolding payload_in
returns-in-Telegram c =
    let args = c.args in
    let e = c.in-Telegram.is in
    let held = held-as e c.requires in
    c.frames-in-Telegram.ensures ∙ rw (part, held.counted) (ap (λ (K : Kind). over (payload_in K args.stream.now) args.out.now) (sym e))

pub returns-in-Unknown : goal.returns-in-Unknown
unfolding payload_in
returns-in-Unknown c = rw c.in-Unknown.is refl
