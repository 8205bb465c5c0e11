-- `clear::stream` meets its contract: by the kind, the frames, the one septet, or nothing. Assumes nothing.
use native.Mathlib.Omega.{arith}
use mathlib.Core.Logic.{inl, inr}
use mathlib.Core.Path.{sym, ◌∙◌}
use lib.ListN.{length-drop}
use Rattle.basics.proofs.Over.{part}
use Rattle.recording.proofs.Deliveries.{whole_long}
use Rattle.recording.proofs.Clearing.{packet-held, packet-frames, packet-cleared, datagram-held, datagram-cleared, telegram-cleared, unknown-not}
use Rattle.recording.proofs.clear.stream.Goals as goal

pub bounds-stream-5 : goal.bounds-stream-5
bounds-stream-5 c = omega (arith, whole_long _ c.requires)

pub bounds-stream-8 : goal.bounds-stream-8
bounds-stream-8 c = omega (arith, packet-held _ c.requires (sym c.in-Packet.ensures))

pub slice_bounds-frames-count : goal.slice_bounds-frames-count
slice_bounds-frames-count c = omega (arith, packet-held _ c.requires (sym c.in-Packet.ensures))

pub slice_bounds-frames-start : goal.slice_bounds-frames-start
slice_bounds-frames-start c = omega (arith, packet-held _ c.requires (sym c.in-Packet.ensures))

pub frames-requires : goal.frames-requires
frames-requires c = rw part (packet-frames _ c.requires (sym c.in-Packet.ensures))

pub slice_bounds-septet-count : goal.slice_bounds-septet-count
slice_bounds-septet-count c = omega (arith, datagram-held _ c.requires (sym c.in-Datagram.ensures))

pub slice_bounds-septet-start : goal.slice_bounds-septet-start
slice_bounds-septet-start c = omega (arith, datagram-held _ c.requires (sym c.in-Datagram.ensures))

pub septet-requires : goal.septet-requires
septet-requires c = (omega arith, rw (part, length-drop) (omega (arith, datagram-held _ c.requires (sym c.in-Datagram.ensures))))

pub returns-in-Packet : goal.returns-in-Packet
returns-in-Packet c = packet-cleared _ c.requires (sym c.in-Packet.ensures) _ c.frames.ensures

pub returns-in-Datagram : goal.returns-in-Datagram
returns-in-Datagram c = datagram-cleared _ c.requires (sym c.in-Datagram.ensures) _ c.septet.ensures

pub returns-in-Telegram : goal.returns-in-Telegram
returns-in-Telegram c =
    elim c.in-Telegram.is [
      | inl telegram ↦ telegram-cleared _ c.requires (sym c.kind_of.ensures ∙ telegram)
      | inr unknown ↦ absurd (unknown-not _ c.requires (sym c.kind_of.ensures ∙ unknown))
    ]
