-- `RecordRef::packet` meets its contract: each part that is lent stands behind what is written. Assumes nothing.
use mathlib.Core.Path.{refl, ap, ◌∙◌}
use mathlib.Core.List.{[], ◌∷◌, ◌++◌}
use Prim.Native.Nat.{◌/◌}
use native.Mathlib.Omega.{arith}
use lib.ListN.{length}
use Rattle.basics.specs.Bytes.{over}
use Rattle.basics.specs.Words.{word_bytes}
use Rattle.basics.proofs.Over.{lent}
use Rattle.stream.specs.declared.Kind.TheVariants.{Packet}
use Rattle.stream.specs.Layout.{header_length, frame_width}
use Rattle.record.specs.Record.{Record, address_bytes, with_checksum, framed, kind_bytes, frames_of, stream_as}
use Rattle.record.proofs.StreamParts.{stored, summed-behind}
use Rattle.record.proofs.RecordRef.packet.Goals as goal

pub returns : goal.returns
unfolding stream_as kind_bytes frames_of framed header_length frame_width
returns c =
    let h = c.self.inside.header in
    let payload = c.self.inside.payload.now in
    let out = c.args.out.now in
    let count = length payload / 4 in
    let body = address_bytes h ++ (word_bytes h.command ++ (count ∷ [])) in
    lent (0xAA ∷ with_checksum body) (framed 4 count [] payload) out _ _ 10 refl
    (summed-behind 0xAA body out _ _ 8 refl
    (stored (0xAA ∷ (address_bytes h ++ word_bytes h.command)) out _ count 8 refl (omega arith)
    (lent (0xAA ∷ address_bytes h) (word_bytes h.command) out _ _ 6 refl c.address.ensures c.word.ensures))
    c.sum.ensures)
    c.frames.ensures
    ∙ ap (λ (r : Record). over (stream_as Packet [] r) out) c.self.view_is
