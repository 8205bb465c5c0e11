-- `RecordRef::telegram` meets its contract: each part that is lent stands behind what is written. Assumes nothing.
use mathlib.Core.Bool.{false}
use mathlib.Core.List.{[], ◌∷◌, ◌++◌}
use mathlib.Core.Path.{◌≡◌, refl, ap, ◌∙◌}
use lib.ListN.{length, length-set}
use Prim.Native.Nat.{ℕ, ◌*◌}
use native.Mathlib.Omega.{arith}
use Rattle.basics.specs.Bytes.{over}
use Rattle.basics.proofs.Over.{lent}
use Rattle.stream.specs.declared.Kind.TheVariants.{Telegram}
use Rattle.stream.specs.Layout.{header_length, frame_width, payload_length_of, telegram_frames}
use Rattle.record.specs.Encode.{wrong_length}
use Rattle.record.specs.Record.{Record, address_bytes, with_checksum, framed, kind_bytes, frames_of, stream_as}
use Rattle.record.proofs.StreamParts.{stored, summed-behind}
use Rattle.record.proofs.Lengths.{right-length}
use Rattle.record.proofs.RecordRef.telegram.Goals as goal

seven : (r : Record) → wrong_length Telegram r.header.command (length r.payload) ≡ false → length r.payload ≡ 7 * telegram_frames r.header.command
unfolding payload_length_of frames_of
seven r sized = right-length Telegram r.header.command (length r.payload) sized

pub frames-requires : goal.frames-requires
unfolding header_length frame_width frames_of
frames-requires c =
    let sized = ap (λ (r : Record). length r.payload) c.self.view_is in
    let command = ap (λ (r : Record). telegram_frames r.header.command) c.self.view_is in
    rw c.telegram_frames-count.ensures (omega (arith, length-set {A = ℕ}, seven c.args.self.now c.requires.sized))

pub returns : goal.returns
unfolding stream_as kind_bytes frames_of framed header_length frame_width
returns c =
    let h = c.self.inside.header in
    let payload = c.self.inside.payload.now in
    let out = c.args.out.now in
    let body = address_bytes h ++ (h.command ∷ []) in
    lent (0xAA ∷ with_checksum body) (framed 7 (telegram_frames h.command) [] payload) out _ _ 8 refl
    (summed-behind 0xAA body out _ _ 6 refl
    (stored (0xAA ∷ address_bytes h) out _ h.command 6 refl (omega arith) c.address.ensures)
    c.sum.ensures)
    (c.frames.ensures ∙ rw c.telegram_frames-count.ensures)
    ∙ ap (λ (r : Record). over (stream_as Telegram [] r) out) c.self.view_is
