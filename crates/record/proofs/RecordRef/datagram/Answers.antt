-- `RecordRef::datagram` meets its contract: each part that is lent stands behind what is written. Assumes nothing.
use Prim.Native.Nat.{ℕ}
use lib.ListN.{length, length-take, take}
use lib.Seq.{take_all}
use native.Mathlib.Omega.{arith}
use mathlib.Core.Path.{◌≡◌, refl, sym, ap, ◌∙◌}
use mathlib.Core.Bool.{false}
use mathlib.Core.List.{List, [], ◌∷◌, ◌++◌, append-nil}
use Rattle.basics.specs.Bytes.{over}
use Rattle.basics.specs.Words.{word_bytes}
use Rattle.basics.proofs.Over.{lent}
use Rattle.stream.specs.declared.Kind.TheVariants.{Datagram}
use Rattle.stream.specs.Layout.{header_length, frame_width, payload_length_of}
use Rattle.record.specs.Encode.{wrong_length}
use Rattle.record.specs.Record.{Record, address_bytes, with_checksum, with_septet, framed, kind_bytes, frames_of, stream_as}
use Rattle.record.proofs.StreamParts.{summed-behind, length-with_septet}
use Rattle.record.proofs.Lengths.{right-length}
use Rattle.record.proofs.RecordRef.datagram.Goals as goal

six : (now r : Record) → now ≡ r → wrong_length Datagram r.header.command (length r.payload) ≡ false → length now.payload ≡ 6
unfolding payload_length_of frames_of
six now r is sized = ap (λ (r : Record). length r.payload) is ∙ right-length Datagram r.header.command (length r.payload) sized

pub slice_bounds-block-end : goal.slice_bounds-block-end
slice_bounds-block-end c = omega (arith, length-take {A = ℕ}, six _ _ c.self.view_is c.requires.sized)

pub block-requires : goal.block-requires
unfolding header_length frame_width frames_of
block-requires c = omega (arith, length-take {A = ℕ}, six _ _ c.self.view_is c.requires.sized)

pub returns : goal.returns
unfolding stream_as kind_bytes frames_of framed frame_width
returns c =
    let h = c.self.inside.header in
    let payload = c.self.inside.payload.now in
    let out = c.args.out.now in
    let body = address_bytes h ++ (word_bytes h.command ++ with_septet 0 payload) in
    let sized : length payload ≡ 6 = six _ _ c.self.view_is c.requires.sized in
    let all : take 6 payload ≡ payload = take_all 6 payload (omega arith) in
    summed-behind 0xAA body out _ _ 14
    (omega (arith, length-with_septet 0 payload))
    (lent (0xAA ∷ (address_bytes h ++ word_bytes h.command)) (with_septet 0 payload) out _ _ 8 refl
    (lent (0xAA ∷ address_bytes h) (word_bytes h.command) out _ _ 6 refl c.address.ensures c.word.ensures)
    (rw all at c.block.ensures))
    c.sum.ensures
    ∙ ap (λ (l : List ℕ). over (0xAA ∷ l) out) (sym (append-nil (with_checksum body)))
    ∙ ap (λ (r : Record). over (stream_as Datagram [] r) out) c.self.view_is
