-- `stream::header::packet` meets its contract: the header, and then the frames. Assumes nothing.
use native.Mathlib.Omega.{arith}
use Rattle.std.proofs.lemmas.Result.{err_from_is_err_and}
use Rattle.stream.specs.Layout.{frame_width, frame_count}
use Rattle.stream.specs.declared.Kind.TheVariants.{Packet}
use Rattle.stream.proofs.Headers.{packet-ends, checksum-at, header-within, counted-from}
use Rattle.stream.proofs.Reached.{told-early}
use Rattle.stream.proofs.UnusedSeptets.{packet-counted}
use Rattle.stream.proofs.header.packet.Goals as goal

pub check-requires : goal.check-requires
check-requires c = checksum-at Packet 9 packet-ends _ c.requires (omega arith) (omega arith)

pub returns-in_err-check : goal.returns-in_err-check
returns-in_err-check c =
    let p = err_from_is_err_and c.from_residual.result c.from_residual.ensures.1 in
    rw (p.1, p.2) (told-early _ c.in_err-check.field-0.0 c.in_err-check.ensures (header-within Packet 9 packet-ends _ c.requires))

pub validate-requires : goal.validate-requires
unfolding frame_width frame_count
validate-requires c =
    counted-from Packet 9 packet-ends _ c.requires c.in_ok-check.ensures (omega arith)
    (omega (arith, c.type_inv.input 8)) (packet-counted _ c.requires.is)
