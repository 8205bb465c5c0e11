-- `stream::header::datagram` meets its contract: the header is all of it, and has the one septet. Assumes nothing.
use native.Mathlib.Omega.{arith}
use mathlib.Core.Path.{◌∙◌}
use Rattle.std.proofs.lemmas.Result.{err_from_is_err_and}
use Rattle.stream.specs.declared.Kind.TheVariants.{Datagram}
use Rattle.stream.proofs.Headers.{datagram-ends, datagram-whole, header-within, checksum-at}
use Rattle.stream.proofs.Reached.{told-early, told-whole}
use Rattle.stream.proofs.UnusedSeptets.{datagram-counted}
use Rattle.stream.proofs.header.datagram.Goals as goal

pub check-requires : goal.check-requires
check-requires c = checksum-at Datagram 15 datagram-ends _ c.requires (omega arith) (omega arith)

pub returns-in_err-check : goal.returns-in_err-check
returns-in_err-check c =
    let p = err_from_is_err_and c.from_residual.result c.from_residual.ensures.1 in
    rw (p.1, p.2) (told-early _ c.in_err-check.field-0.0 c.in_err-check.ensures (header-within Datagram 15 datagram-ends _ c.requires))

pub returns : goal.returns
returns c =
    told-whole _ _ (datagram-whole _ c.requires c.in_ok-check.ensures) (c.in_septet.ensures ∙ datagram-counted _ c.requires.is)
