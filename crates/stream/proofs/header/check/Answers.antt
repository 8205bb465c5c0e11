-- `stream::header::check` meets its contract: each answer is what the header reaches, by its laws. Assumes nothing.
use Rattle.std.proofs.lemmas.Result.{err_from_is_err_and}
use Rattle.stream.proofs.Headers.{header-stops, header-wrong, header-right}
use mathlib.Core.Path.{sym, ◌∙◌}
use Rattle.stream.proofs.header.check.Goals as goal

pub returns-in_err-check : goal.returns-in_err-check
returns-in_err-check c =
    let p = err_from_is_err_and c.from_residual.result c.from_residual.ensures.1 in
    rw (p.1, p.2) (header-stops _ c.args.place c.requires c.in_err-check.ensures)

pub returns-then-checksum-input : goal.returns-then-checksum-input
returns-then-checksum-input c =
    rw (c.at.ensures.verdict, c.at.ensures.offset)
    (header-wrong _ c.args.place c.requires c.in_ok-check.ensures (λ e. c.if-checksum-input.true (c.checksum.ensures ∙ sym e)))

pub returns : goal.returns
returns c =
    header-right _ c.args.place c.requires c.in_ok-check.ensures (sym c.if-checksum-input.false ∙ c.checksum.ensures)
