-- `place_of_section` meets its contract: what is left from section k on says where it starts and how long it is. Assumes nothing.
use native.Mathlib.Omega.{arith}
use mathlib.Core.Path.{ap}
use lib.ListN.{length}
use Rattle.std.proofs.lemmas.Result.{err_from_is_err_and}
use Rattle.sections.specs.Answer.{block_lines}
use Rattle.sections.proofs.Tables.{lookup-refused, lookup-missing}
use Rattle.sections.proofs.Sections.{from-few, within-at}
use Rattle.sections.proofs.Finding.{block-numbered, find-present, find-here}
use Rattle.sections.proofs.place_of_section.Goals as goal

pub returns-in_err-count : goal.returns-in_err-count
returns-in_err-count c =
    let p = err_from_is_err_and c.from_residual.result c.from_residual.ensures.1 in
    rw (p.1, p.2) (lookup-refused (block_lines c.args.header c.args.payload.now) _ _ _ _ _ c.in_err-count.ensures)

pub returns-then-count-k : goal.returns-then-count-k
returns-then-count-k c =
    let a = c.args in
    lookup-missing (block_lines a.header a.payload.now) _ _ _ _ (block-numbered a.header a.payload.now) _ c.in_ok-count.ensures c.if-count-k.true

pub from_section-rest-requires : goal.from_section-rest-requires
from_section-rest-requires c =
    let is = find-present c.args.header c.args.payload.now c.args.k _ c.in_ok-count.ensures (omega arith) in
    record { k_bound = is.near; k_in_bounds = (is.here, is.whole) }

pub overflow_sub-result : goal.overflow_sub-result
overflow_sub-result c =
    let a = c.args in
    let is = find-present a.header a.payload.now a.k _ c.in_ok-count.ensures (omega arith) in
    omega (arith, from-few a.payload.now a.k is.here is.whole, ap length c.from_section-rest.ensures)

pub bounds-rest-0 : goal.bounds-rest-0
bounds-rest-0 c =
    let a = c.args in
    let is = find-present a.header a.payload.now a.k _ c.in_ok-count.ensures (omega arith) in
    omega (arith, within-at a.payload.now a.k is.here is.whole, ap length c.from_section-rest.ensures)

pub returns : goal.returns
returns c =
    rw (c.section_length.ensures, c.from_section-rest.ensures) (find-here c.args.header c.args.payload.now c.args.k _ c.in_ok-count.ensures (omega arith))
