-- `place_of_element` meets its contract: an element whose number is below the count ends within its section. Assumes nothing.
use native.Mathlib.Omega.{arith}
use Rattle.std.proofs.lemmas.Result.{err_from_is_err_and}
use Rattle.sections.specs.Answer.{type_lines}
use Rattle.sections.proofs.Tables.{lookup-refused, lookup-missing}
use Rattle.sections.proofs.Elements.{type-numbered, element-fits, element-here}
use Rattle.sections.proofs.place_of_element.Goals as goal

pub returns-in_err-elements : goal.returns-in_err-elements
returns-in_err-elements c =
    let a = c.args in
    let p = err_from_is_err_and c.from_residual.result c.from_residual.ensures.1 in
    rw (p.1, p.2) (lookup-refused (type_lines a.header a.payload.now a.k) _ _ _ _ _ c.in_err-elements.ensures)

pub returns-then-elements-i : goal.returns-then-elements-i
returns-then-elements-i c =
    let a = c.args in
    lookup-missing (type_lines a.header a.payload.now a.k) _ _ _ _ (type-numbered a.header a.payload.now a.k) _ c.in_ok-elements.ensures.0 (omega arith)

pub overflow_mul-result : goal.overflow_mul-result
overflow_mul-result c =
    let a = c.args in
    let elements = c.in_ok-elements.ensures in
    let room = (element-fits a.header a.payload.now a.k a.i _ elements (omega arith)).within in
    rw elements.2 (omega (arith, room))

pub overflow_add-result : goal.overflow_add-result
overflow_add-result c =
    let a = c.args in
    let elements = c.in_ok-elements.ensures in
    let room = (element-fits a.header a.payload.now a.k a.i _ elements (omega arith)).within in
    rw elements.2 (omega (arith, room, elements.1))

pub returns : goal.returns
returns c = element-here c.args.header c.args.payload.now c.args.k c.args.i _ c.in_ok-elements.ensures (omega arith)
