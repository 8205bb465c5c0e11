-- `elements_of_section` meets its contract: the byte behind a section's first is its type. Assumes nothing.
use native.Mathlib.Omega.{arith}
use mathlib.Core.Path.{◌≡◌, ap, ◌∙◌, sym, subst⁻¹}
use Rattle.std.specs.Prelude.{ℕ, ◌+◌, Err, Option}
use Rattle.std.specs.Option.{ok_or}
use Rattle.basics.specs.declared.refusal.Refusal.TheVariants.{UnknownSectionType}
use Rattle.sections.specs.Element.{element_size}
use Rattle.std.proofs.lemmas.Result.{err_from_is_err_and}
use Rattle.sections.specs.Stage.{AreElements}
use Rattle.sections.proofs.Partial.{sized, unsized}
use Rattle.sections.proofs.Elements.{elements-refused, seen, untyped, partial, filled}
use Rattle.sections.proofs.elements_of_section.Goals as goal

pub returns-in_err-section : goal.returns-in_err-section
returns-in_err-section c =
    let a = c.args in
    let p = err_from_is_err_and c.from_residual.result c.from_residual.ensures.1 in
    subst⁻¹ (AreElements a.header a.payload.now a.k) (p.1 ∙ ap Err p.2) (elements-refused _ _ _ _ c.in_err-section.ensures)

pub overflow_add-section : goal.overflow_add-section
overflow_add-section c = omega (arith, (seen c.args.header c.args.payload.now c.args.k _ c.in_ok-section.ensures).room)

pub bounds-payload-section : goal.bounds-payload-section
bounds-payload-section c = omega (arith, (seen c.args.header c.args.payload.now c.args.k _ c.in_ok-section.ensures).room)

pub overflow_sub-bytes : goal.overflow_sub-bytes
overflow_sub-bytes c = omega (arith, (seen c.args.header c.args.payload.now c.args.k _ c.in_ok-section.ensures).whole)

pub overflow_add-result : goal.overflow_add-result
overflow_add-result c = omega (arith, (seen c.args.header c.args.payload.now c.args.k _ c.in_ok-section.ensures).room)

pub returns-in_err-size : goal.returns-in_err-size
returns-in_err-size c =
    let a = c.args in
    let p = err_from_is_err_and c.from_residual-in_err-size.result c.from_residual-in_err-size.ensures.1 in
    let none = c.in_err-size.ensures.ok_part in
    let type = (seen a.header a.payload.now a.k _ c.in_ok-section.ensures).typed in
    let is : c.in_err-size.field-0.0 ≡ UnknownSectionType = cc (c.in_err-size.ensures.value ∙ ap (λ (o : Option ℕ). ok_or o UnknownSectionType) none) in
    subst⁻¹ (AreElements a.header a.payload.now a.k) (p.1 ∙ ap Err (p.2 ∙ is))
    (untyped a.header a.payload.now a.k _ c.in_ok-section.ensures (rw (sym type) (unsized _ (sym c.element_size.ensures ∙ none))))

pub nonzero_rem-bytes : goal.nonzero_rem-bytes
nonzero_rem-bytes c = (sized _ _ (sym c.element_size.ensures ∙ c.in_ok-size.ensures.ok_part)).1

pub nonzero_div-result : goal.nonzero_div-result
nonzero_div-result c = (sized _ _ (sym c.element_size.ensures ∙ c.in_ok-size.ensures.ok_part)).1

pub returns-then-bytes-size-ne0 : goal.returns-then-bytes-size-ne0
returns-then-bytes-size-ne0 c =
    let a = c.args in
    let type = (seen a.header a.payload.now a.k _ c.in_ok-section.ensures).typed in
    let size = sized _ _ (sym c.element_size.ensures ∙ c.in_ok-size.ensures.ok_part) in
    partial a.header a.payload.now a.k _ c.in_ok-section.ensures _ (size.0 ∙ ap element_size type) size.1 c.if-bytes-size-ne0.true

pub returns : goal.returns
returns c =
    let a = c.args in
    let section = seen a.header a.payload.now a.k _ c.in_ok-section.ensures in
    let size = sized _ _ (sym c.element_size.ensures ∙ c.in_ok-size.ensures.ok_part) in
    let is = size.0 ∙ ap element_size section.typed in
    (filled a.header a.payload.now a.k _ c.in_ok-section.ensures _ is size.1 c.if-bytes-size-ne0.false, ap (λ (n : ℕ). n + 4) section.starts, is)
