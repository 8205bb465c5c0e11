-- `stream::first_fault` meets its contract: each answer is what the stretch reaches, which is the definition's. Assumes nothing.
use native.Mathlib.Omega.{arith}
use Prim.Native.Nat.{◌<◌}
use borrow.Author.Tests.{eqb-true}
use lib.ListN.{length}
use mathlib.Core.Path.{◌≡◌, sym, ◌∙◌}
use Rattle.std.specs.Prelude.{Err}
use Rattle.std.proofs.lemmas.Result.{err_from_is_err_and}
use Rattle.stream.specs.Validation.{said_by, validation_of}
use Rattle.stream.proofs.Headers.{nothing, no-sync, address-stops, address-clean}
use Rattle.stream.proofs.Reached.{told-fault, told-early, told-broken, told-ok}
use Rattle.stream.proofs.first_fault.Goals as goal

pub returns-then-is_empty : goal.returns-then-is_empty
returns-then-is_empty c =
    let said = told-fault _ (nothing c.args.input.now (eqb-true _ _ (sym c.is_empty.ensures ∙ c.if-is_empty.true))) (λ e. omega arith) in
    rw (c.at.ensures.verdict, c.at.ensures.offset) (record { value = said; whole = told-broken _ said (λ e. omega arith) })

pub returns-then-input : goal.returns-then-input
returns-then-input c =
    let some : 0 < length c.args.input.now = grind arith in
    let said = told-fault _ (no-sync c.args.input.now c.if-input.true some) (λ e. omega arith) in
    rw (c.at-then-input.ensures.verdict, c.at-then-input.ensures.offset) (record { value = said; whole = told-broken _ said (λ e. omega arith) })

pub returns-in_err-check : goal.returns-in_err-check
returns-in_err-check c =
    let stop = c.in_err-check.field-0.0 in
    let p = err_from_is_err_and c.from_residual.result c.from_residual.ensures.1 in
    let said : said_by (Err stop) ≡ validation_of c.args.input.now = told-early c.args.input.now stop (address-stops _ c.if-input.false c.in_err-check.ensures) (omega arith) in
    rw (p.1, p.2) (record { value = said; whole = told-ok _ (Err stop) said })

pub validate-requires : goal.validate-requires
validate-requires c = address-clean _ c.if-input.false c.in_ok-check.ensures

pub returns : goal.returns
returns c = record { value = c.validate.ensures; whole = told-ok _ c.validate.result c.validate.ensures }
