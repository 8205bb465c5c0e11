-- `chain::header_step` and `chain::payload_step` meet their contracts. Assumes nothing.
use Prim.Native.Nat.{ℕ, ◌+◌, ◌*◌}
use native.Mathlib.Omega.{arith}
use mathlib.Core.Path.{sym, ap, ◌∙◌}
use mathlib.Core.List.{List}
use lib.ListN.{length, get_or}
use borrow.Author.Tests.{lt-ltb, le-ltb, eqb-true, eqb-false}
use Rattle.basics.specs.Choice.{choose}
use Rattle.sections.specs.Stage.{payload_count}
use Rattle.basics.proofs.Over.{part}
use Rattle.sections.proofs.Counting.{chain-end, chain-short, chain-step}
use Rattle.sections.proofs.chain.+header_step_payload_step.Goals as goal

pub header_step-returns-then-is_empty : goal.header_step-returns-then-is_empty
header_step-returns-then-is_empty t c =
    sym (chain-end c.args.rest.now c.args.count (eqb-true (length c.args.rest.now) 0 (sym c.is_empty.ensures ∙ c.if-is_empty.true)))

pub header_step-returns-then-rest-lt4 : goal.header_step-returns-then-rest-lt4
header_step-returns-then-rest-lt4 t c =
    let some = eqb-false (length c.args.rest.now) 0 (sym c.is_empty.ensures ∙ c.if-is_empty.false) in
    sym (chain-short c.args.rest.now c.args.count (omega arith) (omega arith))

pub header_step-returns : goal.header_step-returns
header_step-returns t c =
    let a = c.args in
    let p = a.rest.now in
    c.payload_step.ensures
    ∙ ap (λ (l : List ℕ). payload_count l (4 * get_or p 0 0) (a.count + 1)) (part p 4)
    ∙ sym (chain-step p a.count (omega arith))

pub payload_step-returns-then-rest-size : goal.payload_step-returns-then-rest-size
unfolding choose
payload_step-returns-then-rest-size t c = rw (lt-ltb _ _ c.if-rest-size.true)

pub payload_step-returns : goal.payload_step-returns
unfolding choose
payload_step-returns t c =
    let a = c.args in
    c.header_step.ensures ∙ rw (part a.rest.now a.size, le-ltb (length a.rest.now) a.size (omega arith))
