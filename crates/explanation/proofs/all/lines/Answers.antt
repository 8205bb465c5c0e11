-- `all::lines` meets its contract: the lines of the faults before `place` are written. Assumes nothing.
use native.Mathlib.Omega.{arith}
use Rattle.std.proofs.lemmas.Bool.{not-false, not-true}
use Rattle.listing.proofs.SoFar.{nothing, everything, fits, one_more-length, one_more}
use Rattle.explanation.specs.Line.{line_of}
use Rattle.explanation.proofs.Following.{next-line, no_line}
use Rattle.explanation.proofs.all.lines.Goals as goal

pub loop-fault-init : goal.loop-fault-init
loop-fault-init c = (nothing _ _, omega arith, omega arith)

pub overflow_add-to : goal.overflow_add-to
overflow_add-to c =
    let loop = c.loop-fault in
    let fault = c.read_fault_at-fault.result in
    let found = next-line c.args.input.now loop.place fault c.read_fault_at-fault.ensures (not-false _ c.if-not-fault.false) in
    let size = one_more-length loop.invariant.0 (omega arith) (line_of fault) _ found.rest c.line-written.result c.line-written.new.out c.line-written.ensures.value c.line-written.ensures.out_after in
    omega (arith, size, fits loop.invariant.0 (omega arith) (line_of fault) _ found.rest)

pub overflow_add-place : goal.overflow_add-place
overflow_add-place c =
    let found = next-line c.args.input.now c.loop-fault.place c.read_fault_at-fault.result c.read_fault_at-fault.ensures (not-false _ c.if-not-fault.false) in
    omega (arith, found.inside)

pub loop-fault-smaller : goal.loop-fault-smaller
loop-fault-smaller c =
    let found = next-line c.args.input.now c.loop-fault.place c.read_fault_at-fault.result c.read_fault_at-fault.ensures (not-false _ c.if-not-fault.false) in
    omega (arith, found.after, found.inside)

pub loop-fault-preserved : goal.loop-fault-preserved
loop-fault-preserved c =
    let loop = c.loop-fault in
    let fault = c.read_fault_at-fault.result in
    let found = next-line c.args.input.now loop.place fault c.read_fault_at-fault.ensures (not-false _ c.if-not-fault.false) in
    let text = line_of fault in
    let size = one_more-length loop.invariant.0 (omega arith) text _ found.rest c.line-written.result c.line-written.new.out c.line-written.ensures.value c.line-written.ensures.out_after in (
      one_more loop.invariant.0 (omega arith) text _ found.rest c.line-written.result c.line-written.new.out c.line-written.ensures.value c.line-written.ensures.out_after,
      omega (arith, found.inside),
      omega (arith, size, fits loop.invariant.0 (omega arith) text _ found.rest),
    )

pub returns-then-not-fault : goal.returns-then-not-fault
returns-then-not-fault c =
    let end = no_line c.args.input.now c.loop-fault.place c.read_fault_at-fault.result c.read_fault_at-fault.ensures (not-true _ c.if-not-fault.true) in
    let both = everything (rw end at c.loop-fault.invariant.0) in
    record { value = both.0; out_after = both.1 }
