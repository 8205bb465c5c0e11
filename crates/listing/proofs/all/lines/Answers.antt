-- `all::lines` meets its contract: the lines of the records before `at` are written. Assumes nothing.
use native.Mathlib.Omega.{arith}
use mathlib.Core.Path.{sym}
use lib.Seq.{length-take-le}
use Rattle.std.proofs.lemmas.Bool.{not-false, not-true}
use Rattle.listing.specs.Line.{line_of}
use Rattle.listing.proofs.Following.{record_in, next-record, next-none}
use Rattle.listing.proofs.SoFar.{nothing, everything, fits, one_more-length, one_more}
use Rattle.listing.proofs.all.lines.Goals as goal

pub loop-payload-init : goal.loop-payload-init
loop-payload-init c = (nothing _ _, omega arith, omega arith)

pub slice_bounds-payload-end : goal.slice_bounds-payload-end
slice_bounds-payload-end c =
    let found = next-record c.args.input.now c.loop-payload.at c.loop-payload.invariant.1 c.next-found.result c.next-found.new.out c.next-found.ensures.value c.next-found.ensures.out_after (not-false _ c.if-not-found.false) in
    omega (arith, found.small)

pub slice_bounds-line-end : goal.slice_bounds-line-end
slice_bounds-line-end c =
    let found = next-record c.args.input.now c.loop-payload.at c.loop-payload.invariant.1 c.next-found.result c.next-found.new.out c.next-found.ensures.value c.next-found.ensures.out_after (not-false _ c.if-not-found.false) in
    sym (length-take-le _ _ (omega (arith, found.small)))

pub overflow_add-to : goal.overflow_add-to
overflow_add-to c =
    let loop = c.loop-payload in
    let found = next-record c.args.input.now loop.at loop.invariant.1 c.next-found.result c.next-found.new.out c.next-found.ensures.value c.next-found.ensures.out_after (not-false _ c.if-not-found.false) in
    let text = line_of (record_in c.next-found.result c.next-found.new.out) in
    let size = one_more-length loop.invariant.0 (omega arith) text _ found.rest c.line-written.result c.line-written.new.out c.line-written.ensures.value c.line-written.ensures.out_after in
    omega (arith, size, fits loop.invariant.0 (omega arith) text _ found.rest)

pub overflow_add-at : goal.overflow_add-at
overflow_add-at c =
    let found = next-record c.args.input.now c.loop-payload.at c.loop-payload.invariant.1 c.next-found.result c.next-found.new.out c.next-found.ensures.value c.next-found.ensures.out_after (not-false _ c.if-not-found.false) in
    omega (arith, found.inside)

pub loop-payload-smaller : goal.loop-payload-smaller
loop-payload-smaller c =
    let found = next-record c.args.input.now c.loop-payload.at c.loop-payload.invariant.1 c.next-found.result c.next-found.new.out c.next-found.ensures.value c.next-found.ensures.out_after (not-false _ c.if-not-found.false) in
    omega (arith, found.on, found.inside)

pub loop-payload-preserved : goal.loop-payload-preserved
loop-payload-preserved c =
    let loop = c.loop-payload in
    let found = next-record c.args.input.now loop.at loop.invariant.1 c.next-found.result c.next-found.new.out c.next-found.ensures.value c.next-found.ensures.out_after (not-false _ c.if-not-found.false) in
    let text = line_of (record_in c.next-found.result c.next-found.new.out) in
    let size = one_more-length loop.invariant.0 (omega arith) text _ found.rest c.line-written.result c.line-written.new.out c.line-written.ensures.value c.line-written.ensures.out_after in (
      one_more loop.invariant.0 (omega arith) text _ found.rest c.line-written.result c.line-written.new.out c.line-written.ensures.value c.line-written.ensures.out_after,
      found.inside,
      omega (arith, size, fits loop.invariant.0 (omega arith) text _ found.rest),
    )

pub returns-then-not-found : goal.returns-then-not-found
returns-then-not-found c =
    let end = next-none c.args.input.now c.loop-payload.at c.loop-payload.invariant.1 c.next-found.result c.next-found.new.out c.next-found.ensures.value c.next-found.ensures.out_after (not-true _ c.if-not-found.true) in
    let both = everything (rw end at c.loop-payload.invariant.0) in
    record { value = both.0; out_after = both.1 }
