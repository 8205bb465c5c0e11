-- `recording::rewrite::measure` meets its contract: what is counted and what remains make up the whole. Assumes nothing.
use native.Mathlib.Omega.{arith}
use mathlib.Core.Path.{ap, refl}
use lib.ListN.{length}
use Rattle.recording.proofs.Normalizing.{normalized-shorter}
use Rattle.recording.proofs.Rewriting.{remaining-none, found-counts}
use Rattle.recording.proofs.Searching.{search-found, search-none}
use Rattle.recording.proofs.rewrite.measure.Goals as goal

pub overflow_add-total : goal.overflow_add-total
overflow_add-total c =
    let s = c.args.input.now in
    let loop = c.loop-span in
    let found = search-found s loop.at c.in-Some.span _ c.in-Some.ensures refl in
    omega (arith, found-counts s loop.at _ found, normalized-shorter s)

pub overflow_add-at : goal.overflow_add-at
overflow_add-at c =
    let s = c.args.input.now in
    let loop = c.loop-span in
    let found = search-found s loop.at c.in-Some.span _ c.in-Some.ensures refl in
    omega (arith, found.inside)

pub loop-span-smaller : goal.loop-span-smaller
loop-span-smaller c =
    let s = c.args.input.now in
    let loop = c.loop-span in
    let found = search-found s loop.at c.in-Some.span _ c.in-Some.ensures refl in
    omega (arith, found.after, found.long, found.inside)

pub loop-span-preserved : goal.loop-span-preserved
loop-span-preserved c =
    let s = c.args.input.now in
    let loop = c.loop-span in
    let found = search-found s loop.at c.in-Some.span _ c.in-Some.ensures refl in
    (omega (arith, found-counts s loop.at _ found), found.inside)

pub returns : goal.returns
returns c =
    let s = c.args.input.now in
    let loop = c.loop-span in
    omega (arith, ap length (remaining-none s loop.at (search-none s loop.at _ c.in_default.ensures refl)))
