-- `recording::rewrite::all` meets its contract: the output begins with what is written, and what remains makes up the rest. Assumes nothing.
use Prim.Native.Nat.{ℕ}
use native.Mathlib.Omega.{arith}
use mathlib.Core.Path.{◌≡◌, refl, sym, ap, ◌∙◌}
use mathlib.Core.List.{List, ◌++◌, append-nil}
use lib.ListN.{length, drop, length-append, length-drop}
use Rattle.basics.specs.Bytes.{over}
use Rattle.basics.proofs.Over.{part, lent}
use Rattle.record.specs.Record.{record_of, stream_of}
use Rattle.recording.specs.Normalize.{normalized}
use Rattle.recording.proofs.Rewriting.{remaining-none, found-length, found-fits, found-next, stretch-record, stretch-one}
use Rattle.recording.proofs.Searching.{search-found, search-none}
use Rattle.recording.proofs.rewrite.all.Goals as goal

pub overflow_add-at : goal.overflow_add-at
overflow_add-at c =
    let s = c.args.input.now in
    let loop = c.loop-span in
    let found = search-found s loop.at c.in-Some.span _ c.in-Some.ensures refl in
    omega (arith, found.inside)

pub slice_bounds-one-end : goal.slice_bounds-one-end
slice_bounds-one-end c =
    let s = c.args.input.now in
    let loop = c.loop-span in
    let found = search-found s loop.at c.in-Some.span _ c.in-Some.ensures refl in
    omega (arith, found.inside)

pub one-requires : goal.one-requires
one-requires c =
    let s = c.args.input.now in
    let loop = c.loop-span in
    let found = search-found s loop.at c.in-Some.span _ c.in-Some.ensures refl in
    stretch-one s loop.at _ found _ (rw (part, length-drop) (omega (arith, found-fits s loop.at _ found loop.invariant.0 loop.invariant.3)))

pub loop-span-smaller : goal.loop-span-smaller
loop-span-smaller c =
    let s = c.args.input.now in
    let loop = c.loop-span in
    let found = search-found s loop.at c.in-Some.span _ c.in-Some.ensures refl in
    omega (arith, found.after, found.long, found.inside)

pub loop-span-preserved : goal.loop-span-preserved
loop-span-preserved c =
    let s = c.args.input.now in
    let loop = c.loop-span in
    let found = search-found s loop.at c.in-Some.span _ c.in-Some.ensures refl in
    let stream = stream_of (record_of (drop c.in-Some.span.position s)) in
    let one = c.one in
    let size = found-length s loop.at _ found in (
      loop.invariant.0 ++ stream,
      rw (length-append, size, loop.invariant.1),
      lent loop.invariant.0 stream c.args.out.now loop.out one.new.out loop.to loop.invariant.1 loop.invariant.2 (rw (stretch-record s loop.at _ found) at one.ensures),
      found-next s loop.at _ found loop.invariant.0 loop.invariant.3,
      found.inside,
      omega arith,
    )

pub returns : goal.returns
returns c =
    let s = c.args.input.now in
    let loop = c.loop-span in
    let end = remaining-none s loop.at (search-none s loop.at _ c.in_default.ensures refl) in
    let all : loop.invariant.0 ≡ normalized s = sym (append-nil loop.invariant.0) ∙ rw end at loop.invariant.3 in
    record { value = sym loop.invariant.1 ∙ ap length all; out_after = loop.invariant.2 ∙ ap (λ (l : List ℕ). over l c.args.out.now) all }
