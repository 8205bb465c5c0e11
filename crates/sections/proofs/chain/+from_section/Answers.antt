-- `chain::from_section` meets its contract. The section number falls; it is below 127 at the first call, so there are at most 127 calls. Assumes nothing.
use native.Mathlib.Omega.{arith}
use mathlib.Core.Path.{sym, ap, ◌∙◌}
use Rattle.basics.proofs.Over.{part}
use Rattle.sections.specs.Section.{section_length}
use Rattle.sections.proofs.Sections.{from, sections-joined, some_bytes, whole-first, whole-rest, step_fewer, step_from}
use Rattle.sections.proofs.chain.+from_section.Goals as goal

pub returns-then-k-eq0 : goal.returns-then-k-eq0
returns-then-k-eq0 t c =
    let p = c.args.rest.now in
    sym (sections-joined p) ∙ ap (from p) (sym c.if-k-eq0.true)

pub bounds-rest-0 : goal.bounds-rest-0
bounds-rest-0 t c = some_bytes c.args.rest.now c.args.k c.requires.k_in_bounds.0

pub slice_bounds-from_section-count : goal.slice_bounds-from_section-count
slice_bounds-from_section-count t c =
    let p = c.args.rest.now in
    let r = c.requires.k_in_bounds in
    rw c.section_length.ensures (whole-first p (some_bytes p c.args.k r.0) r.1)

pub slice_bounds-from_section-start : goal.slice_bounds-from_section-start
slice_bounds-from_section-start t c =
    let p = c.args.rest.now in
    let r = c.requires.k_in_bounds in
    omega (arith, c.section_length.ensures, whole-first p (some_bytes p c.args.k r.0) r.1)

pub from_section-requires : goal.from_section-requires
from_section-requires t c =
    let p = c.args.rest.now in
    let r = c.requires.k_in_bounds in
    let fewer = step_fewer p c.args.k c.if-k-eq0.false r.0 in
    let whole = whole-rest p (some_bytes p c.args.k r.0) r.1 in
    (omega (arith, c.decreases), (omega (arith, c.requires.k_bound), rw (c.section_length.ensures, part p (section_length p)) (fewer, whole)))

pub returns : goal.returns
returns t c =
    let p = c.args.rest.now in
    c.from_section.ensures
    ∙ rw (c.section_length.ensures, part p (section_length p)) (sym (step_from p c.args.k c.if-k-eq0.false c.requires.k_in_bounds.0))
