-- `diagnosis::wanted` meets its contract: the bytes of either checksum are those that the rule at the offset asks for. Assumes nothing.
use native.Mathlib.Omega.{arith}
use mathlib.Core.Path.{◌≡◌, ◌∙◌, ap}
use Rattle.stream.specs.Validation.{number}
use Rattle.stream.specs.declared.Kind.{Kind}
use Rattle.stream.specs.Layout.{payload_length_of}
use Rattle.diagnosis.proofs.Faults.{wanted-header, wanted-frame, wanted-none, width, width-most}
use Rattle.diagnosis.proofs.Reasons.{sums_at}
use Rattle.diagnosis.proofs.wanted.Goals as goal

pub slice_bounds-checksum-count : goal.slice_bounds-checksum-count
slice_bounds-checksum-count c = omega (arith, ((sums_at c.args.stretch.now c.args.stop c.requires).header (ap number c.in-HeaderChecksum.is)).1)

pub slice_bounds-checksum-start : goal.slice_bounds-checksum-start
slice_bounds-checksum-start c = omega (arith, ((sums_at c.args.stretch.now c.args.stop c.requires).header (ap number c.in-HeaderChecksum.is)).1)

pub slice_bounds-checksum-end : goal.slice_bounds-checksum-end
slice_bounds-checksum-end c = omega (arith, ((sums_at c.args.stretch.now c.args.stop c.requires).header (ap number c.in-HeaderChecksum.is)).2)

pub returns-in-HeaderChecksum : goal.returns-in-HeaderChecksum
returns-in-HeaderChecksum c =
    let four = ap number c.in-HeaderChecksum.is in
    wanted-header c.args.stretch.now c.args.stop four ((sums_at c.args.stretch.now c.args.stop c.requires).header four).0 _ c.checksum.ensures

pub bounds-stretch-5 : goal.bounds-stretch-5
bounds-stretch-5 c = omega (arith, ((sums_at c.args.stretch.now c.args.stop c.requires).frame (ap number c.in-FrameChecksum.is)).1)

pub overflow_add-size : goal.overflow_add-size
overflow_add-size c = omega (arith, c.payload_length-size.ensures, width-most c.kind_of.result)

pub overflow_sub-start : goal.overflow_sub-start
overflow_sub-start c =
    let size : c.payload_length-size.result ≡ width c.args.stretch.now = c.payload_length-size.ensures ∙ ap (λ (K : Kind). payload_length_of K 1) c.kind_of.ensures in
    omega (arith, ((sums_at c.args.stretch.now c.args.stop c.requires).frame (ap number c.in-FrameChecksum.is)).2, size)

pub slice_bounds-checksum-end-in-FrameChecksum : goal.slice_bounds-checksum-end-in-FrameChecksum
slice_bounds-checksum-end-in-FrameChecksum c = omega (arith, ((sums_at c.args.stretch.now c.args.stop c.requires).frame (ap number c.in-FrameChecksum.is)).3)

pub returns-in-FrameChecksum : goal.returns-in-FrameChecksum
returns-in-FrameChecksum c =
    let six = ap number c.in-FrameChecksum.is in
    let size : c.payload_length-size.result ≡ width c.args.stretch.now = c.payload_length-size.ensures ∙ ap (λ (K : Kind). payload_length_of K 1) c.kind_of.ensures in
    let at = (sums_at c.args.stretch.now c.args.stop c.requires).frame six in
    wanted-frame c.args.stretch.now c.args.stop six _ at.0 at.2 _ (rw size at c.checksum-in-FrameChecksum.ensures)

pub returns-in_default : goal.returns-in_default
returns-in_default c = wanted-none c.args.stretch.now c.args.stop c.in_default.not-HeaderChecksum c.in_default.not-FrameChecksum
