-- `recording::rewrite::normalize` meets its contract: an output as long as the input has room, and a shorter one is measured against. Assumes nothing.
use native.Mathlib.Omega.{arith}
use Prim.Native.Nat.{◌<◌, ◌≤◌}
use mathlib.Core.Path.{sym, ◌∙◌}
use lib.ListN.{length}
use Rattle.recording.specs.Normalize.{normalized}
use Rattle.recording.proofs.Normalizing.{normalized-shorter}
use Rattle.basics.proofs.Output.{answered-short, answered-fits, output-kept, output-written}
use Rattle.recording.proofs.rewrite.normalize.Goals as goal
use Rattle.recording.proofs.rewrite.normalize.Goals.{else-out-input-via-then-out-input+else-out-measure, else-out-input-via-else-out-input}

pub returns-then-out-measure : goal.returns-then-out-measure
returns-then-out-measure c =
    let s = c.args.input.now in
    let out = c.args.out.now in
    let short : length out < length (normalized s) = omega (arith, c.measure.ensures) in
    record { value = sym (answered-short (normalized s) (length out) short); out_after = sym (output-kept (normalized s) out short) }

-- where a test fails, the output has room
pub all-requires : goal.all-requires
all-requires c =
    elim c.else-out-input.branch [
      | else-out-input-via-then-out-input+else-out-measure w ↦ omega (arith, w.measure.ensures)
      | else-out-input-via-else-out-input w ↦ omega (arith, normalized-shorter c.args.input.now)
    ]

pub returns : goal.returns
returns c =
    let s = c.args.input.now in
    let out = c.args.out.now in
    let fits : length (normalized s) ≤ length out =
    elim c.else-out-input.branch [
      | else-out-input-via-then-out-input+else-out-measure w ↦ omega (arith, w.measure.ensures)
      | else-out-input-via-else-out-input w ↦ omega (arith, normalized-shorter s)
    ] in
    record {
      value = rw c.all.ensures.value (sym (answered-fits (normalized s) (length out) fits));
      out_after = c.all.ensures.out_after ∙ sym (output-written (normalized s) out fits);
    }
