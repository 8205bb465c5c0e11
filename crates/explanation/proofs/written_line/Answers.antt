-- `written_line` meets its contract. Assumes nothing.
use Prim.Native.Nat.{ℕ, ◌<◌, ◌≤◌}
use native.Mathlib.Omega.{arith}
use mathlib.Core.Path.{ap, ◌∙◌, sym}
use mathlib.Core.List.{List}
use lib.ListN.{length}
use Rattle.basics.specs.Bytes.{over}
use Rattle.basics.proofs.Over.{all-counted, all-written}
use Rattle.basics.proofs.Output.{answered-short, answered-fits, output-kept, output-written}
use Rattle.explanation.specs.Line.{line_of}
use Rattle.explanation.proofs.written_line.Goals as goal

pub returns-then-out-text : goal.returns-then-out-text
returns-then-out-text c =
    let out = c.args.out.now in
    let line = line_of c.args.fault in
    let short : length out < length line = omega (arith, ap length (c.as_slice-text.ensures ∙ c.line-line.ensures)) in
    record { value = sym (answered-short line (length out) short); out_after = sym (output-kept line out short) }

pub returns : goal.returns
returns c =
    let out = c.args.out.now in
    let line = line_of c.args.fault in
    let is = c.as_slice-text.ensures ∙ c.line-line.ensures in
    let fits : length line ≤ length out = omega (arith, ap length is) in
    let count = all-counted _ out _ c.copy.ensures.value (omega arith) ∙ ap length is in
    record {
      value = sym (answered-fits line (length out) fits ∙ ap (λ (n : ℕ). record { number = 0; length = n }) (sym count));
      out_after = all-written _ out _ c.copy.ensures.out_after (omega arith) ∙ ap (λ (l : List ℕ). over l out) is ∙ sym (output-written line out fits);
    }
