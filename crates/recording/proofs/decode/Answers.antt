-- `recording::decode` meets its contract, by the verdict. Assumes nothing.
use mathlib.Core.Path.{sym, ◌∙◌}
use lib.ListN.{length}
use Rattle.stream.proofs.Said.{whole-said, stop-said}
use Rattle.recording.proofs.Decoding.{decoded-none, output-none, decoded-whole, output-whole}
use Rattle.recording.proofs.decode.Goals as goal

pub returns-in-Ok : goal.returns-in-Ok
returns-in-Ok c =
    let s = c.args.input.now in
    let out = c.args.out.now in
    let said = whole-said s c.in-Ok.stream c.in-Ok.ensures.value in
    record {
      value = c.from.ensures ∙ c.deliver.ensures.value ∙ sym (decoded-whole s said.verdict (length out));
      out_after = c.deliver.ensures.out_after ∙ sym (output-whole s said.verdict out);
    }

pub returns-in-Err : goal.returns-in-Err
returns-in-Err c =
    let s = c.args.input.now in
    let out = c.args.out.now in
    let said = stop-said s c.in-Err.field-0 c.in-Err.ensures.value in
    record { value = c.from-in-Err.ensures ∙ sym (decoded-none s said.faulty (length out)); out_after = sym (output-none s said.faulty out) }
