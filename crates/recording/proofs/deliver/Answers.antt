-- `recording::deliver` meets its contract: the stream at the position is whole. Assumes nothing.
use mathlib.Core.Path.{sym}
use lib.ListN.{length, drop}
use Rattle.std.proofs.lemmas.Result.{err_from_is_err_and}
use Rattle.basics.proofs.Over.{part}
use Rattle.record.specs.Record.{record_of}
use Rattle.recording.proofs.Searching.{delivered-short, delivered-fits, refused-short, read-fits}
use Rattle.recording.proofs.deliver.Goals as goal

pub returns-in_err-contents : goal.returns-in_err-contents
returns-in_err-contents c =
    let args = c.args in
    let s = args.input.now in
    let r = record_of (drop args.span.position s) in
    let (short, is) = refused-short r (length args.out.now) _ (rw part at c.in_err-contents.ensures.value) in
    let p = err_from_is_err_and c.from_residual.result c.from_residual.ensures.1 in
    record {
      value = rw (p.1, p.2, is) (sym (delivered-short s args.span.position (length args.out.now) short));
      out_after = rw part at c.in_err-contents.ensures.out_after;
    }

pub returns : goal.returns
returns c =
    let args = c.args in
    let s = args.input.now in
    let r = record_of (drop args.span.position s) in
    let (fits, is) = read-fits r (length args.out.now) c.in_ok-contents.contents (rw part at c.in_ok-contents.ensures.value) in
    record {
      value = rw (is, c.requires.sized) (sym (delivered-fits s args.span.position (length args.out.now) fits));
      out_after = rw part at c.in_ok-contents.ensures.out_after;
    }
