-- `recording::read::record` meets its contract: a whole stream is there, and as long as its header says. Assumes nothing.
use Prim.Native.Nat.{ℕ}
use native.Mathlib.Omega.{arith}
use mathlib.Core.Path.{◌≡◌, sym, ap, ◌∙◌}
use lib.ListN.{length}
use mathlib.Core.List.{List}
use Rattle.basics.specs.Bytes.{over}
use Rattle.basics.proofs.Output.{output-kept, output-written}
use Rattle.stream.specs.Layout.{payload_length_of}
use Rattle.record.specs.Record.{record_of}
use Rattle.recording.proofs.Deliveries.{whole_long}
use Rattle.recording.proofs.Reading.{whole-there, whole-few, whole-size, whole-payload}
use Rattle.recording.proofs.Searching.{contents-short, contents-fits}
use Rattle.recording.proofs.read.record.Goals as goal

pub bounds-stream-5 : goal.bounds-stream-5
bounds-stream-5 c = omega (arith, whole_long c.args.stream.now c.requires)

pub returns-then-out-payload_length : goal.returns-then-out-payload_length
returns-then-out-payload_length c =
    let s = c.args.stream.now in
    let out = c.args.out.now in
    let K = c.kind_of-kind.result in
    let payload = (record_of s).payload in
    let size : c.payload_length-payload_length.result ≡ length payload =
    c.payload_length-payload_length.ensures ∙ ap (payload_length_of K) c.frame_count-count.ensures ∙ whole-size s c.requires K c.kind_of-kind.ensures in
    record { value = sym (contents-short (record_of s) (length out) (omega (arith, size))); out_after = sym (output-kept payload out (omega (arith, size))) }

pub payload-requires : goal.payload-requires
payload-requires c =
    let s = c.args.stream.now in
    let K = c.kind_of-kind.result in
    record {
      there = whole-there s c.requires K c.kind_of-kind.ensures;
      counted = c.frame_count-count.ensures;
      few = omega (arith, c.frame_count-count.ensures, whole-few s c.requires K c.kind_of-kind.ensures);
      fits = omega (arith, c.payload_length-payload_length.ensures);
    }

pub returns : goal.returns
returns c =
    let s = c.args.stream.now in
    let out = c.args.out.now in
    let K = c.kind_of-kind.result in
    let payload = (record_of s).payload in
    let size : c.payload_length-payload_length.result ≡ length payload =
    c.payload_length-payload_length.ensures ∙ ap (payload_length_of K) c.frame_count-count.ensures ∙ whole-size s c.requires K c.kind_of-kind.ensures in
    record {
      value = rw (c.header.ensures, size) (sym (contents-fits (record_of s) (length out) (omega (arith, size))));
      out_after =
          c.payload.ensures
          ∙ ap (λ (l : List ℕ). over l out) (whole-payload s c.requires K c.kind_of-kind.ensures)
          ∙ sym (output-written payload out (omega (arith, size)));
    }

pub header-requires : goal.header-requires
header-requires c = omega (arith, whole_long c.args.stream.now c.requires)
