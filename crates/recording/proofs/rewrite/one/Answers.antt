-- `rewrite::one` meets its contract: the copy of a whole stream, cleared where there is something to clear. Assumes nothing.
use Prim.Native.Nat.{ℕ}
use mathlib.Core.Path.{sym, ap, subst⁻¹, ◌∙◌}
use mathlib.Core.List.{List}
use Rattle.basics.specs.Bytes.{over}
use Rattle.record.specs.Record.{record_of, stream_of}
use Rattle.recording.proofs.Deliveries.{Whole}
use Rattle.recording.proofs.Clearing.{copy-whole, copy-same, copy-cleared}
use Rattle.basics.proofs.Over.{all-written}
use Rattle.recording.proofs.rewrite.one.Goals as goal

pub stream-requires : goal.stream-requires
stream-requires c =
    let s = c.args.stream.now in
    let out = c.args.out.now in
    subst⁻¹ Whole (all-written s out _ c.copy.ensures.out_after c.requires.held) (copy-whole s out c.requires.whole)

pub returns-then-unused-ne0 : goal.returns-then-unused-ne0
returns-then-unused-ne0 c =
    let s = c.args.stream.now in
    let out = c.args.out.now in
    let is = (all-written s out _ c.copy.ensures.out_after c.requires.held) in
    c.stream.ensures ∙ ap (λ (l : List ℕ). over (stream_of (record_of l)) l) is ∙ copy-cleared s out c.requires.whole c.requires.sized

pub returns-else-unused-ne0 : goal.returns-else-unused-ne0
returns-else-unused-ne0 c =
    let s = c.args.stream.now in
    let out = c.args.out.now in
    (all-written s out _ c.copy.ensures.out_after c.requires.held) ∙ copy-same s out c.requires.whole c.requires.sized (sym c.requires.counted ∙ c.if-unused-ne0.false)
