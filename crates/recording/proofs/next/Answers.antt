-- `recording::next` meets its contract, by what the search found. Assumes nothing.
use native.Mathlib.Omega.{arith}
use mathlib.Core.Path.{refl, sym, ap, ◌∙◌}
use lib.ListN.{length}
use Rattle.recording.specs.Next.{first_of}
use Rattle.recording.proofs.Nexts.{refusal-past, refusal-none, next-answers, next-refuses, output-kept, output-written}
use Rattle.recording.proofs.Searching.{search-found, search-none, next-found, output-found}
use Rattle.recording.proofs.next.Goals as goal

pub returns-then-input-start : goal.returns-then-input-start
returns-then-input-start c =
    let args = c.args in
    let s = args.input.now in
    let out = args.out.now in
    let six = refusal-past s args.start (length out) (omega arith) in
    record {
      value = c.from.ensures ∙ sym (next-refuses s args.start (length out) 6 (omega arith) six);
      out_after = sym (output-kept s args.start out (omega arith));
    }

pub deliver-requires : goal.deliver-requires
deliver-requires c =
    (search-found c.args.input.now c.args.start c.in-Some.span _ c.in-Some.ensures refl).whole-at

pub returns-in-Some : goal.returns-in-Some
returns-in-Some c =
    let args = c.args in
    let s = args.input.now in
    let found = search-found s args.start c.in-Some.span _ c.in-Some.ensures refl in
    record {
      value = c.from-in-Some.ensures ∙ c.deliver.ensures.value ∙ next-found s args.start _ found (omega arith) (length args.out.now);
      out_after = c.deliver.ensures.out_after ∙ output-found s args.start _ found (omega arith) args.out.now;
    }

pub returns-in-None : goal.returns-in-None
returns-in-None c =
    let args = c.args in
    let s = args.input.now in
    let out = args.out.now in
    let empty = search-none s args.start _ c.in-None.ensures refl in
    let zero = refusal-none s args.start (length out) (omega arith) (rw empty (omega arith)) in
    record {
      value = c.from-in-None.ensures ∙ sym (next-answers s args.start (length out) zero ∙ ap first_of empty);
      out_after = sym (output-written s args.start out zero ∙ rw empty refl);
    }
