use Rattle.std.proofs.Common.{◌≡◌, sym, ◌∙◌, arith}
use Rattle.slave_plans.specs.Plan.{is_sought}
use Rattle.slaves.proofs.Seeking.{search-starts, stands-here, passed-by, nowhere-left}
use Rattle.slaves.proofs.seek.Goals as goal

pub loop-index-init : goal.loop-index-init
loop-index-init c = record {
  rest = rw c.search_start-first.ensures (search-starts c.args.start c.args.sought c.args.table.now);
  most = omega arith;
}

pub returns-then-is_sought : goal.returns-then-is_sought
returns-then-is_sought c =
    sym (c.loop-index.invariant.rest ∙ stands-here (is_sought c.args.sought) c.args.table.now _ c.loop-index-test.true (sym c.if-is_sought.ensures))

pub loop-index-preserved : goal.loop-index-preserved
loop-index-preserved c = record {
  rest = c.loop-index.invariant.rest ∙ passed-by (is_sought c.args.sought) c.args.table.now _ c.loop-index-test.true (sym c.if-is_sought.ensures);
  most = omega arith;
}

pub returns : goal.returns
returns c =
    let last : c.max.result ≡ c.loop-index.index = omega arith in
    last ∙ sym (c.loop-index.invariant.rest ∙ nowhere-left (is_sought c.args.sought) c.args.table.now _ c.loop-index-test.false)
