-- `stream::frame::is_right` meets its contract: a frame has no fault exactly if it passes both tests. Assumes nothing.
use mathlib.Core.Path.{sym, ◌∙◌}
use mathlib.Core.Bool.{true≢false}
use borrow.Author.Tests.{eqb-true, eq-eqb}
use Rattle.stream.proofs.Frames.{frame_right, clean-low, clean-sum}
use Rattle.stream.proofs.frame.is_right.Goals as goal

pub returns-then-all_low : goal.returns-then-all_low
returns-then-all_low c =
    let low = c.all_low.ensures.0 c.if-all_low.true in
    let sum = c.sum.ensures in (
      λ e. frame_right c.args.width c.args.frame.now c.requires low (sym (eqb-true _ _ e) ∙ sum),
      λ clean. eq-eqb _ _ (sum ∙ sym (clean-sum _ _ clean)),
    )

pub returns-else-all_low : goal.returns-else-all_low
returns-else-all_low c =
    (λ e. absurd (true≢false (sym e ∙ c.if-all_low.false)), λ clean. c.all_low.ensures.1 (clean-low c.args.width c.args.frame.now clean c.requires))
