-- The output has as many bytes as the program's text gives it. Assumes nothing.
use Rattle.std.proofs.Common.{ℕ, sym}
use Rattle.std.proofs.lemmas.List.{length-replicate}
use Rattle.explainer.proofs.print_explanation.Goals as goal

pub slice_bounds-print_with-end : goal.slice_bounds-print_with-end
slice_bounds-print_with-end c = sym (length-replicate {0} {A = ℕ} 2621440 0)
