-- The number falls.
use Rattle.explanation.proofs.write.LineText.+push_digits.Given as goal

abbrev pub decreases-push_digits : goal.decreases-push_digits
decreases-push_digits l = l.n
