-- `LineText::push_number` meets its contract: no number has more than 20 digits. Assumes nothing.
use native.Mathlib.Omega.{arith}
use mathlib.Core.Path.{ap}
use lib.ListN.{length, length-append}
use Rattle.text.specs.Decimal.{decimal}
use Rattle.text.proofs.Decimal.{decimal-most}
use Rattle.explanation.proofs.write.LineText.push_number.Goals as goal

pub push_digits-requires : goal.push_digits-requires
push_digits-requires c = omega (arith, decimal-most 19 c.args.n (omega arith))

pub returns-clause-size : goal.returns-clause-size
returns-clause-size c = omega (arith, ap length c.push_digits.ensures, length-append c.args.self.now (decimal c.args.n), decimal-most 19 c.args.n (omega arith))
