-- `LineText::push_digits` meets its contract. Assumes nothing.
use native.Mathlib.Omega.{arith}
use mathlib.Core.Path.{ap}
use mathlib.Core.List.{append_assoc}
use lib.ListN.{length, length-append}
use Prim.Native.Nat.{◌/◌}
use Rattle.text.specs.Decimal.{decimal}
use Rattle.text.proofs.Decimal.{decimal-one, decimal-more, decimal-longer}
use Rattle.explanation.proofs.write.LineText.+push_digits.Goals as goal

pub push-requires : goal.push-requires
push-requires t c = omega (arith, ap length (decimal-one c.args.n c.if-n-lt10.true))

pub returns-then-n-lt10 : goal.returns-then-n-lt10
returns-then-n-lt10 t c = rw (decimal-one c.args.n c.if-n-lt10.true) c.push.ensures.appended

pub push_digits-requires : goal.push_digits-requires
push_digits-requires t c = (omega (arith, c.decreases), omega (arith, decimal-longer c.args.n (omega arith)))

pub push-requires-2 : goal.push-requires-2
push-requires-2 t c =
    omega (
      arith,
      ap length c.push_digits.ensures,
      length-append c.args.self.now (decimal (c.args.n / 10)),
      decimal-longer c.args.n (omega arith),
    )

pub returns : goal.returns
returns t c = rw (decimal-more c.args.n (omega arith), c.push-2.ensures.appended, c.push_digits.ensures) (simp append_assoc)
