-- `explained` meets its contract: the room suffices for every explanation. Assumes nothing.
use Prim.Native.Nat.{ℕ}
use native.Mathlib.Omega.{arith}
use mathlib.Core.Path.{refl, ap}
use borrow.Author.Tests.{lt-ltb, le-ltb}
use Rattle.basics.specs.Choice.{choose}
use Rattle.basics.specs.declared.Written.{Written}
use Rattle.basics.proofs.Over.{all-counted, all-written}
use Rattle.explanation.specs.Explanation.{explain_refusal}
use Rattle.explanation.proofs.Room.{explanation-room}
use Rattle.explanation.proofs.explained.Goals as goal

abbrev answer : ℕ → Written
answer n = record { number = 0; length = n }

pub returns-then-out-lt-ROOM : goal.returns-then-out-lt-ROOM
unfolding choose explain_refusal
returns-then-out-lt-ROOM c = rw (lt-ltb _ _ c.if-out-lt-ROOM.true) (record { value = refl; out_after = refl })

pub returns-then-input-gt-MOST : goal.returns-then-input-gt-MOST
unfolding choose explain_refusal
returns-then-input-gt-MOST c =
    rw (le-ltb _ _ c.if-out-lt-ROOM.false, lt-ltb _ _ c.if-input-gt-MOST.true)
    (record {
      value = ap answer (all-counted _ c.args.out.now _ c.copy.ensures.value (omega arith));
      out_after = all-written _ c.args.out.now _ c.copy.ensures.out_after (omega arith);
    })

pub lines-requires : goal.lines-requires
lines-requires c = omega (arith, explanation-room c.args.input.now (omega arith))

pub returns : goal.returns
unfolding choose explain_refusal
returns c =
    rw (le-ltb _ _ c.if-out-lt-ROOM.false, le-ltb _ _ c.if-input-gt-MOST.false)
    (record { value = ap answer c.lines.ensures.value; out_after = c.lines.ensures.out_after })
