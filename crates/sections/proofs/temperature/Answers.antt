-- `temperature` meets its contract. Assumes nothing.
use Prim.Native.Nat.{ℕ, ◌<◌, ◌*◌, ◌-◌}
use native.Mathlib.Omega.{arith}
use native.Mathlib.Decide.{dec_lt}
use mathlib.Core.Path.{◌≡◌, ap, ◌∙◌}
use mathlib.Core.Logic.{dite}
use borrow.Author.Tests.{lt-ltb, le-ltb}
use mir.Syntax.{w16}
use mir.Val.{to_z, SFits}
use Rattle.std.proofs.Common.{rules}
use Rattle.std.proofs.Math.Facts.{to_z-neg}
use Rattle.std.proofs.lemmas.Int.{to_z-of_z, ints}
use Rattle.basics.specs.Choice.{choose}
use Rattle.basics.specs.Words.{signed, word_at}
use Rattle.sections.proofs.temperature.Goals as goal

cast : (n : ℕ) → n < 0x10000 → to_z w16 n ≡ signed 16 n
unfolding signed choose
cast n b =
    dite (dec_lt (2 * n) 0x10000)
    (λ low. rw (lt-ltb (2 * n) 0x10000 low) (omega (arith, ints)))
    (λ high. rw (le-ltb (2 * n) 0x10000 (omega arith))
    (ap (to_z w16) (omega arith) ∙ to_z-neg w16 (0xFFFF - n) (omega arith) ∙ omega (arith, ints)))

pub returns : goal.returns
returns c =
    let read = c.from_le_bytes in
    let fits : SFits w16 read.result = search rules in
    let word = word_at c.args.bytes 0 in
    to_z-of_z w16 read.result fits ∙ read.ensures ∙ ap (to_z w16) (omega arith) ∙ cast word (search rules)
