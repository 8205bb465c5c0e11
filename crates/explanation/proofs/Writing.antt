-- Laws of what is written of a line.
use Prim.Native.Nat.{ℕ}
use mathlib.Core.Path.{◌≡◌, refl}
use mathlib.Core.Bool.{Bool, true, false}
use Rattle.std.specs.Bool.{then_some}
use Rattle.basics.specs.Choice.{choose}
use Rattle.explanation.specs.Line.{byte_text}
use Rattle.explanation.specs.Stage.{some_byte}

pub byte-some : (has : Bool) (byte : ℕ) → some_byte (then_some has byte) ≡ byte_text has byte
unfolding byte_text choose
byte-some true byte = refl
byte-some false byte = refl
