-- Laws of a call that is refused only for its room.
use Prim.Native.Nat.{ℕ, ◌<◌, ◌≤◌}
use native.Mathlib.Omega.{arith}
use native.Mathlib.Decide.{dec_lt}
use mathlib.Core.Path.{◌≡◌}
use mathlib.Core.Logic.{dite}
use mathlib.Core.List.{List}
use borrow.Author.Tests.{lt-ltb, le-ltb}
use lib.ListN.{length}
use Rattle.basics.specs.Bytes.{over}
use Rattle.basics.specs.Choice.{choose}
use Rattle.basics.specs.Output.{room_refusal, answered_for, output_for}

module _ (result : List ℕ) (room : ℕ) where
  pub refusal-short : room < length result → room_refusal result room ≡ 5
  unfolding room_refusal choose
  refusal-short short = simp (lt-ltb room _ short)

  pub refusal-none : length result ≤ room → room_refusal result room ≡ 0
  unfolding room_refusal choose
  refusal-none fits = simp (le-ltb room _ fits)

  pub unrefused : room_refusal result room ≡ 0 → length result ≤ room
  unrefused e = dite (dec_lt room (length result)) (λ short. absurd (omega (arith, refusal-short short))) (λ fits. omega arith)

  pub answered-short : room < length result → answered_for result room ≡ record { number = 5; length = 0 }
  unfolding choose
  answered-short short = rw (refusal-short short)

  pub answered-fits : length result ≤ room → answered_for result room ≡ record { number = 0; length = length result }
  unfolding choose
  answered-fits fits = rw (refusal-none fits)

module _ (result out : List ℕ) where
  pub output-kept : length out < length result → output_for result out ≡ out
  unfolding choose
  output-kept short = rw (refusal-short result (length out) short)

  pub output-written : length result ≤ length out → output_for result out ≡ over result out
  unfolding choose
  output-written fits = rw (refusal-none result (length out) fits)
