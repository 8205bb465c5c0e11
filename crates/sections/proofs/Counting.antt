-- Laws of the chain check.
use Prim.Native.Nat.{ℕ, ◌+◌, ◌*◌, ◌<◌, ◌≤◌}
use native.Mathlib.Omega.{arith}
use native.Mathlib.Decide.{dec_lt}
use native.Mathlib.Nat.{add-zero, add_assoc}
use native.Mathlib.Numerals.{one-add}
use mathlib.Core.Logic.{dite}
use mathlib.Core.Path.{◌≡◌, refl}
use mathlib.Core.List.{List, [], ◌∷◌}
use lib.ListN.{length, get_or, drop, length-drop}
use lib.Seq.{drop-drop}
use borrow.Author.Tests.{lt-ltb, le-ltb}
use Rattle.std.specs.Prelude.{None, Some}
use Rattle.basics.specs.Choice.{choose}
use Rattle.sections.specs.Section.{section_length, cut, some_short}
use Rattle.sections.specs.Stage.{chain_count, payload_count}
use Rattle.sections.proofs.Sections.{sections-cons, overrun-cons}

empty : (p : List ℕ) → length p ≡ 0 → p ≡ []
empty [] e = refl
empty (x ∷ p) e = absurd (omega arith)

module _ (p : List ℕ) (count : ℕ) where
  pub chain-end : length p ≡ 0 → chain_count p count ≡ Some count
  unfolding cut some_short choose
  chain-end e = rw (empty p e, add-zero count)

  pub chain-short : 0 < length p → length p < 4 → chain_count p count ≡ None
  unfolding choose
  chain-short h l = rw (overrun-cons p h, lt-ltb (length p) (section_length p) (omega arith))

  pub chain-step : 4 ≤ length p → chain_count p count ≡ payload_count (drop 4 p) (4 * get_or p 0 0) (count + 1)
  unfolding choose
  chain-step h =
      let held : 0 < length p = omega arith in
      dite (dec_lt (length p) (section_length p))
      (λ short. rw (overrun-cons p held, lt-ltb (length p) (section_length p) short, lt-ltb (length (drop 4 p)) (4 * get_or p 0 0) (omega (arith, length-drop 4 p))))
      (λ long. rw (overrun-cons p held, le-ltb (length p) (section_length p) (omega arith), le-ltb (length (drop 4 p)) (4 * get_or p 0 0) (omega (arith, length-drop 4 p)), sections-cons p held, drop-drop (4 * get_or p 0 0) 4 p, add_assoc count 1, one-add))
