-- Which sections end within an element: none but those of type 0x0A with an odd number of frames.
use Prim.Native.Nat.{ℕ, ◌*◌, ◌%◌, ◌<◌}
use native.Mathlib.Omega.{arith}
use native.Mathlib.Decide.{ℕ_discrete}
use mathlib.Core.Path.{◌≡◌, refl, sym}
use Rattle.std.specs.Prelude.{None, Some}
use mathlib.Core.Logic.{◌≢◌, ◌↔◌, dite}
use mathlib.Core.Bool.{Bool, true, false, not, and-eq-true_iff}
use mathlib.Core.List.{List}
use lib.Arith.{mod-mul}
use lib.Dec.{eqb}
use borrow.Author.Tests.{eq-eqb, ne_eqb, eqb-true}
use Rattle.basics.specs.Choice.{choose}
use Rattle.basics.proofs.Choice.{choose-by}
use Rattle.sections.specs.Section.{frames_in, type_of}
use Rattle.sections.specs.Element.{element_size, size_in, partial_element}
use Rattle.sections.specs.Stage.{size_of}

module _ (type frames : ℕ) where
  line : (test : Bool) {size other : ℕ} → (test ≡ true → 0 < size → 4 * frames % size ≡ 0) → (test ≡ false → 0 < other → 4 * frames % other ≡ 0)
      → 0 < choose test size other → 4 * frames % choose test size other ≡ 0
  line = choose-by (λ (size : ℕ). 0 < size → 4 * frames % size ≡ 0)

  -- in every other type of the table the size divides a section's bytes, whatever the number of frames
  pub size-divides : type ≢ 0x0A → 0 < element_size type → 4 * frames % element_size type ≡ 0
  unfolding element_size
  size-divides other =
      line (eqb type 0x01) (λ e pos. omega arith) (λ e.
      line (eqb type 0x05) (λ e pos. omega arith) (λ e.
      line (eqb type 0x08) (λ e pos. omega arith) (λ e.
      line (eqb type 0x0A) (λ e. absurd (other (eqb-true type 0x0A e))) (λ e.
      line (eqb type 0x0B) (λ e pos. omega arith) (λ e.
      line (eqb type 0x0C) (λ e pos. omega arith) (λ e.
      line (eqb type 0x0D) (λ e pos. omega arith) (λ e pos. absurd (omega arith))))))))

-- a type in the table has a size above 0, and any other has none
pub sized : (type size : ℕ) → size_of type ≡ Some size → (size ≡ element_size type) × (0 < size)
unfolding choose
sized type size e =
    dite (ℕ_discrete (element_size type) 0)
    (λ zero. absurd (cc (rw (eq-eqb _ 0 zero) at e)))
    (λ above. let is : element_size type ≡ size = cc (rw (ne_eqb _ 0 above) at e) in (sym is, omega arith))

pub unsized : (type : ℕ) → size_of type ≡ None → element_size type ≡ 0
unfolding choose
unsized type e =
    dite (ℕ_discrete (element_size type) 0) (λ zero. zero) (λ above. absurd (cc (rw (ne_eqb _ 0 above) at e)))

pub display-size : element_size 0x0A ≡ 8
unfolding element_size choose
display-size = refl

-- of eight-byte elements, an odd number of frames leaves four bytes
left_over : (frames : ℕ) → 4 * frames % 8 ≡ 4 * (frames % 2)
left_over frames = omega (arith, mod-mul (4 * frames) {m = 2} {c = 4} (omega arith) (omega arith))

odd-remainder : (frames : ℕ) → eqb (frames % 2) 1 ≡ not (eqb (4 * frames % 8) 0)
odd-remainder frames =
    dite (ℕ_discrete (frames % 2) 1)
    (λ odd. rw (eq-eqb _ _ odd, ne_eqb (4 * frames % 8) 0 (λ z. omega (arith, left_over frames))))
    (λ even. rw (ne_eqb _ _ even, eq-eqb (4 * frames % 8) 0 (omega (arith, left_over frames))))

module _ (section : List ℕ) where
  pub partial-exactly : (partial_element section ≡ true) ↔ ((type_of section ≡ 0x0A) × (frames_in section % 2 ≡ 1))
  partial-exactly =
      let both = and-eq-true_iff (eqb (type_of section) 0x0A) (eqb (frames_in section % 2) 1) in
      (λ t. (eqb-true _ _ (both.0 t).0, eqb-true _ _ (both.0 t).1), λ x. both.1 (eq-eqb _ _ x.0, eq-eqb _ _ x.1))

  -- of a type in the table, it is one that the size of its elements doesn't divide
  pub partial-remainder : 0 < size_in section → partial_element section ≡ not (eqb (4 * frames_in section % size_in section) 0)
  partial-remainder typed =
      dite (ℕ_discrete (type_of section) 0x0A)
      (λ e. rw (e, display-size) (odd-remainder (frames_in section)))
      (λ other. rw (ne_eqb _ 0x0A other, eq-eqb _ 0 (size-divides (type_of section) (frames_in section) other typed)))
