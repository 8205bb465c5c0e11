-- Texts that are written to an output one behind the other: what stands there so far, and what is still to come.
use Prim.Native.Nat.{ℕ, ◌+◌, ◌-◌, ◌≤◌}
use native.Mathlib.Omega.{arith}
use mathlib.Core.Path.{◌≡◌, refl, ap, sym, ◌∙◌}
use mathlib.Core.List.{List, [], ◌++◌, append_assoc, append-nil}
use lib.ListN.{length, take, drop, length-append, length-drop}
use Rattle.basics.specs.Bytes.{over}
use Rattle.basics.specs.Output.{answered_for, output_for}
use Rattle.basics.specs.declared.Written.{Written}
use Rattle.basics.proofs.Over.{part, lent}
use Rattle.basics.proofs.Output.{answered-fits, output-written}

-- of a whole text all but the rest stands at the start of an output, and ends at `to`
pub record SoFar (all rest : List ℕ) (to : ℕ) (before out : List ℕ) : Type 0 where
  pub done : List ℕ
  pub sized : length done ≡ to
  pub written : out ≡ over done before
  pub joined : done ++ rest ≡ all

pub nothing : (all before : List ℕ) → SoFar all all 0 before before
nothing all before = record { done = []; sized = refl; written = refl; joined = refl }

pub everything : {all before out : List ℕ} {to : ℕ} → SoFar all [] to before out → (to ≡ length all) × (out ≡ over all before)
everything {before = before} so_far =
    let whole = sym (append-nil so_far.done) ∙ so_far.joined in
    (sym so_far.sized ∙ ap length whole, so_far.written ∙ ap (λ (l : List ℕ). over l before) whole)

-- the next text, written to the part of the output behind what stands there
module _ {all rest before out : List ℕ} {to : ℕ} (so_far : SoFar all rest to before out) (room : length all ≤ length out)
    (text more : List ℕ) (next : rest ≡ text ++ more) where
  abbrev lent_part : List ℕ
  lent_part = take (length out - to) (drop to out)

  joined : (so_far.done ++ text) ++ more ≡ all
  joined = append_assoc so_far.done text more ∙ ap (λ (l : List ℕ). so_far.done ++ l) (sym next) ∙ so_far.joined

  pub fits : to + length text ≤ length out
  fits = omega (arith, ap length joined, length-append (so_far.done ++ text) more, length-append so_far.done text, so_far.sized)

  fits_part : length text ≤ length lent_part
  fits_part = simp (part, length-drop) (omega (arith, fits))

  module _ (written : Written) (new : List ℕ) (said : written ≡ answered_for text (length lent_part)) (left : new ≡ output_for text lent_part) where
    pub one_more-length : written.length ≡ length text
    one_more-length = ap (λ (w : Written). w.length) (said ∙ answered-fits text (length lent_part) fits_part)

    pub one_more : SoFar all more (to + written.length) before (take to out ++ (new ++ drop (length out - to) (drop to out)))
    one_more =
        record {
          done = so_far.done ++ text;
          sized = omega (arith, length-append so_far.done text, so_far.sized, one_more-length);
          written = lent so_far.done text before out new to so_far.sized so_far.written (left ∙ output-written text lent_part fits_part);
          joined = joined;
        }
