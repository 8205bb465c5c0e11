-- The explanation of a recording, fault by fault: a line for what `next_fault` finds, and then the lines of those behind its place.
use Prim.Native.Nat.{ℕ, ◌+◌, ◌≤◌, ◌<◌}
use mathlib.Core.Path.{◌≡◌, ap, ◌∙◌, sym}
use mathlib.Core.Bool.{true, false}
use mathlib.Core.List.{List, [], ◌++◌}
use lib.ListN.{length}
use Rattle.diagnosis.specs.Fault.{faults_after, next_fault}
use Rattle.diagnosis.specs.declared.Fault.{Fault}
use Rattle.diagnosis.specs.Reason.{Asked}
use Rattle.diagnosis.proofs.Exactly.{asked-faults}
use Rattle.diagnosis.proofs.Faults.{found_at, none_after}
use Rattle.explanation.specs.Line.{line_of}
use Rattle.explanation.specs.Explanation.{lines_of, explanation_of}

-- what is still to be written from a place on
abbrev pub lines_after : List ℕ → ℕ → List ℕ
lines_after s start = lines_of (faults_after s start)

-- the line of the fault that is found comes next
pub record Next (s : List ℕ) (start : ℕ) (f : Fault) : Type 0 where
  pub after : start ≤ f.place
  pub inside : f.place < length s
  pub rest : lines_after s start ≡ line_of f ++ lines_after s (f.place + 1)

module _ (s : List ℕ) (start : ℕ) (f : Fault) (told : f ≡ next_fault s start) where
  pub next-line : f.found ≡ true → Next s start f
  unfolding lines_of
  next-line e =
      let found = found_at s start (ap (λ (g : Fault). g.found) (sym told) ∙ e) in
      rw told (record { after = found.after; inside = found.inside; rest = ap lines_of found.rest })

  pub no_line : f.found ≡ false → lines_after s start ≡ []
  unfolding lines_of
  no_line e = ap lines_of (none_after s start (ap (λ (g : Fault). g.found) (sym told) ∙ e))

-- ── the explanation, by the answers

-- a line for each fault that is told, asked from the start until there is none
pub explanation-asked : (s : List ℕ) (fs : List Fault) → Asked s 0 fs → explanation_of s ≡ lines_of fs
explanation-asked s fs asked = ap lines_of (sym (asked-faults s 0 fs asked))
