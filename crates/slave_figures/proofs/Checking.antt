-- The check of a table brought in says exactly whether its figures are true.
use Rattle.std.proofs.Common.{◌≡◌, true, false, eqb, ne_eqb, ◌≢◌, ◌↔◌, List, length, sym, ap, eq-eqb, eqb-true}
use mathlib.Core.Bool.{and-eq-true_iff}
use Rattle.basics.specs.Choice.{choose}
use Rattle.slave_plans.specs.declared.Slave.{Slave}
use Rattle.slave_figures.specs.Keeping.{figures_of, same_figures, check_by, check_of}
use Rattle.slave_figures.specs.declared.Figures.{Figures}

same-exactly : (f g : Figures) → (same_figures f g ≡ true) ↔ (f ≡ g)
same-exactly f g = (
  λ e.
      let one = (and-eq-true_iff (eqb f.no g.no) _).0 e in
      let two = (and-eq-true_iff (eqb f.yes g.yes) _).0 one.1 in
      λ i. record { no = eqb-true f.no g.no one.0 i; yes = eqb-true f.yes g.yes two.0 i; lowest = eqb-true f.lowest g.lowest two.1 i },
  λ e. rw (eq-eqb _ _ (ap (λ (x : Figures). x.no) e), eq-eqb _ _ (ap (λ (x : Figures). x.yes) e), eq-eqb _ _ (ap (λ (x : Figures). x.lowest) e)),
)

module _ (figures : Figures) (t : List Slave) where
  -- "Any other length is refused first, as 24"
  pub check-length : length t ≢ 32 → check_of figures t ≡ record { number = 24; right = false }
  unfolding check_by choose
  check-length wrong = rw (ne_eqb _ _ wrong)

  -- and nothing else is
  pub check-given : length t ≡ 32 → (check_of figures t).number ≡ 0
  unfolding check_by choose
  check-given size = rw (eq-eqb _ _ size)

  -- "a check that says whether a table brought in has true figures"
  pub check-exactly : ((check_of figures t).right ≡ true) ↔ ((length t ≡ 32) × (figures ≡ figures_of t))
  unfolding check_by
  check-exactly = (
    λ e. let both = (and-eq-true_iff (eqb (length t) 32) _).0 e in (eqb-true _ _ both.0, sym ((same-exactly (figures_of t) figures).0 both.1)),
    λ (size, is). rw (eq-eqb _ _ size) ((same-exactly (figures_of t) figures).1 (sym is)),
  )
