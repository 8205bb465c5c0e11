-- Laws of how many entries there are, and of what one entry changes in that.
use Rattle.std.proofs.Common.{◌≡◌, ℕ, zero, suc, ◌+◌, ◌<◌, ◌≤◌, Bool, true, false, not, ◌&&◌, List, [], ◌∷◌, length, get_or, set, refl, le_of_suc-le-suc, not-suc-le-zero, arith}
use mathlib.Core.Bool.{beq}
use Rattle.basics.specs.Choice.{choose}
use Rattle.slave_plans.specs.Table.{none, is_free, belongs_to, count}
use Rattle.slave_plans.specs.declared.Slave.{Slave}
use Rattle.slave_plans.proofs.Indices.{Nowhere}

-- an entry counts for one or for nothing
abbrev pub one : Bool → ℕ
one test = choose test 1 0

one-most : (test : Bool) → one test ≤ 1
unfolding choose
one-most true = omega arith
one-most false = omega arith

one_less : (new old : Bool) → (new ≡ true → old ≡ true) → one new ≤ one old
unfolding choose
one_less true old implies = rw (implies refl) (omega arith)
one_less false old implies = omega arith

module _ (test : Slave → Bool) where
  -- another entry in place of one counts for itself, and that one no more
  pub count_set : (t : List Slave) (i : ℕ) (e : Slave) → i < length t → count test (set t i e) + one (test (get_or t i none)) ≡ count test t + one (test e)
  unfolding count
  count_set [] i e inside = absurd (not-suc-le-zero inside)
  count_set (x ∷ t) zero e inside = omega arith
  count_set (x ∷ t) (suc i) e inside = omega (arith, count_set t i e (le_of_suc-le-suc inside))

  -- so it makes one more at most
  pub count-more : (t : List Slave) (i : ℕ) (e : Slave) → i < length t → count test (set t i e) ≤ suc (count test t)
  count-more t i e inside = omega (arith, count_set t i e inside, one-most (test e))

  -- and none more if it doesn't pass, or the old one did
  pub count_kept : (t : List Slave) (i : ℕ) (e : Slave) → i < length t → (test e ≡ true → test (get_or t i none) ≡ true) → count test (set t i e) ≤ count test t
  count_kept t i e inside implies = omega (arith, count_set t i e inside, one_less (test e) (test (get_or t i none)) implies)

  pub count_most : (t : List Slave) → count test t ≤ length t
  unfolding count
  count_most [] = omega arith
  count_most (e ∷ t) = omega (arith, one-most (test e), count_most t)

  pub count-nowhere : (t : List Slave) → Nowhere test t → count test t ≡ 0
  unfolding count choose
  count-nowhere [] n = refl
  count-nowhere (e ∷ t) n = rw (n 0 (omega arith)) (omega (arith, count-nowhere t (λ k inside. n (suc k) (omega (arith, inside)))))

-- every entry is free, or one of the two owners'
pub count-all : (t : List Slave) → count is_free t + count (belongs_to false) t + count (belongs_to true) t ≡ length t
unfolding count belongs_to choose
count-all [] = refl
count-all (e ∷ t) = omega (arith, count-all t, each (is_free e) e.owner)
  where
    each : (free owner : Bool) → one free + one (not free && beq owner false) + one (not free && beq owner true) ≡ 1
    each true owner = refl
    each false true = refl
    each false false = refl
