-- Request No. 10: a sender "waits until full"; the energy left; "none early". Of any calls, from any state of a sender.
use Prim.Native.Nat.{ℕ, ◌+◌, ◌-◌, ◌*◌, ◌<◌, ◌≤◌, min}
use native.Mathlib.Omega.{arith}
use native.Mathlib.Decide.{dec_lt, ℕ_discrete}
use native.Mathlib.Nat.{min-eq_left, min-eq_right, min-le_left, min-le_right, add-mul, mul-le-mul_right}
use mathlib.Core.Path.{◌≡◌, refl, sym, ap, ◌∙◌}
use mathlib.Core.Bool.{true, false}
use mathlib.Core.List.{List, [], ◌∷◌}
use mathlib.Core.Logic.{◌↔◌, dite}
use lib.Dec.{eqb}
use lib.ListN.{length}
use borrow.Author.Tests.{lt-ltb, le-ltb, eq-eqb, ne_eqb, ltb-true}
use Rattle.basics.specs.Choice.{choose}
use Rattle.sender.specs.declared.Settings.{Settings}
use Rattle.sender.specs.declared.Sender.{Sender}
use Rattle.sender.specs.Energy.{max_energy_of, loss_per_byte_of, gain_per_microsecond_of, settings_refused, is_waiting, energy_left}
use Rattle.sender.specs.Calls.{State, Call, Transmit, after, after_all, handed, portions, time_of, all_time}
use Rattle.sender.proofs.Keeping.{keeps-by}
use Rattle.sender.proofs.Portion.{none-waiting, paid}
use Rattle.sender.proofs.Steps.{Lent, Step, keeps, queues, sends, waits, step, portion-length}
use Rattle.sender.proofs.Effects.{step-lent, step-settings, step-waiting, step-below, step-energy}

-- No call hands out a byte while the sender waits.
pub none-while-waiting : (t : State) → Lent t → is_waiting t.sender ≡ true → (call : Call) → handed t call ≡ []
none-while-waiting t lent waiting call = step-waiting t lent (ltb-true _ _ waiting) (step t lent call)

-- With largest 0 it never waits, and has no energy left.
pub off-never-waits : (s : Sender) → max_energy_of s ≡ 0 → (is_waiting s ≡ false) × (energy_left s ≡ 0)
off-never-waits s off = (le-ltb s.energy (max_energy_of s) (omega arith), rw off (min-eq_right {n = 0} {m = s.energy} (omega arith)))

pub settings-stay : (t : State) → Lent t → (calls : List Call) → (after_all t calls).sender.settings ≡ t.sender.settings
unfolding after_all
settings-stay t lent [] = refl
settings-stay t lent (call ∷ calls) =
    let d = step t lent call in
    settings-stay (after t call) (step-lent t lent d) calls ∙ step-settings t lent d

pub lent-stays : (t : State) → Lent t → (calls : List Call) → Lent (after_all t calls)
unfolding after_all
lent-stays t lent [] = lent
lent-stays t lent (call ∷ calls) = lent-stays (after t call) (step-lent t lent (step t lent call)) calls

-- The energy never comes to be above the largest.
pub never-above : (t : State) → Lent t → t.sender.energy ≤ max_energy_of t.sender → (calls : List Call)
    → (after_all t calls).sender.energy ≤ max_energy_of (after_all t calls).sender
unfolding after_all
never-above t lent below [] = below
never-above t lent below (call ∷ calls) =
    let d = step t lent call in
    never-above (after t call) (step-lent t lent d) (step-below t lent below d) calls

capped : (a b m : ℕ) → min (min a m + b) m ≡ min (a + b) m
capped a b m =
    dite (dec_lt a m)
    (λ less. rw (min-eq_left {n = a} {m = m} (omega arith)))
    (λ more. rw (min-eq_right {n = m} {m = a} (omega arith)) (min-eq_right {n = m} {m = m + b} (omega arith) ∙ sym (min-eq_right {n = m} {m = a + b} (omega arith))))

no-portion : (n m : ℕ) → choose (eqb n 0) 0 1 + m ≡ 0 → (n ≡ 0) × (m ≡ 0)
unfolding choose
no-portion n m e =
    dite (ℕ_discrete n 0) (λ z. (z, omega (arith, simp (eq-eqb n 0 z) at e))) (λ p. absurd (omega (arith, simp (ne_eqb n 0 p) at e)))

empty : (l : List ℕ) → length l ≡ 0 → l ≡ []
empty [] e = refl
empty (x ∷ xs) e = absurd (omega arith)

-- Until the next portion: the energy, plus the time that is told times the gain, at most the largest.
pub energy-since : (t : State) → Lent t → settings_refused t.sender.settings ≡ false → t.sender.energy ≤ max_energy_of t.sender
    → (calls : List Call) → portions t calls ≡ 0
    → (after_all t calls).sender.energy ≡ min (t.sender.energy + all_time calls * gain_per_microsecond_of t.sender) (max_energy_of t.sender)
unfolding after_all portions
energy-since t lent ok below [] none =
    omega (arith, min-eq_left {n = t.sender.energy + 0 * gain_per_microsecond_of t.sender} {m = max_energy_of t.sender} (omega arith))
energy-since t lent ok below (call ∷ calls) none =
    let d = step t lent call in
    let same = step-settings t lent d in
    let split = no-portion (length (handed t call)) (portions (after t call) calls) none in
    let gain = gain_per_microsecond_of t.sender in
    let max = max_energy_of t.sender in
    let later = rw (max_energy_of, gain_per_microsecond_of, same) at (energy-since (after t call) (step-lent t lent d) (ap settings_refused same ∙ ok) (step-below t lent below d) calls split.1) in
    later
    ∙ ap (λ (n : ℕ). min (n + all_time calls * gain) max) (step-energy t lent below ok (empty (handed t call) split.0) d)
    ∙ capped (t.sender.energy + time_of call * gain) (all_time calls * gain) max
    ∙ ap (λ (n : ℕ). min n max) (omega (arith, add-mul (time_of call) (all_time calls) gain))

-- a portion went: the sender was full, and this is what it has left
record Went (t t' : State) (gone : List ℕ) : Type 0 where
  pub ok : settings_refused t.sender.settings ≡ false
  pub full : max_energy_of t.sender ≤ t.sender.energy
  pub costs : 0 < max_energy_of t.sender → length gone * loss_per_byte_of t.sender ≤ max_energy_of t.sender
  pub leaves : t'.sender.energy ≡ max_energy_of t.sender - length gone * loss_per_byte_of t.sender

went : (t : State) → Lent t → {t' : State} {gone come : List ℕ} {time : ℕ} → Step t t' gone come time → 0 < length gone → Went t t' gone
went t lent (keeps n k) some = absurd (omega arith)
went t lent (queues bytes idle fits) some = absurd (omega arith)
went t lent (sends ok size) some =
    let s = t.sender in
    record {
      ok = ok;
      full = dite (dec_lt s.energy (max_energy_of s)) (λ w. absurd (omega (arith, none-waiting s w))) (λ f. omega arith);
      costs = λ on. rw (portion-length t lent) (paid s on);
      leaves = rw (portion-length t lent);
    }
went t lent (waits n) some = absurd (omega arith)

-- Once a portion has gone, the last one too.
module _ (t : State) (lent : Lent t) (out : List ℕ) (some : 0 < length (handed t (Transmit out))) where
  abbrev lost : ℕ
  lost = length (handed t (Transmit out)) * loss_per_byte_of t.sender

  d : Step t (after t (Transmit out)) (handed t (Transmit out)) [] 0
  d = step t lent (Transmit out)

  w : Went t (after t (Transmit out)) (handed t (Transmit out))
  w = went t lent d some

  -- It waits, unless energy keeping is off.
  pub waits-after : 0 < max_energy_of t.sender → is_waiting (after t (Transmit out)).sender ≡ true
  waits-after on =
      let loses = (keeps-by t.sender.settings w.ok on).loses in
      let cost = mul-le-mul_right {m = 1} {n = length (handed t (Transmit out))} (loss_per_byte_of t.sender) some in
      let same : max_energy_of (after t (Transmit out)).sender ≡ max_energy_of t.sender = ap (λ (s : Settings). s.max_energy) (step-settings t lent d) in
      lt-ltb (after t (Transmit out)).sender.energy (max_energy_of (after t (Transmit out)).sender) (omega (arith, same, w.leaves, loses, cost))

  -- Any calls behind it, none of which hands out the next portion.
  module _ (calls : List Call) (none : portions (after t (Transmit out)) calls ≡ 0) where
    abbrev later : State
    later = after_all (after t (Transmit out)) calls

    stay : later.sender.settings ≡ t.sender.settings
    stay = settings-stay (after t (Transmit out)) (step-lent t lent d) calls ∙ step-settings t lent d

    regained : later.sender.energy ≡ min (max_energy_of t.sender - lost + all_time calls * gain_per_microsecond_of t.sender) (max_energy_of t.sender)
    regained =
        let same = step-settings t lent d in
        energy-since (after t (Transmit out)) (step-lent t lent d) (ap settings_refused same ∙ w.ok) (rw (max_energy_of, same) (omega (arith, w.leaves))) calls none
        ∙ rw (max_energy_of, gain_per_microsecond_of, same, w.leaves)

    -- "The energy left is .. the largest, less the current portion's losses, plus its waiting time times gain, at most the largest"
    pub energy-after-portion : energy_left later.sender
        ≡ min (max_energy_of t.sender - lost + all_time calls * gain_per_microsecond_of t.sender) (max_energy_of t.sender)
    energy-after-portion = rw (max_energy_of, stay) (min-eq_left (rw regained (min-le_right _ _)) ∙ regained)

    module _ (on : 0 < max_energy_of t.sender) where
      -- "then waits until full": exactly until the time makes good what the portion has lost
      pub waits-until : (is_waiting later.sender ≡ true) ↔ (all_time calls * gain_per_microsecond_of t.sender < lost)
      waits-until =
          let gained = all_time calls * gain_per_microsecond_of t.sender in
          let max = max_energy_of t.sender in
          let same : max_energy_of later.sender ≡ max = ap (λ (s : Settings). s.max_energy) stay in (
            λ waiting.
                let less = ltb-true later.sender.energy (max_energy_of later.sender) waiting in
                dite (dec_lt gained lost) (λ l. l) (λ enough. absurd (omega (arith, less, same, regained, min-eq_right {n = max} {m = max - lost + gained} (omega (arith, w.costs on))))),
            λ less. lt-ltb later.sender.energy (max_energy_of later.sender) (omega (arith, same, regained, min-le_left (max - lost + gained) max, w.costs on)),
          )

      -- "none early": before the next portion goes, the time that was told has made good what this one has lost.
      pub none-early : (next : List ℕ) → 0 < length (handed later (Transmit next)) → lost ≤ all_time calls * gain_per_microsecond_of t.sender
      none-early next more =
          dite (dec_lt (all_time calls * gain_per_microsecond_of t.sender) lost)
          (λ less.
          let lent' = lent-stays (after t (Transmit out)) (step-lent t lent d) calls in
          absurd (omega (arith, more, ap length (none-while-waiting later lent' (waits-until.1 less) (Transmit next)))))
          (λ enough. omega arith)
