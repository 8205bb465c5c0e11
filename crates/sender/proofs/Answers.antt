-- Laws of what a sender's calls answer, by the tests that led there.
use Prim.Native.Nat.{ℕ, ◌+◌, ◌<◌, ◌≤◌}
use native.Mathlib.Omega.{arith}
use mathlib.Core.Path.{◌≡◌}
use mathlib.Core.Bool.{true, false}
use borrow.Author.Tests.{ltb-false, not-false, lt-ltb, le-ltb, eq-eqb, ne_eqb}
use Rattle.basics.specs.Choice.{choose}
use Rattle.basics.proofs.Table.{line-passed}
use Rattle.sender.specs.declared.Settings.{Settings}
use Rattle.sender.specs.declared.Sender.{Sender}
use Rattle.sender.specs.Energy.{settings_refused, energy_after_portion}
use Rattle.sender.specs.Queue.{is_idle, portion_size}
use Rattle.sender.specs.Answer.{settings_refusal, enqueue_refusal, transmit_refusal, transmitted}

module _ (s : Settings) where
  pub settings-19 : settings_refused s ≡ true → settings_refusal s ≡ 19
  unfolding settings_refusal choose
  settings-19 e = simp e

  pub settings-accepted : settings_refused s ≡ false → settings_refusal s ≡ 0
  unfolding settings_refusal choose
  settings-accepted e = simp e

module _ (s : Sender) (n : ℕ) where
  pub enqueue-19 : settings_refused s.settings ≡ true → enqueue_refusal s n ≡ 19
  unfolding enqueue_refusal choose
  enqueue-19 e = simp e

  pub enqueue-20 : settings_refused s.settings ≡ false → is_idle s ≡ false → enqueue_refusal s n ≡ 20
  unfolding enqueue_refusal choose
  enqueue-20 e i = simp (e, i)

  pub enqueue-accepted : settings_refused s.settings ≡ false → is_idle s ≡ true → n ≤ 772 → enqueue_refusal s n ≡ 0
  unfolding enqueue_refusal choose
  enqueue-accepted e i h = simp (e, i, le-ltb 772 n h)

  pub enqueue-25 : settings_refused s.settings ≡ false → is_idle s ≡ true → 772 < n → enqueue_refusal s n ≡ 25
  unfolding enqueue_refusal choose
  enqueue-25 e i h = simp (e, i, lt-ltb 772 n h)

  -- what a number of 0 says
  pub enqueue-taken : enqueue_refusal s n ≡ 0 → (settings_refused s.settings ≡ false) × (is_idle s ≡ true) × (n ≤ 772)
  unfolding enqueue_refusal
  enqueue-taken e =
      let a = line-passed _ _ _ (omega arith) e in
      let b = line-passed _ _ _ (omega arith) a.1 in
      let c = line-passed _ _ _ (omega arith) b.1 in
      (a.0, not-false _ b.0, ltb-false 772 n c.0)

  pub transmit-19 : settings_refused s.settings ≡ true → transmit_refusal s n ≡ 19
  unfolding transmit_refusal choose
  transmit-19 e = simp e

  pub transmit-5 : settings_refused s.settings ≡ false → n < portion_size s → transmit_refusal s n ≡ 5
  unfolding transmit_refusal choose
  transmit-5 e h = simp (e, lt-ltb _ _ h)

  pub transmit-accepted : settings_refused s.settings ≡ false → portion_size s ≤ n → transmit_refusal s n ≡ 0
  unfolding transmit_refusal choose
  transmit-accepted e h = simp (e, le-ltb _ _ h)

  pub transmit-taken : transmit_refusal s n ≡ 0 → (settings_refused s.settings ≡ false) × (portion_size s ≤ n)
  unfolding transmit_refusal
  transmit-taken e =
      let a = line-passed _ _ _ (omega arith) e in
      (a.0, ltb-false n (portion_size s) (line-passed _ _ _ (omega arith) a.1).0)

  -- a portion of no bytes changes nothing
  pub transmitted-none : n ≡ 0 → transmitted s n ≡ s
  unfolding transmitted choose
  transmitted-none e = simp (eq-eqb n 0 e)

  pub transmitted-some : 0 < n
      → transmitted s n ≡ record { settings = s.settings; energy = energy_after_portion s.settings n; queued = s.queued; sent = s.sent + n }
  unfolding transmitted choose
  transmitted-some some = simp (ne_eqb n 0 (λ z. omega arith))
