-- When each call is refused, and when it isn't: request No. 10's 19, 20 and 25, and document 01's 5.
use Prim.Native.Nat.{ℕ, ◌<◌, ◌≤◌}
use native.Mathlib.Omega.{arith}
use native.Mathlib.Decide.{dec_lt, ℕ_discrete}
use mathlib.Core.Path.{◌≡◌, refl, sym, ◌∙◌}
use mathlib.Core.Logic.{◌↔◌, ◌⊎◌, inl, inr, dite}
use mathlib.Core.Bool.{Bool, true, false, not, or-true, true≢false}
use mathlib.Core.List.{List, [], ◌∷◌}
use lib.Dec.{eqb, ltb}
use lib.ListN.{length}
use borrow.Author.Tests.{ltb-true, ltb-false, lt-ltb, le-ltb, eq-eqb, ne_eqb}
use Rattle.basics.specs.Choice.{choose}
use Rattle.basics.proofs.Table.{AskedLast, asked-last}
use Rattle.sender.specs.declared.Settings.{Settings}
use Rattle.sender.specs.declared.Sender.{Sender}
use Rattle.sender.specs.Energy.{settings_refused}
use Rattle.sender.specs.Queue.{is_idle, portion_size}
use Rattle.sender.specs.Answer.{settings_refusal, start_of, enqueue_refusal, enqueue_of, transmit_refusal, transmit_of, wait_of}
use Rattle.sender.proofs.Keeping.{Keeps}

-- settings that can be used: energy keeping is off, or energy can be kept by them; and those that can't
abbrev pub Usable : Settings → Type 0
Usable s = 0 < s.max_energy → Keeps s

abbrev pub Unusable : Settings → Type 0
Unusable s = (0 < s.max_energy) × ((s.loss_per_byte ≡ 0) ⊎ (s.gain_per_microsecond ≡ 0) ⊎ (s.max_energy < s.loss_per_byte))

below-exactly : (a b : ℕ) → ((ltb a b ≡ true) ↔ (a < b)) × ((ltb a b ≡ false) ↔ (b ≤ a))
below-exactly a b = ((ltb-true a b, lt-ltb a b), (ltb-false a b, le-ltb a b))

not-exactly : (test : Bool) → ((not test ≡ true) ↔ (test ≡ false)) × ((not test ≡ false) ↔ (test ≡ true))
not-exactly true = ((λ e. sym e, λ e. sym e), (λ _. refl, λ _. refl))
not-exactly false = ((λ _. refl, λ _. refl), (λ e. sym e, λ e. sym e))

-- a test that decides between two
decided : {A B : Type 0} (test : Bool) → A ⊎ B → (A → test ≡ true) → (B → test ≡ false) → ((test ≡ true) ↔ A) × ((test ≡ false) ↔ B)
decided test (inl a) f g = ((λ _. a, f), (λ e. absurd (true≢false (sym (f a) ∙ e)), g))
decided test (inr b) f g = ((λ e. absurd (true≢false (sym e ∙ g b)), f), (λ _. b, g))

module _ (s : Settings) where
  either : Unusable s ⊎ Usable s
  either =
      dite (dec_lt 0 s.max_energy)
      (λ on. dite (ℕ_discrete s.loss_per_byte 0) (λ z. inl (on, inl z))
      (λ loses. dite (ℕ_discrete s.gain_per_microsecond 0) (λ z. inl (on, inr (inl z)))
      (λ gains. dite (dec_lt s.max_energy s.loss_per_byte) (λ above. inl (on, inr (inr above)))
      (λ pays. inr (λ _. record { loses = omega arith; gains = omega arith; pays = omega arith })))))
      (λ off. inr (λ on. absurd (omega arith)))

  refused-by : Unusable s → settings_refused s ≡ true
  unfolding settings_refused
  refused-by (on, inl z) = simp (ne_eqb s.max_energy 0 (λ z. omega arith), eq-eqb _ _ z)
  refused-by (on, inr (inl z)) = simp (ne_eqb s.max_energy 0 (λ z. omega arith), eq-eqb _ _ z) (or-true (eqb s.loss_per_byte 0))
  refused-by (on, inr (inr above)) =
      simp (ne_eqb s.max_energy 0 (λ z. omega arith), lt-ltb _ _ above, or-true (eqb s.gain_per_microsecond 0))
      (or-true (eqb s.loss_per_byte 0))

  accepted-by : Usable s → settings_refused s ≡ false
  unfolding settings_refused
  accepted-by keeps =
      dite (dec_lt 0 s.max_energy)
      (λ on.
      let k = keeps on in
      simp (ne_eqb s.max_energy 0 (λ z. omega arith), ne_eqb s.loss_per_byte 0 (λ z. omega (arith, k.loses)), ne_eqb s.gain_per_microsecond 0 (λ z. omega (arith, k.gains)), le-ltb _ _ k.pays))
      (λ off. simp (eq-eqb s.max_energy 0 (omega arith)))

  usable-exactly : ((settings_refused s ≡ true) ↔ Unusable s) × ((settings_refused s ≡ false) ↔ Usable s)
  usable-exactly = decided (settings_refused s) either refused-by accepted-by

  -- "Otherwise loss or gain of 0, or loss above the largest, is refused as 19"
  pub settings-exactly : AskedLast 0 (start_of s).number 19 (Unusable s) (Usable s)
  unfolding settings_refusal
  settings-exactly = asked-last 19 (omega arith) [] tt (settings_refused s) (λ _. usable-exactly)

-- The settings come back with the state: what is refused when a sender begins, every call refuses.
module _ (s : Sender) where
  pub wait-exactly : (microseconds : ℕ) → (wait_of s microseconds).number ≡ (start_of s.settings).number
  wait-exactly microseconds = refl

  -- "5 if the output can't take them"
  pub transmit-exactly : (room : ℕ)
      → AskedLast (start_of s.settings).number (transmit_of s room).number 5 (room < portion_size s) (portion_size s ≤ room)
  unfolding settings_refusal transmit_refusal
  transmit-exactly room =
      asked-last 5 (omega arith) ((settings_refused s.settings, 19) ∷ []) (omega arith, tt) (ltb room (portion_size s)) (λ _. below-exactly room (portion_size s))

  -- "Queueing while not idle is refused as 20": of no bytes here, and by the next law of any,
  pub busy-exactly : AskedLast (start_of s.settings).number (enqueue_of s []).number 20 (is_idle s ≡ false) (is_idle s ≡ true)
  unfolding settings_refusal enqueue_refusal choose
  busy-exactly =
      asked-last 20 (omega arith) ((settings_refused s.settings, 19) ∷ []) (omega arith, tt) (not (is_idle s)) (λ _. not-exactly (is_idle s))

  -- "then more than 772 bytes as 25"
  pub long-exactly : (bytes : List ℕ)
      → AskedLast (enqueue_of s []).number (enqueue_of s bytes).number 25 (772 < length bytes) (length bytes ≤ 772)
  unfolding enqueue_refusal choose
  long-exactly bytes =
      asked-last 25 (omega arith) ((settings_refused s.settings, 19) ∷ (not (is_idle s), 20) ∷ []) (omega arith, (omega arith, tt)) (ltb 772 (length bytes)) (λ _. below-exactly 772 (length bytes))
