-- What each call answers and leaves, field by field, of any state.
use Prim.Native.Nat.{ℕ, ◌+◌, ◌-◌, ◌≤◌, min}
use native.Mathlib.Omega.{arith}
use native.Mathlib.Decide.{dec_lt, ℕ_discrete}
use native.Mathlib.Nat.{min-eq_left, min-eq_right}
use mathlib.Core.Path.{◌≡◌, refl, sym, ap, ◌∙◌}
use mathlib.Core.Logic.{◌≢◌, dite}
use mathlib.Core.List.{List}
use borrow.Author.Tests.{ne_eqb}
use lib.Dec.{eqb}
use lib.ListN.{length, take, drop, length-drop}
use lib.Seq.{take_all, length-take-le}
use Rattle.basics.specs.Bytes.{over}
use Rattle.basics.specs.Choice.{choose}
use Rattle.basics.proofs.Choice.{choose-by}
use Rattle.basics.proofs.Table.{when-none, when-refused}
use Rattle.sender.specs.declared.Settings.{Settings}
use Rattle.sender.specs.declared.Sender.{Sender}
use Rattle.sender.specs.Energy.{max_energy_of, loss_per_byte_of, gain_per_microsecond_of, energy_left}
use Rattle.sender.specs.Queue.{unsent_count, unsent, portion_size, portion}
use Rattle.sender.specs.Answer.{settings_refusal, start_of, enqueue_refusal, enqueue_of, queue_after, transmit_refusal, transmitted, transmit_of, output_after, waited, wait_of}
use Rattle.sender.specs.Calls.{State, Transmit, handed}
use Rattle.sender.proofs.Answers.{transmit-taken, transmitted-none, transmitted-some}
use Rattle.sender.proofs.Portion.{unsent-there}
use Rattle.sender.proofs.Steps.{Lent, hands, portion-length}
use Rattle.sender.proofs.Sending.{refused-nothing, refused-output}

-- ── the state

-- the settings that a sender goes by are its own
pub own-settings : (s : Sender)
    → (max_energy_of s ≡ s.settings.max_energy) × (loss_per_byte_of s ≡ s.settings.loss_per_byte) × (gain_per_microsecond_of s ≡ s.settings.gain_per_microsecond)
own-settings s = (refl, refl, refl)

-- the energy left is the state's, or the largest where that is less
pub left-exactly : (s : Sender) → (s.energy ≤ max_energy_of s → energy_left s ≡ s.energy) × (max_energy_of s ≤ s.energy → energy_left s ≡ max_energy_of s)
left-exactly s = (λ below. min-eq_left below, λ above. min-eq_right above)

-- the bytes from `sent` up to `queued` are to go, as far as they stand in the queue
pub unsent-exactly : (s : Sender) (queue : List ℕ) → length queue ≡ 772 → unsent s queue ≡ take (s.queued - s.sent) (drop s.sent queue)
unfolding unsent_count
unsent-exactly s queue lent =
    dite (dec_lt 772 s.queued)
    (λ beyond.
    let rest = drop s.sent queue in
    let long : length rest ≤ 772 - s.sent = simp length-drop (omega arith) in
    let end : min s.queued 772 ≡ 772 = min-eq_right (omega arith) in
    rw end (take_all (772 - s.sent) rest long ∙ sym (take_all (s.queued - s.sent) rest (omega arith))))
    (λ within.
    let end : min s.queued 772 ≡ s.queued = min-eq_left (omega arith) in
    rw end)

pub unsent-length : (s : Sender) (queue : List ℕ) → length queue ≡ 772 → length (unsent s queue) ≡ unsent_count s
unsent-length s queue lent =
    dite (dec_lt 0 (unsent_count s))
    (λ some. length-take-le (unsent_count s) (drop s.sent queue) (simp length-drop (omega (arith, unsent-there s some))))
    (λ none.
    let z : unsent_count s ≡ 0 = omega arith in
    rw z)

-- ── `start`

-- a sender begins full, with nothing queued
pub start-begins : (s : Settings) → (start_of s).number ≡ 0 → (start_of s).sender ≡ record { settings = s; energy = s.max_energy; queued = 0; sent = 0 }
start-begins s accepted = when-none _ _ _ accepted

-- refused, it is all zero
pub start-refused : (s : Settings) → (start_of s).number ≢ 0
    → (start_of s).sender
    ≡ record { settings = record { max_energy = 0; loss_per_byte = 0; gain_per_microsecond = 0 }; energy = 0; queued = 0; sent = 0 }
start-refused s refused = when-refused _ _ _ refused

-- ── `enqueue`

pub enqueue-leaves : (s : Sender) (bytes : List ℕ) → (enqueue_of s bytes).number ≡ 0
    → (enqueue_of s bytes).sender ≡ record { settings = s.settings; energy = s.energy; queued = length bytes; sent = 0 }
enqueue-leaves s bytes accepted = when-none _ _ _ accepted

-- the queue holds the bytes from its start, and those behind them stay
pub queue-holds : (s : Sender) (bytes queue : List ℕ) → (enqueue_of s bytes).number ≡ 0 → queue_after s bytes queue ≡ over bytes queue
queue-holds s bytes queue accepted = when-none _ _ _ accepted

-- ── `transmit`

module _ (t : State) (lent : Lent t) (out : List ℕ) where
  abbrev refusal : ℕ
  refusal = transmit_refusal t.sender (length out)

  -- the length answered is that of the bytes handed out
  pub length-handed : (transmit_of t.sender (length out)).length ≡ length (handed t (Transmit out))
  length-handed =
      dite (ℕ_discrete refusal 0)
      (λ ok.
      let taken = transmit-taken t.sender (length out) ok in
      when-none refusal (portion_size t.sender) 0 ok ∙ sym (ap length (hands t lent out taken.0 taken.1) ∙ portion-length t lent))
      (λ refused. when-refused refusal (portion_size t.sender) 0 refused ∙ sym (ap length (refused-nothing t (Transmit out) refused).1))

  -- the output holds them from its start, and the bytes behind them stay
  pub output-holds : output_after t.sender t.queue out ≡ over (handed t (Transmit out)) out
  output-holds =
      dite (ℕ_discrete refusal 0)
      (λ ok.
      let taken = transmit-taken t.sender (length out) ok in
      when-none refusal (over (portion t.sender t.queue) out) out ok ∙ ap (λ (l : List ℕ). over l out) (sym (hands t lent out taken.0 taken.1)))
      (λ refused. refused-output t.sender t.queue out refused ∙ ap (λ (l : List ℕ). over l out) (sym (refused-nothing t (Transmit out) refused).1))

-- a call that hands out nothing changes nothing; one that hands out bytes leaves what was queued, and as many more have gone
module _ (s : Sender) (room : ℕ) where
  pub transmit-none : (transmit_of s room).length ≡ 0 → (transmit_of s room).sender ≡ s
  transmit-none none =
      dite (ℕ_discrete (transmit_refusal s room) 0)
      (λ ok.
      let size = sym (when-none (transmit_refusal s room) (portion_size s) 0 ok) ∙ none in
      when-none (transmit_refusal s room) (transmitted s (portion_size s)) s ok ∙ transmitted-none s (portion_size s) size)
      (λ refused. when-refused (transmit_refusal s room) (transmitted s (portion_size s)) s refused)

  leaves : (n : ℕ) → ((transmitted s n).queued ≡ s.queued) × ((transmitted s n).sent ≡ s.sent + n)
  leaves n =
      dite (dec_lt 0 n)
      (λ some. rw (transmitted-some s n some) (refl, refl))
      (λ none.
      let z : n ≡ 0 = omega arith in
      (ap (λ (x : Sender). x.queued) (transmitted-none s n z), ap (λ (x : Sender). x.sent) (transmitted-none s n z) ∙ omega arith))

  pub transmit-leaves : ((transmit_of s room).sender.queued ≡ s.queued) × ((transmit_of s room).sender.sent ≡ s.sent + (transmit_of s room).length)
  unfolding choose
  transmit-leaves =
      dite (ℕ_discrete (transmit_refusal s room) 0)
      (λ ok. rw ok (leaves (portion_size s)))
      (λ refused. rw (ne_eqb _ _ refused) (refl, omega arith))

-- ── `wait`

pub wait-leaves : (s : Sender) (microseconds : ℕ) → ((wait_of s microseconds).sender.queued ≡ s.queued) × ((wait_of s microseconds).sender.sent ≡ s.sent)
wait-leaves s microseconds =
    choose-by (λ (after : Sender). (after.queued ≡ s.queued) × (after.sent ≡ s.sent)) (eqb (settings_refusal s.settings) 0) {x = waited s microseconds} {y = s}
    (λ _. (refl, refl)) (λ _. (refl, refl))

-- ── only `transmit` hands out bytes

no_length : (number : ℕ) → ◌≡◌ {A = ℕ} (choose (eqb number 0) 0 0) 0
no_length number = choose-by (λ (n : ℕ). n ≡ 0) (eqb number 0) {x = 0} {y = 0} (λ _. refl) (λ _. refl)

pub none-handed : (s : Sender) (bytes : List ℕ) (microseconds : ℕ)
    → ((start_of s.settings).length ≡ 0) × ((enqueue_of s bytes).length ≡ 0) × ((wait_of s microseconds).length ≡ 0)
none-handed s bytes microseconds =
    (no_length (settings_refusal s.settings), no_length (enqueue_refusal s (length bytes)), no_length (settings_refusal s.settings))
