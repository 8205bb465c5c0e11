-- Request No. 10: what one call does, in the request's own words; and that bytes queued come to be sent.
use Prim.Native.Nat.{ℕ, zero, suc, ◌*◌, ◌/◌, ◌<◌, ◌≤◌}
use native.Mathlib.Omega.{arith}
use native.Mathlib.Decide.{dec_lt}
use native.Mathlib.Nat.{min-eq_left, min-eq_right, lt-div-mul-add, suc-mul}
use mathlib.Core.Path.{◌≡◌, refl, sym, ap, ap₂, subst, ◌∙◌}
use mathlib.Core.Bool.{true, false}
use mathlib.Core.List.{List, [], ◌∷◌}
use mathlib.Core.Logic.{◌≢◌, ◌⊎◌, inl, inr, dite}
use lib.Dec.{eqb}
use lib.ListN.{length, take, drop}
use lib.Seq.{take-take}
use borrow.Author.Tests.{ltb-false, eq-eqb, ne_eqb}
use Rattle.basics.specs.Choice.{choose}
use Rattle.basics.proofs.Choice.{choose-by}
use Rattle.basics.proofs.Table.{when-refused}
use Rattle.sender.specs.declared.Settings.{Settings}
use Rattle.sender.specs.declared.Sender.{Sender}
use Rattle.sender.specs.Energy.{max_energy_of, loss_per_byte_of, gain_per_microsecond_of, settings_refused, is_waiting}
use Rattle.sender.specs.Queue.{unsent_count, unsent, is_idle, portion_size, portion}
use Rattle.sender.specs.Answer.{settings_refusal, enqueued, enqueue_of, transmit_of, output_after, waited, wait_of}
use Rattle.sender.specs.Calls.{State, Call, Enqueue, Transmit, Wait, after, after_all, number_of, handed, all_handed, all_queued, portions_for}
use Rattle.sender.proofs.Answers.{settings-accepted, transmit-taken, enqueue-taken, transmitted-none, transmitted-some}
use Rattle.sender.proofs.Keeping.{keeps-by, regained-full, regained-all}
use Rattle.sender.proofs.Portion.{all-off, some-full, none_left, paid, size-within, unsent-within}
use Rattle.sender.proofs.Portions.{none-for-none, some-for-some}
use Rattle.sender.proofs.Steps.{Lent, step, hands, portion-length}
use Rattle.sender.proofs.Effects.{idle-exactly, queued-count, sent-count, step-lent, step-settings, step-counted}
use Rattle.sender.proofs.Once.{whole-once}

-- ── a portion

-- as many of the bytes to go as the energy allows: the first of them, "in order"; they are paid for; and all, or one more wouldn't be
pub record Allowed (t : State) (gone : List ℕ) : Type 0 where
  pub first-ones : gone ≡ take (length gone) (unsent t.sender t.queue)
  pub paid_for : 0 < max_energy_of t.sender → length gone * loss_per_byte_of t.sender ≤ max_energy_of t.sender
  pub no_more : (gone ≡ unsent t.sender t.queue) ⊎ ((0 < max_energy_of t.sender) × (max_energy_of t.sender < suc (length gone) * loss_per_byte_of t.sender))

-- a call that isn't refused, made of a full sender
module _ (t : State) (lent : Lent t) (full : is_waiting t.sender ≡ false) (out : List ℕ) (accepted : (transmit_of t.sender (length out)).number ≡ 0) where
  abbrev s : Sender
  s = t.sender

  ok : settings_refused s.settings ≡ false
  ok = (transmit-taken s (length out) accepted).0

  filled : max_energy_of s ≤ s.energy
  filled = ltb-false s.energy (max_energy_of s) full

  gone : handed t (Transmit out) ≡ portion s t.queue
  gone = hands t lent out ok (transmit-taken s (length out) accepted).1

  size : length (handed t (Transmit out)) ≡ portion_size s
  size = ap length gone ∙ portion-length t lent

  -- all go, or one more byte would cost too much
  no-more-paid : (portion_size s ≡ unsent_count s) ⊎ ((0 < max_energy_of s) × (max_energy_of s < suc (portion_size s) * loss_per_byte_of s))
  no-more-paid =
      let k = max_energy_of s / loss_per_byte_of s in
      dite (dec_lt 0 (max_energy_of s))
      (λ on. dite (dec_lt k (unsent_count s))
      (λ more.
      let e : portion_size s ≡ k = some-full s on filled ∙ min-eq_right {n = k} {m = unsent_count s} (omega arith) in
      inr (on, rw e (omega (arith, lt-div-mul-add {a = max_energy_of s} {b = loss_per_byte_of s} (keeps-by s.settings ok on).loses, suc-mul k (loss_per_byte_of s)))))
      (λ all. inl (some-full s on filled ∙ min-eq_left {n = unsent_count s} {m = k} (omega arith))))
      (λ off. inl (all-off s (omega arith)))

  -- "A full sender hands out as many bytes as its energy allows, in order"
  pub full-portion : Allowed t (handed t (Transmit out))
  full-portion = subst (Allowed t) (sym gone) (record {
    first-ones = sym (rw (portion-length t lent) (take-take (portion_size s) (unsent_count s) (drop s.sent t.queue) (size-within s)));
    paid_for = λ on. rw (portion-length t lent) (paid s on);
    no_more = rest no-more-paid;
  })
    where
      rest : (portion_size s ≡ unsent_count s) ⊎ ((0 < max_energy_of s) × (max_energy_of s < suc (portion_size s) * loss_per_byte_of s))
          → (portion s t.queue ≡ unsent s t.queue) ⊎ ((0 < max_energy_of s) × (max_energy_of s < suc (length (portion s t.queue)) * loss_per_byte_of s))
      rest (inl all) = inl (ap (λ (n : ℕ). take n (drop s.sent t.queue)) all)
      rest (inr more) = inr (rw (portion-length t lent) more)

  -- "and then goes on or is idle"
  pub goes_on : (0 < length (handed t (Transmit out))) ⊎ (is_idle t.sender ≡ true)
  goes_on =
      dite (dec_lt 0 (portion_size s))
      (λ some. inl (omega (arith, size)))
      (λ none. inr ((idle-exactly s).1 (filled, none_left s ok filled (omega arith))))

  -- "Largest 0 switches it off and all waiting bytes go at once"
  pub all-at-once : max_energy_of t.sender ≡ 0
      → (handed t (Transmit out) ≡ unsent t.sender t.queue) × (is_idle (after t (Transmit out)).sender ≡ true)
  unfolding choose
  all-at-once off =
      let all = all-off s off in (
        gone ∙ ap (λ (n : ℕ). take n (drop s.sent t.queue)) all,
        rw accepted (dite (dec_lt 0 (portion_size s))
            (λ some. rw (transmitted-some s (portion_size s) some) ((idle-exactly _).1 (omega arith, sent-count s _ (portion_size s) ∙ omega arith)))
            (λ none.
            let z : portion_size s ≡ 0 = omega arith in
            rw (transmitted-none s (portion_size s) z) ((idle-exactly s).1 (filled, omega arith)))),
      )

-- ── time and refusals

-- "the microseconds handed over while it waits count, others don't"
pub full-time : (s : Sender) → is_waiting s ≡ false → (microseconds : ℕ) → (wait_of s microseconds).sender ≡ s
full-time s full microseconds =
    choose-by (λ (x : Sender). x ≡ s) (eqb (settings_refusal s.settings) 0) {x = waited s microseconds} {y = s}
    (λ _. ap (λ (n : ℕ). record { settings = s.settings; energy = n; queued = s.queued; sent = s.sent }) (regained-full s microseconds (ltb-false s.energy (max_energy_of s) full)))
    (λ _. refl)

-- "queueing no bytes leaves it idle"
pub none-queued : (s : Sender) → (enqueue_of s []).number ≡ 0 → is_idle (enqueue_of s []).sender ≡ true
unfolding choose unsent_count
none-queued s accepted = rw accepted ((idle-exactly (enqueued s 0)).1 (((idle-exactly s).0 (enqueue-taken s 0 accepted).1).0, refl))

-- a refused call changes nothing, and hands out nothing
pub refused-nothing : (t : State) (call : Call) → number_of t call ≢ 0 → (after t call ≡ t) × (handed t call ≡ [])
refused-nothing t (Enqueue bytes) refused =
    (ap₂ (λ (s : Sender) (queue : List ℕ). record { sender = s; queue = queue }) (when-refused _ _ _ refused) (when-refused _ _ _ refused), refl)
refused-nothing t (Transmit out) refused =
    (ap (λ (s : Sender). record { sender = s; queue = t.queue }) (when-refused _ _ _ refused), ap (λ (n : ℕ). take n (output_after t.sender t.queue out)) (when-refused _ _ _ refused))
refused-nothing t (Wait microseconds) refused =
    (ap (λ (s : Sender). record { sender = s; queue = t.queue }) (when-refused _ _ _ refused), refl)

pub refused-output : (s : Sender) (queue out : List ℕ) → (transmit_of s (length out)).number ≢ 0 → output_after s queue out ≡ out
refused-output s queue out refused = when-refused _ _ _ refused

-- ── to the end

-- a portion, and then time, again and again
abbrev pub rounds : ℕ → List ℕ → ℕ → List Call
rounds zero out time = []
rounds (suc n) out time = Transmit out ∷ Wait time ∷ rounds n out time

-- full after enough time
filled-by : (t : State) (time : ℕ) → settings_refused t.sender.settings ≡ false → max_energy_of t.sender ≤ time * gain_per_microsecond_of t.sender
    → max_energy_of t.sender ≤ (after t (Wait time)).sender.energy
unfolding choose
filled-by t time ok enough =
    let s = t.sender in
    rw (settings-accepted s.settings ok)
    (dite (dec_lt s.energy (max_energy_of s))
    (λ waits. omega (arith, regained-all s time waits (omega arith)))
    (λ full. omega (arith, regained-full s time (omega arith))))

-- a full sender's portion leaves one portion less to go
fewer : (t : State) (lent : Lent t) (out : List ℕ) → 772 ≤ length out → settings_refused t.sender.settings ≡ false
    → max_energy_of t.sender ≤ t.sender.energy → (n : ℕ) → portions_for t.sender.settings (unsent_count t.sender) ≤ suc n
    → portions_for t.sender.settings (unsent_count (after t (Transmit out)).sender) ≤ n
unfolding choose
fewer t lent out room ok full n few =
    let s = t.sender in
    let d = step-counted t lent (step t lent (Transmit out)) in
    let h = hands t lent out ok (omega (arith, size-within s, unsent-within s)) in
    let size = ap length h ∙ portion-length t lent in
    dite (dec_lt 0 (portion_size s))
    (λ some. omega (arith, none-for-none s.settings, rw (size, ne_eqb (portion_size s) 0 (λ z. omega arith)) at d))
    (λ none.
    let u = none_left s ok full (omega arith) in
    omega (arith, none-for-none s.settings, ap (portions_for s.settings) u, rw (size, eq-eqb (portion_size s) 0 (omega arith)) at d))

waited-count : (t : State) (time : ℕ) → unsent_count (after t (Wait time)).sender ≡ unsent_count t.sender
unfolding unsent_count
waited-count t time =
    choose-by (λ (s : Sender). unsent_count s ≡ unsent_count t.sender) (eqb (settings_refusal t.sender.settings) 0) {x = waited t.sender time} {y = t.sender} (λ _. refl) (λ _. refl)

module _ (out : List ℕ) (room : 772 ≤ length out) (time : ℕ) where
  -- With room and time enough, as many rounds as the bytes to go take portions leave a full sender idle.
  pub rounds-end : (n : ℕ) (t : State) → Lent t → settings_refused t.sender.settings ≡ false
      → max_energy_of t.sender ≤ t.sender.energy → max_energy_of t.sender ≤ time * gain_per_microsecond_of t.sender
      → portions_for t.sender.settings (unsent_count t.sender) ≤ n → is_idle (after_all t (rounds n out time)).sender ≡ true
  unfolding after_all
  rounds-end zero t lent ok full enough few =
      (idle-exactly t.sender).1 (full, some-for-some t.sender.settings ok (unsent_count t.sender) (omega arith))
  rounds-end (suc n) t lent ok full enough few =
      let d₁ = step t lent (Transmit out) in
      let t₁ = after t (Transmit out) in
      let lent₁ = step-lent t lent d₁ in
      let same₁ = step-settings t lent d₁ in
      let t₂ = after t₁ (Wait time) in
      let d₂ = step t₁ lent₁ (Wait time) in
      let same : t₂.sender.settings ≡ t₁.sender.settings = step-settings t₁ lent₁ d₂ in
      let same₂ = same ∙ same₁ in
      let ok₁ = ap settings_refused same₁ ∙ ok in
      let full₂ : max_energy_of t₂.sender ≤ t₂.sender.energy = omega (arith, filled-by t₁ time ok₁ (rw (max_energy_of, gain_per_microsecond_of, same₁) enough), ap (λ (s : Settings). s.max_energy) same) in
      let few₂ = fewer t lent out room ok full n few in
      rounds-end n t₂ (step-lent t₁ lent₁ d₂) (ap settings_refused same₂ ∙ ok) full₂ (rw (max_energy_of, gain_per_microsecond_of, same₂) enough)
      (omega (arith, ap₂ portions_for same₂ (waited-count t₁ time), few₂))

  rounds-queue-none : (n : ℕ) (t : State) → all_queued t (rounds n out time) ≡ []
  unfolding all_queued
  rounds-queue-none zero t = refl
  rounds-queue-none (suc n) t = rounds-queue-none n (after (after t (Transmit out)) (Wait time))

  -- So bytes that are queued come to be handed out, just these.
  pub rounds-whole : (t : State) → Lent t → (bytes : List ℕ) → (enqueue_of t.sender bytes).number ≡ 0
      → max_energy_of t.sender ≤ time * gain_per_microsecond_of t.sender
      → all_handed (after t (Enqueue bytes)) (rounds (portions_for t.sender.settings (length bytes)) out time) ≡ bytes
  unfolding choose
  rounds-whole t lent bytes accepted enough =
      let n = portions_for t.sender.settings (length bytes) in
      let taken = enqueue-taken t.sender (length bytes) accepted in
      let full = ((idle-exactly t.sender).0 taken.1).0 in
      let begun = after t (Enqueue bytes) in
      let here : begun.sender ≡ enqueued t.sender (length bytes) = rw accepted in
      let few : portions_for begun.sender.settings (unsent_count begun.sender) ≤ n = rw (here, queued-count t.sender (length bytes) taken.2) (omega arith) in
      let idle = rounds-end n begun (step-lent t lent (step t lent (Enqueue bytes))) (rw here taken.0) (rw here full) (rw here enough) few in
      whole-once t lent bytes accepted (rounds n out time) (rounds-queue-none n begun) idle
