-- What one call does: a step from a state, by the answer's case.
use Prim.Native.Nat.{ℕ, ◌+◌, ◌<◌, ◌≤◌}
use native.Mathlib.Omega.{arith}
use native.Mathlib.Decide.{dec_lt}
use mathlib.Core.Path.{◌≡◌, refl, sym, ◌∙◌}
use mathlib.Core.Bool.{Bool, true, false, true≢false}
use mathlib.Core.List.{List, []}
use mathlib.Core.Logic.{dite}
use lib.ListN.{length, drop, length-drop}
use lib.Seq.{take_at, length-take-le}
use Rattle.basics.specs.Bytes.{over}
use Rattle.basics.specs.Choice.{choose}
use Rattle.sender.specs.Energy.{settings_refused, energy_after_portion}
use Rattle.sender.specs.Queue.{is_idle, portion_size, portion}
use Rattle.sender.specs.Answer.{enqueued, waited}
use Rattle.sender.specs.Calls.{State, Call, Enqueue, Transmit, Wait, after, handed, queued_by, time_of}
use Rattle.sender.proofs.Portion.{size-within, unsent-there}
use Rattle.sender.proofs.Answers.{settings-19, settings-accepted, enqueue-19, enqueue-20, enqueue-25, enqueue-accepted, transmit-19, transmit-5, transmit-accepted, transmitted-none, transmitted-some}

-- a queue has 772 bytes
abbrev pub Lent : State → Type 0
Lent t = length t.queue ≡ 772

-- a step from t: where it leads, the bytes handed out, those queued, and the time that passes
pub data Step (t : State) : State → List ℕ → List ℕ → ℕ → Type 0 where
  -- refused, or nothing is handed out
  keeps : (time : ℕ) → (settings_refused t.sender.settings ≡ false → time ≡ 0) → Step t t [] [] time
  -- bytes are queued
  queues : (bytes : List ℕ) → is_idle t.sender ≡ true → length bytes ≤ 772
      → Step t (record { sender = enqueued t.sender (length bytes); queue = over bytes t.queue }) [] bytes 0
  -- a portion is handed out
  sends : settings_refused t.sender.settings ≡ false → 0 < portion_size t.sender
      → Step t
      (record {
        sender =
            record {
              settings = t.sender.settings;
              energy = energy_after_portion t.sender.settings (portion_size t.sender);
              queued = t.sender.queued;
              sent = t.sender.sent + portion_size t.sender;
            };
        queue = t.queue;
      })
      (portion t.sender t.queue) [] 0
  -- time passes
  waits : (time : ℕ) → Step t (record { sender = waited t.sender time; queue = t.queue }) [] [] time

module _ (t : State) (lent : Lent t) where
  pub portion-length : length (portion t.sender t.queue) ≡ portion_size t.sender
  portion-length =
      let s = t.sender in
      dite (dec_lt 0 (portion_size s))
      (λ some. length-take-le (portion_size s) (drop s.sent t.queue) (simp length-drop (omega (arith, size-within s, unsent-there s (omega (arith, size-within s))))))
      (λ none.
      let e : portion_size s ≡ 0 = omega arith in
      rw e)

  step-enqueue : (bytes : List ℕ) (refused idle : Bool) → settings_refused t.sender.settings ≡ refused → is_idle t.sender ≡ idle
      → Step t (after t (Enqueue bytes)) [] (queued_by t (Enqueue bytes)) 0
  unfolding choose
  step-enqueue bytes true idle e i = rw (enqueue-19 t.sender (length bytes) e) (keeps 0 (λ _. refl))
  step-enqueue bytes false false e i = rw (enqueue-20 t.sender (length bytes) e i) (keeps 0 (λ _. refl))
  step-enqueue bytes false true e i =
      dite (dec_lt 772 (length bytes))
      (λ long. rw (enqueue-25 t.sender (length bytes) e i long) (keeps 0 (λ _. refl)))
      (λ fits. rw (enqueue-accepted t.sender (length bytes) e i (omega arith)) (queues bytes i (omega arith)))

  step-wait : (time : ℕ) (refused : Bool) → settings_refused t.sender.settings ≡ refused → Step t (after t (Wait time)) [] [] time
  unfolding choose
  step-wait time true e = rw (settings-19 t.sender.settings e) (keeps time (λ k. absurd (true≢false (sym e ∙ k))))
  step-wait time false e = rw (settings-accepted t.sender.settings e) (waits time)

  -- what an accepted call hands out
  pub hands : (out : List ℕ) → settings_refused t.sender.settings ≡ false → portion_size t.sender ≤ length out
      → handed t (Transmit out) ≡ portion t.sender t.queue
  unfolding choose
  hands out ok room =
      rw (transmit-accepted t.sender (length out) ok room)
      (take_at (portion t.sender t.queue) (drop (length (portion t.sender t.queue)) out) (portion_size t.sender) portion-length)

  step-transmit : (out : List ℕ) (refused : Bool) → settings_refused t.sender.settings ≡ refused
      → Step t (after t (Transmit out)) (handed t (Transmit out)) [] 0
  unfolding choose
  step-transmit out true e = rw (transmit-19 t.sender (length out) e) (keeps 0 (λ _. refl))
  step-transmit out false e =
      let s = t.sender in
      dite (dec_lt (length out) (portion_size s))
      (λ short. rw (transmit-5 s (length out) e short) (keeps 0 (λ _. refl)))
      (λ fits.
      let k = transmit-accepted s (length out) e (omega arith) in
      dite (dec_lt 0 (portion_size s))
      (λ some. rw (hands out e (omega arith)) (rw (k, transmitted-some s (portion_size s) some) (sends e some)))
      (λ none.
      let z : portion_size s ≡ 0 = omega arith in
      rw (k, transmitted-none s (portion_size s) z, z) (keeps 0 (λ _. refl))))

  pub step : (call : Call) → Step t (after t call) (handed t call) (queued_by t call) (time_of call)
  step (Enqueue bytes) = step-enqueue bytes _ _ refl refl
  step (Transmit out) = step-transmit out _ refl
  step (Wait time) = step-wait time _ refl
