-- What the calls to a sender answer, and what the lent buffers hold afterwards: request No. 10, with its refusals 19, 20, 25 and document
-- 01's 5.
use Rattle.std.specs.Prelude.{ℕ, ◌+◌, not, List, [], ◌∷◌, eqb, ltb, length, Result, Ok, Err}
use Rattle.basics.specs.Choice.{choose, first}
use Rattle.basics.specs.Output.{output_with}
use Rattle.basics.specs.Refusal.{number}
use Rattle.basics.specs.declared.refusal.Refusal.{Refusal}
use Rattle.sender.specs.declared.Settings.{Settings}
use Rattle.sender.specs.declared.Sender.{Sender}
use Rattle.sender.specs.declared.Sent.{Sent}
use Rattle.sender.specs.Energy.{settings_refused, energy_after_portion, energy_after_wait}
use Rattle.sender.specs.Queue.{is_idle, portion_size, portion}

-- by the refusal's number or 0: how many bytes are handed out, and the sender afterwards; refused, none, and the sender as it was
abbrev pub sent_by : ℕ → ℕ → Sender → Sender → Sent
sent_by refusal size after before =
    record { number = refusal; length = choose (eqb refusal 0) size 0; sender = choose (eqb refusal 0) after before }

-- the answer as C gets it: what was handed out and the sender afterwards, or a refusal's number and the sender as it was
abbrev pub sent_as : Result (ℕ × Sender) Refusal → Sender → Sent
sent_as (Ok (size, after)) before = record { number = 0; length = size; sender = after }
sent_as (Err refusal) before = record { number = number refusal; length = 0; sender = before }

-- ── a sender begins

-- "is refused as 19". The settings come back with the state, so every call asks for this first
unfoldable pub settings_refusal : Settings → ℕ
settings_refusal settings = first ((settings_refused settings, 19) ∷ [])

-- a full sender with nothing queued
abbrev pub started : Settings → Sender
started settings = record { settings = settings; energy = settings.max_energy; queued = 0; sent = 0 }

-- refused, "any further number .. is zero": no state was handed over. That is the sender with all settings 0
abbrev pub start_of : Settings → Sent
start_of settings =
    sent_by (settings_refusal settings) 0 (started settings)
    (started (record { max_energy = 0; loss_per_byte = 0; gain_per_microsecond = 0 }))

-- ── bytes are queued

-- "Queueing while not idle is refused as 20, then more than 772 bytes as 25"
unfoldable pub enqueue_refusal : Sender → ℕ → ℕ
enqueue_refusal s count = first ((settings_refused s.settings, 19) ∷ (not (is_idle s), 20) ∷ (ltb 772 count, 25) ∷ [])

abbrev pub enqueued : Sender → ℕ → Sender
enqueued s count = record { settings = s.settings; energy = s.energy; queued = count; sent = 0 }

abbrev pub enqueue_of : Sender → List ℕ → Sent
enqueue_of s bytes = sent_by (enqueue_refusal s (length bytes)) 0 (enqueued s (length bytes)) s

-- the queue afterwards
abbrev pub queue_after : Sender → List ℕ → List ℕ → List ℕ
queue_after s bytes queue = output_with (enqueue_refusal s (length bytes)) bytes queue

-- ── a portion is handed out

-- "5 if the output can't take them"
unfoldable pub transmit_refusal : Sender → ℕ → ℕ
transmit_refusal s room = first ((settings_refused s.settings, 19) ∷ (ltb room (portion_size s), 5) ∷ [])

-- a portion leaves what it hasn't used of the largest energy, and fewer bytes to go; no bytes change nothing
unfoldable pub transmitted : Sender → ℕ → Sender
transmitted s size =
    choose (eqb size 0) s
    (record { settings = s.settings; energy = energy_after_portion s.settings size; queued = s.queued; sent = s.sent + size })

abbrev pub transmit_of : Sender → ℕ → Sent
transmit_of s room = sent_by (transmit_refusal s room) (portion_size s) (transmitted s (portion_size s)) s

-- the output afterwards
abbrev pub output_after : Sender → List ℕ → List ℕ → List ℕ
output_after s queue out = output_with (transmit_refusal s (length out)) (portion s queue) out

-- ── time passes

abbrev pub waited : Sender → ℕ → Sender
waited s microseconds =
    record { settings = s.settings; energy = energy_after_wait s microseconds; queued = s.queued; sent = s.sent }

abbrev pub wait_of : Sender → ℕ → Sent
wait_of s microseconds = sent_by (settings_refusal s.settings) 0 (waited s microseconds) s
