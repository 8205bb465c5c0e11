-- Samples of a sender, computed from the definitions: calls one after the other, with what each answers and what it leaves.
use Prim.Native.Nat.{ℕ, ◌-◌, ◌^◌}
use mathlib.Core.Path.{◌≡◌, refl}
use mathlib.Core.Bool.{Bool, true, false}
use mathlib.Core.List.{List, [], ◌∷◌, ◌++◌, map}
use lib.ListN.{replicate}
use Rattle.basics.specs.Choice.{choose}
use Rattle.sender.specs.declared.Settings.{Settings}
use Rattle.sender.specs.declared.Sender.{Sender}
use Rattle.sender.specs.Energy.{settings_refused, energy_after_wait, energy_left}
use Rattle.sender.specs.Queue.{unsent_count, portion_size, is_idle}
use Rattle.sender.specs.Answer.{settings_refusal, start_of, enqueue_refusal, transmit_refusal, transmitted, output_after}
use Rattle.sender.specs.Calls.{State, Call, Enqueue, Transmit, Wait, after, after_all, number_of, handed, portions_for}

-- ── the vocabulary

-- largest energy, loss a byte, gain a microsecond
abbrev settings : ℕ → ℕ → ℕ → Settings
settings max loss gain = record { max_energy = max; loss_per_byte = loss; gain_per_microsecond = gain }

abbrev sender : Settings → ℕ → ℕ → ℕ → Sender
sender s energy queued sent = record { settings = s; energy = energy; queued = queued; sent = sent }

-- with a queue that ends in 9, 8
abbrev lent : Sender → State
lent s = record { sender = s; queue = replicate 770 5 ++ (9 ∷ 8 ∷ []) }

-- what is seen of a call: its number and the bytes handed out, and then the energy left and whether the sender is idle
record Seen : Type 0 where
  pub number : ℕ
  pub bytes : List ℕ
  pub energy : ℕ
  pub idle : Bool

abbrev seen : ℕ → List ℕ → ℕ → Bool → Seen
seen number bytes energy idle = record { number = number; bytes = bytes; energy = energy; idle = idle }

abbrev seen_by : State → List Call → List Seen
seen_by t [] = []
seen_by t (call ∷ calls) =
    seen (number_of t call) (handed t call) (energy_left (after t call).sender) (is_idle (after t call).sender) ∷ seen_by (after t call) calls

-- an output of so much room
abbrev room : ℕ → Call
room n = Transmit (replicate n 0)

-- what stands left in the rows of a table, and what right
abbrev left : {A B : Type 0} → List (A × B) → List A
left rows = map (λ r. r.0) rows

abbrev right : {A B : Type 0} → List (A × B) → List B
right rows = map (λ r. r.1) rows

-- ── a run: largest 10, loss 3 and gain 2, with seven bytes: portions of 3, 3 and 1

abbrev keeping : Settings
keeping = settings 10 3 2

abbrev run : List (Call × Seen)
run =
    (Wait 5, seen 0 [] 10 true)
    ∷ (room 0, seen 0 [] 10 true)
    ∷ (Enqueue (replicate 773 0), seen 25 [] 10 true)
    ∷ (Enqueue [], seen 0 [] 10 true)
    ∷ (Enqueue (1 ∷ 2 ∷ 3 ∷ 4 ∷ 5 ∷ 6 ∷ 7 ∷ []), seen 0 [] 10 false)
    ∷ (Enqueue [], seen 20 [] 10 false)
    ∷ (Enqueue (replicate 773 0), seen 20 [] 10 false)
    ∷ (room 2, seen 5 [] 10 false)
    ∷ (Wait 5, seen 0 [] 10 false)
    ∷ (room 3, seen 0 (1 ∷ 2 ∷ 3 ∷ []) 1 false)
    ∷ (room 0, seen 0 [] 1 false)
    ∷ (Wait 0, seen 0 [] 1 false)
    ∷ (Wait 4, seen 0 [] 9 false)
    ∷ (room 3, seen 0 [] 9 false)
    ∷ (Wait 1, seen 0 [] 10 false)
    ∷ (room 2, seen 5 [] 10 false)
    ∷ (room 772, seen 0 (4 ∷ 5 ∷ 6 ∷ []) 1 false)
    ∷ (Wait (2 ^ 64 - 1), seen 0 [] 10 false)
    ∷ (room 0, seen 5 [] 10 false)
    ∷ (room 1, seen 0 (7 ∷ []) 7 false)
    ∷ (Enqueue (8 ∷ []), seen 20 [] 7 false)
    ∷ (Wait 1, seen 0 [] 9 false)
    ∷ (Wait 1, seen 0 [] 10 true)
    ∷ (room 1, seen 0 [] 10 true)
    ∷ (Enqueue (8 ∷ []), seen 0 [] 10 false)
    ∷ (room 1, seen 0 (8 ∷ []) 7 false)
    ∷ []

run-seen : seen_by (lent (start_of keeping).sender) (left run) ≡ right run
unfolding choose settings_refused energy_after_wait unsent_count portion_size settings_refusal enqueue_refusal transmit_refusal transmitted
run-seen = refl

-- ── another: largest 20, loss 7 and gain 5, with three bytes; and the sender that is left

abbrev other : Settings
other = settings 20 7 5

abbrev other_run : List (Call × Seen)
other_run =
    (Enqueue (1 ∷ 2 ∷ 3 ∷ []), seen 0 [] 20 false)
    ∷ (room 2, seen 0 (1 ∷ 2 ∷ []) 6 false)
    ∷ (Wait 2, seen 0 [] 16 false)
    ∷ (Wait 1, seen 0 [] 20 false)
    ∷ (room 1, seen 0 (3 ∷ []) 13 false)
    ∷ (Wait 1, seen 0 [] 18 false)
    ∷ (Wait 1, seen 0 [] 20 true)
    ∷ []

other-seen : (seen_by (lent (start_of other).sender) (left other_run) ≡ right other_run)
    × ((after_all (lent (start_of other).sender) (left other_run)).sender ≡ sender other 20 3 3)
unfolding choose settings_refused energy_after_wait unsent_count portion_size settings_refusal enqueue_refusal transmit_refusal transmitted after_all
other-seen = (refl, refl)

-- the output behind the portion stays
written : output_after (sender keeping 10 7 2) (10 ∷ 11 ∷ 12 ∷ 13 ∷ 14 ∷ 15 ∷ 16 ∷ []) (1 ∷ 2 ∷ 3 ∷ 4 ∷ 5 ∷ []) ≡ 12 ∷ 13 ∷ 14 ∷ 4 ∷ 5 ∷ []
unfolding choose settings_refused unsent_count portion_size transmit_refusal
written = refl

-- ── energy keeping switched off, by any loss and gain

abbrev off : List (Call × Seen)
off =
    (Enqueue (1 ∷ 2 ∷ 3 ∷ []), seen 0 [] 0 false)
    ∷ (Wait 7, seen 0 [] 0 false)
    ∷ (Enqueue (4 ∷ []), seen 20 [] 0 false)
    ∷ (room 2, seen 5 [] 0 false)
    ∷ (room 4, seen 0 (1 ∷ 2 ∷ 3 ∷ []) 0 true)
    ∷ (Enqueue (replicate 772 4), seen 0 [] 0 false)
    ∷ (room 771, seen 5 [] 0 false)
    ∷ (room 772, seen 0 (replicate 772 4) 0 true)
    ∷ (Enqueue (4 ∷ []), seen 0 [] 0 false)
    ∷ []

off-seen : seen_by (lent (start_of (settings 0 3 2)).sender) (left off) ≡ right off
unfolding choose settings_refused energy_after_wait unsent_count portion_size settings_refusal enqueue_refusal transmit_refusal transmitted
off-seen = refl

-- ── states that no calls lead to

abbrev impossible : List ((Sender × Call) × Seen)
impossible =
    -- more energy than the largest: full
    ((sender keeping 12 772 768, room 772), seen 0 (5 ∷ 5 ∷ 9 ∷ []) 1 false)
    ∷ ((sender keeping 12 7 7, Enqueue (1 ∷ [])), seen 0 [] 10 false)
    ∷ ((sender keeping 12 7 7, Wait 1), seen 0 [] 10 true)
    ∷ ((sender (settings 0 3 2) 12 7 7, Wait 1), seen 0 [] 0 true)
    -- nothing to go, or no more than the queue has
    ∷ ((sender keeping 10 5 6, room 772), seen 0 [] 10 true)
    ∷ ((sender keeping 10 1000 770, room 772), seen 0 (9 ∷ 8 ∷ []) 4 false)
    ∷ ((sender (settings 0 0 0) 0 (2 ^ 64 - 1) 769, room 3), seen 0 (5 ∷ 9 ∷ 8 ∷ []) 0 true)
    ∷ ((sender keeping 10 (2 ^ 64 - 1) 772, room 772), seen 0 [] 10 true)
    ∷ ((sender keeping 10 (2 ^ 64 - 1) (2 ^ 64 - 1), room 772), seen 0 [] 10 true)
    -- settings that are refused, before anything else
    ∷ ((sender (settings 10 0 2) 1 7 0, Enqueue (replicate 773 0)), seen 19 [] 1 false)
    ∷ ((sender (settings 10 3 0) 10 7 0, room 0), seen 19 [] 10 false)
    ∷ ((sender (settings 10 11 2) 1 7 0, Wait 100), seen 19 [] 1 false)
    ∷ []

impossible-seen : map (λ (asked : Sender × Call). seen_by (lent asked.0) (asked.1 ∷ [])) (left impossible) ≡ map (λ (s : Seen). s ∷ []) (right impossible)
unfolding choose settings_refused energy_after_wait unsent_count portion_size settings_refusal enqueue_refusal transmit_refusal transmitted
impossible-seen = refl

-- ── the settings: the number, and the sender that begins

abbrev started : List (Settings × (ℕ × Sender))
started =
    (keeping, (0, sender keeping 10 0 0))
    ∷ (settings 0 0 0, (0, sender (settings 0 0 0) 0 0 0))
    ∷ (settings 0 5 0, (0, sender (settings 0 5 0) 0 0 0))
    ∷ (settings 0 0 5, (0, sender (settings 0 0 5) 0 0 0))
    ∷ (settings 1 1 1, (0, sender (settings 1 1 1) 1 0 0))
    ∷ (settings 5 5 1, (0, sender (settings 5 5 1) 5 0 0))
    ∷ (settings 5 6 1, (19, sender (settings 0 0 0) 0 0 0))
    ∷ (settings 5 0 1, (19, sender (settings 0 0 0) 0 0 0))
    ∷ (settings 5 1 0, (19, sender (settings 0 0 0) 0 0 0))
    ∷ (settings (2 ^ 32 - 1) (2 ^ 32 - 1) (2 ^ 32 - 1), (0, sender (settings (2 ^ 32 - 1) (2 ^ 32 - 1) (2 ^ 32 - 1)) (2 ^ 32 - 1) 0 0))
    ∷ []

started-so : map (λ (s : Settings). ((start_of s).number, (start_of s).sender)) (left started) ≡ right started
unfolding choose settings_refused settings_refusal
started-so = refl

-- ── how many portions bytes take

abbrev taken : List ((Settings × ℕ) × ℕ)
taken =
    ((keeping, 0), 0)
    ∷ ((keeping, 1), 1)
    ∷ ((keeping, 3), 1)
    ∷ ((keeping, 4), 2)
    ∷ ((keeping, 6), 2)
    ∷ ((keeping, 7), 3)
    ∷ ((keeping, 772), 258)
    ∷ ((settings 16672 1042 1, 772), 49)
    ∷ ((settings 5 5 1, 772), 772)
    ∷ ((settings 0 0 0, 0), 0)
    ∷ ((settings 0 0 0, 1), 1)
    ∷ ((settings 0 3 2, 772), 1)
    ∷ []

taken-so : map (λ (asked : Settings × ℕ). portions_for asked.0 asked.1) (left taken) ≡ right taken
unfolding choose portions_for
taken-so = refl
