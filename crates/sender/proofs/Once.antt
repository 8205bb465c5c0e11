-- Request No. 10: "Each byte goes once", in order, in as many portions as it says: of any calls, from any state of a sender.
use Prim.Native.Nat.{ℕ, ◌+◌}
use native.Mathlib.Omega.{arith}
use mathlib.Core.Path.{◌≡◌, refl, sym, ap, ap₂, ◌∙◌}
use mathlib.Core.Bool.{true}
use mathlib.Core.List.{List, [], ◌∷◌, ◌++◌, append_assoc, append-nil}
use lib.Dec.{eqb}
use lib.ListN.{length, take, drop}
use Rattle.basics.specs.Choice.{choose}
use Rattle.basics.proofs.Choice.{choose-by}
use Rattle.sender.specs.declared.Settings.{Settings}
use Rattle.sender.specs.declared.Sender.{Sender}
use Rattle.sender.specs.Queue.{unsent_count, unsent, is_idle}
use Rattle.sender.specs.Answer.{settings_refusal, start_of, enqueue_of}
use Rattle.sender.specs.Calls.{State, Call, Enqueue, after, after_all, handed, queued_by, all_handed, all_queued, portions, portions_for, portions_wanted}
use Rattle.sender.proofs.Answers.{enqueue-taken}
use Rattle.sender.proofs.Portions.{none-for-none}
use Rattle.sender.proofs.Steps.{Lent, Step, step}
use Rattle.sender.proofs.Effects.{idle-exactly, step-lent, step-settings, step-once, step-counted}

-- What was to go and what is queued is what is handed out and what is still to go.
pub each-once : (t : State) → Lent t → (calls : List Call)
    → unsent t.sender t.queue ++ all_queued t calls ≡ all_handed t calls ++ unsent (after_all t calls).sender (after_all t calls).queue
unfolding all_queued all_handed after_all
each-once t lent [] = append-nil _
each-once t lent (call ∷ calls) =
    let d = step t lent call in
    sym (append_assoc (unsent t.sender t.queue) (queued_by t call) (all_queued (after t call) calls))
    ∙ ap (λ (l : List ℕ). l ++ all_queued (after t call) calls) (step-once t lent d)
    ∙ append_assoc (handed t call) _ _
    ∙ ap (λ (l : List ℕ). handed t call ++ l) (each-once (after t call) (step-lent t lent d) calls)
    ∙ sym (append_assoc (handed t call) _ _)

-- The portions handed out, and those that what is still to go takes, are those that what was to go and what is queued take.
pub each-counted : (t : State) → Lent t → (calls : List Call)
    → portions t calls + portions_for t.sender.settings (unsent_count (after_all t calls).sender)
    ≡ portions_for t.sender.settings (unsent_count t.sender) + portions_wanted t calls
unfolding portions portions_wanted after_all
each-counted t lent [] = omega arith
each-counted t lent (call ∷ calls) =
    let d = step t lent call in
    let rest = rw (step-settings t lent d) at (each-counted (after t call) (step-lent t lent d) calls) in
    omega (arith, rest, step-counted t lent d)

-- From `start` on: what is queued is what is handed out and what is still to go.
pub start-once : (settings : Settings) (queue : List ℕ) → length queue ≡ 772 → (calls : List Call)
    → let fresh : State = record { sender = (start_of settings).sender; queue = queue } in
    all_queued fresh calls ≡ all_handed fresh calls ++ unsent (after_all fresh calls).sender (after_all fresh calls).queue
unfolding unsent_count
start-once settings queue lent calls =
    let empty : unsent_count (start_of settings).sender ≡ 0 = choose-by (λ (s : Sender). unsent_count s ≡ 0) (eqb (settings_refusal settings) 0) (λ _. refl) (λ _. refl) in
    rw empty at (each-once (record { sender = (start_of settings).sender; queue = queue }) lent calls)

nothing-joined : (a b : List ℕ) → a ++ b ≡ [] → (a ≡ []) × (b ≡ [])
nothing-joined [] b e = (refl, e)
nothing-joined (x ∷ a) b e = absurd (omega (arith, ap length e))

wanted-none : (t : State) (calls : List Call) → all_queued t calls ≡ [] → portions_wanted t calls ≡ 0
unfolding all_queued portions_wanted
wanted-none t [] e = refl
wanted-none t (call ∷ calls) e =
    let h = nothing-joined (queued_by t call) (all_queued (after t call) calls) e in
    rw (h.0, none-for-none t.sender.settings, wanted-none (after t call) calls h.1)

-- Bytes that were queued, and calls, none of which queues others, until the sender is idle.
module _ (t : State) (lent : Lent t) (bytes : List ℕ) (accepted : (enqueue_of t.sender bytes).number ≡ 0) (calls : List Call)
    (none : all_queued (after t (Enqueue bytes)) calls ≡ []) (idle : is_idle (after_all (after t (Enqueue bytes)) calls).sender ≡ true)
  where
    abbrev begun : State
    begun = after t (Enqueue bytes)

    before : unsent_count t.sender ≡ 0
    before = ((idle-exactly t.sender).0 (enqueue-taken t.sender (length bytes) accepted).1).1

    all : unsent_count (after_all begun calls).sender ≡ 0
    all = ((idle-exactly (after_all begun calls).sender).0 idle).1

    come : queued_by t (Enqueue bytes) ≡ bytes
    unfolding choose
    come = rw accepted

    d : Step t begun [] (queued_by t (Enqueue bytes)) 0
    d = step t lent (Enqueue bytes)

    -- The portions, end to end, are just these bytes.
    pub whole-once : all_handed begun calls ≡ bytes
    whole-once =
        let rest = each-once begun (step-lent t lent d) calls in
        let begins = sym (step-once t lent d) ∙ ap₂ (λ (a b : List ℕ). a ++ b) (ap (λ (n : ℕ). take n (drop t.sender.sent t.queue)) before) come in
        sym (append-nil _) ∙ sym (rw (all, none) at rest) ∙ append-nil _ ∙ begins

    -- "N bytes take N divided by (largest divided by loss, rounded down), rounded up, portions; with largest 0, one if N isn't 0"
    pub whole-portions : portions begun calls ≡ portions_for t.sender.settings (length bytes)
    unfolding choose
    whole-portions =
        let first = rw (before, ap length come, none-for-none t.sender.settings) at (step-counted t lent d) in
        let rest = rw (step-settings t lent d, all, wanted-none begun calls none, none-for-none t.sender.settings) at (each-counted begun (step-lent t lent d) calls) in
        omega (arith, rest, first)
