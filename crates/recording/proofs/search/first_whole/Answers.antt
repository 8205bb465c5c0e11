-- `recording::search::first_whole` meets its contract: what is delivered from here on is what is delivered from the start on. Assumes nothing.
use Prim.Native.Nat.{ℕ, ◌+◌, ◌<◌, ◌≤◌}
use native.Mathlib.Omega.{arith}
use mathlib.Core.Path.{◌≡◌, sym, ap, ◌∙◌}
use mathlib.Core.List.{List}
use native.Mathlib.Nat.{add-zero}
use lib.ListN.{length, get_or, drop, length-drop}
use lib.Seq.{get_or-drop}
use Rattle.basics.proofs.Over.{part}
use Rattle.stream.specs.Validation.{validation_of}
use Rattle.stream.proofs.Offsets.{offset-within, offset-behind}
use Rattle.stream.proofs.Said.{whole-said, stop-said}
use Rattle.stream.proofs.Syncs.{next-sync}
use Rattle.recording.specs.Recording.{deliveries_after}
use Rattle.recording.specs.Stage.{searched}
use Rattle.recording.proofs.Deliveries.{after-end, after-here}
use Rattle.recording.proofs.Reading.{after-sync, after-fault}
use Rattle.recording.proofs.search.first_whole.Goals as goal

-- past a fault the search moves on, and not past the end
fault-moves : (s : List ℕ) (r offset : ℕ) → r < length s → get_or s r 0 ≡ 0xAA → (validation_of (drop r s)).offset ≡ offset → (0 < offset) × (r + offset ≤ length s)
fault-moves s r offset inside sync is =
    let first : get_or (drop r s) 0 0 ≡ 0xAA = get_or-drop r s 0 0 ∙ rw add-zero sync in
    let long = length-drop r s in
    (omega (arith, is, offset-behind (drop r s) (omega arith) first), omega (arith, is, long, offset-within (drop r s)))

pub overflow_add-at : goal.overflow_add-at
overflow_add-at c =
    let s = c.args.input.now in
    let r = c.next_sync-at.result in
    let said = stop-said (drop r s) c.in-Err.stop (rw part at c.in-Err.ensures.value) in
    omega (arith, fault-moves s r _ (omega arith) ((next-sync s _ _ c.next_sync-at.ensures).here (omega arith)) said.offset)

pub loop-at-smaller : goal.loop-at-smaller
loop-at-smaller c =
    let s = c.args.input.now in
    let r = c.next_sync-at.result in
    let said = stop-said (drop r s) c.in-Err.stop (rw part at c.in-Err.ensures.value) in
    omega (arith, fault-moves s r _ (omega arith) ((next-sync s _ _ c.next_sync-at.ensures).here (omega arith)) said.offset, (next-sync s _ _ c.next_sync-at.ensures).after)

pub loop-at-preserved : goal.loop-at-preserved
loop-at-preserved c =
    let s = c.args.input.now in
    let r = c.next_sync-at.result in
    let said = stop-said (drop r s) c.in-Err.stop (rw part at c.in-Err.ensures.value) in
    let at = after-sync s c.loop-at.at r (next-sync s _ r c.next_sync-at.ensures) in
    let on = after-fault s r said.faulty in
    ap (λ (n : ℕ). deliveries_after s (r + n)) (sym said.offset) ∙ sym (at ∙ on) ∙ c.loop-at.invariant

pub returns-then-at-input : goal.returns-then-at-input
returns-then-at-input c =
    let s = c.args.input.now in
    let at = after-sync s c.loop-at.at c.next_sync-at.result (next-sync s _ _ c.next_sync-at.ensures) in
    ap (searched s) (sym (after-end s c.next_sync-at.result (omega arith)) ∙ sym at ∙ c.loop-at.invariant)

pub returns-in-Ok : goal.returns-in-Ok
returns-in-Ok c =
    let s = c.args.input.now in
    let r = c.next_sync-at.result in
    let said = whole-said (drop r s) c.in-Ok.stream (rw part at c.in-Ok.ensures.value) in
    let at = after-sync s c.loop-at.at r (next-sync s _ r c.next_sync-at.ensures) in
    let here = after-here s r said.verdict in
    rw (← said.offset, ← said.unused_septets) (ap (searched s) (sym here ∙ sym at ∙ c.loop-at.invariant))
