-- `diagnosis::next_fault` meets its contract: the faults from here on are those from the start on. Assumes nothing.
use Prim.Native.Nat.{ℕ, ◌+◌, ◌<◌, ◌≤◌}
use native.Mathlib.Omega.{arith}
use mathlib.Core.Path.{◌≡◌, sym, ap, ◌∙◌}
use mathlib.Core.List.{List}
use mathlib.Core.Bool.{false}
use Rattle.diagnosis.specs.declared.Fault.{Fault}
use lib.ListN.{length, drop, length-drop}
use Rattle.std.specs.Prelude.{Ok}
use Rattle.basics.proofs.Over.{part}
use Rattle.stream.specs.Validation.{said_by, validation_of}
use Rattle.stream.specs.declared.WholeStream.{WholeStream}
use Rattle.stream.proofs.Said.{whole-said, stop-said}
use Rattle.stream.proofs.Syncs.{next-sync}
use Rattle.recording.proofs.Deliveries.{whole_long}
use Rattle.diagnosis.specs.Fault.{faults_after, none}
use Rattle.diagnosis.proofs.Faults.{after-sync, after-whole, next-by, next_here, next-end}
use Rattle.diagnosis.proofs.next_fault.Goals as goal

-- a whole stream is some bytes long, and all of them are there
whole-moves : (s : List ℕ) (r : ℕ) (stream : WholeStream) → r < length s → said_by (Ok stream) ≡ validation_of (drop r s) → (0 < stream.length) × (r + stream.length ≤ length s)
whole-moves s r stream inside is =
    let said = whole-said (drop r s) stream is in
    let long = whole_long (drop r s) said.verdict in
    (omega (arith, long, said.offset), omega (arith, long, said.offset, length-drop r s))

-- a fault of which all is zero is none
zeros : (f : Fault)
    → (f.found ≡ false) × ((f.place ≡ 0) × ((f.verdict ≡ 0) × ((f.offset ≡ 0) × ((f.has_byte ≡ false) × ((f.byte ≡ 0) × ((f.has_wanted ≡ false) × (f.wanted ≡ 0)))))))
    → f ≡ none
zeros f (found, (place, (verdict, (offset, (has_byte, (byte, (has_wanted, wanted))))))) =
    λ i. record {
      found = found i;
      place = place i;
      verdict = verdict i;
      offset = offset i;
      has_byte = has_byte i;
      byte = byte i;
      has_wanted = has_wanted i;
      wanted = wanted i;
    }

pub returns-then-at-recording : goal.returns-then-at-recording
returns-then-at-recording c =
    let s = c.args.recording.now in
    let r = c.next_sync-at.result in
    let at = after-sync s c.loop-at.at r (next-sync s _ r c.next_sync-at.ensures) in
    zeros c.default.result c.default.ensures ∙ sym (next-end s r (omega arith)) ∙ next-by s r _ (sym at ∙ c.loop-at.invariant)

pub returns-in-Err : goal.returns-in-Err
returns-in-Err c =
    let s = c.args.recording.now in
    let r = c.next_sync-at.result in
    let here = next-sync s _ r c.next_sync-at.ensures in
    let said = stop-said (drop r s) c.in-Err.stop (rw part at c.in-Err.ensures.value) in
    let first = next_here s r (omega arith) (here.here (omega arith)) said.faulty in
    rw part at c.describe.ensures ∙ sym first ∙ next-by s r _ (sym (after-sync s c.loop-at.at r here) ∙ c.loop-at.invariant)

pub overflow_add-at : goal.overflow_add-at
overflow_add-at c =
    let s = c.args.recording.now in
    omega (arith, whole-moves s c.next_sync-at.result c.in-Ok.stream (omega arith) (rw part at c.in-Ok.ensures.value))

pub loop-at-smaller : goal.loop-at-smaller
loop-at-smaller c =
    let s = c.args.recording.now in
    let moved = whole-moves s c.next_sync-at.result c.in-Ok.stream (omega arith) (rw part at c.in-Ok.ensures.value) in
    omega (arith, moved, (next-sync s _ _ c.next_sync-at.ensures).after)

pub loop-at-preserved : goal.loop-at-preserved
loop-at-preserved c =
    let s = c.args.recording.now in
    let r = c.next_sync-at.result in
    let said = whole-said (drop r s) c.in-Ok.stream (rw part at c.in-Ok.ensures.value) in
    ap (λ (n : ℕ). faults_after s (r + n)) (sym said.offset)
    ∙ sym (after-whole s r said.verdict)
    ∙ sym (after-sync s c.loop-at.at r (next-sync s _ r c.next_sync-at.ensures))
    ∙ c.loop-at.invariant
