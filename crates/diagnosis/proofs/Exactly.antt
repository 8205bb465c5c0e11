-- The faults are told of just those 0xAA that gave no record, in order of place.
use Prim.Native.Nat.{ℕ, zero, suc, ◌+◌, ◌≤◌, ◌<◌}
use native.Mathlib.Omega.{arith}
use native.Mathlib.Decide.{ℕ_discrete, dec_lt}
use mathlib.Core.Path.{◌≡◌, refl, ap, ◌∙◌, sym, subst, subst⁻¹}
use mathlib.Core.Bool.{Bool, true, false}
use mathlib.Core.Logic.{dite, ◌↔◌}
use mathlib.Core.List.{List, [], ◌∷◌}
use borrow.Author.Tests.{eq-eqb, ne_eqb}
use lib.ListN.{length, get_or, drop, get_or-eq_default}
use Rattle.basics.specs.Choice.{choose}
use Rattle.basics.proofs.Choice.{choose-by}
use Rattle.stream.specs.Validation.{validation_of}
use Rattle.recording.specs.Next.{next_of}
use Rattle.recording.specs.Recording.{Delivery, deliveries_from}
use Rattle.recording.proofs.Deliveries.{Whole, whole-sync}
use Rattle.recording.proofs.Nexts.{next-exactly}
use Rattle.diagnosis.specs.declared.Fault.{Fault}
use Rattle.diagnosis.specs.Fault.{is_fault, fault_of, faults_from, faults_after, next_fault}
use Rattle.diagnosis.specs.Reason.{Asked, ended, again, sync_places_from, is_in, without, fault_places, delivery_positions}
use Rattle.diagnosis.proofs.Faults.{fault-is, fault-sync, fault-not-whole, no-sync-no-fault, whole-no-fault, first-of, next_here, found_at, none_after}

-- ── asked one after the other

-- the answers that are had by asking again and again are the faults
pub asked-faults : (s : List ℕ) (start : ℕ) (fs : List Fault) → Asked s start fs → fs ≡ faults_after s start
asked-faults s start fs (ended _ e) = sym (none_after s start e)
asked-faults s start fs (again _ rest e more) =
    ap {B = List Fault} (λ l. next_fault s start ∷ l) (asked-faults s ((next_fault s start).place + 1) rest more) ∙ sym (found_at s start e).rest

by-found : (s : List ℕ) (start : ℕ) (b : Bool) → (next_fault s start).found ≡ b
    → (((next_fault s start).found ≡ true) → Asked s ((next_fault s start).place + 1) (faults_after s ((next_fault s start).place + 1))) → Asked s start (faults_after s start)
by-found s start true e more = subst⁻¹ (Asked s start) (found_at s start e).rest (again start _ e (more e))
by-found s start false e more = subst⁻¹ (Asked s start) (none_after s start e) (ended start e)

asked-within : (fuel : ℕ) (s : List ℕ) (start : ℕ) → length s ≤ start + fuel → Asked s start (faults_after s start)
asked-within zero s start past =
    by-found s start _ refl (λ e. absurd (omega (arith, (found_at s start e).after, (found_at s start e).inside)))
asked-within (suc fuel) s start past =
    by-found s start _ refl (λ e. asked-within fuel s ((next_fault s start).place + 1) (omega (arith, (found_at s start e).after)))

-- and every recording can be asked until there is none
pub asked-exists : (s : List ℕ) (start : ℕ) → Asked s start (faults_after s start)
asked-exists s start = asked-within (length s) s start (omega arith)

-- ── one place

module _ (s : List ℕ) (q : ℕ) where
  found_here : ((next_fault s q).found ≡ true) × ((next_fault s q).place ≡ q) → (get_or s q 0 ≡ 0xAA) × (Whole (drop q s) → ⊥)
  found_here (e, here) =
      let is = subst (λ (k : ℕ). is_fault (drop k s) ≡ true) here (found_at s q e).is in
      (sym (first-of s q) ∙ fault-sync (drop q s) is, fault-not-whole (drop q s) is)

  here_found : (get_or s q 0 ≡ 0xAA) × (Whole (drop q s) → ⊥) → ((next_fault s q).found ≡ true) × ((next_fault s q).place ≡ q)
  here_found (sync, bad) =
      let inside : q < length s = dite (dec_lt q (length s)) (λ h. h) (λ h. absurd (omega (arith, sync, get_or-eq_default s 0 {n = q} (omega arith)))) in
      let first = next_here s q inside sync bad in
      (ap (λ (f : Fault). f.found) first, ap (λ (f : Fault). f.place) first)

-- a fault is told of a place exactly if it holds a 0xAA and, given room for any payload, no record is delivered there
pub fault-exactly : (s : List ℕ) (q room : ℕ) → q ≤ length s → 508 ≤ room
    → (((next_fault s q).found ≡ true) × ((next_fault s q).place ≡ q)) ↔ ((get_or s q 0 ≡ 0xAA) × (((next_of s q room).found ≡ true) × ((next_of s q room).position ≡ q) → ⊥))
fault-exactly s q room within fits =
    let delivered = next-exactly s q room within fits in (
      (λ told. let (sync, bad) = found_here s q told in (sync, λ record-there. bad (delivered.0 record-there))),
      (λ (sync, none). here_found s q (sync, λ whole. none (delivered.1 whole))),
    )

-- ── the places in order

abbrev AtLeast : ℕ → List ℕ → Type 0
AtLeast q [] = Unit {0}
AtLeast q (x ∷ rest) = (q ≤ x) × AtLeast q rest

weaker : (q : ℕ) (l : List ℕ) → AtLeast (suc q) l → AtLeast q l
weaker q [] a = tt
weaker q (x ∷ rest) a = (omega (arith, a.0), weaker q rest a.1)

syncs-least : (q : ℕ) (s : List ℕ) → AtLeast q (sync_places_from q s)
unfolding sync_places_from
syncs-least q [] = tt
syncs-least q (byte ∷ rest) =
    let later = weaker q (sync_places_from (suc q) rest) (syncs-least (suc q) rest) in
    choose-by (AtLeast q) _ (λ e. (omega arith, later)) (λ e. later)

deliveries-least : (q : ℕ) (s : List ℕ) → AtLeast q (delivery_positions (deliveries_from q s))
unfolding deliveries_from
deliveries-least q [] = tt
deliveries-least q (byte ∷ rest) =
    let later = weaker q (delivery_positions (deliveries_from (suc q) rest)) (deliveries-least (suc q) rest) in
    choose-by (λ (ds : List Delivery). AtLeast q (delivery_positions ds)) _ (λ e. (omega arith, later)) (λ e. later)

not_in : (q : ℕ) (l : List ℕ) → AtLeast (suc q) l → is_in q l ≡ false
not_in q [] a = refl
not_in q (x ∷ rest) a = rw (ne_eqb q x (λ e. omega (arith, a.0))) (not_in q rest a.1)

without-less : (q : ℕ) (gone l : List ℕ) → AtLeast (suc q) l → without (q ∷ gone) l ≡ without gone l
unfolding without
without-less q gone [] a = refl
without-less q gone (x ∷ rest) a = rw (ne_eqb x q (λ e. omega (arith, a.0)), without-less q gone rest a.1) refl

-- the places of the 0xAA that gave no record
abbrev unanswered : ℕ → List ℕ → List ℕ
unanswered q rest = without (delivery_positions (deliveries_from q rest)) (sync_places_from q rest)

module _ (q byte : ℕ) (rest : List ℕ) where
  no-sync : (byte ≡ 0xAA → ⊥) → unanswered q (byte ∷ rest) ≡ unanswered (suc q) rest
  unfolding deliveries_from sync_places_from choose
  no-sync other = rw (ne_eqb (validation_of (byte ∷ rest)).verdict 0 (λ w. other (whole-sync (byte ∷ rest) w)), ne_eqb byte 0xAA other) refl

  whole-place : byte ≡ 0xAA → Whole (byte ∷ rest) → unanswered q (byte ∷ rest) ≡ unanswered (suc q) rest
  unfolding deliveries_from sync_places_from without choose
  whole-place sync w =
      rw (eq-eqb (validation_of (byte ∷ rest)).verdict 0 w, eq-eqb byte 0xAA sync, eq-eqb q q refl)
      (without-less q (delivery_positions (deliveries_from (suc q) rest)) (sync_places_from (suc q) rest) (syncs-least (suc q) rest))

  fault-place : byte ≡ 0xAA → (Whole (byte ∷ rest) → ⊥) → unanswered q (byte ∷ rest) ≡ q ∷ unanswered (suc q) rest
  unfolding deliveries_from sync_places_from without choose
  fault-place sync bad =
      rw (ne_eqb (validation_of (byte ∷ rest)).verdict 0 bad, eq-eqb byte 0xAA sync, not_in q _ (deliveries-least (suc q) rest)) refl

  passed : is_fault (byte ∷ rest) ≡ false → faults_from q (byte ∷ rest) ≡ faults_from (suc q) rest
  unfolding faults_from choose
  passed e = rw e

  told : is_fault (byte ∷ rest) ≡ true → faults_from q (byte ∷ rest) ≡ fault_of q (byte ∷ rest) ∷ faults_from (suc q) rest
  unfolding faults_from choose
  told e = rw e

places-from : (q : ℕ) (s : List ℕ) → fault_places (faults_from q s) ≡ unanswered q s
unfolding faults_from deliveries_from sync_places_from without
places-from q [] = refl
places-from q (byte ∷ rest) =
    let t = byte ∷ rest in
    let later = places-from (suc q) rest in
    dite (ℕ_discrete byte 0xAA)
    (λ sync. dite (ℕ_discrete (validation_of t).verdict 0)
    (λ w. ap fault_places (passed q byte rest (whole-no-fault t sync w)) ∙ later ∙ sym (whole-place q byte rest sync w))
    (λ bad.
    ap fault_places (told q byte rest (fault-is t sync bad))
    ∙ ap {B = List ℕ} (λ l. q ∷ l) later
    ∙ sym (fault-place q byte rest sync bad)))
    (λ other. ap fault_places (passed q byte rest (no-sync-no-fault t other)) ∙ later ∙ sym (no-sync q byte rest other))

-- asked from the start until there is none, what is told stands at the places of the 0xAA, in order, but those of the deliveries
pub faults-exactly : (s : List ℕ) (fs : List Fault) → Asked s 0 fs → fault_places fs ≡ without (delivery_positions (deliveries_from 0 s)) (sync_places_from 0 s)
faults-exactly s fs asked = ap fault_places (asked-faults s 0 fs asked) ∙ places-from 0 s
