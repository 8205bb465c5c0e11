-- Laws of the faults: what each rule finds at its place, in the stream and in a frame that is looked at by itself.
use Prim.Native.Nat.{ℕ, ◌+◌, ◌-◌, ◌*◌, ◌%◌, ◌≤◌, ◌<◌}
use native.Mathlib.Omega.{arith}
use native.Mathlib.Nat.{mul-add-mod_self_left, mod-eq_of_lt}
use native.Mathlib.Decide.{ℕ_discrete, dec_lt}
use mathlib.Core.Path.{◌≡◌, refl, ◌∙◌, sym, subst, subst⁻¹}
use mathlib.Core.Logic.{dite}
use mathlib.Core.List.{List}
use borrow.Author.Tests.{eq-eqb, ne_eqb, lt-ltb, le-ltb, le-leb, lt-leb}
use lib.ListN.{length, get_or, take, drop}
use lib.Seq.{get_or-take, get_or-drop, take-take}
use Rattle.basics.specs.Choice.{choose}
use Rattle.basics.proofs.Choice.{choose-by, equal-of-zero}
use Rattle.checksum.specs.Checksum.{checksum_of}
use Rattle.stream.specs.Layout.{kind, header_length, frame_width}
use Rattle.stream.specs.declared.Kind.{Kind}
use Rattle.stream.specs.Validation.{Rule, any, unknown, header_sum, frame_sum, frame_rule, header_rule, rule_at, breach, fault_at}
use Rattle.stream.specs.Stage.{Clean, ended, found, ReachedBy, frame_fault, StopsAt}
use Rattle.stream.specs.declared.stop.Stop.{Stop}

-- ── a rule's fault, from what stands there, and back

pub breach-any : (rule : Rule) (s : List ℕ) (k : ℕ) → rule ≡ any → breach rule s k ≡ 0
unfolding breach
breach-any rule s k e = rw e

pub unknown-held : (s : List ℕ) (k : ℕ) → breach unknown s k ≡ 0 → ⊥
unfolding breach
unknown-held s k e = omega arith

module _ (n : ℕ) (s : List ℕ) (k : ℕ) where
  pub header_sum-right : get_or s k 0 ≡ checksum_of (take n (drop 1 s)) → breach (header_sum n) s k ≡ 0
  unfolding breach choose
  header_sum-right e = simp (eq-eqb _ _ e)

  pub header_sum-wrong : (get_or s k 0 ≡ checksum_of (take n (drop 1 s)) → ⊥) → breach (header_sum n) s k ≡ 4
  unfolding breach choose
  header_sum-wrong e = simp (ne_eqb _ _ e)

  pub header_sum-held : breach (header_sum n) s k ≡ 0 → get_or s k 0 ≡ checksum_of (take n (drop 1 s))
  unfolding breach
  header_sum-held e = equal-of-zero _ _ 4 (omega arith) e

-- the checksum of what stands from a on
module _ (width : ℕ) (s : List ℕ) (a : ℕ) where
  back : a + (width + 1) - (width + 1) ≡ a
  back = omega arith

  pub frame_sum-right : get_or s (a + (width + 1)) 0 ≡ checksum_of (take (width + 1) (drop a s)) → breach (frame_sum width) s (a + (width + 1)) ≡ 0
  unfolding breach choose
  frame_sum-right e = simp (back, eq-eqb _ _ e)

  pub frame_sum-wrong : (get_or s (a + (width + 1)) 0 ≡ checksum_of (take (width + 1) (drop a s)) → ⊥) → breach (frame_sum width) s (a + (width + 1)) ≡ 6
  unfolding breach choose
  frame_sum-wrong e = simp (back, ne_eqb _ _ e)

  pub frame_sum-held : breach (frame_sum width) s (a + (width + 1)) ≡ 0 → get_or s (a + (width + 1)) 0 ≡ checksum_of (take (width + 1) (drop a s))
  unfolding breach
  frame_sum-held e = rw back at (equal-of-zero (get_or s (a + (width + 1)) 0) (checksum_of (take (width + 1) (drop (a + (width + 1) - (width + 1)) s))) 6 (omega arith) e)

-- ── the places of a frame

pub place-any : (width i : ℕ) → i < width + 1 → frame_rule width i ≡ any
unfolding frame_rule choose
place-any width i h = simp (ne_eqb i (width + 1) (λ e. omega arith))

pub place-sum : (width : ℕ) → frame_rule width (width + 1) ≡ frame_sum width
unfolding frame_rule choose
place-sum width = simp (eq-eqb (width + 1) (width + 1) refl)

-- what holds of the places of the payload and the septet, and of the checksum's, holds of each place
pub by_place : (P : ℕ → Type 0) (width : ℕ) → ((i : ℕ) → i < width + 1 → P i) → P (width + 1) → (i : ℕ) → i < width + 2 → P i
by_place P width p q i inside = dite (ℕ_discrete i (width + 1)) (λ e. subst⁻¹ P e q) (λ ne. p i (omega arith))

-- ── the rules of a kind

-- where frame f begins
abbrev pub frame_base : Kind → ℕ → ℕ
frame_base K f = header_length K + (frame_width K + 2) * f

pub rule-header : (K : Kind) (k : ℕ) → k < header_length K → rule_at K k ≡ header_rule K k
unfolding rule_at choose
rule-header K k h = simp (lt-ltb k (header_length K) h)

pub rule-frame : (K : Kind) (f i : ℕ) → i < frame_width K + 2 → rule_at K (frame_base K f + i) ≡ frame_rule (frame_width K) i
unfolding rule_at choose
rule-frame K f i h =
    let past : frame_base K f + i - header_length K ≡ (frame_width K + 2) * f + i = omega arith in
    let place : ((frame_width K + 2) * f + i) % (frame_width K + 2) ≡ i = mul-add-mod_self_left (frame_width K + 2) f i ∙ mod-eq_of_lt h in
    let behind : header_length K ≤ frame_base K f + i = omega arith in
    rw (le-ltb (frame_base K f + i) (header_length K) behind, past, place)

-- ── a high byte, or what the rule finds

pub frame-high : (width : ℕ) (part : List ℕ) (i : ℕ) → 0x80 ≤ get_or part i 0 → frame_fault width part i ≡ 2
unfolding frame_fault choose
frame-high width part i h = simp (le-leb _ _ h)

pub frame-low : (width : ℕ) (part : List ℕ) (i : ℕ) → get_or part i 0 < 0x80 → frame_fault width part i ≡ breach (frame_rule width i) part i
unfolding frame_fault choose
frame-low width part i h = simp (lt-leb _ _ h)

pub frame-low-held : (width : ℕ) (part : List ℕ) (i : ℕ) → frame_fault width part i ≡ 0 → get_or part i 0 < 0x80
frame-low-held width part i e =
    dite (dec_lt (get_or part i 0) 0x80) (λ low. low) (λ high. absurd (omega (arith, frame-high width part i (omega arith))))

pub fault-high : (s : List ℕ) (k : ℕ) → 0 < k → 0x80 ≤ get_or s k 0 → fault_at s k ≡ 2
unfolding fault_at choose
fault-high s k p h = simp (ne_eqb k 0 (λ e. omega arith), le-leb _ _ h)

pub fault-low : (s : List ℕ) (k : ℕ) → 0 < k → get_or s k 0 < 0x80 → fault_at s k ≡ breach (rule_at (kind s) k) s k
unfolding fault_at choose
fault-low s k p h = simp (ne_eqb k 0 (λ e. omega arith), lt-leb _ _ h)

pub low_held : (s : List ℕ) (k : ℕ) → 0 < k → fault_at s k ≡ 0 → get_or s k 0 < 0x80
low_held s k pos e = dite (dec_lt (get_or s k 0) 0x80) (λ low. low) (λ high. absurd (omega (arith, fault-high s k pos (omega arith))))

pub sync-right : (s : List ℕ) → get_or s 0 0 ≡ 0xAA → fault_at s 0 ≡ 0
unfolding fault_at choose
sync-right s e = simp (eq-eqb _ _ e)

pub sync-wrong : (s : List ℕ) → (get_or s 0 0 ≡ 0xAA → ⊥) → fault_at s 0 ≡ 1
unfolding fault_at choose
sync-wrong s e = simp (ne_eqb _ _ e)

pub sync-held : (s : List ℕ) → fault_at s 0 ≡ 0 → get_or s 0 0 ≡ 0xAA
sync-held s e = dite (ℕ_discrete (get_or s 0 0) 0xAA) (λ q. q) (λ bad. absurd (omega (arith, sync-wrong s bad)))

-- ── the numbers that a fault can have

breach-by : (P : ℕ → Type 0) → P 0 → P 3 → P 4 → P 6 → (rule : Rule) (s : List ℕ) (k : ℕ) → P (breach rule s k)
unfolding breach
breach-by P zero three four six any s k = zero
breach-by P zero three four six unknown s k = three
breach-by P zero three four six (header_sum n) s k = choose-by P _ (λ t. zero) (λ t. four)
breach-by P zero three four six (frame_sum width) s k = choose-by P _ (λ t. zero) (λ t. six)

-- what holds of 0 to 4 and of 6 holds of what a byte brings
pub fault-by : (P : ℕ → Type 0) → P 0 → P 1 → P 2 → P 3 → P 4 → P 6 → (s : List ℕ) (k : ℕ) → P (fault_at s k)
unfolding fault_at
fault-by P zero one two three four six s k =
    choose-by P _ (λ t. choose-by P _ (λ t. zero) (λ t. one))
    (λ t. choose-by P _ (λ t. two) (λ t. breach-by P zero three four six (rule_at (kind s) k) s k))

-- V7 is no byte's
pub fault-most : (s : List ℕ) (k : ℕ) → fault_at s k < 7
fault-most = fault-by (λ (v : ℕ). v < 7) (omega arith) (omega arith) (omega arith) (omega arith) (omega arith) (omega arith)

-- ── a frame by itself

module _ (width : ℕ) (s : List ℕ) (a m : ℕ) where
  part-byte : (i : ℕ) → i < m → get_or (take m (drop a s)) i 0 ≡ get_or s (a + i) 0
  part-byte i there = get_or-take m (drop a s) i 0 there ∙ get_or-drop a s i 0

  sum-part : width + 1 < m → breach (frame_sum width) s (a + (width + 1)) ≡ breach (frame_sum width) (take m (drop a s)) (width + 1)
  unfolding breach
  sum-part there =
      let here : width + 1 - (width + 1) ≡ 0 = omega arith in
      let within : width + 1 ≤ m = omega arith in
      simp (back width s a, here, part-byte (width + 1) there, take-take (width + 1) m (drop a s) within)

  breach-part : (i : ℕ) → i < width + 2 → i < m → breach (frame_rule width i) s (a + i) ≡ breach (frame_rule width i) (take m (drop a s)) i
  breach-part =
      by_place (λ (i : ℕ). i < m → breach (frame_rule width i) s (a + i) ≡ breach (frame_rule width i) (take m (drop a s)) i) width
      (λ i h there. breach-any _ s _ (place-any width i h) ∙ sym (breach-any _ (take m (drop a s)) i (place-any width i h)))
      (λ there. rw place-sum (sum-part there))

  -- place i of the frame that starts at a is found as in the part that starts there
  pub frame-part : (i : ℕ) → 0 < a → rule_at (kind s) (a + i) ≡ frame_rule width i → i < width + 2 → i < m → fault_at s (a + i) ≡ frame_fault width (take m (drop a s)) i
  unfolding fault_at frame_fault choose
  frame-part i p rule inside there =
      simp (ne_eqb (a + i) 0 (λ e. omega arith), part-byte i there, rule, breach-part i inside there)

-- ── what a search for high bytes reaches

pub stop-reached : {fault : ℕ → ℕ} {s : List ℕ} {from limit total : ℕ} {stop : Stop} → StopsAt s from limit stop → limit ≤ total → Clean fault stop.offset
    → (0x80 ≤ get_or s stop.offset 0 → fault stop.offset ≡ 2) → ReachedBy fault total (length s) stop
stop-reached {fault} {s} {from} {limit} {total} {stop} stops room clean bad =
    dite (dec_lt stop.offset (length s))
    (λ inside.
    let (byte, two) = stops.high inside in
    found (bad byte ∙ sym two) (omega arith) clean (omega (arith, stops.short)) inside)
    (λ outside.
    let end : stop.offset ≡ length s = omega (arith, stops.before.within) in
    ended (stops.ends (omega arith)) end (subst (Clean fault) end clean) (omega (arith, stops.short)))
