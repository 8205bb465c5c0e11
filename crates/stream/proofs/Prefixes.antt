-- Laws of stretches that begin with the same bytes: up to there they have the same faults, and none ends before the other does.
use Prim.Native.Nat.{ℕ, zero, suc, ◌+◌, ◌-◌, ◌*◌, ◌≤◌, ◌<◌}
use native.Mathlib.Omega.{arith}
use native.Mathlib.Decide.{dec_lt}
use native.Mathlib.Nat.{mod-le, zero-add}
use mathlib.Core.Path.{◌≡◌, refl, ap, ◌∙◌, sym}
use mathlib.Core.Logic.{dite}
use mathlib.Core.List.{List, [], ◌∷◌}
use borrow.Author.Tests.{eqb-true, lt-ltb, le-ltb}
use lib.ListN.{get_or, take, drop}
use lib.Seq.{get_or-take, take-take, take-nil}
use Rattle.basics.specs.Choice.{choose}
use Rattle.basics.proofs.Choice.{choose-by}
use Rattle.stream.specs.Layout.{kind_of, kind, header_length, frame_width, telegram_frames, frame_count, stream_length}
use Rattle.stream.specs.declared.Kind.{Kind}
use Rattle.stream.specs.declared.Kind.TheVariants.{Packet, Datagram, Telegram, Unknown}
use Rattle.stream.specs.Validation.{Rule, any, unknown, header_sum, frame_sum, frame_rule, header_rule, rule_at, breach, fault_at, validation_of}
use Rattle.stream.proofs.Faults.{rule-header}
use Rattle.stream.proofs.Headers.{address-any, header_length-least, at-least-six, length-as}
use Rattle.stream.proofs.Reached.{whole-clean}

-- ── two stretches that begin with the same m bytes

pub record Same (m : ℕ) (s u : List ℕ) : Type 0 where
  pub begin : take m s ≡ take m u

take-drop : (a n : ℕ) (s : List ℕ) → take n (drop a s) ≡ drop a (take (a + n) s)
take-drop zero n s = rw (zero-add n)
take-drop (suc a) n [] = rw (take-nil n, take-nil (suc a + n))
take-drop (suc a) n (x ∷ s) = let more : suc (a + n) ≡ suc a + n = omega arith in take-drop a n s ∙ ap (λ (m : ℕ). drop (suc a) (take m (x ∷ s))) more

module _ {s u : List ℕ} {m : ℕ} (same : Same m s u) where
  pub same_byte : (i : ℕ) → i < m → get_or s i 0 ≡ get_or u i 0
  same_byte i h = sym (get_or-take m s i 0 h) ∙ ap (λ (l : List ℕ). get_or l i 0) same.begin ∙ get_or-take m u i 0 h

  same-less : (n : ℕ) → n ≤ m → take n s ≡ take n u
  same-less n h = sym (take-take n m s h) ∙ ap (take n) same.begin ∙ take-take n m u h

  pub same-part : (a n : ℕ) → a + n ≤ m → take n (drop a s) ≡ take n (drop a u)
  same-part a n h = take-drop a n s ∙ ap (drop a) (same-less (a + n) h) ∙ sym (take-drop a n u)

  same_kind : 5 < m → kind s ≡ kind u
  same_kind h = ap kind_of (same_byte 5 h)

-- ── a rule looks at no byte behind its place

-- a rule of the kind at offset k: the bytes that a checksum speaks of stand before it
abbrev pub Fits : Kind → Rule → ℕ → Type 0
Fits K any k = Unit {0}
Fits K unknown k = k ≡ 5
Fits K (header_sum n) k = (n + 1 ≡ k) × (5 < k)
Fits K (frame_sum width) k = (width ≡ frame_width K) × (width + 1 ≤ k) × (5 < k)

header-fits : (K : Kind) (k : ℕ) → Fits K (header_rule K k) k
unfolding header_rule
header-fits Packet k = choose-by (λ (r : Rule). Fits Packet r k) _ (λ e. (sym (eqb-true k 9 e), omega (arith, eqb-true k 9 e))) (λ e. tt)
header-fits Datagram k =
    choose-by (λ (r : Rule). Fits Datagram r k) _ (λ e. (sym (eqb-true k 15 e), omega (arith, eqb-true k 15 e))) (λ e. tt)
header-fits Telegram k = choose-by (λ (r : Rule). Fits Telegram r k) _ (λ e. (sym (eqb-true k 7 e), omega (arith, eqb-true k 7 e))) (λ e. tt)
header-fits Unknown k = choose-by (λ (r : Rule). Fits Unknown r k) _ (λ e. eqb-true k 5 e) (λ e. tt)

frame-fits : (K : Kind) (i k : ℕ) → i ≤ k → 5 < k → Fits K (frame_rule (frame_width K) i) k
unfolding frame_rule
frame-fits K i k h far =
    choose-by (λ (r : Rule). Fits K r k) _ (λ e. (refl, omega (arith, eqb-true i (frame_width K + 1) e), far)) (λ e. tt)

pub fits : (K : Kind) (k : ℕ) → Fits K (rule_at K k) k
unfolding rule_at choose
fits K k =
    dite (dec_lt k (header_length K))
    (λ short. rw (lt-ltb k (header_length K) short) (header-fits K k))
    (λ long. rw (le-ltb k (header_length K) (omega arith))
    (frame-fits K _ k (omega (arith, mod-le (k - header_length K) (frame_width K + 2))) (omega (arith, header_length-least K))))

early-any : (K : Kind) (k : ℕ) → k < 5 → rule_at K k ≡ any
early-any K k h = rule-header K k (omega (arith, header_length-least K)) ∙ address-any K k h

module _ {s u : List ℕ} {m : ℕ} (same : Same m s u) where
  same-breach : (K : Kind) (rule : Rule) (k : ℕ) → Fits K rule k → k < m → breach rule s k ≡ breach rule u k
  unfolding breach
  same-breach K any k f h = refl
  same-breach K unknown k f h = refl
  same-breach K (header_sum n) k f h = rw (same_byte same k h, same-part same 1 n (omega (arith, f.0)))
  same-breach K (frame_sum width) k f h = rw (same_byte same k h, same-part same (k - (width + 1)) (width + 1) (omega (arith, f.1)))

  pub same-rule : (k : ℕ) → k ≤ m → (k ≡ 5 → ⊥) → rule_at (kind s) k ≡ rule_at (kind u) k
  same-rule k h ne =
      dite (dec_lt k 5)
      (λ early. early-any (kind s) k early ∙ sym (early-any (kind u) k early))
      (λ late. ap (λ (K : Kind). rule_at K k) (same_kind same (omega arith)))

  rules : (k : ℕ) → k < m → rule_at (kind s) k ≡ rule_at (kind u) k
  rules k h =
      dite (dec_lt 5 m)
      (λ far. ap (λ (K : Kind). rule_at K k) (same_kind same far))
      (λ near. same-rule k (omega arith) (λ e. omega arith))

  breaches : (k : ℕ) → k < m → breach (rule_at (kind s) k) s k ≡ breach (rule_at (kind u) k) u k
  breaches k h = ap (λ (r : Rule). breach r s k) (rules k h) ∙ same-breach (kind u) (rule_at (kind u) k) k (fits (kind u) k) h

  pub same-fault : (k : ℕ) → k < m → fault_at s k ≡ fault_at u k
  unfolding fault_at
  same-fault k h = rw (breaches k h, same_byte same 0 (omega arith), same_byte same k h)

  -- ── the length is told by the header

  counted : (K : Kind) → header_length K ≤ m → frame_count K s ≡ frame_count K u
  unfolding header_length frame_count
  counted Packet h = same_byte same 8 (omega arith)
  counted Datagram h = refl
  counted Telegram h = ap telegram_frames (same_byte same 6 (omega arith))
  counted Unknown h = refl

  pub same-long : (k : ℕ) → k ≤ m → k < stream_length s → k < stream_length u
  same-long k h below =
      dite (dec_lt k 6) (λ early. omega (arith, at-least-six u))
      (λ late. dite (dec_lt k (header_length (kind u)))
      (λ inside. omega (arith, length-as u (kind u) refl))
      (λ past.
      let K = kind u in
      omega (arith, length-as s K (same_kind same (omega arith)), length-as u K refl, ap (λ (n : ℕ). (frame_width K + 2) * n) (counted K (omega arith)))))

  -- a fault stays, whatever follows
  pub fault-stays : (k : ℕ) → k < m → 0 < fault_at s k → k < stream_length s → (validation_of u).verdict ≡ 0 → ⊥
  fault-stays k h bad below w = omega (arith, same-fault k h, (whole-clean u w).clean k (same-long k (omega arith) below))
