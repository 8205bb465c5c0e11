-- Laws of bytes that can grow: those that have no fault yet and announce no less, grow into one valid stream.
use Prim.Native.Nat.{ℕ, zero, suc, ◌+◌, ◌-◌, ◌≤◌, ◌<◌}
use native.Mathlib.Omega.{arith}
use native.Mathlib.Decide.{ℕ_discrete, dec_lt}
use mathlib.Core.Path.{◌≡◌, refl, ap, ◌∙◌, sym, subst, subst⁻¹}
use mathlib.Core.Logic.{dite}
use mathlib.Core.List.{List, [], ◌∷◌, ◌++◌, append_assoc, append-nil}
use borrow.Author.Count.{below_more}
use borrow.Author.Tests.{eq-eqb, ne_eqb}
use lib.Dec.{eqb}
use lib.ListN.{length, get_or, take, length-append, get_or-eq_default}
use lib.Seq.{take-take, take-length, take-append_seam, length-take-le, get_or-append_seam}
use Rattle.basics.specs.Choice.{choose}
use Rattle.checksum.specs.Checksum.{checksum_of}
use Rattle.checksum.proofs.Laws.{checksum_of-below}
use Rattle.stream.specs.Layout.{kind_of, kind, header_length, stream_length}
use Rattle.stream.specs.declared.Kind.{Kind}
use Rattle.stream.specs.Validation.{Rule, any, unknown, header_sum, frame_sum, header_rule, rule_at, sum_at, breach, fault_at}
use Rattle.stream.specs.declared.Validation.{Validation}
use Rattle.stream.proofs.Faults.{breach-any, sync-right, fault-low, low_held}
use Rattle.stream.proofs.Lengths.{as-low}
use Rattle.stream.proofs.Prefixes.{Same, Fits, fits, same-part, same-rule, same-fault, same-long}
use Rattle.stream.proofs.Reached.{clean-whole}
use Rattle.diagnosis.specs.Reason.{CanGrow}

-- no fault below k
abbrev pub CleanTo : List ℕ → ℕ → Type 0
CleanTo s k = (i : ℕ) → i < k → fault_at s i ≡ 0

-- ── what may stand behind some bytes

-- the sync byte, a packet's version, a right checksum, or else 0
unfoldable next_byte : List ℕ → ℕ
next_byte p = choose (eqb (length p) 0) 0xAA (choose (eqb (length p) 5) 0x10 (sum_at (rule_at (kind p) (length p)) p (length p)))

right-low : (rule : Rule) (p : List ℕ) (k : ℕ) → sum_at rule p k < 128
right-low any p k = omega arith
right-low unknown p k = omega arith
right-low (header_sum n) p k = checksum_of-below _
right-low (frame_sum width) p k = checksum_of-below _

module _ {p u : List ℕ} {k : ℕ} (K : Kind) (same : Same k p u) where
  pub same-right : (rule : Rule) → Fits K rule k → sum_at rule p k ≡ sum_at rule u k
  same-right any f = refl
  same-right unknown f = refl
  same-right (header_sum n) f = ap checksum_of (same-part same 1 n (omega (arith, f.0)))
  same-right (frame_sum width) f = ap checksum_of (same-part same (k - (width + 1)) (width + 1) (omega (arith, f.1)))

-- what stands at k holds the rule if it is what the rule wants
right_kept : (K : Kind) (rule : Rule) (u : List ℕ) (k : ℕ) → Fits K rule k → (k ≡ 5 → ⊥) → get_or u k 0 ≡ sum_at rule u k → breach rule u k ≡ 0
unfolding breach choose
right_kept K any u k f ne e = refl
right_kept K unknown u k f ne e = absurd (ne f)
right_kept K (header_sum n) u k f ne e = simp (eq-eqb _ _ e)
right_kept K (frame_sum width) u k f ne e = simp (eq-eqb _ _ e)

module _ (p t : List ℕ) where
  follows : (b : ℕ) → Same (length p) p (p ++ (b ∷ t))
  follows b = record { begin = take-length p ∙ sym (take-append_seam p (b ∷ t)) }

  pub here : (b : ℕ) → get_or (p ++ (b ∷ t)) (length p) 0 ≡ b
  here b = get_or-append_seam p b t 0

  -- a low byte that holds its rule
  pub next-held : (b : ℕ) → 0 < length p → (length p ≡ 5 → ⊥) → b ≡ sum_at (rule_at (kind p) (length p)) p (length p) → fault_at (p ++ (b ∷ t)) (length p) ≡ 0
  next-held b pos ne e =
      let u = p ++ (b ∷ t) in
      let k = length p in
      let rule = same-rule (follows b) k (omega arith) ne in
      fault-low u k pos (rw (here b, e) (right-low (rule_at (kind p) k) p k))
      ∙ ap (λ (r : Rule). breach r u k) (sym rule)
      ∙ right_kept (kind p) (rule_at (kind p) k) u k (fits (kind p) k) ne (here b ∙ e ∙ same-right (kind p) (follows b) (rule_at (kind p) k) (fits (kind p) k))

  sync-next : length p ≡ 0 → fault_at (p ++ (0xAA ∷ t)) (length p) ≡ 0
  sync-next e = rw e (sync-right (p ++ (0xAA ∷ t)) (rw e at (here 0xAA)))

  version-next : length p ≡ 5 → fault_at (p ++ (0x10 ∷ t)) (length p) ≡ 0
  unfolding kind_of rule_at header_rule header_length choose
  version-next e =
      let u = p ++ (0x10 ∷ t) in
      let version : get_or u 5 0 ≡ 0x10 = rw e at (here 0x10) in
      rw e (fault-low u 5 (omega arith) (omega (arith, version)) ∙ breach-any (rule_at (kind u) 5) u 5 (ap (λ (n : ℕ). rule_at (kind_of n) 5) version))

  next-right : fault_at (p ++ (next_byte p ∷ t)) (length p) ≡ 0
  unfolding next_byte choose
  next-right =
      dite (ℕ_discrete (length p) 0)
      (λ zero. simp (eq-eqb (length p) 0 zero) (sync-next zero))
      (λ pos. simp (ne_eqb (length p) 0 pos)
      (dite (ℕ_discrete (length p) 5)
      (λ five. simp (eq-eqb (length p) 5 five) (version-next five))
      (λ ne. simp (ne_eqb (length p) 5 ne) (next-held _ (omega arith) ne refl))))

-- the bytes of p are right, and a stream has more or ends there
pub record Grown (p : List ℕ) : Type 0 where
  pub clean : CleanTo p (length p)
  pub within : length p ≤ stream_length p

-- one byte more that is right
pub grown-more : (p : List ℕ) (b : ℕ) → Grown p → length p < stream_length p → fault_at (p ++ (b ∷ [])) (length p) ≡ 0 → Grown (p ++ (b ∷ []))
grown-more p b grown below right =
    let u = p ++ (b ∷ []) in
    let longer : length u ≡ length p + 1 = length-append p (b ∷ []) in
    let before : CleanTo u (length p) = λ i h. sym (same-fault (follows p [] b) i h) ∙ grown.clean i h in
    record {
      clean = subst⁻¹ (CleanTo u) longer (below_more (λ (n : ℕ). fault_at u n ≡ 0) (length p) before right);
      within = omega (arith, longer, same-long (follows p [] b) (length p) (omega arith) below);
    }

-- no stream is longer than 772 bytes
grown-most : (p : List ℕ) → Grown p → stream_length p ≤ 772
unfolding stream_length
grown-most p grown =
    as-low (kind p) p
    (dite (dec_lt 8 (length p))
    (λ there. low_held p 8 (omega arith) (grown.clean 8 there))
    (λ past. rw (get_or-eq_default p 0 {n = 8} (omega arith)) (omega arith)))

stream-now : (p : List ℕ) → Grown p → length p ≡ stream_length p → CanGrow p
stream-now p grown e =
    let said = clean-whole p (subst (CleanTo p) e grown.clean) (omega arith) in
    ([], rw (append-nil p) (record { whole = ap (λ (a : Validation). a.verdict) said; ends = ap (λ (a : Validation). a.offset) said ∙ sym e }))

can-grow : (fuel : ℕ) (p : List ℕ) → Grown p → 772 ≤ length p + fuel → CanGrow p
can-grow zero p grown enough = stream-now p grown (omega (arith, grown.within, grown-most p grown))
can-grow (suc fuel) p grown enough =
    dite (ℕ_discrete (length p) (stream_length p))
    (λ e. stream-now p grown e)
    (λ ne.
    let b = next_byte p in
    let more = grown-more p b grown (omega (arith, grown.within)) (next-right p []) in
    let (t, w) = can-grow fuel (p ++ (b ∷ [])) more (omega (arith, length-append p (b ∷ []))) in
    (b ∷ t, rw (append_assoc p (b ∷ []) t) at w))

pub grown-can : (p : List ℕ) → Grown p → CanGrow p
grown-can p grown = can-grow 772 p grown (omega arith)

-- ── the bytes before a fault

module _ (s : List ℕ) (k : ℕ) (inside : k ≤ length s) (clean : CleanTo s k) (below : k < stream_length s) where
  pub size : length (take k s) ≡ k
  size = length-take-le k s inside

  pub taken : Same k s (take k s)
  taken = record { begin = sym (take-take k k s (omega arith)) }

  pub taken-grown : Grown (take k s)
  taken-grown =
      record {
        clean = λ i h. sym (same-fault taken i (omega (arith, size))) ∙ clean i (omega (arith, size));
        within = omega (arith, size, same-long taken k (omega arith) below);
      }

  pub taken-below : length (take k s) < stream_length (take k s)
  taken-below = omega (arith, size, same-long taken k (omega arith) below)
