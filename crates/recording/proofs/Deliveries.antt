-- Laws of the deliveries: where no stream begins, what a whole stream delivers, and what comes first.
use Prim.Native.Nat.{ℕ, zero, suc, ◌+◌, ◌-◌, ◌<◌, ◌≤◌}
use native.Mathlib.Omega.{arith}
use native.Mathlib.Nat.{add-zero}
use native.Mathlib.Numerals.{add-one}
use native.Mathlib.Decide.{ℕ_discrete, dec_lt}
use mathlib.Core.Path.{◌≡◌, refl, sym, ap, subst, ◌∙◌}
use mathlib.Core.Logic.{dite}
use mathlib.Core.List.{List, [], ◌∷◌, ◌++◌}
use borrow.Author.Tests.{eq-eqb, ne_eqb}
use lib.ListN.{length, get_or, take, drop, drop_of_length-le, take-append-drop}
use lib.Seq.{drop-cons, drop-drop, get_or-drop, length-take-le}
use Rattle.basics.specs.Bytes.{AllBelow}
use Rattle.basics.specs.Choice.{choose}
use Rattle.basics.proofs.Bytes.{take_below}
use Rattle.stream.specs.Layout.{kind, header_length}
use Rattle.stream.specs.Validation.{validation_of}
use Rattle.stream.specs.declared.Kind.{Kind}
use Rattle.stream.specs.declared.Kind.TheVariants.{Packet, Datagram, Telegram, Unknown}
use Rattle.stream.proofs.Whole.{WholeAs}
use Rattle.record.specs.Record.{Record, record_of}
use Rattle.record.proofs.WholeAgain.{whole_parts}
use Rattle.recording.specs.Recording.{Delivery, delivery_at, deliveries_from, deliveries_after, contents_of, records}

abbrev pub Whole : List ℕ → Type 0
Whole s = (validation_of s).verdict ≡ 0

-- ── a whole stream begins with the sync byte, and no other of its bytes is one

pub whole-sync : (s : List ℕ) → Whole s → get_or s 0 0 ≡ 0xAA
whole-sync s w = (whole_parts s w).whole.sync

whole-low : (s : List ℕ) → Whole s → (k : ℕ) → 0 < k → k < (validation_of s).offset → get_or s k 0 < 128
whole-low s w k pos h = (whole_parts s w).whole.low k pos (omega (arith, (whole_parts s w).sized))

eight : (K : Kind) (s : List ℕ) → WholeAs K s → 8 ≤ header_length K
unfolding header_length
eight Packet s whole = omega arith
eight Datagram s whole = omega arith
eight Telegram s whole = omega arith
eight Unknown s whole = absurd whole.sum

pub whole_long : (s : List ℕ) → Whole s → (8 ≤ (validation_of s).offset) × ((validation_of s).offset ≤ length s)
whole_long s w =
    let parts = whole_parts s w in
    (omega (arith, parts.sized, eight (kind s) s parts.whole), omega (arith, parts.sized, parts.held))

-- document 01: no two streams overlap, because no byte after a stream's first is 0xAA
pub no-overlap : (s : List ℕ) (p q : ℕ) → Whole (drop p s) → Whole (drop q s) → p < q → p + (validation_of (drop p s)).offset ≤ q
no-overlap s p q wp wq before =
    dite (dec_lt q (p + (validation_of (drop p s)).offset))
    (λ inside.
    let low : get_or (drop p s) (q - p) 0 < 128 = whole-low (drop p s) wp (q - p) (omega arith) (omega arith) in
    let same : get_or (drop p s) (q - p) 0 ≡ get_or (drop q s) 0 0 =
    get_or-drop p s (q - p) 0 ∙ ap (λ (n : ℕ). get_or s n 0) (omega arith) ∙ sym (get_or-drop q s 0 0) in
    absurd (omega (arith, whole-sync (drop q s) wq)))
    (λ outside. omega arith)

-- ── one position

module _ (q byte : ℕ) (rest : List ℕ) where
  here : Whole (byte ∷ rest) → deliveries_from q (byte ∷ rest) ≡ delivery_at q (byte ∷ rest) ∷ deliveries_from (suc q) rest
  unfolding deliveries_from choose
  here w = rw (eq-eqb _ 0 w)

  pub passed : (Whole (byte ∷ rest) → ⊥) → deliveries_from q (byte ∷ rest) ≡ deliveries_from (suc q) rest
  unfolding deliveries_from choose
  passed faulty = rw (ne_eqb _ 0 faulty)

-- no stream begins at a byte that is not the sync byte
pub skip : (q : ℕ) (l t : List ℕ) → AllBelow 128 l → deliveries_from q (l ++ t) ≡ deliveries_from (q + length l) t
skip q [] t low = rw (add-zero q)
skip q (x ∷ l) t low =
    passed q x (l ++ t) (λ w. omega (arith, whole-sync (x ∷ (l ++ t)) w)) ∙ skip (suc q) l t low.1 ∙ ap (λ (n : ℕ). deliveries_from n t) (omega arith)

-- a whole stream is delivered, and then what follows it
pub first-whole : (q : ℕ) (s : List ℕ) → Whole s → deliveries_from q s ≡ delivery_at q s ∷ deliveries_from (q + (validation_of s).offset) (drop (validation_of s).offset s)
first-whole q [] w = absurd (omega (arith, whole-sync [] w))
first-whole q (byte ∷ rest) w =
    let s = byte ∷ rest in
    let long = whole_long s w in
    let n = (validation_of s).offset - 1 in
    let size : (validation_of s).offset ≡ suc n = omega arith in
    let low : AllBelow 128 (take n rest) = take_below 128 n rest (λ i h. whole-low s w (suc i) (omega arith) (omega arith)) in
    let passed : length (take n rest) ≡ n = length-take-le n rest (omega arith) in
    let past : deliveries_from (suc q) rest ≡ deliveries_from (q + (validation_of s).offset) (drop (validation_of s).offset s) =
    ap (deliveries_from (suc q)) (sym (take-append-drop n rest))
    ∙ skip (suc q) (take n rest) (drop n rest) low
    ∙ ap (λ (m : ℕ). deliveries_from m (drop n rest)) (omega (arith, passed))
    ∙ ap (λ (m : ℕ). deliveries_from (q + (validation_of s).offset) (drop m s)) (sym size) in
    here q byte rest w ∙ ap {B = List Delivery} (λ l. delivery_at q s ∷ l) past

-- ── from a starting place on

module _ (s : List ℕ) (start : ℕ) where
  pub after-end : length s ≤ start → deliveries_after s start ≡ []
  unfolding deliveries_from
  after-end past = rw (drop_of_length-le s {i = start} past)

  after_on : start < length s → (Whole (drop start s) → ⊥) → deliveries_after s start ≡ deliveries_after s (start + 1)
  after_on inside w =
      let begins = drop-cons s start 0 inside in
      rw (begins, add-one) (passed start (get_or s start 0) (drop (suc start) s) (λ x. w (rw begins x)))

  pub after-here : Whole (drop start s) → deliveries_after s start ≡ delivery_at start (drop start s) ∷ deliveries_after s (start + (validation_of (drop start s)).offset)
  after-here w = first-whole start (drop start s) w ∙ rw drop-drop

-- past positions where no whole stream begins
pub after-skip : (s : List ℕ) (start n : ℕ) → ((k : ℕ) → start ≤ k → k < start + n → k < length s → Whole (drop k s) → ⊥) → deliveries_after s start ≡ deliveries_after s (start + n)
after-skip s start zero none = rw (add-zero start)
after-skip s start (suc n) none =
    after-skip s start n (λ k a b. none k a (omega arith))
    ∙ dite (dec_lt (start + n) (length s))
    (λ inside. after_on s (start + n) inside (none (start + n) (omega arith) (omega arith) inside) ∙ ap (deliveries_after s) (omega arith))
    (λ outside. after-end s (start + n) (omega arith) ∙ sym (after-end s (start + suc n) (omega arith)))

-- what comes first from a starting place on: nothing, or the first whole stream and then what follows it
pub data FirstAfter (s : List ℕ) (start : ℕ) : List Delivery → Type 0 where
  none : ((k : ℕ) → start ≤ k → k < length s → Whole (drop k s) → ⊥) → FirstAfter s start []
  some : (q : ℕ) → start ≤ q → q < length s → Whole (drop q s) → ((k : ℕ) → start ≤ k → k < q → Whole (drop k s) → ⊥)
      → FirstAfter s start (delivery_at q (drop q s) ∷ deliveries_after s (q + (validation_of (drop q s)).offset))

-- the same, from an earlier start between which and this one no whole stream begins
earlier : (s : List ℕ) (start : ℕ) (ds : List Delivery) → (Whole (drop start s) → ⊥) → FirstAfter s (start + 1) ds → FirstAfter s start ds
earlier s start ds here (none free) =
    none (λ k a b w. dite (ℕ_discrete k start) (λ e. here (subst (λ (n : ℕ). Whole (drop n s)) e w)) (λ ne. free k (omega arith) b w))
earlier s start ds here (some q a b w free) =
    some q (omega arith) b w
    (λ k l h x. dite (ℕ_discrete k start) (λ e. here (subst (λ (n : ℕ). Whole (drop n s)) e x)) (λ ne. free k (omega arith) h x))

first-within : (fuel : ℕ) (s : List ℕ) (start : ℕ) → length s ≤ start + fuel → FirstAfter s start (deliveries_after s start)
first-within zero s start past = rw (after-end s start (omega arith)) (none (λ k a b w. omega arith))
first-within (suc fuel) s start past =
    dite (dec_lt start (length s))
    (λ inside. dite (ℕ_discrete (validation_of (drop start s)).verdict 0)
    (λ w. rw (after-here s start w) (some start (omega arith) inside w (λ k a b x. omega arith)))
    (λ no. rw (after_on s start inside no) (earlier s start _ no (first-within fuel s (start + 1) (omega arith)))))
    (λ outside. rw (after-end s start (omega arith)) (none (λ k a b w. omega arith)))

pub first-after : (s : List ℕ) (start : ℕ) → FirstAfter s start (deliveries_after s start)
first-after s start = first-within (length s) s start (omega arith)

-- what holds of none, and of a whole stream and what follows it if it holds of what follows, holds of all
pub after-ind : (s : List ℕ) (P : ℕ → List Delivery → Type 0) → ((start : ℕ) → P start [])
    → ((start q : ℕ) → start ≤ q → (w : Whole (drop q s)) → P (q + (validation_of (drop q s)).offset) (deliveries_after s (q + (validation_of (drop q s)).offset))
    → P start (delivery_at q (drop q s) ∷ deliveries_after s (q + (validation_of (drop q s)).offset)))
    → (start : ℕ) → P start (deliveries_after s start)
after-ind s P base step start = within (length s) start (omega arith)
  where
    Next : ℕ → Type 0
    Next q = P (q + (validation_of (drop q s)).offset) (deliveries_after s (q + (validation_of (drop q s)).offset))

    one : (start : ℕ) (ds : List Delivery) → FirstAfter s start ds → ((q : ℕ) → start ≤ q → q < length s → Whole (drop q s) → Next q) → P start ds
    one start ds (none free) next = base start
    one start ds (some q a b w free) next = step start q a w (next q a b w)

    within : (fuel start : ℕ) → length s ≤ start + fuel → P start (deliveries_after s start)
    within zero start enough = one start _ (first-after s start) (λ q a b w. absurd (omega arith))
    within (suc fuel) start enough =
        one start _ (first-after s start)
        (λ q a b w. within fuel (q + (validation_of (drop q s)).offset) (omega (arith, whole_long (drop q s) w)))

-- ── the records alone

pub contents-moved : (p q : ℕ) (s : List ℕ) → contents_of (deliveries_from p s) ≡ contents_of (deliveries_from q s)
unfolding deliveries_from
contents-moved p q [] = refl
contents-moved p q (byte ∷ rest) =
    dite (ℕ_discrete (validation_of (byte ∷ rest)).verdict 0)
    (λ w. rw (here p byte rest w, here q byte rest w) (ap {B = List Record} (λ l. record_of (byte ∷ rest) ∷ l) (contents-moved (suc p) (suc q) rest)))
    (λ no. rw (passed p byte rest no, passed q byte rest no) (contents-moved (suc p) (suc q) rest))

-- the deliveries from a position on are the records of the bytes from there on
pub contents-after : (s : List ℕ) (start : ℕ) → contents_of (deliveries_after s start) ≡ records (drop start s)
contents-after s start = contents-moved start 0 (drop start s)
