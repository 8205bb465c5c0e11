-- Laws of the held bytes: with one more, what is kept of them, and what a state holds.
use Prim.Native.Nat.{ℕ, ◌+◌, ◌<◌, ◌≤◌}
use native.Mathlib.Omega.{arith}
use native.Mathlib.Decide.{dec_lt, ℕ_discrete}
use mathlib.Core.Path.{◌≡◌, sym, ap, ◌∙◌}
use mathlib.Core.Bool.{Bool, and-false}
use mathlib.Core.Logic.{dite}
use mathlib.Core.List.{List, [], ◌∷◌, ◌++◌}
use borrow.Author.Tests.{eq-eqb, ne_eqb, lt-ltb, le-ltb, le-leb, lt-leb}
use lib.Dec.{ltb}
use lib.ListN.{length, take, length-append, length-take}
use Rattle.basics.specs.Choice.{choose}
use Rattle.basics.proofs.Choice.{choose-by}
use Rattle.stream.specs.Layout.{stream_length}
use Rattle.stream.proofs.Lengths.{length-early}
use Rattle.receiver.specs.Holding.{extended, is_unfinished, kept}
use Rattle.receiver.specs.Receive.{held_in}
use Rattle.receiver.specs.declared.Receiver.{Receiver}

-- ── the held bytes with one more

module _ (h : List ℕ) (byte : ℕ) where
  pub extended-sync : byte ≡ 0xAA → extended h byte ≡ byte ∷ []
  unfolding extended choose
  extended-sync e = rw (eq-eqb byte 0xAA e)

  pub extended-high : (byte ≡ 0xAA → ⊥) → 0x80 ≤ byte → extended h byte ≡ []
  unfolding extended choose
  extended-high other high = rw (ne_eqb byte 0xAA other, le-leb 0x80 byte high)

  pub extended_none : byte < 0x80 → length h ≡ 0 → extended h byte ≡ []
  unfolding extended choose
  extended_none low empty = rw (ne_eqb byte 0xAA (λ e. omega arith), lt-leb 0x80 byte low, eq-eqb (length h) 0 empty)

  pub extended-low : byte < 0x80 → 0 < length h → extended h byte ≡ h ++ (byte ∷ [])
  unfolding extended choose
  extended-low low there = rw (ne_eqb byte 0xAA (λ e. omega arith), lt-leb 0x80 byte low, ne_eqb (length h) 0 (λ e. omega arith))

-- of a byte of 0x80 or more it doesn't matter what is held
pub same-high : (h : List ℕ) (byte : ℕ) → 0x80 ≤ byte → extended h byte ≡ extended [] byte
same-high h byte high =
    dite (ℕ_discrete byte 0xAA) (λ e. extended-sync h byte e ∙ sym (extended-sync [] byte e))
    (λ other. extended-high h byte other high ∙ sym (extended-high [] byte other high))

-- the three things that a byte can do
pub extended-by : (P : List ℕ → Type 0) (h : List ℕ) (byte : ℕ)
    → (byte ≡ 0xAA → P (byte ∷ [])) → P [] → (byte < 0x80 → 0 < length h → P (h ++ (byte ∷ []))) → P (extended h byte)
extended-by P h byte begins ends adds =
    dite (ℕ_discrete byte 0xAA) (λ e. rw (extended-sync h byte e) (begins e))
    (λ other. dite (dec_lt byte 0x80)
    (λ low. dite (ℕ_discrete (length h) 0)
    (λ e. rw (extended_none h byte low e) ends)
    (λ there. rw (extended-low h byte low (omega arith)) (adds low (omega arith))))
    (λ high. rw (extended-high h byte other (omega arith)) ends))

pub length-extended : (h : List ℕ) (byte : ℕ) → length (extended h byte) ≤ length h + 1
length-extended h byte =
    extended-by (λ (s : List ℕ). length s ≤ length h + 1) h byte (λ e. omega arith) (omega arith) (λ low there. omega (arith, length-append h (byte ∷ [])))

-- ── what is kept

module _ (s : List ℕ) where
  pub kept-short : length s < stream_length s → stream_length s ≤ 772 → kept s ≡ s
  unfolding kept choose
  kept-short short most = rw (lt-ltb _ _ short, le-leb _ _ most)

  pub kept-long : stream_length s ≤ length s → kept s ≡ []
  unfolding kept choose
  kept-long long = rw (le-ltb _ _ long)

  pub kept-most : 772 < stream_length s → kept s ≡ []
  unfolding kept choose
  kept-most far = rw (lt-leb _ _ far, and-false (ltb (length s) (stream_length s)))

-- so few bytes don't tell more than that there are six at least
pub kept-early : (s : List ℕ) → length s < 6 → kept s ≡ s
kept-early s early = kept-short s (omega (arith, length-early s early)) (omega (arith, length-early s early))

-- what is kept is unfinished: shorter than it announces, and it announces no more than 772
pub kept-unfinished : (s : List ℕ) → (length (kept s) < stream_length (kept s)) × (stream_length (kept s) ≤ 772)
kept-unfinished s =
    dite (dec_lt (length s) (stream_length s))
    (λ short. dite (dec_lt 772 (stream_length s))
    (λ far. rw (kept-most s far) nothing)
    (λ most. rw (kept-short s short (omega arith)) (short, omega arith)))
    (λ long. rw (kept-long s (omega arith)) nothing)
  where
    nothing : (0 < stream_length []) × (stream_length [] ≤ 772)
    nothing = let six = length-early [] (omega arith) in (omega (arith, six), omega (arith, six))

-- all of it, or nothing
pub kept_by : (P : List ℕ → Type 0) (s : List ℕ) → P s → P [] → P (kept s)
unfolding kept
kept_by P s whole nothing = choose-by P (is_unfinished s) (λ e. whole) (λ e. nothing)

-- ── what a state holds

module _ (receiver : Receiver) (memory : List ℕ) where
  pub held-counted : receiver.held ≤ receiver.position → held_in receiver memory ≡ kept (take receiver.held memory)
  unfolding held_in choose
  held-counted counted = ap (λ (b : Bool). choose b (kept (take receiver.held memory)) []) (le-leb receiver.held _ (omega arith))

  -- more bytes than were used
  pub held-uncounted : receiver.position < receiver.held → held_in receiver memory ≡ []
  unfolding held_in choose
  held-uncounted more = ap (λ (b : Bool). choose b (kept (take receiver.held memory)) []) (lt-leb receiver.held _ (omega arith))

  pub held-zero : receiver.held ≡ 0 → held_in receiver memory ≡ []
  held-zero none = held-counted (omega arith) ∙ ap (λ (n : ℕ). kept (take n memory)) none ∙ kept-early [] (omega arith)

  -- what is kept of the bytes in the memory, or nothing
  pub held_by : (P : List ℕ → Type 0) → (receiver.held ≤ receiver.position → P (kept (take receiver.held memory))) → P [] → P (held_in receiver memory)
  held_by P counted nothing =
      dite (dec_lt receiver.position receiver.held)
      (λ more. rw (held-uncounted more) nothing)
      (λ few. rw (held-counted (omega arith)) (counted (omega arith)))

  pub held-unfinished : (length (held_in receiver memory) < stream_length (held_in receiver memory)) × (stream_length (held_in receiver memory) ≤ 772)
  held-unfinished =
      held_by (λ (s : List ℕ). (length s < stream_length s) × (stream_length s ≤ 772))
      (λ counted. kept-unfinished (take receiver.held memory))
      (rw (kept-early [] (omega arith)) at (kept-unfinished []))

  -- no more bytes than were used
  pub held-used : length (held_in receiver memory) ≤ receiver.position
  held-used =
      held_by (λ (s : List ℕ). length s ≤ receiver.position)
      (λ counted. kept_by (λ (s : List ℕ). length s ≤ receiver.position) (take receiver.held memory) (rw length-take (omega arith)) (omega arith))
      (omega arith)
