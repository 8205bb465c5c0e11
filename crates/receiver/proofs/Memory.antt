-- Laws of the memory's first bytes: what is held of them, and what one byte does.
use Prim.Native.Nat.{ℕ, ◌+◌, ◌<◌, ◌≤◌}
use native.Mathlib.Omega.{arith}
use native.Mathlib.Decide.{dec_lt, ℕ_discrete}
use native.Mathlib.Numerals.{add-one}
use mathlib.Core.Path.{◌≡◌, refl, sym, ap, ◌∙◌}
use mathlib.Core.Logic.{dite}
use mathlib.Core.List.{List, [], ◌∷◌, ◌++◌}
use lib.ListN.{length, take, set}
use lib.Seq.{take-suc-set, take_all, length-take-le}
use Rattle.stream.specs.Layout.{stream_length}
use Rattle.stream.proofs.Lengths.{length-early, length-grows, length-next}
use Rattle.receiver.specs.Holding.{extended, kept}
use Rattle.receiver.specs.Receive.{held_in}
use Rattle.receiver.specs.Stage.{Holds, Restored, TookByte, unfinished, full}
use Rattle.receiver.specs.declared.Receiver.{Receiver}
use Rattle.receiver.specs.declared.buffer.Unfinished.{Unfinished}
use Rattle.receiver.proofs.Extending.{extended-sync, extended-high, extended_none, extended-low, same-high, kept-short, kept-long, kept-most, held-counted, held-uncounted, held_by}

pub holding-nothing : (memory : List ℕ) → Holds memory (record { held = 0; least = 6 })
holding-nothing memory =
    let six = length-early [] (omega arith) in
    record { short = omega arith; announced = omega (arith, six); most = omega (arith, six) }

-- there is room for one more
pub holding-room : (memory : List ℕ) (u : Unfinished) → Holds memory u → u.held < 772
holding-room memory u holding = omega (arith, holding.short, holding.announced, holding.most)

-- ── what a state holds

module _ (receiver : Receiver) (memory : List ℕ) where
  abbrev held : ℕ
  held = receiver.held

  abbrev bytes : List ℕ
  bytes = take held memory

  restored-nothing : held_in receiver memory ≡ [] → Restored receiver memory (record { held = 0; least = 6 })
  restored-nothing none = record { holding = holding-nothing memory; bytes = sym none; counted = omega arith }

  pub restored-uncounted : receiver.position < held → Restored receiver memory (record { held = 0; least = 6 })
  restored-uncounted more = restored-nothing (held-uncounted receiver memory more)

  -- nothing of those bytes is kept
  restored-unkept : kept bytes ≡ [] → Restored receiver memory (record { held = 0; least = 6 })
  restored-unkept none = restored-nothing (held_by receiver memory (λ (s : List ℕ). s ≡ []) (λ counted. none) refl)

  pub restored-full : length memory ≡ 772 → 772 ≤ held → Restored receiver memory (record { held = 0; least = 6 })
  restored-full size full-up =
      restored-unkept
      (dite (dec_lt 772 (stream_length bytes)) (kept-most bytes) (λ most. kept-long bytes (omega (arith, ap length (take_all held memory (omega arith))))))

  pub restored-long : held ≤ length memory → stream_length bytes ≤ held → Restored receiver memory (record { held = 0; least = 6 })
  restored-long within long = restored-unkept (kept-long bytes (omega (arith, length-take-le held memory within)))

  pub restored-most : 772 < stream_length bytes → Restored receiver memory (record { held = 0; least = 6 })
  restored-most far = restored-unkept (kept-most bytes far)

  pub restored : held ≤ length memory → held ≤ receiver.position → held < stream_length bytes → stream_length bytes ≤ 772
      → Restored receiver memory (record { held = held; least = stream_length bytes })
  restored within counted short most =
      record {
        holding = record { short = short; announced = omega arith; most = most };
        bytes = sym (held-counted receiver memory counted ∙ kept-short bytes (omega (arith, length-take-le held memory within)) most);
        counted = counted;
      }

-- ── a byte of 0x80 or more

module _ (memory : List ℕ) (byte : ℕ) where
  pub begins : byte ≡ 0xAA → 0 < length memory → TookByte [] byte (set memory 0 byte) (record { held = 1; least = 6 })
  begins e some =
      let one : take 1 (set memory 0 byte) ≡ byte ∷ [] = take-suc-set memory 0 byte some in
      let six = length-early (byte ∷ []) (omega arith) in
      unfinished
      (record { short = omega arith; announced = rw one (omega (arith, six)); most = rw one (omega (arith, six)) })
      (one ∙ sym (extended-sync [] byte e))

  pub ends : (byte ≡ 0xAA → ⊥) → 0x80 ≤ byte → TookByte [] byte memory (record { held = 0; least = 6 })
  ends other high = unfinished (holding-nothing memory) (sym (extended-high [] byte other high))

-- whatever is held doesn't matter then
pub high-alone : (h : List ℕ) (byte : ℕ) (after : List ℕ) (u : Unfinished) → 0x80 ≤ byte → TookByte [] byte after u → TookByte h byte after u
high-alone h byte after u high (unfinished holding is) = unfinished holding (is ∙ sym (same-high h byte high))
high-alone h byte after u high (full a b is c) = full a b (is ∙ sym (same-high h byte high)) (ap stream_length (same-high h byte high) ∙ c)

-- ── a low byte

pub low-unused : (memory : List ℕ) (byte : ℕ) (u : Unfinished) → byte < 0x80 → u.held ≡ 0 → Holds memory u → TookByte (take u.held memory) byte memory u
low-unused memory byte u low none holding =
    unfinished holding (ap (λ (n : ℕ). take n memory) none ∙ sym (extended_none (take u.held memory) byte low (rw none refl)))

module _ (memory : List ℕ) (byte : ℕ) (u : Unfinished) (size : length memory ≡ 772) (holding : Holds memory u) (some : 0 < u.held) (low : byte < 0x80) where
  abbrev n : ℕ
  n = u.held

  abbrev h : List ℕ
  h = take n memory

  room : n < 772
  room = holding-room memory u holding

  there : length h ≡ n
  there = length-take-le n memory (omega (arith, room))

  longer : extended h byte ≡ h ++ (byte ∷ [])
  longer = extended-low h byte low (omega (arith, there))

  added : take (n + 1) (set memory n byte) ≡ extended h byte
  added = ap (λ (k : ℕ). take k (set memory n byte)) (add-one n) ∙ take-suc-set memory n byte (omega (arith, room)) ∙ sym longer

  grows : stream_length h ≤ stream_length (extended h byte)
  grows = rw longer (length-grows h (byte ∷ []))

  fits : stream_length (extended h byte) ≤ 772
  fits = rw longer (length-next h byte low holding.most)

  pub adds-short : n + 1 < u.least → TookByte h byte (set memory n byte) (record { held = n + 1; least = u.least })
  adds-short short =
      unfinished (record { short = short; announced = rw added (omega (arith, grows, holding.announced)); most = rw added fits }) added

  pub adds-last : u.least ≤ n + 1 → (total : ℕ) → total ≡ stream_length (take (n + 1) (set memory n byte)) → TookByte h byte (set memory n byte) (record { held = n + 1; least = total })
  adds-last reached total is =
      let announced : total ≡ stream_length (extended h byte) = is ∙ ap stream_length added in
      dite (ℕ_discrete (n + 1) total)
      (λ e. full e (omega (arith, room)) added (omega (arith, announced)))
      (λ other. unfinished (record { short = omega (arith, grows, holding.announced, holding.short, announced); announced = omega (arith, is); most = rw added fits }) added)
