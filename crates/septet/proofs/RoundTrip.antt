-- When `extract` and `inject` refuse, and what each answers when it is handed the other's answer. Assumes nothing.
use Prim.Native.Nat.{ℕ, ◌%◌, ◌^◌, ◌<◌, ◌≤◌}
use native.Mathlib.Omega.{arith}
use mathlib.Core.Bool.{Bool, true, false}
use mathlib.Core.Path.{◌≡◌, refl, ◌∙◌}
use mathlib.Core.Logic.{◌↔◌}
use mathlib.Core.List.{List, [], ◌∷◌}
use lib.Dec.{leb, ltb}
use lib.ListN.{length, take}
use lib.Seq.{length-take-le, take_at}
use borrow.Author.Tests.{le-ltb, ltb-false, leb-false, lt-leb}
use Rattle.basics.specs.Choice.{choose}
use Rattle.basics.specs.Bytes.{AllBelow}
use Rattle.basics.proofs.Bytes.{all_take}
use Rattle.basics.proofs.Choice.{neither}
use Rattle.septet.specs.declared.Septets.{Septets}
use Rattle.septet.specs.Septet.{septet_of, low_bits, with_top_bits}
use Rattle.septet.specs.Answer.{refused, padded, extracted, injected, any_high, unfit}
use Rattle.septet.proofs.Laws.{length-low_bits, length-with_top_bits, low_bits-below, septet_of-below, septet-below, with_top_bits-septet_of, low_bits-with_top_bits, septet_of-with_top_bits}

-- a block that isn't refused has passed the test
passed : (test : Bool) (block : Septets) → (choose test refused block).number ≡ 0 → test ≡ false
unfolding choose
passed true block e = absurd (omega arith)
passed false block e = refl

any_high-below : (b : List ℕ) → AllBelow 128 b → any_high b ≡ false
unfolding any_high
any_high-below [] a = refl
any_high-below (x ∷ xs) a = simp (lt-leb 0x80 x a.0, any_high-below xs a.1)

below-any_high : (b : List ℕ) → any_high b ≡ false → AllBelow 128 b
unfolding any_high
below-any_high [] e = tt
below-any_high (x ∷ xs) e = let h = neither (leb 0x80 x) (any_high xs) e in (leb-false 0x80 x h.0, below-any_high xs h.1)

-- document 01's refusal 7, exactly: taking out is refused only for the length
pub extract-exactly : (bytes : List ℕ) (n : ℕ) → ((extracted bytes n).number ≡ 0) ↔ (n ≤ 7)
unfolding choose
extract-exactly bytes n = ((λ e. ltb-false 7 n (passed (ltb 7 n) _ e)), (λ most. simp (le-ltb 7 n most)))

-- and putting back also for a used byte or the septet of 0x80 or more
pub inject-exactly : (bytes : List ℕ) (n septet : ℕ)
    → ((injected bytes n septet).number ≡ 0) ↔ ((n ≤ 7) × AllBelow 0x80 (take n bytes) × (septet < 0x80))
unfolding choose
inject-exactly bytes n septet = (
  (λ e.
      let long = neither (ltb 7 n) _ (passed (unfit bytes n septet) _ e) in
      let high = neither (any_high (take n bytes)) _ long.1 in
      (ltb-false 7 n long.0, below-any_high (take n bytes) high.0, leb-false 0x80 septet high.1)),
  (λ (most, low, small). simp (le-ltb 7 n most, any_high-below (take n bytes) low, lt-leb 0x80 septet small)),
)

-- document 01: "Taking top bits out and then putting them back gives the used bytes again"
pub extract-inject : (bytes : List ℕ) (n : ℕ) → length bytes ≡ 7 → AllBelow 256 bytes → (extracted bytes n).number ≡ 0
    → injected (extracted bytes n).bytes (extracted bytes n).length (extracted bytes n).septet
    ≡ record { number = 0; bytes = padded n (take n bytes); length = n; septet = 0 }
unfolding choose
extract-inject bytes n seven a e =
    let block = take n bytes in
    let most = (extract-exactly bytes n).0 e in
    let k : length block ≡ n = length-take-le n bytes (omega arith) in
    let bound : AllBelow 256 block = all_take 256 n bytes a in
    let small : septet_of block < 2 ^ n = rw k at (septet_of-below block bound) in
    let low : take n (padded n (low_bits block)) ≡ low_bits block = take_at (low_bits block) _ n (length-low_bits block ∙ k) in
    simp (
      le-ltb 7 n most,
      low,
      any_high-below (low_bits block) (low_bits-below block),
      lt-leb 0x80 (septet_of block) (septet-below n (septet_of block) most small),
      with_top_bits-septet_of block bound,
    )

-- request No. 3: "putting back, then taking out, gives the used bytes and the septet without its stray bits"
pub inject-extract : (bytes : List ℕ) (n septet : ℕ) → length bytes ≡ 7 → (injected bytes n septet).number ≡ 0
    → extracted (injected bytes n septet).bytes (injected bytes n septet).length
    ≡ record { number = 0; bytes = padded n (take n bytes); length = n; septet = septet % 2 ^ n }
unfolding choose
inject-extract bytes n septet seven e =
    let block = take n bytes in
    let (most, bound, small) = (inject-exactly bytes n septet).0 e in
    let k : length block ≡ n = length-take-le n bytes (omega arith) in
    let used : septet_of (with_top_bits septet block) ≡ septet % 2 ^ n = rw k at (septet_of-with_top_bits septet block bound) in
    let full : take n (padded n (with_top_bits septet block)) ≡ with_top_bits septet block = take_at (with_top_bits septet block) _ n (length-with_top_bits septet block ∙ k) in
    rw (passed (unfit bytes n septet) _ e) (simp (le-ltb 7 n most, full, low_bits-with_top_bits septet block bound, used))
