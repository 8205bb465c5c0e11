-- How many portions some bytes take.
use Prim.Native.Nat.{ℕ, ◌+◌, ◌-◌, ◌/◌, ◌<◌, ◌≤◌, min}
use native.Mathlib.Omega.{arith}
use native.Mathlib.Decide.{dec_lt, ℕ_discrete}
use native.Mathlib.Nat.{min-eq_left, min-eq_right, add-div_right, div-eq_of_lt, div-eq_of_lt-le, le-div_iff_mul-le}
use mathlib.Core.Path.{◌≡◌}
use mathlib.Core.Bool.{false}
use mathlib.Core.Logic.{dite}
use borrow.Author.Tests.{eq-eqb, ne_eqb}
use Rattle.basics.specs.Choice.{choose}
use Rattle.sender.specs.declared.Settings.{Settings}
use Rattle.sender.specs.declared.Sender.{Sender}
use Rattle.sender.specs.Energy.{max_energy_of, loss_per_byte_of, settings_refused}
use Rattle.sender.specs.Queue.{unsent_count, portion_size}
use Rattle.sender.specs.Calls.{rounded_up, portions_for}
use Rattle.sender.proofs.Keeping.{keeps-by, pays-one}
use Rattle.sender.proofs.Portion.{size-within, none-waiting, all-off, some-full}

-- no bytes take none
pub none-for-none : (s : Settings) → portions_for s 0 ≡ 0
unfolding portions_for choose
none-for-none s =
    dite (ℕ_discrete s.max_energy 0) (λ off. simp (eq-eqb _ _ off))
    (λ on. simp (ne_eqb _ _ on) (
    let k = s.max_energy / s.loss_per_byte in
    dite (dec_lt 0 k) (λ pos. div-eq_of_lt (omega arith)) (λ zero.
    let z : k ≡ 0 = omega arith in
    rw z)))

-- some bytes take some
pub some-for-some : (s : Settings) → settings_refused s ≡ false → (n : ℕ) → portions_for s n ≡ 0 → n ≡ 0
unfolding portions_for choose
some-for-some s ok n e =
    let max = s.max_energy in
    let k = max / s.loss_per_byte in
    dite (dec_lt 0 n)
    (λ some. dite (dec_lt 0 max)
    (λ on.
    let one : 1 ≤ rounded_up n k = (le-div_iff_mul-le {x = 1} {y = n + (k - 1)} (pays-one s (keeps-by s ok on))).1 (omega arith) in
    let z : rounded_up n k ≡ 0 = simp (ne_eqb max 0 (λ z. omega arith)) at e in
    absurd (omega arith))
    (λ off.
    let z : ◌≡◌ {A = ℕ} 1 0 = simp (eq-eqb max 0 (omega arith), ne_eqb n 0 (λ z. omega arith)) at e in
    absurd (omega arith)))
    (λ none. omega arith)

-- the first portion takes as many bytes as it can, and the others take one portion less
one_less : (n k : ℕ) → 0 < k → 0 < n → 1 + rounded_up (n - min n k) k ≡ rounded_up n k
one_less n k pos some =
    dite (dec_lt k n)
    (λ more.
    let e : n + (k - 1) ≡ (n - min n k + (k - 1)) + k = omega (arith, min-eq_right {n = k} {m = n} (omega arith)) in
    rw (e, add-div_right (n - min n k + (k - 1)) pos) (omega arith))
    (λ last.
    let rest : n - min n k + (k - 1) < k = omega (arith, min-eq_left {n = n} {m = k} (omega arith)) in
    rw (div-eq_of_lt rest, div-eq_of_lt-le {k = 1} k {m = n + (k - 1)} (omega arith) (omega arith)))

-- the next portion is one of those that the bytes to go take
pub one_of : (s : Sender) → settings_refused s.settings ≡ false → 0 < portion_size s
    → 1 + portions_for s.settings (unsent_count s - portion_size s) ≡ portions_for s.settings (unsent_count s)
unfolding portions_for choose
one_of s ok some =
    let n = unsent_count s in
    let max = max_energy_of s in
    dite (dec_lt 0 max)
    (λ on.
    let full : max ≤ s.energy = dite (dec_lt s.energy max) (λ w. absurd (omega (arith, none-waiting s w))) (λ f. omega arith) in
    rw (ne_eqb max 0 (λ z. omega arith), some-full s on full)
    (one_less n (max / loss_per_byte_of s) (pays-one s.settings (keeps-by s.settings ok on)) (omega (arith, size-within s))))
    (λ off.
    let e = all-off s (omega arith) in
    let z : n - portion_size s ≡ 0 = omega arith in
    rw (eq-eqb max 0 (omega arith), z, ne_eqb n 0 (λ z. omega arith)))
