-- Laws of the search for a sync byte.
use Prim.Native.Nat.{ℕ, zero, suc, ◌+◌, ◌-◌, ◌≤◌, ◌<◌}
use native.Mathlib.Omega.{arith}
use native.Mathlib.Numerals.{add-one}
use native.Mathlib.Decide.{ℕ_discrete, dec_lt}
use mathlib.Core.Path.{◌≡◌, ◌∙◌, subst, subst⁻¹}
use mathlib.Core.Logic.{dite}
use mathlib.Core.List.{List, [], ◌∷◌}
use borrow.Author.Tests.{eq-eqb, ne_eqb, lt-ltb, le-ltb}
use lib.ListN.{length, get_or, drop, length-drop, drop_of_length-le}
use lib.Seq.{drop-cons}
use Rattle.std.specs.List.{position, position_or_len}
use Rattle.std.proofs.lemmas.List.Sums.{prefix_len-le-length}
use Rattle.std.specs.Option.{unwrap_or}
use Rattle.std.specs.Prelude.{not, ◌==◌, Option, Some, None, MatchOption}
use Rattle.basics.specs.Choice.{choose}
use Rattle.stream.specs.Sync.{sync_from, next_sync}

module _ (s : List ℕ) (at : ℕ) where
  pub sync-end : length s ≤ at → next_sync s at ≡ at
  unfolding next_sync sync_from
  sync-end past = rw (drop_of_length-le s {i = at} past)

  pub sync-here : at < length s → get_or s at 0 ≡ 0xAA → next_sync s at ≡ at
  unfolding next_sync sync_from choose
  sync-here inside e = rw (drop-cons s at 0 inside, eq-eqb (get_or s at 0) 0xAA e)

  pub sync-on : at < length s → (get_or s at 0 ≡ 0xAA → ⊥) → next_sync s at ≡ next_sync s (at + 1)
  unfolding next_sync sync_from choose
  sync-on inside other = rw (drop-cons s at 0 inside, ne_eqb (get_or s at 0) 0xAA other, add-one)

sync-place : (s : List ℕ) (q : ℕ) → sync_from q s ≡ q + position_or_len (λ (byte : ℕ). byte == 0xAA) s
unfolding sync_from choose
sync-place [] q = omega arith
sync-place (byte ∷ s) q =
    dite (ℕ_discrete byte 0xAA)
    (λ e. simp (eq-eqb byte 0xAA e) (omega arith))
    (λ other. simp (ne_eqb byte 0xAA other) (omega (arith, sync-place s (suc q))))

-- the next is the first of what is left
pub sync-by-position : (s : List ℕ) (start : ℕ) → start ≤ length s → next_sync s start ≡ start + unwrap_or (position (λ (byte : ℕ). byte == 0xAA) (drop start s)) (length s - start)
unfolding next_sync
sync-by-position s start within =
    let long = length-drop start s in
    sync-place (drop start s) start
    ∙ dite (dec_lt (position_or_len (λ (byte : ℕ). byte == 0xAA) (drop start s)) (length (drop start s)))
    (λ found. simp (lt-ltb _ _ found))
    (λ none.
    let p = λ (byte : ℕ). byte == 0xAA in
    let all = prefix_len-le-length (λ (byte : ℕ). not (byte == 0xAA)) (drop start s) in
    simp (le-ltb (position_or_len p (drop start s)) (length (drop start s)) (omega arith)) (omega arith))

-- the same, by cases of what is found
pub sync-by-match : (s : List ℕ) (start r : ℕ) (found : Option ℕ) → start ≤ length s → found ≡ position (λ (byte : ℕ). byte == 0xAA) (drop start s)
    → {At : ℕ → Type 0} → MatchOption found (r ≡ length s) At → ((behind : ℕ) → At behind → r ≡ start + behind) → r ≡ next_sync s start
sync-by-match s start r None within e place at = omega (arith, place, rw (← e) at (sync-by-position s start within))
sync-by-match s start r (Some behind) within e place at = omega (arith, at behind place, rw (← e) at (sync-by-position s start within))

-- r holds the first sync byte from `start` on, or there is none
pub record NextSync (s : List ℕ) (start r : ℕ) : Type 0 where
  pub after : start ≤ r
  pub here : r < length s → get_or s r 0 ≡ 0xAA
  pub passed : (k : ℕ) → k < r → start ≤ k → k < length s → get_or s k 0 ≡ 0xAA → ⊥

-- the same from an earlier start, which holds none
earlier : (s : List ℕ) (start r : ℕ) → (get_or s start 0 ≡ 0xAA → ⊥) → NextSync s (start + 1) r → NextSync s start r
earlier s start r other later =
    record {
      after = omega (arith, later.after);
      here = later.here;
      passed = λ k below above inside e.
          dite (ℕ_discrete k start) (λ same. other (subst (λ (n : ℕ). get_or s n 0 ≡ 0xAA) same e)) (λ more. later.passed k below (omega arith) inside e);
    }

sync-within : (fuel : ℕ) (s : List ℕ) (start : ℕ) → length s ≤ start + fuel → NextSync s start (next_sync s start)
sync-within zero s start past =
    rw (sync-end s start (omega arith)) (record { after = omega arith; here = λ inside. absurd (omega arith); passed = λ k below above. absurd (omega arith) })
sync-within (suc fuel) s start past =
    dite (dec_lt start (length s))
    (λ inside. dite (ℕ_discrete (get_or s start 0) 0xAA)
    (λ e. rw (sync-here s start inside e) (record { after = omega arith; here = λ h. e; passed = λ k below above. absurd (omega arith) }))
    (λ other. rw (sync-on s start inside other) (earlier s start _ other (sync-within fuel s (start + 1) (omega arith)))))
    (λ outside. rw (sync-end s start (omega arith)) (record { after = omega arith; here = λ inside. absurd (omega arith); passed = λ k below above. absurd (omega arith) }))

-- what is found, by the answer
pub next-sync : (s : List ℕ) (start r : ℕ) → r ≡ next_sync s start → NextSync s start r
next-sync s start r e = subst⁻¹ (NextSync s start) e (sync-within (length s) s start (omega arith))
