-- Laws of what a chunk brings: what is left to be delivered, how many bytes are used, and that what is delivered ends with the last of them.
use Prim.Native.Nat.{ℕ, suc, ◌+◌, ◌-◌, ◌<◌, ◌≤◌}
use native.Mathlib.Omega.{arith}
use native.Mathlib.Decide.{ℕ_discrete}
use mathlib.Core.Path.{◌≡◌, refl, sym, ap, ◌∙◌}
use mathlib.Core.Logic.{dite}
use mathlib.Core.List.{List, [], ◌∷◌, ◌++◌, append_assoc, append-nil}
use borrow.Author.Tests.{eq-eqb, ne_eqb}
use lib.ListN.{length, take, drop, length-append}
use Rattle.basics.specs.Choice.{choose}
use Rattle.stream.specs.Layout.{stream_length}
use Rattle.stream.specs.Validation.{validation_of}
use Rattle.stream.proofs.Lengths.{length-grows}
use Rattle.stream.proofs.Reached.{whole-clean}
use Rattle.recording.specs.Decode.{beginning}
use Rattle.recording.specs.Recording.{Delivery, deliveries_from}
use Rattle.recording.proofs.Decoding.{beginning-whole, beginning-none}
use Rattle.recording.proofs.Deliveries.{Whole}
use Rattle.receiver.specs.Holding.{extended, kept}
use Rattle.receiver.specs.Receive.{Outcome, one_more, outcome_of, completed_in}
use Rattle.receiver.proofs.Extending.{extended-by, kept_by, kept-unfinished}
use Rattle.receiver.proofs.Steps.{Held, none, onward, few-whole, completes}

-- ── one byte

module _ (h : List ℕ) (byte : ℕ) (rest : List ℕ) where
  pub outcome-done : Whole (extended h byte) → outcome_of h (byte ∷ rest) ≡ record { stream = extended h byte; held = []; used = 1 }
  unfolding outcome_of choose
  outcome-done w = rw (eq-eqb _ 0 w)

  pub outcome-on : (Whole (extended h byte) → ⊥) → outcome_of h (byte ∷ rest) ≡ one_more (outcome_of (kept (extended h byte)) rest)
  unfolding outcome_of choose
  outcome-on faulty = rw (ne_eqb _ 0 faulty)

-- what holds of no bytes, of a byte that completes a stream, and of one that doesn't if it holds of what follows, holds of any chunk
pub outcome-ind : (P : List ℕ → List ℕ → Outcome → Type 0)
    → ((h : List ℕ) → P h [] (record { stream = []; held = h; used = 0 }))
    → ((h : List ℕ) (byte : ℕ) (rest : List ℕ) → Whole (extended h byte) → P h (byte ∷ rest) (record { stream = extended h byte; held = []; used = 1 }))
    → ((h : List ℕ) (byte : ℕ) (rest : List ℕ) → (Whole (extended h byte) → ⊥) → (o : Outcome) → P (kept (extended h byte)) rest o → P h (byte ∷ rest) (one_more o))
    → (h chunk : List ℕ) → P h chunk (outcome_of h chunk)
unfolding outcome_of
outcome-ind P base done more h [] = base h
outcome-ind P base done more h (byte ∷ rest) =
    dite (ℕ_discrete (validation_of (extended h byte)).verdict 0)
    (λ w. rw (outcome-done h byte rest w) (done h byte rest w))
    (λ faulty. rw (outcome-on h byte rest faulty) (more h byte rest faulty _ (outcome-ind P base done more (kept (extended h byte)) rest)))

-- ── what is left to be delivered

pub nothing-whole : Whole [] → ⊥
nothing-whole w = few-whole [] (omega arith) w

-- o is what came of the chunk behind the bytes h, which stand from p on: what was to be delivered from there on is what o delivers and
-- what is to be delivered from then on, whatever follows
pub record Follows (p : ℕ) (h chunk : List ℕ) (o : Outcome) : Type 0 where
  pub position : ℕ
  pub there : position + length o.held ≡ p + length h + o.used
  pub held : Held o.held
  pub same : (t : List ℕ) → deliveries_from p (h ++ (chunk ++ t)) ≡ completed_in (p + length h) o ++ deliveries_from position (o.held ++ (drop o.used chunk ++ t))

pub follows : (h chunk : List ℕ) → Held h → (p : ℕ) → Follows p h chunk (outcome_of h chunk)
follows h chunk = outcome-ind (λ (h chunk : List ℕ) (o : Outcome). Held h → (p : ℕ) → Follows p h chunk o) base done more h chunk
  where
    base : (h : List ℕ) → Held h → (p : ℕ) → Follows p h [] (record { stream = []; held = h; used = 0 })
    base h held p =
        record {
          position = p;
          there = omega arith;
          held = held;
          same = λ t. ap (λ (ds : List Delivery). ds ++ deliveries_from p (h ++ t)) (sym (beginning-none (p + length h + 0 - 0) [] nothing-whole));
        }

    done : (h : List ℕ) (byte : ℕ) (rest : List ℕ) → Whole (extended h byte) → Held h → (p : ℕ) → Follows p h (byte ∷ rest) (record { stream = extended h byte; held = []; used = 1 })
    done h byte rest w held p =
        let completed = completes p byte h held w in
        let position : p + length h + 1 - length (extended h byte) ≡ p = omega (arith, completed.long) in
        let next : suc (p + length h) ≡ p + length h + 1 = omega arith in
        record {
          position = p + length h + 1;
          there = omega arith;
          held = none;
          same = λ t. completed.same (rest ++ t) ∙ rw (beginning-whole (p + length h + 1 - length (extended h byte)) (extended h byte) w, position, next);
        }

    more : (h : List ℕ) (byte : ℕ) (rest : List ℕ) → (Whole (extended h byte) → ⊥) → (o : Outcome)
        → (Held (kept (extended h byte)) → (p : ℕ) → Follows p (kept (extended h byte)) rest o) → Held h → (p : ℕ) → Follows p h (byte ∷ rest) (one_more o)
    more h byte rest faulty o after held p =
        let step = onward p byte h held faulty in
        let then = after step.held step.position in
        let end : step.position + length (kept (extended h byte)) + o.used ≡ p + length h + suc o.used = omega (arith, step.there) in
        record {
          position = then.position;
          there = then.there ∙ end;
          held = then.held;
          same = λ t. step.same (rest ++ t) ∙ then.same t ∙ ap (λ (n : ℕ). beginning (n - length o.stream) o.stream ++ deliveries_from then.position (o.held ++ (drop o.used rest ++ t))) end;
        }

-- ── how many bytes are used, and which

-- with no record all bytes are used; one at least, if there is one; and what is held fits the memory
pub record Uses (h chunk : List ℕ) (o : Outcome) : Type 0 where
  pub within : o.used ≤ length chunk
  pub some : 0 < length chunk → 0 < o.used
  pub all : (Whole o.stream → ⊥) → o.used ≡ length chunk
  pub less : length h < 772 → length o.held < 772

pub uses : (h chunk : List ℕ) → Uses h chunk (outcome_of h chunk)
uses h chunk = outcome-ind Uses
    (λ h. record { within = omega arith; some = λ more. more; all = λ none. refl; less = λ fits. fits })
    (λ h byte rest w. record { within = omega arith; some = λ more. omega arith; all = λ none. absurd (none w); less = λ fits. omega arith })
    (λ h byte rest faulty o then.
    record {
      within = omega (arith, then.within);
      some = λ more. omega arith;
      all = λ none. ap suc (then.all none);
      less = λ fits. then.less (omega (arith, kept-unfinished (extended h byte)));
    })
    h chunk

-- what is delivered, or held, is the last of the bytes that were held before and used since
pub record Last (all s : List ℕ) : Type 0 where
  pub before : List ℕ
  pub is : all ≡ before ++ s

extended-last : (h : List ℕ) (byte : ℕ) → Last (h ++ (byte ∷ [])) (extended h byte)
extended-last h byte =
    extended-by (Last (h ++ (byte ∷ []))) h byte
    (λ e. record { before = h; is = refl })
    (record { before = h ++ (byte ∷ []); is = sym (append-nil (h ++ (byte ∷ []))) })
    (λ low there. record { before = []; is = refl })

kept-last : (s : List ℕ) → Last s (kept s)
kept-last s = kept_by (Last s) s (record { before = []; is = refl }) (record { before = s; is = sym (append-nil s) })

pub last-used : (h chunk : List ℕ) → Last (h ++ take (outcome_of h chunk).used chunk) ((outcome_of h chunk).stream ++ (outcome_of h chunk).held)
last-used h chunk = outcome-ind (λ (h chunk : List ℕ) (o : Outcome). Last (h ++ take o.used chunk) (o.stream ++ o.held)) base done more h chunk
  where
    base : (h : List ℕ) → Last (h ++ []) h
    base h = record { before = []; is = append-nil h }

    done : (h : List ℕ) (byte : ℕ) (rest : List ℕ) → Whole (extended h byte) → Last (h ++ (byte ∷ [])) (extended h byte ++ [])
    done h byte rest w = rw (append-nil (extended h byte)) (extended-last h byte)

    more : (h : List ℕ) (byte : ℕ) (rest : List ℕ) → (Whole (extended h byte) → ⊥) → (o : Outcome)
        → Last (kept (extended h byte) ++ take o.used rest) (o.stream ++ o.held) → Last (h ++ (byte ∷ take o.used rest)) (o.stream ++ o.held)
    more h byte rest faulty o then =
        let taken = take o.used rest in
        let first = extended-last h byte in
        let second = kept-last (extended h byte) in
        let before = first.before ++ second.before in
        let moved : h ++ (byte ∷ taken) ≡ before ++ (kept (extended h byte) ++ taken) =
        sym (append_assoc h (byte ∷ []) taken)
        ∙ ap (λ (l : List ℕ). l ++ taken) (first.is ∙ ap (λ (l : List ℕ). first.before ++ l) second.is ∙ sym (append_assoc first.before second.before (kept (extended h byte))))
        ∙ append_assoc before (kept (extended h byte)) taken in
        record {
          before = before ++ then.before;
          is = moved ∙ ap (λ (l : List ℕ). before ++ l) then.is ∙ sym (append_assoc before then.before (o.stream ++ o.held));
        }

-- ── what is delivered is a whole stream and no more, whatever is held

-- a stream that is shorter than it announces
abbrev Short : List ℕ → Type 0
Short h = length h < stream_length h

pub record WholeOrNone (o : Outcome) : Type 0 where
  pub sized : Whole o.stream → (validation_of o.stream).offset ≡ length o.stream
  pub none : (Whole o.stream → ⊥) → o.stream ≡ []
  pub forgets : Whole o.stream → o.held ≡ []

extended-sized : (h : List ℕ) (byte : ℕ) → Short h → Whole (extended h byte) → (validation_of (extended h byte)).offset ≡ length (extended h byte)
extended-sized h byte short =
    extended-by (λ (s : List ℕ). Whole s → (validation_of s).offset ≡ length s) h byte
    (λ e w. absurd (few-whole (byte ∷ []) (omega arith) w))
    (λ w. absurd (few-whole [] (omega arith) w))
    (λ low there w.
    let whole = whole-clean (h ++ (byte ∷ [])) w in
    omega (arith, whole.offset, whole.held, length-grows h (byte ∷ []), length-append h (byte ∷ [])))

pub whole-or-none : (h chunk : List ℕ) → Short h → WholeOrNone (outcome_of h chunk)
whole-or-none h chunk = outcome-ind (λ (h chunk : List ℕ) (o : Outcome). Short h → WholeOrNone o)
    (λ h short. record { sized = λ w. absurd (nothing-whole w); none = λ no_stream. refl; forgets = λ w. absurd (nothing-whole w) })
    (λ h byte rest w short. record { sized = extended-sized h byte short; none = λ no_stream. absurd (no_stream w); forgets = λ w. refl })
    (λ h byte rest faulty o then short.
    let later = then (kept-unfinished (extended h byte)).0 in
    record { sized = later.sized; none = later.none; forgets = later.forgets })
    h chunk
