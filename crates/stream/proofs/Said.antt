-- What `first_fault`'s answer says of the stretch, by its variant, for whoever matches on it.
use Prim.Native.Nat.{ℕ}
use mathlib.Core.Path.{◌≡◌, ap, sym, ◌∙◌}
use mathlib.Core.List.{List}
use Rattle.std.specs.Prelude.{Ok, Err}
use Rattle.stream.specs.Validation.{number, validation_of, said_by}
use Rattle.stream.specs.declared.Validation.{Validation}
use Rattle.stream.specs.declared.WholeStream.{WholeStream}
use Rattle.stream.specs.declared.stop.Stop.{Stop}
use Rattle.stream.proofs.Reached.{number-faulty}

-- of a whole stream
pub record WholeSaid (s : List ℕ) (stream : WholeStream) : Type 0 where
  pub verdict : (validation_of s).verdict ≡ 0
  pub offset : (validation_of s).offset ≡ stream.length
  pub unused_septets : (validation_of s).unused_septets ≡ stream.unused_septets

pub whole-said : (s : List ℕ) (stream : WholeStream) → said_by (Ok stream) ≡ validation_of s → WholeSaid s stream
whole-said s stream e =
    record {
      verdict = ap (λ (v : Validation). v.verdict) (sym e);
      offset = ap (λ (v : Validation). v.offset) (sym e);
      unused_septets = ap (λ (v : Validation). v.unused_septets) (sym e);
    }

-- of a fault
pub record StopSaid (s : List ℕ) (stop : Stop) : Type 0 where
  pub verdict : (validation_of s).verdict ≡ number stop.verdict
  pub offset : (validation_of s).offset ≡ stop.offset
  pub faulty : (validation_of s).verdict ≡ 0 → ⊥

pub stop-said : (s : List ℕ) (stop : Stop) → said_by (Err stop) ≡ validation_of s → StopSaid s stop
stop-said s stop e =
    record {
      verdict = ap (λ (v : Validation). v.verdict) (sym e);
      offset = ap (λ (v : Validation). v.offset) (sym e);
      faulty = λ w. number-faulty stop.verdict stop.faulty (ap (λ (v : Validation). v.verdict) e ∙ w);
    }
