-- `RecordRef::encode` meets its contract: a line above the room's comes first. Assumes nothing.
use native.Mathlib.Omega.{arith}
use mathlib.Core.Path.{◌≡◌}
use Prim.Native.Nat.{ℕ}
use Rattle.std.specs.Prelude.{Err}
use Rattle.std.proofs.lemmas.Result.{err_from_is_err_and}
use Rattle.basics.specs.Output.{written_as}
use Rattle.basics.specs.Refusal.{number}
use Rattle.basics.specs.declared.refusal.Refusal.{Refusal}
use Rattle.basics.proofs.Refusals.{number-positive}
use Rattle.basics.proofs.Table.{last-unasked, when-refused}
use Rattle.record.specs.Record.{Record, kind_in}
use Rattle.record.specs.Encode.{lines_as, unwritable, refusal, encoding_of}
use Rattle.record.proofs.RecordRef.encode.Goals as goal

refused : (r : Record) (room : ℕ) (e : Refusal) → number e ≡ unwritable r → written_as (Err e) ≡ encoding_of r room
unfolding unwritable refusal
refused r room e is =
    let above : refusal r room ≡ number e = last-unasked (lines_as (kind_in r) r) _ 5 (number e) is (λ none. omega (arith, number-positive e)) in
    rw (above, when-refused {A = ℕ} (number e) _ 0 (λ none. omega (arith, number-positive e)))

pub returns-in_err-check-clause-value : goal.returns-in_err-check-clause-value
returns-in_err-check-clause-value c =
    let error = err_from_is_err_and c.from_residual.result c.from_residual.ensures.1 in
    rw (error.1, error.2) (refused _ _ _ c.in_err-check.ensures)
