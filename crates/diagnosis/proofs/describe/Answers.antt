-- `diagnosis::describe` meets its contract. Assumes nothing.
use native.Mathlib.Omega.{arith}
use mathlib.Core.Path.{◌≡◌, refl, ◌∙◌}
use Rattle.std.specs.Prelude.{ℕ, Option, None, Some}
use Rattle.std.specs.Borrow.{Bor}
use Rattle.std.specs.Option.{is_some, option_copied}
use Rattle.diagnosis.proofs.Reasons.{described}
use Rattle.diagnosis.proofs.describe.Goals as goal

copied-some : (o : Option (Bor ℕ)) → is_some (option_copied o) ≡ is_some o
copied-some None = refl
copied-some (Some x) = refl

pub returns : goal.returns
returns c =
    let get = c.get.ensures.lookup in
    rw (c.number.ensures, c.is_some.ensures, c.unwrap_or.ensures, c.is_some-2.ensures, c.unwrap_or-2.ensures, c.copied-byte.ensures)
    (described c.args.stretch.now c.args.stop c.requires _ _ _ (copied-some c.get.result ∙ get.0) (get.4 (omega arith) 0) c.wanted-wanted.ensures)
