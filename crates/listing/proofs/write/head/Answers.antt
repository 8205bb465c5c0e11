-- `write::head` meets its contract. Assumes nothing.
use native.Mathlib.Omega.{arith}
use Prim.Native.Nat.{ℕ}
use mathlib.Core.Path.{refl, ap, ◌∙◌}
use mathlib.Core.List.{List}
use Rattle.basics.specs.Bytes.{over}
use Rattle.basics.proofs.Over.{lent, all-written}
use Rattle.listing.specs.Line.{hex_command, spaced, hex_fields, hex_head}
use Rattle.listing.proofs.write.head.Goals as goal

pub returns : goal.returns
unfolding hex_head
returns c =
    let a = c.args in
    lent (hex_fields a.kind a.header) (spaced (hex_command a.kind a.header.command)) a.out.now _ _ 14 refl
    (all-written _ a.out.now _ c.copy.ensures.out_after (omega arith) ∙ ap (λ (l : List ℕ). over l a.out.now) c.fields.ensures) c.command.ensures
