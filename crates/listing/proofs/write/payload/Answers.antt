-- `write::payload` meets its contract. Assumes nothing.
use Prim.Native.Nat.{ℕ}
use native.Mathlib.Omega.{arith}
use mathlib.Core.Path.{refl, ap, sym, ◌∙◌}
use mathlib.Core.List.{List}
use Rattle.basics.specs.Bytes.{over}
use Rattle.basics.proofs.Over.{lent, all-written}
use Rattle.listing.specs.Line.{hex_bytes}
use Rattle.listing.proofs.Lines.{payload-none, payload-some, length-some}
use Rattle.text.specs.Ascii.{ascii}
use Rattle.listing.proofs.write.payload.Goals as goal

pub slice_bounds-hex_bytes-count : goal.slice_bounds-hex_bytes-count
slice_bounds-hex_bytes-count c = omega (arith, length-some c.args.payload.now (sym c.is_empty.ensures ∙ c.if-not-is_empty.true))

pub slice_bounds-hex_bytes-start : goal.slice_bounds-hex_bytes-start
slice_bounds-hex_bytes-start c = omega (arith, length-some c.args.payload.now (sym c.is_empty.ensures ∙ c.if-not-is_empty.true))

pub hex_bytes-requires : goal.hex_bytes-requires
hex_bytes-requires c = omega (arith, length-some c.args.payload.now (sym c.is_empty.ensures ∙ c.if-not-is_empty.true))

pub returns-then-not-is_empty : goal.returns-then-not-is_empty
returns-then-not-is_empty c =
    let payload = c.args.payload.now in
    let out = c.args.out.now in
    let some = sym c.is_empty.ensures ∙ c.if-not-is_empty.true in
    lent (ascii " ") (hex_bytes payload) out _ _ 1 refl
    (all-written _ out _ c.copy.ensures.out_after (omega (arith, length-some payload some)))
    c.hex_bytes.ensures
    ∙ ap (λ (l : List ℕ). over l out) (sym (payload-some payload some))

pub returns-else-not-is_empty : goal.returns-else-not-is_empty
returns-else-not-is_empty c = rw (payload-none c.args.payload.now (sym c.is_empty.ensures ∙ c.if-not-is_empty.false))
