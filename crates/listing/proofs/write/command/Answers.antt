-- `write::command` meets its contract. Assumes nothing.
use Prim.Native.Nat.{ℕ, ◌-◌}
use native.Mathlib.Omega.{arith}
use mathlib.Core.Path.{refl, ap, sym, ◌∙◌}
use mathlib.Core.List.{List}
use lib.ListN.{length, take, drop}
use Rattle.basics.specs.Bytes.{over}
use Rattle.basics.proofs.Over.{lent, all-written}
use Rattle.text.specs.Ascii.{ascii}
use Rattle.text.specs.Hex.{hex_byte, hex_word}
use Rattle.listing.specs.Line.{spaced}
use Rattle.listing.proofs.Lines.{command-byte, command-word, byte_fits}
use Rattle.listing.proofs.write.command.Goals as goal

pub overflow_cast-command : goal.overflow_cast-command
overflow_cast-command c = record { fits = byte_fits c.args.kind c.args.command (sym c.is_byte.ensures ∙ c.if-is_byte.true) }

pub returns-then-is_byte : goal.returns-then-is_byte
returns-then-is_byte c =
    let out = c.args.out.now in
    let command = c.args.command in
    let is = command-byte c.args.kind command (sym c.is_byte.ensures ∙ c.if-is_byte.true) in
    let room = ap length is in
    let part = take (length c.copy.new.out - 1) (drop 1 c.copy.new.out) in
    lent (ascii " ") (hex_byte command) out c.copy.new.out _ 1 refl (all-written _ out _ c.copy.ensures.out_after (omega (arith, room)))
    (all-written _ part _ c.copy-then-is_byte.ensures.out_after (omega (arith, room)) ∙ ap (λ (l : List ℕ). over l part) c.hex_byte.ensures)
    ∙ ap (λ (l : List ℕ). over (spaced l) out) (sym is)

pub returns-else-is_byte : goal.returns-else-is_byte
returns-else-is_byte c =
    let out = c.args.out.now in
    let command = c.args.command in
    let is = command-word c.args.kind command (sym c.is_byte.ensures ∙ c.if-is_byte.false) in
    let room = ap length is in
    let part = take (length c.copy.new.out - 1) (drop 1 c.copy.new.out) in
    lent (ascii " ") (hex_word command) out c.copy.new.out _ 1 refl (all-written _ out _ c.copy.ensures.out_after (omega (arith, room)))
    (all-written _ part _ c.copy-else-is_byte.ensures.out_after (omega (arith, room)) ∙ ap (λ (l : List ℕ). over l part) c.hex_word.ensures)
    ∙ ap (λ (l : List ℕ). over (spaced l) out) (sym is)
