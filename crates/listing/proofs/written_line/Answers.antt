-- `written_line` meets its contract: what is written piece by piece is the line, and its length is known before. Assumes nothing.
use Prim.Native.Nat.{ℕ, ◌+◌, ◌-◌, ◌<◌, ◌≤◌}
use borrow.Author.Rules.{rules}
use native.Mathlib.Omega.{arith}
use mathlib.Core.Path.{◌≡◌, ap, ◌∙◌, sym}
use mathlib.Core.List.{List, ◌++◌}
use lib.ListN.{length, take, drop, length-append}
use Rattle.basics.specs.Bytes.{over}
use Rattle.basics.proofs.Over.{lent, all-written}
use Rattle.basics.proofs.Output.{answered-short, answered-fits, output-kept, output-written}
use Rattle.text.specs.Ascii.{ascii}
use Rattle.stream.specs.Layout.{kind_of}
use Rattle.stream.specs.declared.Kind.{Kind}
use Rattle.record.specs.Record.{Record}
use Rattle.record.specs.declared.Header.{Header}
use Rattle.listing.specs.Line.{hex_command, hex_payload, hex_head, line_of, line_written, line_after}
use Rattle.listing.proofs.Lines.{length-head, length-command, length-hex_payload, line_as, length-line, line-longer}
use Rattle.listing.proofs.written_line.Goals as goal

abbrev of : Header → List ℕ → Record
of h payload = record { header = h; payload = payload }

-- both clauses, for an output that is too short
refuses : (r : Record) (out : List ℕ) → length out < length (line_of r)
    → (record { number = 5; length = 0 } ≡ line_written r (length out)) × (out ≡ line_after r out)
refuses r out short = (sym (answered-short (line_of r) (length out) short), sym (output-kept (line_of r) out short))

-- the length, by those of its parts
sized : (K : Kind) (r : Record) → K ≡ kind_of r.header.version → (head text : ℕ) → head ≡ 15 + length (hex_command K r.header.command)
    → text ≡ length (hex_payload r.payload) → length (line_of r) ≡ head + text + 1
sized K r told head text h t = omega (arith, length-line K r told, length-head K r.header, h, t)

pub returns-then-out-payload : goal.returns-then-out-payload
returns-then-out-payload c =
    let r = of c.args.header c.args.payload.now in
    let both = refuses r c.args.out.now (omega (arith, line-longer r)) in
    record { value = both.0; out_after = both.1 }

pub overflow_add-end : goal.overflow_add-end
overflow_add-end c =
    record {
      fits =
          omega
          (arith, c.head_length-head.ensures, c.payload_text_length.ensures, length-command c.kind_of-kind.result c.args.header.command, length-hex_payload c.args.payload.now);
    }

pub returns-then-out-end : goal.returns-then-out-end
returns-then-out-end c =
    let r = of c.args.header c.args.payload.now in
    let size = sized _ r c.kind_of-kind.ensures _ _ c.head_length-head.ensures c.payload_text_length.ensures in
    let both = refuses r c.args.out.now (omega (arith, size)) in
    record { value = both.0; out_after = both.1 }

pub head-requires : goal.head-requires
head-requires c = omega (arith, length-head c.kind_of-kind.result c.args.header, c.head_length-head.ensures)

pub returns : goal.returns
returns c =
    let r = of c.args.header c.args.payload.now in
    let K = c.kind_of-kind.result in
    let head = length-head K c.args.header ∙ sym c.head_length-head.ensures in
    let size = sized K r c.kind_of-kind.ensures _ _ c.head_length-head.ensures c.payload_text_length.ensures in
    let out = c.args.out.now in
    let digits = hex_head K r.header in
    let end : length (digits ++ hex_payload r.payload) ≡ c.head_length-head.result + c.payload_text_length.result =
    omega (arith, length-append digits (hex_payload r.payload), head, c.payload_text_length.ensures) in
    let fits : length (line_of r) ≤ length out = omega (arith, size) in
    let before = c.head.new.out in
    let at = c.head_length-head.result in
    let behind = at + c.payload_text_length.result in
    let written = take at before ++ (c.payload.new.out ++ drop (length before - at) (drop at before)) in
    record {
      value = sym (answered-fits (line_of r) (length out) fits ∙ ap (λ (n : ℕ). record { number = 0; length = n }) size);
      out_after =
          lent (digits ++ hex_payload r.payload) (ascii "\n") out _ _ _ end
          (lent digits (hex_payload r.payload) out _ _ _ head c.head.ensures c.payload.ensures) (all-written _ (take (length written - behind) (drop behind written)) _ c.copy.ensures.out_after (search rules))
          ∙ ap (λ (l : List ℕ). over l out) (sym (line_as K r c.kind_of-kind.ensures))
          ∙ sym (output-written (line_of r) out fits);
    }
