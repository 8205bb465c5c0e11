-- Laws of writing a slave ID response: when it is refused, and that what is written is delivered and reads as those identifiers.
use Prim.Native.Nat.{ℕ, ◌+◌, ◌*◌, ◌/◌, ◌%◌, ◌≤◌, ◌<◌, ◌^◌}
use native.Mathlib.Omega.{arith}
use mathlib.Core.Path.{◌≡◌, refl, sym, ap, ap₂, ◌∙◌}
use mathlib.Core.Logic.{◌↔◌}
use mathlib.Core.Bool.{true, false}
use mathlib.Core.List.{List}
use lib.Dec.{leb, lit<}
use lib.ListN.{length, take, drop}
use lib.Seq.{take-append_seam}
use borrow.Author.Tests.{lt-leb, leb-false}
use Rattle.basics.specs.Choice.{choose}
use Rattle.basics.proofs.Choice.{neither}
use Rattle.basics.proofs.Table.{line-passed, when-none}
use Rattle.basics.specs.declared.Written.{Written}
use Rattle.stream.specs.Layout.{kind_of, payload_length_of}
use Rattle.record.specs.Record.{frames_of}
use Rattle.record.specs.Encode.{refusal, InRange, encoding_of}
use Rattle.record.specs.Encode as encode
use Rattle.recording.specs.Next.{next_of, payload_after}
use Rattle.recording.proofs.Nexts.{encode-next}
use Rattle.slave_id.specs.SlaveId.{too_wide, response, identified, slave_id_of, is_response, write_refusal, written_of, output_after}

-- ── 18

-- both identifiers have 24 bits at most
pub wide-exactly : (p d : ℕ) → (too_wide p d ≡ false) ↔ ((p < 2 ^ 24) × (d < 2 ^ 24))
unfolding too_wide
wide-exactly p d = (
  λ e. let both = neither (leb (2 ^ 24) p) (leb (2 ^ 24) d) e in (leb-false (2 ^ 24) p both.0, leb-false (2 ^ 24) d both.1),
  λ (small, other). rw (lt-leb (2 ^ 24) p small, lt-leb (2 ^ 24) d other),
)

-- ── when it is refused

module _ (dst src p d : ℕ) where
  -- an identifier that is too wide is refused first, and every byte of the output stays
  pub write-wide : (out : List ℕ) → too_wide p d ≡ true → (written_of dst src p d (length out) ≡ record { number = 18; length = 0 }) × (output_after dst src p d out ≡ out)
  unfolding write_refusal choose
  write-wide out y = rw y (refl, refl)

  -- else it is refused as the response's record is
  write-narrow : (room : ℕ) → too_wide p d ≡ false → write_refusal dst src p d room ≡ refusal (response dst src p d) room
  unfolding write_refusal refusal kind_of choose frames_of payload_length_of
  write-narrow room n = rw n

  pub write-encoded : (out : List ℕ) → too_wide p d ≡ false
      → (written_of dst src p d (length out) ≡ encoding_of (response dst src p d) (length out)) × (output_after dst src p d out ≡ encode.output_after (response dst src p d) out)
  write-encoded out n = rw (write-narrow (length out) n) (refl, refl)

-- ── what is written is delivered, and reads as those identifiers

-- three bytes hold an identifier of 24 bits
identifier-back : (x : ℕ) → x < 2 ^ 24 → x % 256 + 256 * (x / 256 % 256) + 65536 * (x / 65536 % 256) ≡ x
identifier-back x l = omega (arith, l)

pub response-reads : (dst src p d : ℕ) → too_wide p d ≡ false → slave_id_of (response dst src p d) ≡ identified p d
unfolding slave_id_of is_response kind_of choose
response-reads dst src p d narrow =
    let (product, device) = (wide-exactly p d).0 narrow in
    ap₂ identified (identifier-back p product) (identifier-back d device)

response-range : (dst src p d : ℕ) → dst < 2 ^ 16 → src < 2 ^ 16 → InRange (response dst src p d)
response-range dst src p d destination source =
    record {
      version = lit< tt;
      destination = destination;
      source = source;
      command = lit< tt;
      payload = (omega arith, (omega arith, (omega arith, (omega arith, (omega arith, (omega arith, (omega arith, tt)))))));
    }

-- next over what write wrote, whatever stands behind it, finds a record at 0 that ends where the writing ended, and read tells of it just
-- the identifiers that were handed over, with week and number
pub written-reads : (dst src p d : ℕ) (out buffer : List ℕ) → dst < 2 ^ 16 → src < 2 ^ 16 → write_refusal dst src p d (length out) ≡ 0 → 7 ≤ length buffer
    → (let stream = output_after dst src p d out in
    let found = next_of stream 0 (length buffer) in
    let payload = take found.payload_length (payload_after stream 0 buffer) in
    (found.found ≡ true) × (found.position ≡ 0) × (found.length ≡ (written_of dst src p d (length out)).length)
    × (slave_id_of (record { header = found.header; payload = payload }) ≡ identified p d))
unfolding write_refusal
written-reads dst src p d out buffer destination source none room =
    let r = response dst src p d in
    let narrow = (line-passed (too_wide p d) 18 _ (omega arith) none).0 in
    let unrefused : refusal r (length out) ≡ 0 = sym (write-narrow dst src p d (length out) narrow) ∙ none in
    let same = write-encoded dst src p d out narrow in
    let (answer, bytes) = encode-next r out buffer (response-range dst src p d destination source) unrefused room in
    rw (same.1, answer, bytes) (
      refl,
      refl,
      sym (ap (λ (w : Written). w.length) same.0 ∙ when-none _ _ _ unrefused),
      ap (λ (l : List ℕ). slave_id_of (record { header = r.header; payload = l })) (take-append_seam r.payload (drop 7 buffer)) ∙ response-reads dst src p d narrow,
    )
