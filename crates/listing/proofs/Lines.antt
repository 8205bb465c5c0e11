-- Laws of a line: its fields, and how long it is.
use Prim.Native.Nat.{ℕ, zero, suc, ◌+◌, ◌*◌, ◌<◌, ◌≤◌}
use native.Mathlib.Omega.{arith}
use mathlib.Core.Path.{◌≡◌, refl, ap, sym, ◌∙◌}
use mathlib.Core.Bool.{true, false, false≢true}
use borrow.Author.Tests.{ltb-true}
use Rattle.std.proofs.lemmas.Bool.{eqb-true}
use mathlib.Core.List.{List, [], ◌∷◌, ◌++◌, append_assoc}
use lib.ListN.{length, get_or, take, length-append}
use Rattle.std.specs.Prelude.{◌==◌}
use Rattle.basics.specs.Choice.{choose}
use Rattle.basics.proofs.Choice.{choose-by}
use Rattle.stream.specs.Layout.{kind_of}
use Rattle.stream.specs.declared.Kind.{Kind}
use Rattle.stream.specs.declared.Kind.TheVariants.{Packet, Datagram, Telegram, Unknown}
use Rattle.record.specs.declared.Header.{Header}
use Rattle.record.specs.Record.{Record}
use Rattle.text.specs.Ascii.{ascii}
use Rattle.text.specs.Hex.{hex_byte, hex_word}
use Rattle.listing.specs.Line.{hex_bytes, is_byte, hex_command, spaced, hex_payload, hex_head, line_of}

-- ── a payload's digits

pub length-bytes_hex : (l : List ℕ) → length (hex_bytes l) ≡ 2 * length l
unfolding hex_bytes
length-bytes_hex [] = refl
length-bytes_hex (byte ∷ rest) = omega (arith, length-bytes_hex rest)

-- one byte more
pub bytes_hex-take : (l : List ℕ) (i : ℕ) → i < length l → hex_bytes (take (suc i) l) ≡ hex_bytes (take i l) ++ hex_byte (get_or l i 0)
unfolding hex_bytes
bytes_hex-take [] i h = absurd (omega arith)
bytes_hex-take (byte ∷ rest) zero h = refl
bytes_hex-take (byte ∷ rest) (suc i) h = ap {B = List ℕ} (λ l. hex_byte byte ++ l) (bytes_hex-take rest i (omega arith))

pub payload-none : (l : List ℕ) → (length l == 0) ≡ true → hex_payload l ≡ []
unfolding hex_payload
payload-none [] e = refl
payload-none (byte ∷ rest) e = absurd (omega (arith, eqb-true (suc (length rest)) 0 e))

pub payload-some : (l : List ℕ) → (length l == 0) ≡ false → hex_payload l ≡ spaced (hex_bytes l)
unfolding hex_payload
payload-some [] e = absurd (false≢true (sym e))
payload-some (byte ∷ rest) e = refl

pub length-some : (l : List ℕ) → (length l == 0) ≡ false → length (hex_payload l) ≡ 1 + 2 * length l
length-some l e = ap length (payload-some l e) ∙ omega (arith, length-bytes_hex l)

-- two digits for each byte and, where there are any, a space
pub length-hex_payload : (l : List ℕ)
    → (2 * length l ≤ length (hex_payload l)) × (length (hex_payload l) ≤ 2 * length l + 1) × (length (hex_payload l) ≤ 3 * length l)
unfolding hex_payload
length-hex_payload [] = (omega arith, omega arith, omega arith)
length-hex_payload (byte ∷ rest) =
    let digits = length-bytes_hex (byte ∷ rest) in
    (omega (arith, digits), omega (arith, digits), omega (arith, digits))

-- ── a command's digits

module _ (K : Kind) (command : ℕ) where
  pub command-byte : is_byte K command ≡ true → hex_command K command ≡ hex_byte command
  unfolding hex_command choose
  command-byte e = rw e

  pub command-word : is_byte K command ≡ false → hex_command K command ≡ hex_word command
  unfolding hex_command choose
  command-word e = rw e

  pub length-command : length (hex_command K command) ≤ 4
  unfolding hex_command
  length-command = choose-by (λ (l : List ℕ). length l ≤ 4) (is_byte K command) {x = hex_byte command} {y = hex_word command} (λ e. omega arith) (λ e. omega arith)

pub byte_fits : (K : Kind) (command : ℕ) → is_byte K command ≡ true → command < 256
byte_fits Packet command e = absurd (false≢true e)
byte_fits Datagram command e = absurd (false≢true e)
byte_fits Telegram command e = ltb-true command 256 e
byte_fits Unknown command e = absurd (false≢true e)

-- ── lengths

pub length-head : (K : Kind) (h : Header) → length (hex_head K h) ≡ 15 + length (hex_command K h.command)
unfolding hex_head
length-head K h = omega arith

-- the line of a record whose kind is told
module _ (K : Kind) (r : Record) (told : K ≡ kind_of r.header.version) where
  pub line_as : line_of r ≡ (hex_head K r.header ++ hex_payload r.payload) ++ ascii "\n"
  unfolding line_of
  line_as =
      ap (λ (k : Kind). hex_head k r.header ++ (hex_payload r.payload ++ ascii "\n")) (sym told)
      ∙ sym (append_assoc (hex_head K r.header) (hex_payload r.payload) (ascii "\n"))

  pub length-line : length (line_of r) ≡ length (hex_head K r.header) + length (hex_payload r.payload) + 1
  length-line = ap length line_as ∙ simp length-append

-- two digits for each payload byte, and more
pub line-longer : (r : Record) → 2 * length r.payload < length (line_of r)
line-longer r = omega (arith, length-line (kind_of r.header.version) r refl, length-hex_payload r.payload)
