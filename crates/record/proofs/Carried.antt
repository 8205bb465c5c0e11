-- What the wire can carry: the facts that a writable record's tests say, and back.
use Prim.Native.Nat.{ℕ, ◌+◌, ◌*◌, ◌/◌, ◌%◌, ◌<◌, ◌≤◌}
use native.Mathlib.Omega.{arith}
use native.Mathlib.Decide.{ℕ_discrete}
use mathlib.Core.Path.{◌≡◌, refl}
use mathlib.Core.Logic.{dite}
use mathlib.Core.Bool.{false, ◌||◌}
use mathlib.Core.List.{List, [], ◌∷◌}
use borrow.Author.Tests.{ne_eqb, eq-eqb, eqb-false, le-ltb, ltb-false}
use lib.Dec.{ltb}
use lib.ListN.{length}
use Rattle.basics.specs.Choice.{choose, first}
use Rattle.basics.specs.Output.{too_short}
use Rattle.basics.specs.Words.{has_bit, high_word}
use Rattle.basics.proofs.Choice.{choose-by, neither}
use Rattle.basics.proofs.Table.{Numbered, first_next, first-none, line-passed}
use Rattle.stream.specs.Layout.{header_length, frame_width, payload_length_of}
use Rattle.stream.specs.declared.Kind.{Kind}
use Rattle.stream.specs.declared.Kind.TheVariants.{Packet, Datagram, Telegram, Unknown}
pub use Rattle.record.specs.Record.{kind_in}
use Rattle.record.specs.Record.{Record, frames_of, frames_in, stream_as, stream_with, stream_of}
use Rattle.record.specs.Encode.{is_unknown, high_command, wrong_length, lines_as, unwritable, refusal, InRange, Writable}
use Rattle.record.specs.Stage.{Fits}
use Rattle.record.proofs.Lengths.{few-frames, right-length, length-stream}

-- both bytes of a word are without their top bits
abbrev pub SevenBitWord : ℕ → Type 0
SevenBitWord x = (x % 256 < 128) × (x / 256 < 128)

low_word : (x : ℕ) → x < 65536 → high_word x ≡ false → SevenBitWord x
low_word x fits h =
    let bits = neither (has_bit 7 x) (has_bit 15 x) h in
    let seven : x / 128 % 2 ≡ 1 → ⊥ = eqb-false (x / 128 % 2) 1 bits.0 in
    let fifteen : x / 32768 % 2 ≡ 1 → ⊥ = eqb-false (x / 32768 % 2) 1 bits.1 in
    (omega arith, omega arith)

not-high : (x : ℕ) → SevenBitWord x → high_word x ≡ false
not-high x low = rw (ne_eqb (x / 128 % 2) 1 (λ e. omega arith), ne_eqb (x / 32768 % 2) 1 (λ e. omega arith))

-- a command that the kind's header can carry
abbrev pub CommandLow : Kind → ℕ → Type 0
CommandLow Packet command = SevenBitWord command
CommandLow Datagram command = SevenBitWord command
CommandLow Telegram command = command < 128
CommandLow Unknown command = Unit {0}

low-command : (K : Kind) (command : ℕ) → command < 65536 → high_command K command ≡ false → CommandLow K command
low-command Packet command fits h = low_word command fits h
low-command Datagram command fits h = low_word command fits h
low-command Telegram command fits h = omega (arith, ltb-false 0x7F command h)
low-command Unknown command fits h = tt

not-high-command : (K : Kind) (command : ℕ) → CommandLow K command → high_command K command ≡ false
not-high-command Packet command low = not-high command low
not-high-command Datagram command low = not-high command low
not-high-command Telegram command low = le-ltb 0x7F command (omega arith)
not-high-command Unknown command low = refl

-- what a header of a kind and its frames can carry
pub record Carried (K : Kind) (r : Record) : Type 0 where
  pub known : is_unknown K ≡ false
  pub destination : SevenBitWord r.header.destination
  pub source : SevenBitWord r.header.source
  pub command : CommandLow K r.header.command
  pub few : frames_in K r ≤ 127
  pub sized : length r.payload ≡ payload_length_of K (frames_in K r)

-- each of the lines 1 to 4 that doesn't apply
pub record Passed (K : Kind) (r : Record) : Type 0 where
  pub known : is_unknown K ≡ false
  pub destination : high_word r.header.destination ≡ false
  pub source : high_word r.header.source ≡ false
  pub command : high_command K r.header.command ≡ false
  pub payload : wrong_length K r.header.command (length r.payload) ≡ false

pub passed : (K : Kind) (r : Record) → first (lines_as K r) ≡ 0 → Passed K r
passed K r e =
    let h = r.header in
    let one = line-passed (is_unknown K) 1 _ (omega arith) e in
    let two = line-passed (high_word h.destination || high_word h.source) 2 _ (omega arith) one.1 in
    let three = line-passed (high_command K h.command) 3 _ (omega arith) two.1 in
    let four = line-passed (wrong_length K h.command (length r.payload)) 4 0 (omega arith) three.1 in
    let addresses = neither (high_word h.destination) (high_word h.source) two.0 in
    record { known = one.0; destination = addresses.0; source = addresses.1; command = three.0; payload = four.0 }

pub carried_of : (K : Kind) (r : Record) → InRange r → first (lines_as K r) ≡ 0 → Carried K r
carried_of K r range e =
    let h = r.header in
    let p = passed K r e in
    record {
      known = p.known;
      destination = low_word h.destination range.destination p.destination;
      source = low_word h.source range.source p.source;
      command = low-command K h.command range.command p.command;
      few = few-frames K h.command (length r.payload) p.payload;
      sized = right-length K h.command (length r.payload) p.payload;
    }

lines_of : (K : Kind) (r : Record) → Carried K r → first (lines_as K r) ≡ 0
unfolding choose
lines_of K r carried =
    simp (
      carried.known,
      not-high r.header.destination carried.destination,
      not-high r.header.source carried.source,
      not-high-command K r.header.command carried.command,
      le-ltb 127 (frames_in K r) carried.few,
      eq-eqb (length r.payload) (payload_length_of K (frames_in K r)) carried.sized,
    )

-- its stream is as long as the kind and the frames say
pub carried-length : (K : Kind) (unused : List ℕ) (r : Record) → Carried K r → length (stream_as K unused r) ≡ header_length K + (frame_width K + 2) * frames_in K r
carried-length K unused r carried =
    length-stream K unused r carried.known
    (rw (le-ltb 127 (frames_in K r) carried.few, eq-eqb (length r.payload) (payload_length_of K (frames_in K r)) carried.sized))

pub writable-carried : (r : Record) → Writable r → Carried (kind_in r) r
unfolding unwritable
writable-carried r w = carried_of (kind_in r) r w.range w.carried

pub carried-writable : (r : Record) → InRange r → Carried (kind_in r) r → Writable r
unfolding unwritable
carried-writable r range carried = record { range = range; carried = lines_of (kind_in r) r carried }

carried-most : (K : Kind) (r : Record) → Carried K r → length r.payload ≤ 508
unfolding payload_length_of frames_of
carried-most Packet r carried = omega (arith, carried.sized, carried.few)
carried-most Datagram r carried = omega (arith, carried.sized)
carried-most Telegram r carried = omega (arith, carried.sized)
carried-most Unknown r carried = omega (arith, carried.sized)

-- no record that the wire can carry has more than 508 bytes of payload
pub payload-most : (r : Record) → Writable r → length r.payload ≤ 508
payload-most r w = carried-most (kind_in r) r (writable-carried r w)

-- ── what isn't refused with 1 to 4

pub lines-passed : (r : Record) → unwritable r ≡ 0 → Passed (kind_in r) r
unfolding unwritable
lines-passed r none = passed (kind_in r) r none

pub few_frames : (r : Record) → unwritable r ≡ 0 → frames_in (kind_in r) r ≤ 127
few_frames r none = few-frames (kind_in r) r.header.command (length r.payload) (lines-passed r none).payload

-- its stream is as long as the kind and the frames say
pub stream_length_as : (r : Record) → unwritable r ≡ 0 → length (stream_of r) ≡ header_length (kind_in r) + (frame_width (kind_in r) + 2) * frames_in (kind_in r) r
unfolding stream_of stream_with
stream_length_as r none = let p = lines-passed r none in length-stream (kind_in r) [] r p.known p.payload

-- what `write` asks for
pub fits : (r : Record) (room : ℕ) → unwritable r ≡ 0 → length (stream_of r) ≤ room → Fits (kind_in r) r room
fits r room none held =
    let p = lines-passed r none in
    record { known = p.known; low = p.command; sized = p.payload; held = omega (arith, stream_length_as r none) }

-- ── the refusal, by the record and by the room

-- no line has number 0
pub numbered : (K : Kind) (r : Record) → Numbered (lines_as K r)
numbered K r = (omega arith, (omega arith, (omega arith, (omega arith, tt))))

module _ (r : Record) (room : ℕ) where
  -- what the wire can carry is refused only for the room
  room-only : unwritable r ≡ 0 → refusal r room ≡ choose (ltb room (length (stream_of r))) 5 0
  unfolding unwritable refusal
  room-only none = first_next (lines_as (kind_in r) r) (too_short room (stream_of r) ∷ []) (numbered (kind_in r) r) none

  pub writable-refusal : Writable r → refusal r room ≡ choose (ltb room (length (stream_of r))) 5 0
  writable-refusal w = room-only w.carried

  -- a refusal with 1 to 4 is one for any room
  pub refusal-unwritable : 0 < refusal r room → refusal r room < 5 → 0 < unwritable r
  refusal-unwritable p q =
      dite (ℕ_discrete (unwritable r) 0)
      (λ none. choose-by (λ (n : ℕ). refusal r room ≡ n → 0 < unwritable r) _ (λ t e. absurd (omega arith)) (λ t e. absurd (omega arith)) (room-only none))
      (λ some. omega arith)

  -- a record that isn't refused is writable, and there is room for its stream
  pub unrefused : InRange r → refusal r room ≡ 0 → Writable r × (length (stream_of r) ≤ room)
  unfolding unwritable refusal
  unrefused range e =
      let (carried, none) = first-none (lines_as (kind_in r) r) (too_short room (stream_of r) ∷ []) (numbered (kind_in r) r) e in
      (record { range = range; carried = carried }, ltb-false room (length (stream_of r)) (line-passed _ 5 0 (omega arith) none).0)
