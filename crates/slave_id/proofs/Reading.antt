-- Laws of reading a slave ID response: when it is refused, and what it tells.
use Prim.Native.Nat.{ℕ, ◌+◌, ◌*◌, ◌<◌, ◌^◌}
use native.Mathlib.Omega.{arith}
use mathlib.Core.Path.{◌≡◌, refl, sym, ap}
use mathlib.Core.Logic.{◌↔◌}
use mathlib.Core.Bool.{Bool, true, false, and-eq-true_iff, true≢false}
use lib.Dec.{eqb}
use lib.ListN.{length, get_or}
use borrow.Author.Tests.{eq-eqb, eqb-true}
use Rattle.basics.specs.Bytes.{AllBelow}
use Rattle.basics.specs.Choice.{choose}
use Rattle.basics.proofs.Bytes.{get_d-below}
use Rattle.stream.specs.Layout.{kind_of}
use Rattle.stream.specs.declared.Kind.{Kind}
use Rattle.stream.specs.declared.Kind.TheVariants.{Packet, Datagram, Telegram, Unknown}
use Rattle.record.specs.Record.{Record}
use Rattle.slave_id.specs.SlaveId.{is_telegram, is_response, identifier_at, identified, unidentified, slave_id_of}
use Rattle.slave_id.specs.declared.SlaveId.{SlaveId}

pub telegram-only : (K : Kind) → is_telegram K ≡ true → K ≡ Telegram
telegram-only Packet e = absurd (true≢false (sym e))
telegram-only Datagram e = absurd (true≢false (sym e))
telegram-only Telegram e = refl
telegram-only Unknown e = absurd (true≢false (sym e))

-- what a slave ID response is
pub record Response (r : Record) : Type 0 where
  pub telegram : kind_of r.header.version ≡ Telegram
  pub command : r.header.command ≡ 0x23
  pub seven : length r.payload ≡ 7
  pub last : get_or r.payload 6 0 ≡ 0

module _ (r : Record) where
  abbrev byte : ℕ → ℕ
  byte k = get_or r.payload k 0

  pub response-exactly : (is_response r ≡ true) ↔ Response r
  unfolding is_response
  response-exactly = (
    λ e.
        let k = (and-eq-true_iff (is_telegram (kind_of r.header.version)) _).0 e in
        let c = (and-eq-true_iff (eqb r.header.command 0x23) _).0 k.1 in
        let n = (and-eq-true_iff (eqb (length r.payload) 7) (eqb (byte 6) 0)).0 c.1 in
        record {
          telegram = telegram-only _ k.0;
          command = eqb-true _ _ c.0;
          seven = eqb-true _ _ n.0;
          last = eqb-true _ _ n.1;
        },
    λ x. rw (x.telegram, eq-eqb _ _ x.command, eq-eqb _ _ x.seven, eq-eqb _ _ x.last),
  )

  -- 18 exactly where the record is no response, and then zeros
  pub read-given : is_response r ≡ true → slave_id_of r ≡ identified (identifier_at r.payload 0) (identifier_at r.payload 3)
  unfolding slave_id_of choose
  read-given e = rw e

  pub read-refused : is_response r ≡ false → slave_id_of r ≡ unidentified 18
  unfolding slave_id_of choose
  read-refused e = rw e

  pub read-exactly : ((slave_id_of r).number ≡ 0) ↔ Response r
  read-exactly = (λ e. go (is_response r) refl e, λ x. ap (λ (s : SlaveId). s.number) (read-given (response-exactly.1 x)))
    where
      go : (b : Bool) → is_response r ≡ b → (slave_id_of r).number ≡ 0 → Response r
      go true is e = response-exactly.0 is
      go false is e = absurd (omega (arith, e, ap (λ (s : SlaveId). s.number) (read-refused is)))

  -- an identifier of a payload has 24 bits
  pub identifier-below : AllBelow (2 ^ 8) r.payload → (k : ℕ) → identifier_at r.payload k < 2 ^ 24
  identifier-below bytes k =
      let small : (j : ℕ) → byte j < 2 ^ 8 = get_d-below (2 ^ 8) r.payload bytes (omega arith) in
      omega (arith, small k, small (k + 1), small (k + 2))

  -- "production week (below 128) times 131072 plus consecutive number (below 131072)"
  pub device-parts : AllBelow (2 ^ 8) r.payload
      → ((slave_id_of r).week < 128) × ((slave_id_of r).serial < 131072) × ((slave_id_of r).device ≡ (slave_id_of r).week * 131072 + (slave_id_of r).serial)
  device-parts bytes = go (is_response r) refl
    where
      go : (b : Bool) → is_response r ≡ b
          → ((slave_id_of r).week < 128) × ((slave_id_of r).serial < 131072) × ((slave_id_of r).device ≡ (slave_id_of r).week * 131072 + (slave_id_of r).serial)
      go true is =
          let d = identifier_at r.payload 3 in
          rw (read-given is) (omega (arith, identifier-below bytes 3), omega arith, omega arith)
      go false is = rw (read-refused is) (omega arith, omega arith, refl)
