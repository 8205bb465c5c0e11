-- A recording, any bytes, and the records that it delivers.
use Rattle.std.specs.Prelude.{ℕ, suc, List, [], ◌∷◌, drop}
use Rattle.basics.specs.Choice.{choose}
use Rattle.stream.specs.Validation.{validation_of, is_whole}
use Rattle.record.specs.Record.{Record, record_of}

-- one delivered record: the position of its stream's 0xAA (request No. 5), the stream's length, and what it says
pub record Delivery : Type 0 where
  pub position : ℕ
  pub length : ℕ
  pub contents : Record

-- of a whole stream that stands at position q
abbrev pub delivery_at : ℕ → List ℕ → Delivery
delivery_at q s = record { position = q; length = (validation_of s).offset; contents = record_of s }

-- the deliveries of bytes that stand from position q on: at each position where the stretch to the input's end is V0, in order of position
unfoldable pub deliveries_from : ℕ → List ℕ → List Delivery
deliveries_from q [] = []
deliveries_from q (byte ∷ rest) =
    choose (is_whole (byte ∷ rest)) (delivery_at q (byte ∷ rest) ∷ deliveries_from (suc q) rest) (deliveries_from (suc q) rest)

-- the deliveries at or after a starting place
abbrev pub deliveries_after : List ℕ → ℕ → List Delivery
deliveries_after s start = deliveries_from start (drop start s)

-- the records alone, without their positions
abbrev pub contents_of : List Delivery → List Record
contents_of [] = []
contents_of (d ∷ rest) = d.contents ∷ contents_of rest

-- document 01: the delivered records
abbrev pub records : List ℕ → List Record
records s = contents_of (deliveries_from 0 s)
