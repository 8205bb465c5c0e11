-- T2 both ways: product 888888, production week 17, consecutive number 116406. Crate samples has it too; an edit here sees this crate alone.
use Prim.Native.Nat.{ℕ, ◌+◌, ◌*◌}
use mathlib.Core.Path.{◌≡◌, refl}
use mathlib.Core.List.{List, [], ◌∷◌, ◌++◌}
use lib.ListN.{replicate}
use Rattle.basics.specs.Choice.{choose}
use Rattle.septet.specs.Septet.{low_bits, with_top_bits, septet_of}
use Rattle.checksum.specs.Checksum.{checksum_from}
use Rattle.stream.specs.Layout.{kind_of, frame_width, frame_count}
use Rattle.record.specs.Record.{record_of, stream_of, stream_with, stream_as, kind_bytes, frames_of, framed, unframed, command_in, payload_in}
use Rattle.slave_id.specs.SlaveId.{slave_id_of, is_response, too_wide, write_refusal, written_of, output_after}

-- document 01's sample T2
abbrev t2 : List ℕ
t2 = 0xAA ∷ 0x31 ∷ 0x77 ∷ 0x10 ∷ 0x20 ∷ 0x30 ∷ 0x23 ∷ 0x54 ∷ 0x38 ∷ 0x10 ∷ 0x0D ∷ 0x36 ∷ 0x46 ∷ 0x23 ∷ 0x00 ∷ 0x1A ∷ 0x71 ∷ []

pub t2-read : slave_id_of (record_of t2) ≡ record { number = 0; product = 888888; device = 17 * 131072 + 116406; week = 17; serial = 116406 }
unfolding slave_id_of is_response record_of kind_of command_in payload_in frame_count unframed with_top_bits choose
t2-read = refl

pub t2-written : (written_of 0x7731 0x2010 888888 (17 * 131072 + 116406) 18 ≡ record { number = 0; length = 17 })
    × (output_after 0x7731 0x2010 888888 (17 * 131072 + 116406) (replicate 18 0x55) ≡ t2 ++ (0x55 ∷ []))
unfolding write_refusal too_wide stream_of stream_with stream_as kind_bytes frames_of framed kind_of frame_width septet_of low_bits checksum_from choose
t2-written = (refl, refl)
