-- Document 000's short packet. Every law holds as well of another start value: the samples tie the definition to the paper.
use mathlib.Core.Path.{◌≡◌, refl}
use mathlib.Core.List.{[], ◌∷◌}
use Rattle.checksum.specs.Checksum.{checksum_from, checksum_of}

-- its header's checksum, and its frame's
header : checksum_of (0x11 ∷ 0x44 ∷ 0x10 ∷ 0x66 ∷ 0x10 ∷ 0x00 ∷ 0x02 ∷ 0x01 ∷ []) ≡ 0x21
unfolding checksum_from
header = refl

frame : checksum_of (0x07 ∷ 0x04 ∷ 0x0F ∷ 0x00 ∷ 0x00 ∷ []) ≡ 0x65
unfolding checksum_from
frame = refl
