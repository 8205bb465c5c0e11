-- The sections of a block packet's payload.
use Rattle.std.specs.Prelude.{ℕ, zero, suc, ◌+◌, ◌*◌, Bool, false, ◌||◌, ltb, length, get_or, take, drop}
use mathlib.Core.List.{List, [], ◌∷◌, flatten}

-- a section is a four-byte header (payload frames n, type, two reserved bytes) and 4n payload bytes
abbrev pub frames_in : List ℕ → ℕ
frames_in section = get_or section 0 0

abbrev pub type_of : List ℕ → ℕ
type_of section = get_or section 1 0

abbrev pub section_length : List ℕ → ℕ
section_length section = 4 + 4 * frames_in section

-- headers and payloads alternate until the payload runs out; the last section may be cut short, and n bounds their number
unfoldable pub cut : ℕ → List ℕ → List (List ℕ)
cut zero payload = []
cut (suc n) [] = []
cut (suc n) (frames ∷ rest) =
    take (4 + 4 * frames) (frames ∷ rest) ∷ cut n (drop (4 + 4 * frames) (frames ∷ rest))

-- each section has a byte at least, so the payload's length is bound enough; a payload with no bytes has no sections
abbrev pub sections_of : List ℕ → List (List ℕ)
sections_of payload = cut (length payload) payload

unfoldable pub some_short : List (List ℕ) → Bool
some_short [] = false
some_short (section ∷ sections) = ltb (length section) (section_length section) || some_short sections

-- some section runs past the payload's end
abbrev pub overrun : List ℕ → Bool
overrun payload = some_short (sections_of payload)

-- sections are numbered from 0
abbrev pub section_at : List ℕ → ℕ → List ℕ
section_at payload k = get_or (sections_of payload) k []

-- the bytes before section k
abbrev pub start_of : List ℕ → ℕ → ℕ
start_of payload k = length (flatten (take k (sections_of payload)))
