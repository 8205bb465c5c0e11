-- The elements of a section.
use Rattle.std.specs.Prelude.{ℕ, ◌+◌, ◌*◌, ◌/◌, ◌%◌, Bool, ◌&&◌, List, [], ◌∷◌, eqb, ℤ, take, drop}
use Rattle.basics.specs.Choice.{first}
use Rattle.basics.specs.Words.{word_at, signed}
use Rattle.sections.specs.Section.{frames_in, type_of}

-- document 01's table of types: temperatures, heat quantities, relay speeds, smart display, masks; 0 for a type that isn't in it
unfoldable pub element_size : ℕ → ℕ
element_size type =
    first (
    (eqb type 0x01, 2)
    ∷ (eqb type 0x05, 4)
    ∷ (eqb type 0x08, 1)
    ∷ (eqb type 0x0A, 8)
    ∷ (eqb type 0x0B, 4)
    ∷ (eqb type 0x0C, 4)
    ∷ (eqb type 0x0D, 4)
    ∷ []
    )

-- the size of an element, by the section's type
abbrev pub size_in : List ℕ → ℕ
size_in section = element_size (type_of section)

-- the number of elements is 4n divided by the size
abbrev pub elements_in : List ℕ → ℕ
elements_in section = 4 * frames_in section / size_in section

-- document 02, No. 6: "A section of type 0x0A with an odd number of frames": the last four bytes are half an element
abbrev pub partial_element : List ℕ → Bool
partial_element section = eqb (type_of section) 0x0A && eqb (frames_in section % 2) 1

-- the bytes of a section before element i
abbrev pub offset_in : List ℕ → ℕ → ℕ
offset_in section i = 4 + i * size_in section

-- elements are numbered from 0
abbrev pub element_at : List ℕ → ℕ → List ℕ
element_at section i = take (size_in section) (drop (offset_in section i) section)

-- document 01's house rule: a temperature is a signed 16-bit number
abbrev pub temperature_of : List ℕ → ℤ
temperature_of bytes = signed 16 (word_at bytes 0)
