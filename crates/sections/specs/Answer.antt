-- What is answered about sections and elements: document 01's refusals 8 to 11 and document 02's 13 in the stated orders, or what was asked for.
use Rattle.std.specs.Prelude.{ℕ, ◌+◌, ◌%◌, Bool, ◌||◌, not, List, [], ◌∷◌, ◌++◌, eqb, leb, ltb, length, Result, Ok, Err}
use Rattle.basics.specs.Choice.{choose, first}
use Rattle.basics.specs.Refusal.{number}
use Rattle.basics.specs.declared.refusal.Refusal.{Refusal}
use Rattle.record.specs.declared.Header.{Header}
use Rattle.sections.specs.Section.{sections_of, overrun, section_at, start_of}
use Rattle.sections.specs.Element.{size_in, elements_in, partial_element, offset_in, element_at}
use Rattle.sections.specs.declared.Count.{Count}
use Rattle.sections.specs.declared.Part.{Part}
use Rattle.sections.specs.declared.Place.{Place}

-- 8: not version 0x10, destination 0x0015 and command 0x0100, or payload length not a multiple of 4 or above 508
unfoldable pub not_block : Header → ℕ → Bool
not_block header n =
    not (eqb header.version 0x10)
    || (not (eqb header.destination 0x0015) || (not (eqb header.command 0x0100) || (not (eqb (n % 4) 0) || ltb 508 n)))

abbrev pub block_lines : Header → List ℕ → List (Bool × ℕ)
block_lines header payload = (not_block header (length payload), 8) ∷ (overrun payload, 9) ∷ []

-- a section: 8, 9, 10
abbrev pub section_lines : Header → List ℕ → ℕ → List (Bool × ℕ)
section_lines header payload k = block_lines header payload ++ ((leb (length (sections_of payload)) k, 10) ∷ [])

-- an element count: 8, 9, 10, 11, 13
abbrev pub type_lines : Header → List ℕ → ℕ → List (Bool × ℕ)
type_lines header payload k =
    section_lines header payload k ++ ((eqb (size_in (section_at payload k)) 0, 11) ∷ (partial_element (section_at payload k), 13) ∷ [])

-- an element: 8, 9, 10 for the section, 11, 13, 10 for the element
abbrev pub element_lines : Header → List ℕ → ℕ → ℕ → List (Bool × ℕ)
element_lines header payload k i = type_lines header payload k ++ ((leb (elements_in (section_at payload k)) i, 10) ∷ [])

-- by the table's lines, a count or, refused, zero; and a place or, refused, zeros
abbrev pub counted : List (Bool × ℕ) → ℕ → Count
counted lines n = record { number = first lines; count = choose (eqb (first lines) 0) n 0 }

abbrev pub located : List (Bool × ℕ) → ℕ → ℕ → Part
located lines start n =
    record { number = first lines; start = choose (eqb (first lines) 0) start 0; length = choose (eqb (first lines) 0) n 0 }

-- the answers as C gets them
abbrev pub count_as : Result ℕ Refusal → Count
count_as (Ok count) = record { number = 0; count = count }
count_as (Err refusal) = record { number = number refusal; count = 0 }

abbrev pub part_as : Result Place Refusal → Part
part_as (Ok place) = record { number = 0; start = place.start; length = place.length }
part_as (Err refusal) = record { number = number refusal; start = 0; length = 0 }

-- by the table's lines, the bytes that are shown or, refused, none
abbrev pub shown : List (Bool × ℕ) → List ℕ → List ℕ
shown lines bytes = choose (eqb (first lines) 0) bytes []

-- how many sections there are
abbrev pub section_count : Header → List ℕ → Count
section_count header payload = counted (block_lines header payload) (length (sections_of payload))

-- where section k stands, header and payload
abbrev pub section_found : Header → List ℕ → ℕ → Part
section_found header payload k = located (section_lines header payload k) (start_of payload k) (length (section_at payload k))

-- "The answer shows the section's header and payload as one part of the caller's payload"
abbrev pub section_shown : Header → List ℕ → ℕ → List ℕ
section_shown header payload k = shown (section_lines header payload k) (section_at payload k)

-- how many elements section k has
abbrev pub element_count : Header → List ℕ → ℕ → Count
element_count header payload k = counted (type_lines header payload k) (elements_in (section_at payload k))

-- where element i of section k stands
abbrev pub element_found : Header → List ℕ → ℕ → ℕ → Part
element_found header payload k i =
    located (element_lines header payload k i) (start_of payload k + offset_in (section_at payload k) i) (size_in (section_at payload k))

-- "an element lookup shows the element's bytes in the same way"
abbrev pub element_shown : Header → List ℕ → ℕ → ℕ → List ℕ
element_shown header payload k i = shown (element_lines header payload k i) (element_at (section_at payload k) i)
