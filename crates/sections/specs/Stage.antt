-- What the private functions promise. No public contract cites this file.
use Rattle.std.specs.Prelude.{ℕ, ◌+◌, ◌≡◌, List, eqb, ltb, length, drop, Option, None, Some, Result, Ok, Err}
use Rattle.basics.specs.Choice.{choose}
use Rattle.basics.specs.declared.refusal.Refusal.{Refusal}
use Rattle.record.specs.declared.Header.{Header}
use Rattle.sections.specs.Answer.{count_as, element_count}
use Rattle.sections.specs.Element.{element_size, size_in}
use Rattle.sections.specs.Section.{sections_of, overrun, section_at, start_of}
use Rattle.sections.specs.declared.SectionElements.{SectionElements}

-- the sections counted so far and, from a header on, those of what is left; none where one of these runs past the end
abbrev pub chain_count : List ℕ → ℕ → Option ℕ
chain_count rest count = choose (overrun rest) None (Some (count + length (sections_of rest)))

-- the same from a section's payload of the given size on; that section is counted
abbrev pub payload_count : List ℕ → ℕ → ℕ → Option ℕ
payload_count rest size count = choose (ltb (length rest) size) None (chain_count (drop size rest) count)

-- the size of an element, by its section's type; none for a type that isn't in the table
abbrev pub size_of : ℕ → Option ℕ
size_of type = choose (eqb (element_size type) 0) None (Some (element_size type))

-- the elements of section k, or why they aren't counted
abbrev pub AreElements : Header → List ℕ → ℕ → Result SectionElements Refusal → Type 0
AreElements header payload k (Ok elements) =
    (count_as (Ok elements.count) ≡ element_count header payload k)
    × (elements.start ≡ start_of payload k + 4)
    × (elements.size ≡ size_in (section_at payload k))
AreElements header payload k (Err refusal) = count_as (Err refusal) ≡ element_count header payload k
