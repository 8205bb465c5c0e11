-- What the answers promise of each other, with document 01's numbers: which refusal is given when, and where what is found lies.
-- Sections.antt has `sections-joined`, that the sections are the payload; Elements.antt `elements-exist`, when 11 and 13 are given; Partial.antt
-- `size-divides`, why no other type can have 13; Samples.antt the table of types, at every type.
use Prim.Native.Nat.{ℕ, zero, suc, ◌+◌, ◌*◌, ◌<◌, ◌≤◌}
use native.Mathlib.Omega.{arith}
use native.Mathlib.Nat.{div-add-mod', zero-mul, suc-mul}
use mathlib.Core.Path.{◌≡◌, sym, ap, ap₂, ◌∙◌}
use mathlib.Core.Logic.{◌≢◌, ◌↔◌}
use mathlib.Core.Bool.{Bool, false, true≢false, not-eq-not}
use mathlib.Core.List.{List, [], ◌∷◌, ◌++◌, flatten}
use lib.ListN.{length, get_or, take, drop, length-drop}
use lib.Seq.{take_all, take-add, drop-drop}
use denote.Ref.{Bor}
use Rattle.basics.specs.Choice.{first}
use Rattle.basics.proofs.Table.{when-none, when-refused, AskedLast}
use Rattle.record.specs.declared.Header.{Header}
use Rattle.sections.specs.Section.{sections_of, overrun, section_at, start_of}
use Rattle.sections.specs.Element.{element_size, size_in, elements_in, offset_in, element_at}
use Rattle.sections.specs.Answer.{not_block, block_lines, section_lines, type_lines, element_lines, section_count, section_found, section_shown, element_count, element_found, element_shown}
use Rattle.sections.specs.Part.{Shows}
use Rattle.sections.specs.declared.Part.{Part}
use Rattle.sections.specs.declared.Shown.{Shown}
use Rattle.sections.proofs.Tables.{two-lines, asked-below, located-within, shown-at, shown-none}
use Rattle.sections.proofs.Sections.{Whole, overrun-exactly, start-next, sections-joined}
use Rattle.sections.proofs.Finding.{BlockPacket, block-exactly, block-numbered, found-present, section-standing}
use Rattle.sections.proofs.Elements.{elements-exist, type-numbered, element-inside}

-- 0, 8 or 9, by what holds where 8 isn't given, and what holds where 9 isn't
pub record Refusal (number : ℕ) (block whole : Type 0) : Type 0 where
  pub none : (number ≡ 0) ↔ (block × whole)
  pub eight : (number ≡ 8) ↔ (block → ⊥)
  pub nine : (number ≡ 9) ↔ (block × (whole → ⊥))

by_two : (a b : Bool) {A B : Type 0} → (a ≡ false) ↔ A → (b ≡ false) ↔ B → Refusal (first ((a, 8) ∷ (b, 9) ∷ [])) A B
by_two a b f g =
    let lines = two-lines 8 9 (omega arith) (omega arith) a b in
    record {
      none = (λ e. let x = lines.none.0 e in (f.0 x.0, g.0 x.1), λ x. lines.none.1 (f.1 x.0, g.1 x.1));
      eight = (λ e x. true≢false (sym (lines.first-line.0 e) ∙ f.1 x), λ never. lines.first-line.1 (not-eq-not.0 (λ e. never (f.0 e))));
      nine = (
        λ e. let x = lines.second-line.0 e in (f.0 x.0, λ w. true≢false (sym x.1 ∙ g.1 w)),
        λ x. lines.second-line.1 (f.1 x.0, not-eq-not.0 (λ e. x.1 (g.0 e))),
      );
    }

module _ (h : Header) (p : List ℕ) where
  -- sections are counted exactly if it is a block packet and each of them is whole; 8 exactly if it is none, else 9
  pub sections-exist : Refusal (section_count h p).number (BlockPacket h (length p)) (Whole p)
  sections-exist = by_two (not_block h (length p)) (overrun p) (block-exactly h (length p)) (overrun-exactly p)

  module _ (k : ℕ) where
    -- a section is found exactly if its number is below the count; else 10
    pub section-exists : AskedLast (section_count h p).number (section_found h p k).number 10 ((section_count h p).count ≤ k) (k < (section_count h p).count)
    section-exists = asked-below 10 (omega arith) (block_lines h p) (block-numbered h p) (length (sections_of p)) k

    -- an element is found exactly if its number is below the count; else 10
    pub element-exists : (i : ℕ) → AskedLast (element_count h p k).number (element_found h p k i).number 10 ((element_count h p k).count ≤ i) (i < (element_count h p k).count)
    element-exists i = asked-below 10 (omega arith) (type_lines h p k) (type-numbered h p k) (elements_in (section_at p k)) i

  -- "any further number .. in a refused answer is zero"
  pub refused-zeros : (k i : ℕ)
      → ((section_count h p).number ≢ 0 → (section_count h p).count ≡ 0)
      × ((section_found h p k).number ≢ 0 → ((section_found h p k).start ≡ 0) × ((section_found h p k).length ≡ 0))
      × ((element_count h p k).number ≢ 0 → (element_count h p k).count ≡ 0)
      × ((element_found h p k i).number ≢ 0 → ((element_found h p k i).start ≡ 0) × ((element_found h p k i).length ≡ 0))
  refused-zeros k i = (when-refused _ _ 0, (λ r. (when-refused _ _ 0 r, when-refused _ _ 0 r)), when-refused _ _ 0, (λ r. (when-refused _ _ 0 r, when-refused _ _ 0 r)))

  -- ── where sections lie

  module _ (k : ℕ) (found : (section_found h p k).number ≡ 0) where
    section-start : (section_found h p k).start ≡ start_of p k
    section-start = when-none _ (start_of p k) 0 found

    section-length : (section_found h p k).length ≡ length (section_at p k)
    section-length = when-none _ (length (section_at p k)) 0 found

  -- the first section starts the payload, each other starts where the one before it ends, and the last ends the payload
  pub record Follow (k : ℕ) : Type 0 where
    pub starts : k ≡ 0 → (section_found h p k).start ≡ 0
    pub follows : (section_found h p (suc k)).number ≡ 0 → (section_found h p (suc k)).start ≡ (section_found h p k).start + (section_found h p k).length
    pub ends : suc k ≡ (section_count h p).count → (section_found h p k).start + (section_found h p k).length ≡ length p

  pub sections-follow : (k : ℕ) → (section_found h p k).number ≡ 0 → Follow k
  unfolding flatten
  sections-follow k found =
      let here = found-present h p k found in
      let next : length (flatten (take (suc k) (sections_of p))) ≡ (section_found h p k).start + (section_found h p k).length =
      rw (section-start k found, section-length k found) (start-next (sections_of p) k here.here) in
      record {
        starts = λ e. section-start k found ∙ ap (start_of p) e;
        follows = λ e. section-start (suc k) e ∙ next;
        ends = λ e.
            let all : length (sections_of p) ≤ suc k = omega (arith, e, when-none _ (length (sections_of p)) 0 here.counted) in
            sym next ∙ ap (λ (l : List (List ℕ)). length (flatten l)) (take_all (suc k) (sections_of p) all) ∙ ap length (sections-joined p);
      }

  module _ (k : ℕ) where
    -- the part that a section is shown as, and where it stands
    pub section-at : section_shown h p k ≡ take (section_found h p k).length (drop (section_found h p k).start p)
    section-at =
        shown-at (section_lines h p k) p (start_of p k) (length (section_at p k)) (section_at p k) (λ e. (section-standing h p k e).part)

    pub section-within : (section_found h p k).start + (section_found h p k).length ≤ length p
    section-within =
        located-within (section_lines h p k) p (start_of p k) (length (section_at p k)) (λ e. (section-standing h p k e).within)

    section-empty : (section_shown h p k ≡ []) ↔ ((section_found h p k).number ≢ 0)
    section-empty = shown-none (section_lines h p k) (section_at p k) (λ e. omega (arith, (section-standing h p k e).whole))

    -- ── where elements lie

    -- behind the header the elements that are counted fill their section: no byte of it is left over
    pub elements-fill : (element_count h p k).number ≡ 0 → 4 + (element_count h p k).count * element_size (get_or (section_at p k) 1 0) ≡ (section_found h p k).length
    elements-fill none =
        let fills = (elements-exist h p k).none.0 none in
        let whole = section-length k fills.0 ∙ (section-standing h p k fills.0).whole in
        let count = when-none (element_count h p k).number (elements_in (section_at p k)) 0 none in
        rw (whole, count) (omega (arith, fills.2, div-add-mod' (4 * get_or (section_at p k) 0 0) (size_in (section_at p k))))

    module _ (i : ℕ) where
      -- the part that an element is shown as, and where it stands
      pub element-at : element_shown h p k i ≡ take (element_found h p k i).length (drop (element_found h p k i).start p)
      element-at =
          shown-at (element_lines h p k i) p (start_of p k + offset_in (section_at p k) i) (size_in (section_at p k)) (element_at (section_at p k) i) (λ e. (element-inside h p k i e).part)

      pub element-within : (element_found h p k i).start + (element_found h p k i).length ≤ length p
      element-within =
          located-within (element_lines h p k i) p (start_of p k + offset_in (section_at p k) i) (size_in (section_at p k)) (λ e. (element-inside h p k i e).within)

      element-empty : (element_shown h p k i ≡ []) ↔ ((element_found h p k i).number ≢ 0)
      element-empty =
          shown-none (element_lines h p k i) (element_at (section_at p k) i) (λ e. omega (arith, (element-inside h p k i e).sized, (element-inside h p k i e).long))

      -- an element that is found has its type's size, and lies behind its section's header and the elements before it, within its section
      pub record Within : Type 0 where
        pub sized : (element_found h p k i).length ≡ element_size (get_or (section_at p k) 1 0)
        pub placed : (element_found h p k i).start ≡ (section_found h p k).start + (4 + i * (element_found h p k i).length)
        pub inside : (element_found h p k i).start + (element_found h p k i).length ≤ (section_found h p k).start + (section_found h p k).length

      pub elements-within : (element_found h p k i).number ≡ 0 → Within
      elements-within e =
          let s = element-inside h p k i e in
          let size = when-none (element_found h p k i).number (size_in (section_at p k)) 0 e in
          let start = when-none (element_found h p k i).number (start_of p k + offset_in (section_at p k) i) 0 e in
          let section = section-start k s.found in
          record {
            sized = size;
            placed = rw (start, section, size);
            inside = omega (arith, start, size, section, section-length k s.found, s.fits);
          }

  -- n elements of section k, from number i on, as they are shown, end to end
  abbrev pub elements_shown : ℕ → ℕ → ℕ → List ℕ
  elements_shown k i zero = []
  elements_shown k i (suc n) = element_shown h p k i ++ elements_shown k (suc i) n

  module _ (k : ℕ) (none : (element_count h p k).number ≡ 0) where
    abbrev size : ℕ
    size = size_in (section_at p k)

    joined : (i n : ℕ) → i + n ≡ (element_count h p k).count → elements_shown k i n ≡ take (n * size) (drop (offset_in (section_at p k) i) (section_at p k))
    joined i zero e = rw (zero-mul size)
    joined i (suc n) e =
        let found = ((element-exists k i).given none).1 (omega arith) in
        let at : ℕ = offset_in (section_at p k) i in
        let next : offset_in (section_at p k) (suc i) ≡ at + size = omega (arith, suc-mul i size) in
        let all : size + n * size ≡ suc n * size = omega (arith, suc-mul n size) in
        ap₂ ◌++◌ (when-none _ (element_at (section_at p k) i) [] found)
        (joined (suc i) n (omega arith) ∙ rw (next, drop-drop size at (section_at p k)))
        ∙ sym (take-add size (n * size) (drop at (section_at p k)))
        ∙ ap (λ (m : ℕ). take m (drop at (section_at p k))) all

    -- the elements that are counted, end to end, are their section's bytes behind its header: none is dropped
    pub elements-joined : elements_shown k 0 (element_count h p k).count ≡ drop 4 (section_shown h p k)
    elements-joined =
        let found = ((elements-exist h p k).none.0 none).0 in
        let all : ℕ = (element_count h p k).count * size in
        joined 0 (element_count h p k).count (omega arith)
        ∙ ap (λ (m : ℕ). take all (drop (4 + m) (section_at p k))) (zero-mul size)
        ∙ take_all all (drop 4 (section_at p k)) (omega (arith, elements-fill k none, section-length k found, length-drop 4 (section_at p k)))
        ∙ ap (λ (l : List ℕ). drop 4 l) (sym (when-none _ (section_at p k) [] found))

-- what is shown where something was found
pub shows : (s : Bor (List ℕ)) (found is : Part) (bytes : List ℕ) (r : Shown) → found ≡ is → bytes ≡ take is.length (drop is.start s.now)
    → Shows s found (take found.length (drop found.start s.now)) r → Shows s is bytes r
shows s found is bytes r e b h = rw (b, sym e) h

-- an answer shows an empty part exactly if it has a refusal's number
pub shown-empty : (h : Header) (s : Bor (List ℕ)) (k : ℕ) (r : Shown)
    → (Shows s (section_found h s.now k) (section_shown h s.now k) r → (r.part.now ≡ []) ↔ (r.number ≢ 0))
    × ((i : ℕ) → Shows s (element_found h s.now k i) (element_shown h s.now k i) r → (r.part.now ≡ []) ↔ (r.number ≢ 0))
shown-empty h s k r = (
  λ is. rw (is.shown.holds, is.numbered) (section-empty h s.now k),
  λ i is. rw (is.shown.holds, is.numbered) (element-empty h s.now k i),
)
