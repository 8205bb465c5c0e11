-- Laws of the answers about elements.
use Prim.Native.Nat.{ℕ, suc, ◌+◌, ◌-◌, ◌*◌, ◌/◌, ◌%◌, ◌<◌, ◌≤◌}
use native.Mathlib.Omega.{arith}
use native.Mathlib.Decide.{ℕ_discrete}
use native.Mathlib.Nat.{suc-mul, le-div_iff_mul-le, pos_of_ne-zero}
use mathlib.Core.Path.{◌≡◌, sym, ap, ◌∙◌}
use mathlib.Core.Logic.{◌≢◌, ◌↔◌, dite}
use mathlib.Core.Bool.{Bool}
use mathlib.Core.List.{List, [], ◌∷◌}
use lib.Dec.{eqb, leb}
use lib.ListN.{length, get_or, take, drop, length-drop, take-append-drop}
use native.Mathlib.Nat.{add_assoc}
use lib.Seq.{get_or-drop, length-take-le, drop-drop, take-append-le, drop-append-le}
use borrow.Author.Tests.{eq-eqb, ne_eqb, eqb-true, eqb-false, not-false, leb-false}
use Rattle.basics.proofs.Table.{Numbered, first-kept, first_next, first-none, when-none, last-passed}
use Rattle.record.specs.declared.Header.{Header}
use Rattle.sections.specs.Section.{section_at, start_of}
use Rattle.sections.specs.Element.{element_size, size_in, elements_in, partial_element, offset_in, element_at}
use Rattle.sections.specs.Answer.{section_lines, type_lines, section_found, element_count, element_found, count_as, part_as}
use Rattle.sections.specs.Stage.{AreElements}
use Rattle.sections.specs.declared.Part.{Part}
use Rattle.sections.specs.declared.Place.{Place}
use Rattle.sections.specs.declared.SectionElements.{SectionElements}
use Rattle.std.specs.Prelude.{Ok, Err}
use Rattle.basics.specs.Refusal.{number}
use Rattle.basics.specs.declared.refusal.Refusal.{Refusal}
use Rattle.basics.specs.declared.refusal.Refusal.TheVariants.{UnknownSectionType, PartialElement}
use Rattle.basics.proofs.Refusals.{number-positive}
use Rattle.sections.proofs.Tables.{TwoLines, two-lines, counted-refused, counted-given, counted-free, counted-all, lookup-here}
use Rattle.sections.proofs.Finding.{section-numbered, section-most, section-standing}
use Rattle.sections.proofs.Partial.{display-size, partial-exactly, partial-remainder}

scaled : (i a b : ℕ) → 0 < b → i < a / b → i * b + b ≤ a
scaled i a b pos h = rw suc-mul at ((le-div_iff_mul-le {k = b} {x = suc i} {y = a} pos).0 h)

-- a part of a front part
take-inside : (n m len : ℕ) (q : List ℕ) → m + n ≤ length (take len q) → take n (drop m (take len q)) ≡ take n (drop m q)
take-inside n m len q h =
    let inside : n ≤ length (drop m (take len q)) = omega (arith, length-drop m (take len q)) in
    sym (take-append-le n (drop m (take len q)) (drop len q) inside)
    ∙ ap (λ (l : List ℕ). take n l) (sym (drop-append-le m (take len q) (drop len q) (omega arith)) ∙ ap (λ (l : List ℕ). drop m l) (take-append-drop len q))

-- section k stands at a place of the payload, with its type behind its first byte
pub record Seen (p : List ℕ) (k : ℕ) (section : Place) : Type 0 where
  pub starts : section.start ≡ start_of p k
  pub room : section.start + 4 ≤ length p
  pub whole : section.length ≡ 4 + 4 * get_or (section_at p k) 0 0
  pub typed : get_or p (section.start + 1) 0 ≡ get_or (section_at p k) 1 0

module _ (h : Header) (p : List ℕ) (k : ℕ) where
  abbrev type : ℕ
  type = get_or (section_at p k) 1 0

  abbrev frames : ℕ
  frames = get_or (section_at p k) 0 0

  -- ── which refusal is given when

  -- a section that isn't found is refused as its lookup is; where it is found, 11 is given exactly if its type isn't in the table, and 13 exactly if
  -- its type is 0x0A and its number of frames odd, and its elements are counted exactly if their size divides its bytes
  pub record ElementRefusal : Type 0 where
    pub kept : (section_found h p k).number ≢ 0 → (element_count h p k).number ≡ (section_found h p k).number
    pub eleven : ((element_count h p k).number ≡ 11) ↔ (((section_found h p k).number ≡ 0) × (element_size type ≡ 0))
    pub thirteen : ((element_count h p k).number ≡ 13) ↔ (((section_found h p k).number ≡ 0) × (type ≡ 0x0A) × (frames % 2 ≡ 1))
    pub none : ((element_count h p k).number ≡ 0) ↔ (((section_found h p k).number ≡ 0) × (0 < element_size type) × (4 * frames % element_size type ≡ 0))

  -- the lines behind those of the section
  abbrev lines : List (Bool × ℕ)
  lines = (eqb (element_size type) 0, 11) ∷ (partial_element (section_at p k), 13) ∷ []

  kept : (section_found h p k).number ≢ 0 → (element_count h p k).number ≡ (section_found h p k).number
  kept = first-kept (section_lines h p k) lines

  -- a number that no line of the section has is given where the section is found
  found : (element_count h p k).number ≢ (section_found h p k).number → (section_found h p k).number ≡ 0
  found other = dite (ℕ_discrete (section_found h p k).number 0) (λ e. e) (λ r. absurd (other (kept r)))

  decided : (section_found h p k).number ≡ 0 → TwoLines 11 13 (element_count h p k).number (eqb (element_size type) 0) (partial_element (section_at p k))
  decided e = rw (first_next (section_lines h p k) lines (section-numbered h p k) e) (two-lines 11 13 (omega arith) (omega arith) _ _)

  pub elements-exist : ElementRefusal
  elements-exist =
      let most = section-most h p k in
      record {
        kept = kept;
        eleven = (
          λ e. let here = found (λ same. omega arith) in (here, eqb-true _ 0 ((decided here).first-line.0 e)),
          λ x. (decided x.0).first-line.1 (eq-eqb _ 0 x.1),
        );
        thirteen = (
          λ e.
              let here = found (λ same. omega arith) in
              let odd = (partial-exactly (section_at p k)).0 ((decided here).second-line.0 e).1 in
              (here, odd.0, odd.1),
          λ x. (decided x.0).second-line.1 (ne_eqb (element_size type) 0 (λ z. omega (arith, ap element_size x.1, display-size)), (partial-exactly (section_at p k)).1 (x.1, x.2)),
        );
        none = (
          λ e.
              let here = (first-none (section_lines h p k) lines (section-numbered h p k) e).0 in
              let tests = (decided here).none.0 e in
              let sized = pos_of_ne-zero (eqb-false _ 0 tests.0) in
              (here, sized, eqb-true _ 0 (not-false _ (sym (partial-remainder (section_at p k) sized) ∙ tests.1))),
          λ x. (decided x.0).none.1 (ne_eqb (element_size type) 0 (λ z. omega arith), partial-remainder (section_at p k) x.1 ∙ rw (eq-eqb _ 0 x.2)),
        );
      }

  -- ── the elements, after what `place_of_section` answers

  pub elements-refused : (refusal : Refusal) → part_as (Err refusal) ≡ section_found h p k → count_as (Err refusal) ≡ element_count h p k
  elements-refused refusal is =
      let number_is : number refusal ≡ (section_found h p k).number = ap (λ (x : Part). x.number) is in
      let refused : number refusal ≢ 0 = λ e. omega (arith, number-positive refusal) in
      counted-refused (type_lines h p k) (number refusal) (kept (λ e. refused (number_is ∙ e)) ∙ sym number_is) refused _

  module _ (section : Place) (is : part_as (Ok section) ≡ section_found h p k) where
    here : (section_found h p k).number ≡ 0
    here = sym (ap (λ (x : Part). x.number) is)

    pub seen : Seen p k section
    seen =
        let s = section-standing h p k here in
        let start : section.start ≡ start_of p k = ap (λ (x : Part). x.start) is ∙ when-none _ (start_of p k) 0 here in
        let long : section.length ≡ length (section_at p k) = ap (λ (x : Part). x.length) is ∙ when-none _ (length (section_at p k)) 0 here in
        record {
          starts = start;
          room = omega (arith, s.within, s.whole);
          whole = long ∙ s.whole;
          typed = rw start (sym (get_or-drop (start_of p k) p 1 0) ∙ s.head 1 (omega arith));
        }

    pub untyped : element_size type ≡ 0 → count_as (Err UnknownSectionType) ≡ element_count h p k
    untyped none = counted-refused (type_lines h p k) 11 (elements-exist.eleven.1 (here, none)) (λ e. omega arith) _

    module _ (size : ℕ) (sized : size ≡ element_size type) (positive : 0 < size) where
      bytes : section.length - 4 ≡ 4 * frames
      bytes = omega (arith, seen.whole)

      pub partial : (section.length - 4) % size ≢ 0 → count_as (Err PartialElement) ≡ element_count h p k
      partial left =
          let odd = (partial-exactly (section_at p k)).0 (partial-remainder (section_at p k) (omega arith) ∙ rw (sym sized, ne_eqb _ 0 (rw bytes at left))) in
          counted-refused (type_lines h p k) 13 (elements-exist.thirteen.1 (here, odd.0, odd.1)) (λ e. omega arith) _

      pub filled : (section.length - 4) % size ≡ 0 → count_as (Ok ((section.length - 4) / size)) ≡ element_count h p k
      filled = rw (bytes, sized) (λ fills. counted-given (type_lines h p k) (elements-exist.none.1 (here, omega arith, fills)) _)

  -- ── an element

  pub type-numbered : Numbered (type_lines h p k)
  type-numbered = (omega arith, (omega arith, (omega arith, (omega arith, (omega arith, tt)))))

  -- element i lies in section k
  pub record Inside (i : ℕ) : Type 0 where
    pub found : (section_found h p k).number ≡ 0
    pub sized : 0 < size_in (section_at p k)
    pub long : length (element_at (section_at p k) i) ≡ size_in (section_at p k)
    pub fits : offset_in (section_at p k) i + size_in (section_at p k) ≤ length (section_at p k)
    pub within : start_of p k + offset_in (section_at p k) i + size_in (section_at p k) ≤ length p
    pub part : take (size_in (section_at p k)) (drop (start_of p k + offset_in (section_at p k) i) p) ≡ element_at (section_at p k) i

  inside : (i : ℕ) → (element_count h p k).number ≡ 0 → i < elements_in (section_at p k) → Inside i
  inside i e b =
      let fills = elements-exist.none.0 e in
      let s = section-standing h p k fills.0 in
      let size : ℕ = size_in (section_at p k) in
      let offset : ℕ = offset_in (section_at p k) i in
      let room : i * size + size ≤ 4 * frames = scaled i _ _ fills.1 b in
      let fits : offset + size ≤ length (section_at p k) = omega (arith, s.whole) in
      record {
        found = fills.0;
        sized = fills.1;
        long = length-take-le size (drop offset (section_at p k)) (omega (arith, length-drop offset (section_at p k)));
        fits = fits;
        within = omega (arith, s.within);
        part =
            sym (ap (λ (x : List ℕ). take size x) (drop-drop offset (start_of p k) p))
            ∙ sym (take-inside size offset (length (section_at p k)) (drop (start_of p k) p) (rw s.part fits))
            ∙ ap (λ (x : List ℕ). take size (drop offset x)) s.part;
      }

  pub element-inside : (i : ℕ) → (element_found h p k i).number ≡ 0 → Inside i
  element-inside i e =
      let both = last-passed (type_lines h p k) (leb (elements_in (section_at p k)) i) 10 type-numbered (omega arith) e in
      inside i both.0 (leb-false _ i both.1)

  -- what `place_of_element` answers, after what `elements_of_section` does
  module _ (i : ℕ) (elements : SectionElements) (is : AreElements h p k (Ok elements)) (below : i < elements.count) where
    pub element-fits : Inside i
    element-fits =
        inside i (counted-free (type_lines h p k) _ elements.count is.0) (omega (arith, counted-all (type_lines h p k) (elements_in (section_at p k)) elements.count is.0))

    pub element-here : part_as (Ok (record { start = elements.start + i * elements.size; length = elements.size })) ≡ element_found h p k i
    element-here =
        rw (is.1, is.2, add_assoc)
        (lookup-here (type_lines h p k) (elements_in (section_at p k)) i (start_of p k + offset_in (section_at p k) i) (size_in (section_at p k)) type-numbered elements.count is.0 below)
