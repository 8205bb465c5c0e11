-- Laws of the answers about sections.
use Prim.Native.Nat.{ℕ, ◌-◌, ◌%◌, ◌<◌, ◌≤◌}
use native.Mathlib.Omega.{arith}
use native.Mathlib.Nat.{zero-add}
use mathlib.Core.Path.{◌≡◌, refl, sym}
use mathlib.Core.Logic.{◌↔◌}
use mathlib.Core.Bool.{Bool, true, false, not, not-eq-not}
use mathlib.Core.List.{List, [], ◌∷◌}
use lib.Dec.{eqb, leb, ltb}
use lib.ListN.{length}
use borrow.Author.Tests.{eq-eqb, eqb-true, not-false, leb-false, le-ltb, ltb-false}
use Rattle.basics.specs.Choice.{choose}
use Rattle.basics.proofs.Choice.{choose-by, neither}
use Rattle.basics.proofs.Table.{Numbered, line-passed, last-passed}
use Rattle.record.specs.declared.Header.{Header}
use Rattle.sections.specs.Section.{section_length, sections_of, overrun, section_at, start_of}
use Rattle.sections.specs.Answer.{counted, not_block, block_lines, section_lines, section_count, section_found, count_as, part_as}
use Rattle.sections.specs.Stage.{chain_count}
use Rattle.std.specs.Prelude.{Ok, Err, None, Some}
use Rattle.std.specs.Option.{ok_or}
use Rattle.basics.specs.declared.refusal.Refusal.TheVariants.{NotBlockPacket, SectionPastEnd}
use Rattle.sections.proofs.Tables.{counted-free, counted-all, lookup-here}
use Rattle.sections.proofs.Sections.{sections-at-most, from, from_start, from-size, Standing, standing}

-- what a block packet is, and which payloads it can have
pub record BlockPacket (h : Header) (n : ℕ) : Type 0 where
  pub version : h.version ≡ 0x10
  pub destination : h.destination ≡ 0x0015
  pub command : h.command ≡ 0x0100
  pub frames : n % 4 ≡ 0
  pub most : n ≤ 508

pub block-exactly : (h : Header) (n : ℕ) → (not_block h n ≡ false) ↔ BlockPacket h n
unfolding not_block
block-exactly h n = (
  λ e.
      let v = neither (not (eqb h.version 0x10)) _ e in
      let d = neither (not (eqb h.destination 0x0015)) _ v.1 in
      let c = neither (not (eqb h.command 0x0100)) _ d.1 in
      let f = neither (not (eqb (n % 4) 0)) (ltb 508 n) c.1 in
      record {
        version = eqb-true _ _ (not-false _ v.0);
        destination = eqb-true _ _ (not-false _ d.0);
        command = eqb-true _ _ (not-false _ c.0);
        frames = eqb-true _ _ (not-false _ f.0);
        most = ltb-false _ _ f.1;
      },
  λ b. rw (eq-eqb _ _ b.version, eq-eqb _ _ b.destination, eq-eqb _ _ b.command, eq-eqb _ _ b.frames, le-ltb _ _ b.most),
)

pub no_block : (h : Header) (n : ℕ) → (BlockPacket h n → ⊥) → true ≡ not_block h n
no_block h n never = sym (not-eq-not.0 (λ e. never ((block-exactly h n).0 e)))

pub room-left : (h : Header) (n : ℕ) → h.version ≡ 0x10 → h.destination ≡ 0x0015 → h.command ≡ 0x0100 → n % 4 ≡ 0 → ltb 508 n ≡ not_block h n
unfolding not_block
room-left h n v d c f = rw (eq-eqb _ _ v, eq-eqb _ _ d, eq-eqb _ _ c, eq-eqb _ _ f)

module _ (h : Header) (p : List ℕ) where
  pub block-counted : not_block h (length p) ≡ false → count_as (ok_or (chain_count p 0) SectionPastEnd) ≡ section_count h p
  unfolding choose
  block-counted e = rw (e, zero-add (length (sections_of p))) (by (overrun p))
    where
      by : (test : Bool) → count_as (ok_or (choose test None (Some (length (sections_of p)))) SectionPastEnd)
          ≡ counted ((test, 9) ∷ []) (length (sections_of p))
      by true = refl
      by false = refl

  pub block_refused : not_block h (length p) ≡ true → count_as (Err NotBlockPacket) ≡ section_count h p
  unfolding choose
  block_refused e = rw e

  pub block-numbered : Numbered (block_lines h p)
  block-numbered = (omega arith, (omega arith, tt))

  pub section-numbered : (k : ℕ) → Numbered (section_lines h p k)
  section-numbered k = (omega arith, (omega arith, (omega arith, tt)))

  -- a lookup of a section is refused as 8, 9 or 10
  pub section-most : (k : ℕ) → (section_found h p k).number ≤ 10
  section-most k =
      line (not_block h (length p)) (λ e. omega arith) (λ e.
      line (overrun p) (λ e. omega arith) (λ e.
      line (leb (length (sections_of p)) k) (λ e. omega arith) (λ e. omega arith)))
    where
      line : (test : Bool) {x y : ℕ} → (test ≡ true → x ≤ 10) → (test ≡ false → y ≤ 10) → choose test x y ≤ 10
      line = choose-by (λ (n : ℕ). n ≤ 10)

  -- section k is there, and the chain of sections is whole
  pub record Present (k : ℕ) : Type 0 where
    pub counted : (section_count h p).number ≡ 0
    pub here : k < length (sections_of p)
    pub whole : overrun p ≡ false
    pub near : k < 127

  present : (k : ℕ) → (section_count h p).number ≡ 0 → k < length (sections_of p) → Present k
  present k none here =
      let lines = line-passed (not_block h (length p)) 8 _ (omega arith) none in
      let whole = (line-passed (overrun p) 9 0 (omega arith) lines.1).0 in
      record {
        counted = none;
        here = here;
        whole = whole;
        near = omega (arith, sections-at-most p whole, ((block-exactly h (length p)).0 lines.0).most);
      }

  pub found-present : (k : ℕ) → (section_found h p k).number ≡ 0 → Present k
  found-present k e =
      let both = last-passed (block_lines h p) (leb (length (sections_of p)) k) 10 block-numbered (omega arith) e in
      present k both.0 (leb-false _ _ both.1)

  pub section-standing : (k : ℕ) → (section_found h p k).number ≡ 0 → Standing p k
  section-standing k e =
      let there = found-present k e in
      standing p k there.here there.whole

  -- what `place_of_section` answers, after what `count_sections` does
  module _ (k count : ℕ) (is : count_as (Ok count) ≡ section_count h p) (here : k < count) where
    pub find-present : Present k
    find-present =
        present k (counted-free (block_lines h p) _ count is) (omega (arith, counted-all (block_lines h p) (length (sections_of p)) count is))

    pub find-here : part_as (Ok (record { start = length p - length (from p k); length = section_length (from p k) })) ≡ section_found h p k
    find-here =
        let there = find-present in
        rw (sym (from_start p k there.here there.whole), sym (from-size p k there.here there.whole))
        (lookup-here (block_lines h p) (length (sections_of p)) k (start_of p k) (length (section_at p k)) block-numbered count is here)
