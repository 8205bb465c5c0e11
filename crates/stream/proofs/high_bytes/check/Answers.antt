-- `stream::high_bytes::check` meets its contract: what the part up to the limit, or up to the end, has, `s` has there. Assumes nothing.
use Prim.Native.Nat.{ℕ, ◌+◌, ◌-◌, ◌≤◌, ◌<◌}
use native.Mathlib.Omega.{arith}
use mathlib.Core.List.{List}
use mathlib.Core.Path.{◌≡◌, refl, ◌∙◌}
use lib.ListN.{length, get_or, take, drop, length-drop}
use lib.Seq.{get_or-take, get_or-drop, length-take-le}
use Rattle.stream.specs.Stage.{LowUpTo}
use Rattle.stream.proofs.high_bytes.check.Goals as goal

module _ (s : List ℕ) (from limit : ℕ) (after : from ≤ limit) (within : limit ≤ length s) where
  part-length : length (take (limit - from) (drop from s)) ≡ limit - from
  part-length = length-take-le (limit - from) (drop from s) (omega (arith, length-drop from s))

  part-byte : (i : ℕ) → i < limit - from → get_or (take (limit - from) (drop from s)) i 0 ≡ get_or s (from + i) 0
  part-byte i inside = get_or-take (limit - from) (drop from s) i 0 inside ∙ get_or-drop from s i 0

  -- the part has no high byte up to `end`
  part-low : (end : ℕ) → end ≤ limit → ((i : ℕ) → i < end - from → get_or (take (limit - from) (drop from s)) i 0 < 0x80) → LowUpTo s from end
  part-low end before low =
      record {
        within = omega arith;
        low = λ i below above.
            let here : from + (i - from) ≡ i = omega arith in
            omega (arith, rw here at (part-byte (i - from) (omega arith)), low (i - from) (omega arith));
      }

pub returns-then-all_low : goal.returns-then-all_low
returns-then-all_low c =
    let s = c.args.s.now in
    let from = c.args.from in
    let limit = c.args.limit in
    part-low s from limit c.requires.0 (omega arith) limit (omega arith)
    (λ i h. c.all_low.ensures.0 c.if-all_low.true i (omega (arith, part-length s from limit c.requires.0 (omega arith))))

pub returns-in-Some : goal.returns-in-Some
returns-in-Some c =
    let s = c.args.s.now in
    let from = c.args.from in
    let end = c.min-end.result in
    let (there, byte, low) = c.in-Some.ensures in
    let inside : c.in-Some.behind < end - from = omega (arith, part-length s from end (omega arith) (omega arith)) in
    let at = c.at.ensures in
    record {
      before = rw at.offset (part-low s from end (omega arith) (omega arith) (from + c.in-Some.behind) (omega arith) (λ i h. low i (omega arith)));
      after = omega arith;
      short = omega arith;
      high = λ h. rw (at.verdict, at.offset) (omega (arith, byte, part-byte s from end (omega arith) (omega arith) c.in-Some.behind inside), refl);
      ends = λ past. absurd (omega arith);
    }

pub returns-then-end-limit : goal.returns-then-end-limit
returns-then-end-limit c =
    let s = c.args.s.now in
    let from = c.args.from in
    let end = c.min-end.result in
    let at = c.at-then-end-limit.ensures in
    record {
      before = rw at.offset (part-low s from end (omega arith) (omega arith) end (omega arith) (λ i h. c.in_default.ensures i (omega (arith, part-length s from end (omega arith) (omega arith)))));
      after = omega arith;
      short = omega arith;
      high = λ there. absurd (omega arith);
      ends = λ past. rw at.verdict refl;
    }
