-- `septet::extract` meets its contract. Assumes nothing.
use borrow.Author.Rules.{rules}
use borrow.Author.Tests.{le-ltb}
use mathlib.Core.Path.{◌≡◌, ap₂, ◌∙◌}
use mathlib.Core.List.{List}
use Prim.Native.Nat.{ℕ}
use native.Mathlib.Omega.{arith}
use lib.ListN.{length, take}
use lib.Seq.{length-take-le, take_all}
use Rattle.basics.specs.Bytes.{AllBelow}
use Rattle.basics.specs.Choice.{choose}
use Rattle.basics.proofs.Bytes.{take_below}
use Rattle.septet.specs.Septet.{low_bits}
use Rattle.septet.specs.Answer.{padded}
use Rattle.septet.proofs.Laws.{length-low_bits}
use Rattle.septet.proofs.Loops.{all-taken, over-zeros}
use Rattle.septet.proofs.extract.Goals as goal

pub returns : goal.returns
unfolding choose
returns c =
    let used = c.args.used in
    let block = take used c.args.bytes in
    let k : length block ≡ used = length-take-le used c.args.bytes (omega arith) in
    let all : take 7 block ≡ block = take_all 7 block (omega arith) in
    let bytes : AllBelow 256 block = take_below 256 used c.args.bytes (λ i h. search rules) in
    let septet = all-taken block 7 c.take_top_bits-septet.result c.take_top_bits-septet.ensures.value bytes (omega arith) (omega arith) in
    let low : c.take_top_bits-septet.new.low ≡ padded used (low_bits block) = rw all at c.take_top_bits-septet.ensures.low_after ∙ over-zeros (low_bits block) used (length-low_bits block ∙ k) in
    simp (le-ltb _ _ c.if-used-gt7.false)
    (ap₂ (λ (l : List ℕ) (s : ℕ). record { number = 0; bytes = l; length = used; septet = s }) low septet)
