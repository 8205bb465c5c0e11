-- `write::block` meets its contract. Assumes nothing.
use mathlib.Core.Path.{◌≡◌, ap, ◌∙◌, sym}
use mathlib.Core.List.{◌++◌}
use Prim.Native.Nat.{ℕ}
use native.Mathlib.Omega.{arith}
use lib.ListN.{length, take, drop, set}
use lib.Seq.{take-length, length-take-le}
use Rattle.basics.specs.Bytes.{AllBelow, over}
use Rattle.basics.proofs.Bytes.{take_below}
use Rattle.septet.specs.Septet.{septet_of, septet_with, low_bits}
use Rattle.septet.proofs.Laws.{length-low_bits, septet_with-none}
use Rattle.septet.proofs.Loops.{all-taken, filled}
use Rattle.record.proofs.StreamParts.{stored}
use Rattle.record.proofs.write.block.Goals as goal

pub returns : goal.returns
returns c =
    let block = c.args.block.now in
    let out = c.args.out.now in
    let took = c.take_top_bits-septet in
    let room : length (take (length block) out) ≡ length block = length-take-le (length block) out (omega arith) in
    let bytes : AllBelow 256 block = rw (take-length block) at (take_below 256 (length block) block (λ i h. omega (arith, c.type_inv.block i))) in
    let septet : took.result ≡ septet_of block = all-taken block (length block) took.result (rw room at took.ensures.value) bytes (omega arith) (omega arith) in
    let low : took.new.low ++ drop (length block) out ≡ over (low_bits block) out =
    filled (low_bits block) out took.new.low (length block) (length-low_bits block) (omega arith) (rw (room, take-length block) at took.ensures.low_after) in
    ap (λ (n : ℕ). set (took.new.low ++ drop (length block) out) (length block) n) (septet ∙ sym (septet_with-none block))
    ∙ stored (low_bits block) out (took.new.low ++ drop (length block) out) (septet_with 0 block) (length block) (length-low_bits block) (omega arith) low
