-- `checksum::update` meets its contract: the bytes of a piece of 256 add up to 16 bits, and the sum reduced once is the checksum continued. Assumes nothing.
use Rattle.std.proofs.Common.{rules, ◌≤◌, ◌≡◌, ℕ, sum, arith}
use Rattle.std.specs.List.{All}
use Rattle.std.proofs.lemmas.List.Sums.{sum_by-le}
use Rattle.std.proofs.iter.runs.Made.{chains}
use Rattle.checksum.proofs.Laws.{checksum_from-sum}
use Rattle.checksum.proofs.update.Goals as goal

pub overflow_add-result : goal.overflow_add-result
overflow_add-result c =
    let total : c.sum-total.result ≡ sum c.args.piece.now = search (rules, chains) in
    let bytes : All (λ b. b ≤ 255) c.args.piece.now = search rules in
    omega (arith, sum_by-le (λ (x : ℕ). x) 255 c.args.piece.now bytes)

pub returns : goal.returns
returns c =
    let total : c.sum-total.result ≡ sum c.args.piece.now = search (rules, chains) in
    let bytes : All (λ b. b ≤ 255) c.args.piece.now = search rules in
    rw total (checksum_from-sum c.args.sum c.args.piece.now (omega arith) bytes)
