-- `high_word` meets its contract: the mask has the top bit of both bytes. Assumes nothing.
use Rattle.std.proofs.Common.{◌≡◌, ℕ, ◌+◌, ◌*◌, ◌/◌, ◌%◌, ◌^◌, bit_and, ap, ap₂, ◌∙◌, arith}
use Rattle.std.proofs.lemmas.Bool.Decides.{nat_tests}
use Rattle.std.proofs.lemmas.Nat.{and_block}
use Rattle.std.proofs.lemmas.Nat.Bits.{and_pow}
use Rattle.basics.proofs.high_word.Goals as goal

masked : (word : ℕ) → bit_and word 0x8080 ≡ word / 256 / 128 % 2 * 128 * 256 + word % 256 / 128 % 2 * 128
masked word =
    let parts : word ≡ word / 256 * 2 ^ 8 + word % 256 = omega arith in
    ap (λ (n : ℕ). bit_and n 0x8080) parts ∙ and_block 8 (word / 256) 128 (word % 256) 128 (omega arith) (omega arith)
    ∙ ap₂ (λ (m : ℕ) (n : ℕ). m * 256 + n) (and_pow (word / 256) 7) (and_pow (word % 256) 7)

pub returns : goal.returns
returns c = let e = masked c.args.word in grind (arith, nat_tests)
