-- Numbers of several bytes, low byte first, and numbers in two's complement.
use Rattle.std.specs.Prelude.{ℕ, ◌+◌, ◌*◌, ◌/◌, ◌%◌, ◌^◌, Bool, ◌||◌, List, [], ◌∷◌, ltb, eqb, ℤ, pos, ◌-ℤ◌, get_or}
use Rattle.basics.specs.Choice.{choose}

-- the word at offset k
abbrev pub word_at : List ℕ → ℕ → ℕ
word_at s k = get_or s k 0 + 256 * get_or s (k + 1) 0

abbrev pub word_bytes : ℕ → List ℕ
word_bytes x = x % 256 ∷ x / 256 ∷ []

-- bit n of a number is set
abbrev pub has_bit : ℕ → ℕ → Bool
has_bit n x = eqb (x / 2 ^ n % 2) 1

-- the top bit of one of a word's bytes is set, so that the wire can't carry it
abbrev pub high_word : ℕ → Bool
high_word x = has_bit 7 x || has_bit 15 x

-- the number that as many bits stand for in two's complement
unfoldable pub signed : ℕ → ℕ → ℤ
signed bits n = choose (ltb (2 * n) (2 ^ bits)) (pos n) (pos n -ℤ pos (2 ^ bits))
