-- Numbers in upper-case hex, as bytes of text.
use Rattle.std.specs.Prelude.{ℕ, ◌/◌, ◌%◌, List, [], ◌∷◌, ◌++◌, get_or}
use Rattle.text.specs.Ascii.{ascii}

abbrev pub digit : ℕ → ℕ
digit n = get_or (ascii "0123456789ABCDEF") n 0

abbrev pub hex_byte : ℕ → List ℕ
hex_byte byte = digit (byte / 16) ∷ digit (byte % 16) ∷ []

abbrev pub hex_word : ℕ → List ℕ
hex_word word = hex_byte (word / 256) ++ hex_byte (word % 256)
