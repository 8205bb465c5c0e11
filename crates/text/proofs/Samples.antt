-- Digits and letters, computed: they tie the definitions to ASCII and to upper case, since every law holds as well of other characters.
use mathlib.Core.Path.{◌≡◌, refl}
use mathlib.Core.List.{[], ◌∷◌, ◌++◌}
use Rattle.text.specs.Ascii.{ascii}
use Rattle.text.specs.Hex.{hex_byte, hex_word}
use Rattle.text.specs.Decimal.{digits_within, decimal}

characters : ascii "09AFDPTglnot? \n" ≡ 0x30 ∷ 0x39 ∷ 0x41 ∷ 0x46 ∷ 0x44 ∷ 0x50 ∷ 0x54 ∷ 0x67 ∷ 0x6C ∷ 0x6E ∷ 0x6F ∷ 0x74 ∷ 0x3F ∷ 0x20 ∷ 0x0A ∷ []
characters = refl

-- every digit, in the first place and in the second
bytes : hex_byte 0x01 ++ hex_byte 0x23 ++ hex_byte 0x45 ++ hex_byte 0x67 ++ hex_byte 0x89 ++ hex_byte 0xAB ++ hex_byte 0xCD ++ hex_byte 0xEF ≡ ascii "0123456789ABCDEF"
bytes = refl

swapped : hex_byte 0x10 ++ hex_byte 0x32 ++ hex_byte 0x54 ++ hex_byte 0x76 ++ hex_byte 0x98 ++ hex_byte 0xBA ++ hex_byte 0xDC ++ hex_byte 0xFE ≡ ascii "1032547698BADCFE"
swapped = refl

words : hex_word 0x0123 ++ hex_word 0x4567 ++ hex_word 0x89AB ++ hex_word 0xCDEF ≡ ascii "0123456789ABCDEF"
words = refl

numbers : decimal 0 ++ decimal 9 ++ decimal 10 ++ decimal 100 ++ decimal 65535 ++ decimal 18446744073709551615 ≡ ascii "09101006553518446744073709551615"
unfolding decimal digits_within
numbers = refl
