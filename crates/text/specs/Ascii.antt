-- Text as bytes.
use Rattle.std.specs.Prelude.{ℕ, List}
use Prim.Native.Char.{code}
use Prim.Native.String.{String, [], ◌∷◌}
use mathlib.Core.List as lists

-- the bytes of a text of ASCII characters
abbrev pub ascii : String → List ℕ
ascii [] = lists.[]
ascii (letter ∷ rest) = lists.◌∷◌ (code letter) (ascii rest)
