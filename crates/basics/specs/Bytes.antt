-- Bytes as lists of numbers.
use Rattle.std.specs.Prelude.{ℕ, ◌<◌, List, [], ◌∷◌, ◌++◌, length, drop}

-- each byte is below n
abbrev pub AllBelow : ℕ → List ℕ → Type 0
AllBelow n [] = Unit {0}
AllBelow n (byte ∷ rest) = (byte < n) × AllBelow n rest

-- a buffer that is written to from its start: document 01's "On success the output holds the result from its start; bytes behind it stay"
abbrev pub over : List ℕ → List ℕ → List ℕ
over new old = new ++ drop (length new) old
