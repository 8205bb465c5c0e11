-- What a private function under `line` writes. No public contract cites this file.
use Rattle.std.specs.Prelude.{ℕ, Option, Some, None, List, []}
use Rattle.text.specs.Hex.{hex_byte}
use Rattle.listing.specs.Line.{spaced}

-- a byte, where there is one, behind a space
abbrev pub some_byte : Option ℕ → List ℕ
some_byte None = []
some_byte (Some byte) = spaced (hex_byte byte)
