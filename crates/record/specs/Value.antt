-- A datagram's value.
use Rattle.std.specs.Prelude.{ℕ, ◌+◌, ◌*◌, List, ℤ}
use Rattle.basics.specs.Words.{word_at, signed}

-- document 01's house rule: the last four payload bytes are also read as a signed 32-bit number in two's complement
abbrev pub value_of : List ℕ → ℤ
value_of payload = signed 32 (word_at payload 2 + 65536 * word_at payload 4)
