-- What is answered for a block of at most seven bytes.
use Rattle.std.specs.Prelude.{ℕ, ◌-◌, Bool, false, ◌||◌, List, [], ◌∷◌, ◌++◌, ltb, leb, take, replicate}
use Rattle.basics.specs.Choice.{choose}
use Rattle.septet.specs.Septet.{septet_of, low_bits, with_top_bits}
use Rattle.septet.specs.declared.Septets.{Septets}

-- document 01: a refused block comes back with length, septet and all bytes zero
abbrev pub refused : Septets
refused = record { number = 7; bytes = replicate 7 0; length = 0; septet = 0 }

-- document 01: places beyond the length are zero
abbrev pub padded : ℕ → List ℕ → List ℕ
padded n block = block ++ replicate (7 - n) 0

-- document 01's "taking top bits out", of the first n bytes
abbrev pub extracted : List ℕ → ℕ → Septets
extracted bytes n =
    choose (ltb 7 n) refused
    (record { number = 0; bytes = padded n (low_bits (take n bytes)); length = n; septet = septet_of (take n bytes) })

-- some byte is 0x80 or more
unfoldable pub any_high : List ℕ → Bool
any_high [] = false
any_high (byte ∷ rest) = leb 0x80 byte || any_high rest

-- document 01's refusal 7 for putting back, clause by clause; request No. 3 takes its last one, of unused septet bits, away
abbrev pub unfit : List ℕ → ℕ → ℕ → Bool
unfit bytes n septet = ltb 7 n || (any_high (take n bytes) || leb 0x80 septet)

-- document 01's "putting them back", to the first n bytes; the septet is used up
abbrev pub injected : List ℕ → ℕ → ℕ → Septets
injected bytes n septet =
    choose (unfit bytes n septet) refused
    (record { number = 0; bytes = padded n (with_top_bits septet (take n bytes)); length = n; septet = 0 })
