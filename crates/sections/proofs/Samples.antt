-- Document 01's table of types at every type, temperatures, and a part of a payload, computed: every law holds as well of other tables.
use Prim.Native.Nat.{ℕ, zero, suc}
use native.Mathlib.Omega.{arith}
use mathlib.Core.Path.{◌≡◌, refl, ap}
use mathlib.Core.List.{List, [], ◌∷◌, map}
use lib.IntN.{pos, negsuc}
use lib.ListN.{replicate}
use denote.Ref.{Bor}
use Rattle.basics.specs.Choice.{choose}
use Rattle.basics.specs.Words.{signed}
use Rattle.sections.specs.Element.{element_size, temperature_of}
use Rattle.sections.specs.Part.{StandsAt}

-- n numbers, from k on
abbrev from : ℕ → ℕ → List ℕ
from zero k = []
from (suc n) k = k ∷ from n (suc k)

-- types 0x00 to 0x0D, and no type above
sizes : map element_size (from 256 0) ≡ 0 ∷ 2 ∷ 0 ∷ 0 ∷ 0 ∷ 4 ∷ 0 ∷ 0 ∷ 1 ∷ 0 ∷ 8 ∷ 4 ∷ 4 ∷ 4 ∷ replicate 242 0
unfolding element_size choose
sizes = refl

-- temperatures of low and high byte: 25, the greatest, -1 and the least
temperatures : map temperature_of ((0x19 ∷ 0x00 ∷ []) ∷ (0xFF ∷ 0x7F ∷ []) ∷ (0xFF ∷ 0xFF ∷ []) ∷ (0x00 ∷ 0x80 ∷ []) ∷ []) ≡ pos 25 ∷ pos 32767 ∷ negsuc 0 ∷ negsuc 32767 ∷ []
unfolding signed choose
temperatures = refl

-- a reference to bytes at an offset of a block of memory
abbrev at : ℕ → ℕ → List ℕ → Bor (List ℕ)
at block offset bytes = record { ref_ptr = (block, offset); now = bytes }

-- of a payload at offset 100 of block 5, the bytes from 2 on stand at offset 102 of that block
part : StandsAt (at 5 100 (1 ∷ 2 ∷ 3 ∷ [])) 2 (3 ∷ []) (at 5 102 (3 ∷ []))
part = record { holds = refl; stands = refl }

-- the same bytes anywhere else are a copy, and no part
copy : StandsAt (at 5 100 (1 ∷ 2 ∷ 3 ∷ [])) 2 (3 ∷ []) (at 6 102 (3 ∷ [])) → ⊥
copy p = absurd (omega (arith, ap (λ (x : ℕ × ℕ). x.0) p.stands))
