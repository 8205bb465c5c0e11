-- The sync byte, 0xAA, with which every stream begins.
use Rattle.std.specs.Prelude.{ℕ, suc, List, [], ◌∷◌, eqb, drop}
use Rattle.basics.specs.Choice.{choose}

-- the first place that holds one, of bytes that stand from place q on, or the place behind them
unfoldable pub sync_from : ℕ → List ℕ → ℕ
sync_from q [] = q
sync_from q (byte ∷ rest) = choose (eqb byte 0xAA) q (sync_from (suc q) rest)

-- the first at or after a starting place, or a place that isn't below the length
unfoldable pub next_sync : List ℕ → ℕ → ℕ
next_sync s start = sync_from start (drop start s)
