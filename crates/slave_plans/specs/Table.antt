-- The table of slaves: what an entry is, where one stands, and how many there are.
use Rattle.std.specs.Prelude.{ℕ, suc, ◌+◌, Bool, false, not, ◌&&◌, List, [], ◌∷◌, drop, replicate, ◌==◌}
use Rattle.std.specs.Bool.{beq}
use Rattle.basics.specs.Choice.{choose}
use Rattle.slave_plans.specs.declared.Slave.{Slave}
use Rattle.slave_plans.specs.declared.Occupancy.{Occupancy}

-- an entry of zeros; "owner a yes or no, zeroed to no"
abbrev pub none : Slave
none = record { address = 0; owner = false; product = 0; device = 0 }

-- "the empty table": 32 entries of zeros
abbrev pub empty : List Slave
empty = replicate 32 none

-- "An entry is free exactly if its address is 0", whichever owner it shows
unfoldable pub is_free : Slave → Bool
is_free entry = entry.address == 0

-- an owner holds an entry; a free one is nobody's
unfoldable pub belongs_to : Bool → Slave → Bool
belongs_to owner entry = not (is_free entry) && beq entry.owner owner

-- an owner's entry with an address: "the same address may occur under both"
unfoldable pub has_address : Bool → ℕ → Slave → Bool
has_address owner address entry = beq entry.owner owner && entry.address == address

-- the lowest entry that passes a test, by its index; the table's length if there is none
unfoldable pub lowest : (Slave → Bool) → List Slave → ℕ
lowest test [] = 0
lowest test (entry ∷ rest) = choose (test entry) 0 (suc (lowest test rest))

-- the same from an index on; from past the end, that index
abbrev pub lowest_from : ℕ → (Slave → Bool) → List Slave → ℕ
lowest_from start test table = start + lowest test (drop start table)

-- how many entries pass a test
unfoldable pub count : (Slave → Bool) → List Slave → ℕ
count test [] = 0
count test (entry ∷ rest) = choose (test entry) 1 0 + count test rest

-- where an owner's address stands: "If a table holds an address twice, the lowest such entry counts"
abbrev pub index_of : Bool → ℕ → List Slave → ℕ
index_of owner address table = lowest (has_address owner address) table

-- how many entries an owner holds, and the lowest free one
abbrev pub occupancy_of : Bool → List Slave → Occupancy
occupancy_of owner table = record { held = count (belongs_to owner) table; free = lowest is_free table }
