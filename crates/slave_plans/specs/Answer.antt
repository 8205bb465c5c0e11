-- What each operation on the table answers, and the table afterwards: the refusals 24 and 14 to 18 of requests No. 7 and No. 8 in the stated orders.
-- `size` is the table's length; an index that is at least the size is that of no entry.
use Rattle.std.specs.Prelude.{ℕ, Result, Ok, Err, ◌/◌, ◌%◌, ◌^◌, Bool, not, ◌&&◌, ◌||◌, List, [], ◌∷◌, length, ◌==◌, nat_le, nat_lt, slice_index_or, slice_set}
use Rattle.basics.specs.Choice.{choose, first}
use Rattle.basics.specs.Words.{high_word}
use Rattle.basics.specs.Refusal.{number}
use Rattle.basics.specs.declared.refusal.Refusal.{Refusal}
use Rattle.slave_id.specs.SlaveId.{too_wide}
use Rattle.slave_plans.specs.Table.{none, is_free, lowest, index_of, occupancy_of}
use Rattle.slave_plans.specs.declared.Slave.{Slave}
use Rattle.slave_plans.specs.declared.Found.{Found}
use Rattle.slave_plans.specs.declared.Occupancy.{Occupancy}

-- ── the tests

-- 24: a table that hasn't 32 entries; "Any other length is refused first"
abbrev pub length_line : ℕ → Bool × ℕ
length_line size = (not (size == 32), 24)

-- 14: "address bits 14 to 12 aren't 2, bit 7 or 15 is set, or bits 4 to 11 are all zero"
unfoldable pub not_slave : ℕ → Bool
not_slave address = not (address / 2 ^ 12 % 2 ^ 3 == 2) || (high_word address || address / 2 ^ 4 % 2 ^ 8 == 0)

-- 17: "no such address"; the free entries' address 0 "is never found"
unfoldable pub is_absent : ℕ → ℕ → ℕ → Bool
is_absent size at address = address == 0 || nat_le size at

-- "An owner may hold at most 24 entries"
abbrev pub most_held : ℕ
most_held = 24

-- 16: "given exactly when it holds 24 or more, or no entry is free"
unfoldable pub is_full : ℕ → Occupancy → Bool
is_full size occupancy = nat_le most_held occupancy.held || nat_le size occupancy.free

-- 15 when changing: the new address is already there, "unless it equals the old"
unfoldable pub is_taken : ℕ → ℕ → ℕ → ℕ → Bool
is_taken size other from to = not (to == from) && nat_lt other size

-- the table afterwards: another entry at an index or, refused, every entry as it was
abbrev pub table_with : ℕ → ℕ → Slave → List Slave → List Slave
table_with refusal index entry table = choose (refusal == 0) (slice_set table index entry) table

-- ── entering

-- "Order 14, 18, 15 and 16 when entering"; 15: the address is already there
abbrev pub enter_lines : ℕ → ℕ → Occupancy → Slave → List (Bool × ℕ)
enter_lines size at occupancy slave =
    length_line size
    ∷ (not_slave slave.address, 14)
    ∷ (too_wide slave.product slave.device, 18)
    ∷ (nat_lt at size, 15)
    ∷ (is_full size occupancy, 16)
    ∷ []

-- whoever says how many entries the owner holds, and where one is free
abbrev pub enter_refusal_with : Occupancy → Slave → List Slave → ℕ
enter_refusal_with occupancy slave table = first (enter_lines (length table) (index_of slave.owner slave.address table) occupancy slave)

-- by counting
unfoldable pub enter_refusal : Slave → List Slave → ℕ
enter_refusal slave table = enter_refusal_with (occupancy_of slave.owner table) slave table

-- "entering takes the lowest free one"
abbrev pub entered : Slave → List Slave → List Slave
entered slave table = table_with (enter_refusal slave table) (lowest is_free table) slave table

-- ── finding

-- "After 24, finding .. and removing give 17 only"
abbrev pub find_lines : ℕ → ℕ → ℕ → List (Bool × ℕ)
find_lines size at address = length_line size ∷ (is_absent size at address, 17) ∷ []

-- "(which gives the identifiers and changes nothing)": those of the entry where the address stands or, refused, zeros
unfoldable pub found_by : ℕ → ℕ → Slave → ℕ → Found
found_by size at entry address =
    let refusal = first (find_lines size at address) in
    record {
      number = refusal;
      product = choose (refusal == 0) entry.product 0;
      device = choose (refusal == 0) entry.device 0;
    }

-- the answer as C gets it
abbrev pub found_as : Result Slave Refusal → Found
found_as (Ok entry) = record { number = 0; product = entry.product; device = entry.device }
found_as (Err refusal) = record { number = number refusal; product = 0; device = 0 }

abbrev pub entry_of : Bool → ℕ → List Slave → Slave
entry_of owner address table = slice_index_or table (index_of owner address table) none

abbrev pub found_of : Bool → ℕ → List Slave → Found
found_of owner address table = found_by (length table) (index_of owner address table) (entry_of owner address table) address

-- ── changing an address

-- "checks the new one (14), the old (17), the new again (15 ..)"
abbrev pub change_lines : ℕ → ℕ → ℕ → ℕ → ℕ → List (Bool × ℕ)
change_lines size at other from to =
    length_line size
    ∷ (not_slave to, 14)
    ∷ (is_absent size at from, 17)
    ∷ (is_taken size other from to, 15)
    ∷ []

unfoldable pub change_refusal : Bool → ℕ → ℕ → List Slave → ℕ
change_refusal owner from to table = first (change_lines (length table) (index_of owner from table) (index_of owner to table) from to)

-- "a changed address keeps its identifiers", and its owner
abbrev pub readdressed : ℕ → Slave → Slave
readdressed address entry = record { address = address; owner = entry.owner; product = entry.product; device = entry.device }

abbrev pub changed : Bool → ℕ → ℕ → List Slave → List Slave
changed owner from to table =
    table_with (change_refusal owner from to table) (index_of owner from table) (readdressed to (entry_of owner from table)) table

-- ── removing

unfoldable pub remove_refusal : Bool → ℕ → List Slave → ℕ
remove_refusal owner address table = first (find_lines (length table) (index_of owner address table) address)

-- "removing zeroes the entry"
abbrev pub removed : Bool → ℕ → List Slave → List Slave
removed owner address table = table_with (remove_refusal owner address table) (index_of owner address table) none table
