-- Samples of slave ID responses, of tables of slaves, and of histories of two owners.
use Prim.Native.Nat.{ℕ, ◌*◌}
use mathlib.Core.Bool.{Bool, true, false, beq}
use mathlib.Core.List.{List, [], ◌∷◌, ◌++◌, map}
use lib.ListN.{replicate, set}
use Rattle.basics.specs.Choice.{choose}
use Rattle.record.specs.Record.{Record, record_of}
use Rattle.slave_plans.specs.Table.{none}
use Rattle.slave_plans.specs.History.{Operation, Enter, Find, Change, Remove, owner_of}
use Rattle.slave_plans.specs.declared.Slave.{Slave}
use Rattle.samples.proofs.Questions.{Row, read_slave_id, write_slave_id, enter_slave, find_slave, change_slave, remove_slave, answered, left, owned, table_told, own_told, untouched, refused}
use Rattle.samples.proofs.Samples.{bytes, recorded, t2, no, yes, slave, slaves, twice, shared, slaves_from, holding}

-- a refused slave ID
abbrev no_slave_id : List ℕ
no_slave_id = 18 ∷ replicate 4 0

-- T2's record with another version, command or payload
abbrev response : ℕ → ℕ → List ℕ → Record
response version command payload = recorded version 0x7731 0x2010 command payload

abbrev pub slave_ids : List Row
slave_ids =
    (read_slave_id (record_of t2), 0 ∷ 888888 ∷ 2344630 ∷ 17 ∷ 116406 ∷ [])
    ∷ (read_slave_id (response 0x31 0x23 (bytes 7 0xFFFFFFFF_FFFF00)), 0 ∷ 0xFFFFFF ∷ 0xFFFFFF ∷ 127 ∷ 131071 ∷ [])
    ∷ (read_slave_id (response 0x30 0x23 (bytes 7 0x00010000_000200)), 0 ∷ 256 ∷ 131072 ∷ 1 ∷ 0 ∷ [])
    ∷ (read_slave_id (response 0x30 0x23 (bytes 7 0x010000FF_FF0100)), 0 ∷ 1 ∷ 131071 ∷ 0 ∷ 131071 ∷ [])
    ∷ (read_slave_id (response 0x10 0x23 (replicate 7 0)), no_slave_id)
    ∷ (read_slave_id (response 0x20 0x23 (replicate 7 0)), no_slave_id)
    ∷ (read_slave_id (response 0x32 0x23 (replicate 7 0)), no_slave_id)
    ∷ (read_slave_id (response 0x30 0x22 (replicate 7 0)), no_slave_id)
    ∷ (read_slave_id (response 0x30 0x24 (replicate 7 0)), no_slave_id)
    ∷ (read_slave_id (response 0x30 0x123 (replicate 7 0)), no_slave_id)
    ∷ (read_slave_id (response 0x30 0x23 (replicate 6 0)), no_slave_id)
    ∷ (read_slave_id (response 0x30 0x23 (replicate 8 0)), no_slave_id)
    ∷ (read_slave_id (response 0x30 0x23 (bytes 7 0x01)), no_slave_id)
    ∷ (write_slave_id 0x7731 0x2010 888888 2344630 18, 0 ∷ 17 ∷ (t2 ++ untouched 1))
    ∷ (write_slave_id 0x7731 0x2010 888888 2344630 17, 0 ∷ 17 ∷ t2)
    ∷ (write_slave_id 0x7731 0x2010 888888 2344630 16, refused 5 16)
    ∷ (write_slave_id 0x7F7F 0x7F7F 0xFFFFFF 0xFFFFFF 17, 0 ∷ 17 ∷ bytes 17 0xAA7F7F7F_7F302330_7F7F7F7F_7F7F003F_46)
    ∷ (write_slave_id 0x7731 0x2010 0x1000000 2344630 18, refused 18 18)
    ∷ (write_slave_id 0x7731 0x2010 888888 0x1000000 18, refused 18 18)
    ∷ (write_slave_id 0x80 0x2010 0x1000000 2344630 18, refused 18 18)
    ∷ (write_slave_id 0x7731 0x2010 0x1000000 2344630 16, refused 18 16)
    ∷ (write_slave_id 0x80 0x2010 888888 2344630 18, refused 2 18)
    ∷ (write_slave_id 0x8000 0x2010 888888 2344630 16, refused 2 16)
    ∷ (write_slave_id 0x7731 0x80 888888 2344630 18, refused 2 18)
    ∷ (write_slave_id 0x7731 0x8000 888888 2344630 18, refused 2 18)
    ∷ []

-- an operation that leaves the table as it was
abbrev unchanged : ℕ → List Slave → List ℕ
unchanged number t = number ∷ table_told t

abbrev pub full : List Slave
full = replicate 32 (slave no 0x2010 1 2)

abbrev pub short : List Slave
short = replicate 31 none

abbrev pub long : List Slave
long = replicate 33 (slave no 0x2010 1 2)

abbrev last_taken : List Slave
last_taken = set twice 31 (slave no 0x2F70 3 4)

abbrev pub slave_tables : List Row
slave_tables =
    (enter_slave (slave no 0x2010 0xFFFFFF 0xFFFFFF) (slaves []), 0 ∷ table_told (slaves ((0, slave no 0x2010 0xFFFFFF 0xFFFFFF) ∷ [])))
    ∷ (enter_slave (slave no 0x2F7F 1 2) (slaves ((0, slave no 0x2010 3 4) ∷ (2, slave no 0x2011 5 6) ∷ [])), 0 ∷ table_told (slaves ((0, slave no 0x2010 3 4) ∷ (1, slave no 0x2F7F 1 2) ∷ (2, slave no 0x2011 5 6) ∷ [])))
    ∷ (enter_slave (slave yes 0x2100 1 2) (set full 31 (slave no 0 7 8)), 0 ∷ table_told (set full 31 (slave yes 0x2100 1 2)))
    ∷ (enter_slave (slave no 0x2800 1 2) (slaves []), 0 ∷ table_told (slaves ((0, slave no 0x2800 1 2) ∷ [])))
    ∷ (enter_slave (slave no 0x200F 0x1000000 2) short, unchanged 24 short)
    ∷ (enter_slave (slave no 0x200F 1 2) long, unchanged 24 long)
    ∷ (enter_slave (slave no 0x2010 1 2) long, unchanged 24 long)
    ∷ (enter_slave (slave no 0x2011 0x1000000 2) long, unchanged 24 long)
    ∷ (enter_slave (slave no 0x2011 1 2) long, unchanged 24 long)
    ∷ (enter_slave (slave no 0x2010 1 2) [], unchanged 24 [])
    ∷ (enter_slave (slave no 0x200F 0x1000000 2) full, unchanged 14 full)
    ∷ (enter_slave (slave no 0x1010 1 2) (slaves []), unchanged 14 (slaves []))
    ∷ (enter_slave (slave no 0x3010 1 2) (slaves []), unchanged 14 (slaves []))
    ∷ (enter_slave (slave no 0x6010 1 2) (slaves []), unchanged 14 (slaves []))
    ∷ (enter_slave (slave no 0xA010 1 2) (slaves []), unchanged 14 (slaves []))
    ∷ (enter_slave (slave no 0x2090 1 2) (slaves []), unchanged 14 (slaves []))
    ∷ (enter_slave (slave no 0 1 2) (slaves []), unchanged 14 (slaves []))
    ∷ (enter_slave (slave no 0x0001 1 2) twice, unchanged 14 twice)
    ∷ (enter_slave (slave no 0x2010 0x1000000 2) full, unchanged 18 full)
    ∷ (enter_slave (slave no 0x2010 1 0x1000000) full, unchanged 18 full)
    ∷ (enter_slave (slave no 0x2011 0x1000000 2) full, unchanged 18 full)
    ∷ (enter_slave (slave no 0x2010 1 2) full, unchanged 15 full)
    ∷ (enter_slave (slave no 0x2011 1 2) twice, unchanged 15 twice)
    ∷ (enter_slave (slave no 0x2F70 1 2) last_taken, unchanged 15 last_taken)
    ∷ (enter_slave (slave no 0x2010 3 4) (slaves ((0, slave no 0x0001 0 0) ∷ (1, slave no 0x1000 1 2) ∷ [])), 0 ∷ table_told (slaves ((0, slave no 0x0001 0 0) ∷ (1, slave no 0x1000 1 2) ∷ (2, slave no 0x2010 3 4) ∷ [])))
    ∷ (enter_slave (slave no 0x2011 1 2) full, unchanged 16 full)
    ∷ (find_slave no 0x2010 twice, 0 ∷ 30 ∷ 31 ∷ [])
    ∷ (find_slave no 0x0001 twice, 0 ∷ 310 ∷ 311 ∷ [])
    ∷ (find_slave no 0x2012 twice, 17 ∷ 0 ∷ 0 ∷ [])
    ∷ (find_slave no 0 (slaves ((4, slave no 0 7 8) ∷ [])), 17 ∷ 0 ∷ 0 ∷ [])
    ∷ (find_slave no 0x2010 long, 24 ∷ 0 ∷ 0 ∷ [])
    ∷ (find_slave no 0x2012 long, 24 ∷ 0 ∷ 0 ∷ [])
    ∷ (find_slave no 0x2010 short, 24 ∷ 0 ∷ 0 ∷ [])
    ∷ (change_slave no 0x2010 0x2F70 twice, 0 ∷ table_told (set twice 3 (slave no 0x2F70 30 31)))
    ∷ (change_slave no 0x0001 0x2012 twice, 0 ∷ table_told (set twice 31 (slave no 0x2012 310 311)))
    ∷ (change_slave no 0x2010 0x2010 twice, unchanged 0 twice)
    ∷ (change_slave no 0x0001 0x0001 twice, unchanged 14 twice)
    ∷ (change_slave no 0x2010 0 twice, unchanged 14 twice)
    ∷ (change_slave no 0x2010 0x0001 twice, unchanged 14 twice)
    ∷ (change_slave no 0x2012 0x2080 twice, unchanged 14 twice)
    ∷ (change_slave no 0x2012 0x2011 twice, unchanged 17 twice)
    ∷ (change_slave no 0x2012 0x2012 twice, unchanged 17 twice)
    ∷ (change_slave no 0 0x2012 twice, unchanged 17 twice)
    ∷ (change_slave no 0x2010 0x2011 twice, unchanged 15 twice)
    ∷ (change_slave no 0x2011 0x2010 twice, unchanged 15 twice)
    ∷ (change_slave no 0x2010 0x2F70 last_taken, unchanged 15 last_taken)
    ∷ (change_slave no 0x2010 0x2080 long, unchanged 24 long)
    ∷ (change_slave no 0x2012 0x2013 long, unchanged 24 long)
    ∷ (change_slave no 0x2010 0x2011 (set long 4 (slave no 0x2011 3 4)), unchanged 24 (set long 4 (slave no 0x2011 3 4)))
    ∷ (change_slave no 0x2010 0x2080 short, unchanged 24 short)
    ∷ (remove_slave no 0x2010 twice, 0 ∷ table_told (set twice 3 (slave no 0 0 0)))
    ∷ (remove_slave no 0x0001 twice, 0 ∷ table_told (set twice 31 (slave no 0 0 0)))
    ∷ (remove_slave no 0x2012 twice, unchanged 17 twice)
    ∷ (remove_slave no 0 (slaves ((4, slave no 0 7 8) ∷ [])), unchanged 17 (slaves ((4, slave no 0 7 8) ∷ [])))
    ∷ (remove_slave no 0x2010 long, unchanged 24 long)
    ∷ (remove_slave no 0x2012 long, unchanged 24 long)
    ∷ (remove_slave no 0x2010 short, unchanged 24 short)
    ∷ []

-- the request's bounds: 24 entries of an owner, and 8 of the other beside them
abbrev pub two_owners : List Row
two_owners =
    (enter_slave (slave no 0x2200 3 4) (holding 23 0), 0 ∷ table_told (set (holding 23 0) 23 (slave no 0x2200 3 4)))
    ∷ (enter_slave (slave no 0x2200 3 4) (holding 24 0), unchanged 16 (holding 24 0))
    ∷ (enter_slave (slave no 0x2200 3 4) (holding 25 0), unchanged 16 (holding 25 0))
    ∷ (enter_slave (slave yes 0x2200 3 4) (holding 24 0), 0 ∷ table_told (set (holding 24 0) 24 (slave yes 0x2200 3 4)))
    ∷ (enter_slave (slave yes 0x2200 3 4) (holding 24 7), 0 ∷ table_told (set (holding 24 7) 31 (slave yes 0x2200 3 4)))
    ∷ (enter_slave (slave yes 0x2200 3 4) (holding 24 8), unchanged 16 (holding 24 8))
    ∷ (enter_slave (slave no 0x2200 3 4) (holding 8 23), 0 ∷ table_told (set (holding 8 23) 31 (slave no 0x2200 3 4)))
    ∷ (enter_slave (slave yes 0x2200 3 4) (holding 7 23), 0 ∷ table_told (set (holding 7 23) 30 (slave yes 0x2200 3 4)))
    ∷ (enter_slave (slave yes 0x2200 3 4) (holding 7 24), unchanged 16 (holding 7 24))
    ∷ (enter_slave (slave no 0x2200 3 4) (holding 16 16), unchanged 16 (holding 16 16))
    ∷ (enter_slave (slave no 0x2100 3 4) (holding 24 0), unchanged 15 (holding 24 0))
    ∷ (enter_slave (slave yes 0x2100 3 4) (holding 7 24), unchanged 15 (holding 7 24))
    ∷ (enter_slave (slave no 0x2200 3 4) (set (holding 23 0) 23 (slave no 0x0001 1 2)), unchanged 16 (set (holding 23 0) 23 (slave no 0x0001 1 2)))
    ∷ (enter_slave (slave yes 0x200F 1 2) (slaves []), unchanged 14 (slaves []))
    ∷ (enter_slave (slave yes 0x2010 0x1000000 2) (slaves []), unchanged 18 (slaves []))
    ∷ (enter_slave (slave no 0x2100 3 4) (holding 0 32), unchanged 16 (holding 0 32))
    ∷ (enter_slave (slave yes 0x2010 3 4) (replicate 32 (slave yes 0 5 6)), 0 ∷ table_told (set (replicate 32 (slave yes 0 5 6)) 0 (slave yes 0x2010 3 4)))
    ∷ (enter_slave (slave no 0x2012 3 4) shared, 0 ∷ table_told (set shared 0 (slave no 0x2012 3 4)))
    ∷ (enter_slave (slave yes 0x2012 3 4) shared, unchanged 15 shared)
    ∷ (find_slave no 0x2010 shared, 0 ∷ 50 ∷ 51 ∷ [])
    ∷ (find_slave yes 0x2010 shared, 0 ∷ 30 ∷ 31 ∷ [])
    ∷ (find_slave no 0x2012 shared, 17 ∷ 0 ∷ 0 ∷ [])
    ∷ (find_slave yes 0x2011 shared, 17 ∷ 0 ∷ 0 ∷ [])
    ∷ (find_slave yes 0 (replicate 32 (slave yes 0 5 6)), 17 ∷ 0 ∷ 0 ∷ [])
    ∷ (change_slave no 0x2010 0x2012 shared, 0 ∷ table_told (set shared 5 (slave no 0x2012 50 51)))
    ∷ (change_slave yes 0x2010 0x2011 shared, 0 ∷ table_told (set shared 3 (slave yes 0x2011 30 31)))
    ∷ (change_slave yes 0x2010 0x2012 shared, unchanged 15 shared)
    ∷ (change_slave yes 0x2011 0x2013 shared, unchanged 17 shared)
    ∷ (change_slave no 0x2012 0x2013 shared, unchanged 17 shared)
    ∷ (remove_slave no 0x2010 shared, 0 ∷ table_told (set shared 5 (slave no 0 0 0)))
    ∷ (remove_slave yes 0x2010 shared, 0 ∷ table_told (set shared 3 (slave no 0 0 0)))
    ∷ (remove_slave no 0x2012 shared, unchanged 17 shared)
    ∷ (remove_slave yes 0x2011 shared, unchanged 17 shared)
    ∷ []

-- both owners' operations, one after the other: with the same addresses, and up to the 25th of one and the ninth of the other
abbrev pub interleaved : List Operation
interleaved =
    Enter (slave no 0x2010 1 2)
    ∷ Enter (slave yes 0x2010 3 4)
    ∷ Enter (slave no 0x2010 5 6)
    ∷ Find no 0x2010
    ∷ Find yes 0x2010
    ∷ Change yes 0x2010 0x2011
    ∷ Find yes 0x2010
    ∷ Find yes 0x2011
    ∷ Change no 0x2011 0x2012
    ∷ Remove no 0x2010
    ∷ Enter (slave no 0x200F 5 6)
    ∷ Enter (slave no 0x2010 0x1000000 6)
    ∷ Remove no 0x2010
    ∷ Find yes 0x2011
    ∷ []

abbrev pub crowded : List Operation
crowded =
    map Enter (slaves_from no 0x2100 24 ++ slaves_from yes 0x2100 8)
    ++ (Enter (slave no 0x2200 3 4)
    ∷ Enter (slave yes 0x2200 3 4)
    ∷ Remove yes 0x2100
    ∷ Enter (slave no 0x2200 3 4)
    ∷ Enter (slave yes 0x2200 3 4)
    ∷ Remove no 0x2100
    ∷ Enter (slave yes 0x2201 3 4)
    ∷ Enter (slave no 0x2201 3 4)
    ∷ [])

-- an owner's operations in a history, with nothing of the other's between them
abbrev own_in : Bool → List Operation → List Operation
own_in owner [] = []
own_in owner (operation ∷ rest) = choose (beq (owner_of operation) owner) (operation ∷ own_in owner rest) (own_in owner rest)

-- an answer that is a number alone
abbrev pub alone : ℕ → List ℕ
alone number = number ∷ 0 ∷ 0 ∷ []

abbrev pub interleaved_no : List ℕ
interleaved_no = alone 0 ++ (alone 15 ++ ((0 ∷ 1 ∷ 2 ∷ []) ++ (alone 17 ++ (alone 0 ++ (alone 14 ++ (alone 18 ++ alone 17))))))

abbrev pub interleaved_yes : List ℕ
interleaved_yes = alone 0 ++ ((0 ∷ 3 ∷ 4 ∷ []) ++ (alone 0 ++ (alone 17 ++ ((0 ∷ 3 ∷ 4 ∷ []) ++ (0 ∷ 3 ∷ 4 ∷ [])))))

-- their own histories, each operation with whether it is answered 16
abbrev pub owned_no : List (Operation × Bool)
owned_no =
    (Enter (slave no 0x2010 1 2), false)
    ∷ (Enter (slave no 0x2010 5 6), false)
    ∷ (Find no 0x2010, false)
    ∷ (Change no 0x2011 0x2012, false)
    ∷ (Remove no 0x2010, false)
    ∷ (Enter (slave no 0x200F 5 6), false)
    ∷ (Enter (slave no 0x2010 0x1000000 6), false)
    ∷ (Remove no 0x2010, false)
    ∷ []

abbrev pub owned_yes : List (Operation × Bool)
owned_yes =
    map (λ (s : Slave). (Enter s, false)) (slaves_from yes 0x2100 8)
    ++ ((Enter (slave yes 0x2200 3 4), true)
    ∷ (Remove yes 0x2100, false)
    ∷ (Enter (slave yes 0x2200 3 4), false)
    ∷ (Enter (slave yes 0x2201 3 4), false)
    ∷ [])

abbrev pub histories : List Row
histories =
    (answered no interleaved, interleaved_no)
    ∷ (answered no (own_in no interleaved), interleaved_no)
    ∷ (answered yes interleaved, interleaved_yes)
    ∷ (answered yes (own_in yes interleaved), interleaved_yes)
    ∷ (answered yes (Enter (slave yes 0x2010 3 4) ∷ Enter (slave yes 0x2011 5 6) ∷ Change yes 0x2010 0x2011 ∷ Change yes 0x2010 0x2080 ∷ Remove yes 0x0001 ∷ []), alone 0 ++ (alone 0 ++ (alone 15 ++ (alone 14 ++ alone 17))))
    ∷ (left [], replicate (32 * 4) 0)
    ∷ (left (Enter (slave yes 0x2010 3 4) ∷ Enter (slave no 0x2010 1 2) ∷ []), table_told (slaves ((0, slave yes 0x2010 3 4) ∷ (1, slave no 0x2010 1 2) ∷ [])))
    ∷ (left interleaved, table_told (slaves ((1, slave yes 0x2011 3 4) ∷ [])))
    ∷ (owned no interleaved, own_told owned_no)
    ∷ (answered no crowded, replicate (24 * 3) 0 ++ (alone 16 ++ (alone 16 ++ (alone 0 ++ alone 16))))
    ∷ (answered yes crowded, replicate (8 * 3) 0 ++ (alone 16 ++ (alone 0 ++ (alone 0 ++ alone 0))))
    ∷ (owned yes crowded, own_told owned_yes)
    ∷ (left crowded, table_told (set (set (holding 24 8) 24 (slave yes 0x2200 3 4)) 0 (slave yes 0x2201 3 4)))
    ∷ []
