-- Samples of the figures that are kept with a table of slaves, true and false ones.
use Prim.Native.Nat.{ℕ, ◌*◌}
use mathlib.Core.List.{List, [], ◌∷◌, ◌++◌}
use lib.ListN.{replicate, set}
use Rattle.slave_plans.specs.History.{Enter, Find, Change, Remove}
use Rattle.slave_plans.specs.declared.Slave.{Slave}
use Rattle.slave_figures.specs.declared.Figures.{Figures}
use Rattle.samples.proofs.Questions.{Row, count_figures, enter_by, remove_by, check_figures, answered_by, answered_from, left_by, left_from, owned_by, figures_told, table_told, own_told}
use Rattle.samples.proofs.Samples.{no, yes, slave, slaves, twice, shared, holding}
use Rattle.samples.proofs.Slaves.{full, short, long, interleaved, crowded, interleaved_no, interleaved_yes, owned_no, owned_yes, alone}

-- how many entries the owners no and yes hold, and the lowest free one
abbrev figures : ℕ → ℕ → ℕ → Figures
figures n m lowest = record { no = n; yes = m; lowest = lowest }

-- an answer with the figures and the table afterwards
abbrev kept : ℕ → Figures → List Slave → List ℕ
kept number f t = number ∷ (figures_told f ++ table_told t)

abbrev done : Figures → List Slave → List ℕ
done f t = kept 0 f t

-- entries 0, 2 and 3 are taken
abbrev holed : List Slave
holed = set (holding 4 0) 1 (slave no 0 0 0)

abbrev counts : List Row
counts =
    (count_figures (slaves []), 0 ∷ 0 ∷ 0 ∷ [])
    ∷ (count_figures shared, 2 ∷ 2 ∷ 0 ∷ [])
    ∷ (count_figures twice, 4 ∷ 0 ∷ 0 ∷ [])
    ∷ (count_figures full, 32 ∷ 0 ∷ 32 ∷ [])
    ∷ (count_figures (holding 24 7), 24 ∷ 7 ∷ 31 ∷ [])
    ∷ (count_figures (set (holding 7 24) 5 (slave yes 0 1 2)), 6 ∷ 24 ∷ 5 ∷ [])
    ∷ (count_figures (replicate 32 (slave yes 0 5 6)), 0 ∷ 0 ∷ 0 ∷ [])
    ∷ []

-- by true figures
abbrev true_figures : List Row
true_figures =
    (enter_by (figures 0 0 0) (slave no 0x2010 1 2) (slaves []), done (figures 1 0 1) (slaves ((0, slave no 0x2010 1 2) ∷ [])))
    ∷ (enter_by (figures 0 0 0) (slave yes 0x2010 1 2) (slaves []), done (figures 0 1 1) (slaves ((0, slave yes 0x2010 1 2) ∷ [])))
    ∷ (enter_by (figures 2 2 0) (slave no 0x2012 3 4) shared, done (figures 3 2 1) (set shared 0 (slave no 0x2012 3 4)))
    ∷ (enter_by (figures 2 2 4) (slave yes 0x2200 3 4) (holding 2 2), done (figures 2 3 5) (set (holding 2 2) 4 (slave yes 0x2200 3 4)))
    ∷ (enter_by (figures 3 0 1) (slave no 0x2200 3 4) holed, done (figures 4 0 4) (set holed 1 (slave no 0x2200 3 4)))
    ∷ (enter_by (figures 23 0 23) (slave no 0x2200 3 4) (holding 23 0), done (figures 24 0 24) (set (holding 23 0) 23 (slave no 0x2200 3 4)))
    ∷ (enter_by (figures 24 0 24) (slave no 0x2200 3 4) (holding 24 0), kept 16 (figures 24 0 24) (holding 24 0))
    ∷ (enter_by (figures 7 23 30) (slave yes 0x2200 3 4) (holding 7 23), done (figures 7 24 31) (set (holding 7 23) 30 (slave yes 0x2200 3 4)))
    ∷ (enter_by (figures 24 7 31) (slave yes 0x2200 3 4) (holding 24 7), done (figures 24 8 32) (set (holding 24 7) 31 (slave yes 0x2200 3 4)))
    ∷ (enter_by (figures 24 8 32) (slave yes 0x2200 3 4) (holding 24 8), kept 16 (figures 24 8 32) (holding 24 8))
    ∷ (enter_by (figures 31 0 31) (slave yes 0x2100 3 4) (set full 31 (slave no 0 7 8)), done (figures 31 1 32) (set full 31 (slave yes 0x2100 3 4)))
    ∷ (enter_by (figures 0 0 0) (slave yes 0x2010 3 4) (replicate 32 (slave yes 0 5 6)), done (figures 0 1 1) (set (replicate 32 (slave yes 0 5 6)) 0 (slave yes 0x2010 3 4)))
    ∷ (remove_by (figures 2 2 0) no 0x2010 shared, done (figures 1 2 0) (set shared 5 (slave no 0 0 0)))
    ∷ (remove_by (figures 2 2 0) yes 0x2010 shared, done (figures 2 1 0) (set shared 3 (slave no 0 0 0)))
    ∷ (remove_by (figures 24 8 32) yes 0x2100 (holding 24 8), done (figures 24 7 24) (set (holding 24 8) 24 (slave no 0 0 0)))
    ∷ (remove_by (figures 24 8 32) no 0x2100 (holding 24 8), done (figures 23 8 0) (set (holding 24 8) 0 (slave no 0 0 0)))
    ∷ (remove_by (figures 2 2 4) yes 0x2101 (holding 2 2), done (figures 2 1 3) (set (holding 2 2) 3 (slave no 0 0 0)))
    ∷ (remove_by (figures 3 0 1) no 0x2103 holed, done (figures 2 0 1) (set holed 3 (slave no 0 0 0)))
    ∷ (remove_by (figures 30 0 26) no 0x211C (set (holding 31 0) 26 (slave no 0 0 0)), done (figures 29 0 26) (set (set (holding 31 0) 26 (slave no 0 0 0)) 28 (slave no 0 0 0)))
    ∷ (remove_by (figures 4 0 0) no 0x2010 twice, done (figures 3 0 0) (set twice 3 (slave no 0 0 0)))
    ∷ []

-- refused, by any
abbrev refusals : List Row
refusals =
    (enter_by (figures 7 9 5) (slave no 0x2010 1 2) short, kept 24 (figures 7 9 5) short)
    ∷ (enter_by (figures 24 255 255) (slave no 0x200F 0x1000000 2) long, kept 24 (figures 24 255 255) long)
    ∷ (enter_by (figures 0 0 0) (slave yes 0x2010 1 2) [], kept 24 (figures 0 0 0) [])
    ∷ (enter_by (figures 24 9 32) (slave no 0x200F 0x1000000 2) full, kept 14 (figures 24 9 32) full)
    ∷ (enter_by (figures 24 9 32) (slave no 0x2010 0x1000000 2) full, kept 18 (figures 24 9 32) full)
    ∷ (enter_by (figures 24 9 32) (slave no 0x2010 1 2) full, kept 15 (figures 24 9 32) full)
    ∷ (enter_by (figures 24 8 32) (slave yes 0x2107 3 4) (holding 24 8), kept 15 (figures 24 8 32) (holding 24 8))
    ∷ (enter_by (figures 7 9 5) (slave yes 0x2012 3 4) shared, kept 15 (figures 7 9 5) shared)
    ∷ (remove_by (figures 7 9 5) no 0x2010 short, kept 24 (figures 7 9 5) short)
    ∷ (remove_by (figures 7 9 5) no 0x2010 long, kept 24 (figures 7 9 5) long)
    ∷ (remove_by (figures 7 9 5) no 0x2012 twice, kept 17 (figures 7 9 5) twice)
    ∷ (remove_by (figures 7 9 255) yes 0 (replicate 32 (slave yes 0 5 6)), kept 17 (figures 7 9 255) (replicate 32 (slave yes 0 5 6)))
    ∷ []

-- by false ones: a free entry from theirs on is taken, 0 isn't made less, and the other owner's number is of no account
abbrev false_figures : List Row
false_figures =
    (enter_by (figures 0 0 32) (slave no 0x2010 1 2) (slaves []), kept 16 (figures 0 0 32) (slaves []))
    ∷ (enter_by (figures 0 0 128) (slave no 0x2010 1 2) (slaves []), kept 16 (figures 0 0 128) (slaves []))
    ∷ (enter_by (figures 0 0 255) (slave no 0x2010 1 2) (slaves []), kept 16 (figures 0 0 255) (slaves []))
    ∷ (enter_by (figures 0 0 31) (slave no 0x2010 1 2) (slaves []), done (figures 1 0 32) (slaves ((31, slave no 0x2010 1 2) ∷ [])))
    ∷ (enter_by (figures 2 2 3) (slave no 0x2012 3 4) shared, done (figures 3 2 6) (set shared 4 (slave no 0x2012 3 4)))
    ∷ (enter_by (figures 2 2 1) (slave no 0x2012 3 4) shared, done (figures 3 2 2) (set shared 1 (slave no 0x2012 3 4)))
    ∷ (enter_by (figures 0 0 0) (slave yes 0x2200 3 4) (holding 24 7), done (figures 0 1 32) (set (holding 24 7) 31 (slave yes 0x2200 3 4)))
    ∷ (enter_by (figures 0 0 0) (slave no 0x2011 3 4) full, kept 16 (figures 0 0 0) full)
    ∷ (enter_by (figures 23 255 0) (slave no 0x2010 1 2) (slaves []), done (figures 24 255 1) (slaves ((0, slave no 0x2010 1 2) ∷ [])))
    ∷ (enter_by (figures 24 0 0) (slave no 0x2010 1 2) (slaves []), kept 16 (figures 24 0 0) (slaves []))
    ∷ (enter_by (figures 0 24 0) (slave yes 0x2010 1 2) (slaves []), kept 16 (figures 0 24 0) (slaves []))
    ∷ (enter_by (figures 255 23 0) (slave yes 0x2010 1 2) (slaves []), done (figures 255 24 1) (slaves ((0, slave yes 0x2010 1 2) ∷ [])))
    ∷ (enter_by (figures 128 0 0) (slave no 0x2010 1 2) (slaves []), kept 16 (figures 128 0 0) (slaves []))
    ∷ (enter_by (figures 0 128 0) (slave yes 0x2010 1 2) (slaves []), kept 16 (figures 0 128 0) (slaves []))
    ∷ (enter_by (figures 255 0 0) (slave no 0x2010 1 2) (slaves []), kept 16 (figures 255 0 0) (slaves []))
    ∷ (enter_by (figures 0 0 24) (slave no 0x2200 3 4) (holding 24 0), done (figures 1 0 25) (set (holding 24 0) 24 (slave no 0x2200 3 4)))
    ∷ (remove_by (figures 0 0 0) no 0x2010 shared, done (figures 0 0 0) (set shared 5 (slave no 0 0 0)))
    ∷ (remove_by (figures 255 255 255) no 0x2010 shared, done (figures 254 255 5) (set shared 5 (slave no 0 0 0)))
    ∷ (remove_by (figures 255 255 255) yes 0x2010 shared, done (figures 255 254 3) (set shared 3 (slave no 0 0 0)))
    ∷ (remove_by (figures 5 6 5) no 0x2010 shared, done (figures 4 6 5) (set shared 5 (slave no 0 0 0)))
    ∷ (remove_by (figures 5 6 128) no 0x2010 shared, done (figures 4 6 5) (set shared 5 (slave no 0 0 0)))
    ∷ (remove_by (figures 5 6 6) no 0x2010 shared, done (figures 4 6 5) (set shared 5 (slave no 0 0 0)))
    ∷ (remove_by (figures 5 6 4) no 0x2010 shared, done (figures 4 6 4) (set shared 5 (slave no 0 0 0)))
    ∷ []

abbrev checks : List Row
checks =
    (check_figures (figures 0 0 0) (slaves []), 0 ∷ 1 ∷ [])
    ∷ (check_figures (figures 1 0 0) (slaves []), 0 ∷ 0 ∷ [])
    ∷ (check_figures (figures 0 1 0) (slaves []), 0 ∷ 0 ∷ [])
    ∷ (check_figures (figures 0 0 1) (slaves []), 0 ∷ 0 ∷ [])
    ∷ (check_figures (figures 2 2 0) shared, 0 ∷ 1 ∷ [])
    ∷ (check_figures (figures 1 2 0) shared, 0 ∷ 0 ∷ [])
    ∷ (check_figures (figures 3 2 0) shared, 0 ∷ 0 ∷ [])
    ∷ (check_figures (figures 2 1 0) shared, 0 ∷ 0 ∷ [])
    ∷ (check_figures (figures 2 3 0) shared, 0 ∷ 0 ∷ [])
    ∷ (check_figures (figures 2 2 1) shared, 0 ∷ 0 ∷ [])
    ∷ (check_figures (figures 2 2 255) shared, 0 ∷ 0 ∷ [])
    ∷ (check_figures (figures 130 2 0) shared, 0 ∷ 0 ∷ [])
    ∷ (check_figures (figures 2 130 0) shared, 0 ∷ 0 ∷ [])
    ∷ (check_figures (figures 2 2 128) shared, 0 ∷ 0 ∷ [])
    ∷ (check_figures (figures 24 7 31) (holding 24 7), 0 ∷ 1 ∷ [])
    ∷ (check_figures (figures 24 7 30) (holding 24 7), 0 ∷ 0 ∷ [])
    ∷ (check_figures (figures 24 7 32) (holding 24 7), 0 ∷ 0 ∷ [])
    ∷ (check_figures (figures 7 24 31) (holding 24 7), 0 ∷ 0 ∷ [])
    ∷ (check_figures (figures 32 0 32) full, 0 ∷ 1 ∷ [])
    ∷ (check_figures (figures 32 0 0) full, 0 ∷ 0 ∷ [])
    ∷ (check_figures (figures 32 0 31) full, 0 ∷ 0 ∷ [])
    ∷ (check_figures (figures 32 0 33) full, 0 ∷ 0 ∷ [])
    ∷ (check_figures (figures 0 32 32) full, 0 ∷ 0 ∷ [])
    ∷ (check_figures (figures 0 0 32) full, 0 ∷ 0 ∷ [])
    ∷ (check_figures (figures 0 32 32) (holding 0 32), 0 ∷ 1 ∷ [])
    ∷ (check_figures (figures 0 0 0) short, 24 ∷ 0 ∷ [])
    ∷ (check_figures (figures 33 0 33) long, 24 ∷ 0 ∷ [])
    ∷ (check_figures (figures 1 0 0) long, 24 ∷ 0 ∷ [])
    ∷ (check_figures (figures 0 0 0) [], 24 ∷ 0 ∷ [])
    ∷ []

-- each call with the figures that the one before gave back, from the empty table on and from false ones
abbrev histories : List Row
histories =
    (answered_by no interleaved, interleaved_no)
    ∷ (answered_by yes interleaved, interleaved_yes)
    ∷ (answered_by no crowded, replicate (24 * 3) 0 ++ (alone 16 ++ (alone 16 ++ (alone 0 ++ alone 16))))
    ∷ (answered_by yes crowded, replicate (8 * 3) 0 ++ (alone 16 ++ (alone 0 ++ (alone 0 ++ alone 0))))
    ∷ (owned_by no interleaved, own_told owned_no)
    ∷ (owned_by yes crowded, own_told owned_yes)
    ∷ (left_by [], figures_told (figures 0 0 0) ++ replicate (32 * 4) 0)
    ∷ (left_by (Enter (slave yes 0x2010 3 4) ∷ Enter (slave no 0x2010 1 2) ∷ []), figures_told (figures 1 1 2) ++ table_told (slaves ((0, slave yes 0x2010 3 4) ∷ (1, slave no 0x2010 1 2) ∷ [])))
    ∷ (left_by (Enter (slave yes 0x2010 3 4) ∷ Enter (slave no 0x2010 1 2) ∷ Find no 0x2010 ∷ Change no 0x2010 0x2011 ∷ Remove yes 0x2011 ∷ Remove yes 0x2010 ∷ []), figures_told (figures 1 0 0) ++ table_told (slaves ((1, slave no 0x2011 1 2) ∷ [])))
    ∷ (left_by interleaved, figures_told (figures 0 1 0) ++ table_told (slaves ((1, slave yes 0x2011 3 4) ∷ [])))
    ∷ (left_from (figures 7 9 5) shared (Find no 0x2010 ∷ []), figures_told (figures 7 9 5) ++ table_told shared)
    ∷ (left_from (figures 7 9 5) shared (Change no 0x2010 0x2012 ∷ []), figures_told (figures 7 9 5) ++ table_told (set shared 5 (slave no 0x2012 50 51)))
    ∷ (left_from (figures 2 2 3) shared (Enter (slave no 0x2012 3 4) ∷ []), figures_told (figures 3 2 6) ++ table_told (set shared 4 (slave no 0x2012 3 4)))
    ∷ (left_from (figures 5 6 6) shared (Remove no 0x2010 ∷ []), figures_told (figures 4 6 5) ++ table_told (set shared 5 (slave no 0 0 0)))
    ∷ (left_from (figures 4 0 0) twice (Remove no 0x2010 ∷ []), figures_told (figures 3 0 0) ++ table_told (set twice 3 (slave no 0 0 0)))
    ∷ (answered_from no (figures 24 0 0) (slaves []) (Enter (slave no 0x2010 1 2) ∷ []), alone 16)
    ∷ (left_by crowded, figures_told (figures 23 9 32) ++ table_told (set (set (holding 24 8) 24 (slave yes 0x2200 3 4)) 0 (slave yes 0x2201 3 4)))
    ∷ []

abbrev pub kept_figures : List Row
kept_figures = counts ++ (true_figures ++ (refusals ++ (false_figures ++ (checks ++ histories))))
