-- Why a 0xAA gave no record (request No. 4): the faults of a recording.
use Rattle.std.specs.Prelude.{ℕ, suc, Bool, true, false, not, ◌&&◌, ◌||◌, List, [], ◌∷◌, eqb, get_or, drop}
use Rattle.basics.specs.Choice.{choose}
use Rattle.stream.specs.Layout.{kind}
use Rattle.stream.specs.Validation.{rule_at, sum_at, validation_of, is_whole}
use Rattle.diagnosis.specs.declared.Fault.{Fault}

-- a 0xAA that gave no record: the stretch from it on isn't V0
abbrev pub is_fault : List ℕ → Bool
is_fault s = eqb (get_or s 0 0) 0xAA && not (is_whole s)

-- "byte found": at V7 the input has ended, and there is none
abbrev pub has_byte_of : ℕ → Bool
has_byte_of verdict = not (eqb verdict 7)

-- "for V4 and V6, byte wanted"
abbrev pub has_wanted_of : ℕ → Bool
has_wanted_of verdict = eqb verdict 4 || eqb verdict 6

-- the byte wanted at offset k: the checksum that the rule there asks for
unfoldable pub wanted_at : List ℕ → ℕ → ℕ → ℕ
wanted_at s verdict k = choose (has_wanted_of verdict) (sum_at (rule_at (kind s) k) s k) 0

-- what is told of a stretch s that stands from place q on, by the verdict on it and its offset: "place, verdict, offset, byte found and, for
-- V4 and V6, byte wanted"
abbrev pub fault_by : ℕ → List ℕ → ℕ → ℕ → Fault
fault_by q s v k =
    record {
      found = true;
      place = q;
      verdict = v;
      offset = k;
      has_byte = has_byte_of v;
      byte = get_or s k 0;
      has_wanted = has_wanted_of v;
      wanted = wanted_at s v k;
    }

abbrev pub fault_of : ℕ → List ℕ → Fault
fault_of q s = fault_by q s (validation_of s).verdict (validation_of s).offset

-- the faults of bytes that stand from place q on: "for each 0xAA that gave no record, in order of place"
unfoldable pub faults_from : ℕ → List ℕ → List Fault
faults_from q [] = []
faults_from q (byte ∷ rest) =
    choose (is_fault (byte ∷ rest)) (fault_of q (byte ∷ rest) ∷ faults_from (suc q) rest) (faults_from (suc q) rest)

-- the faults of a recording
abbrev pub faults : List ℕ → List Fault
faults s = faults_from 0 s

-- those at or after a starting place
abbrev pub faults_after : List ℕ → ℕ → List Fault
faults_after s start = faults_from start (drop start s)

-- no fault: all is zero
abbrev pub none : Fault
none =
    record {
      found = false;
      place = 0;
      verdict = 0;
      offset = 0;
      has_byte = false;
      byte = 0;
      has_wanted = false;
      wanted = 0;
    }

abbrev pub first_of : List Fault → Fault
first_of [] = none
first_of (f ∷ rest) = f

-- what is answered from a starting place on: the first fault there, or none
unfoldable pub next_fault : List ℕ → ℕ → Fault
next_fault s start = first_of (faults_after s start)
