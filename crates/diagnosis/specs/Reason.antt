-- What it means that a fault's reason is true (request No. 4), and that the faults are those of the 0xAA that gave no record.
use Rattle.std.specs.Prelude.{ℕ, suc, ◌+◌, Bool, true, false, ◌||◌, ◌≡◌, ◌≢◌, ◌↔◌, ◌⊎◌, List, [], ◌∷◌, ◌++◌, eqb, length, take, drop}
use Rattle.basics.specs.Choice.{choose}
use Rattle.stream.specs.Validation.{validation_of}
use Rattle.recording.specs.Recording.{Delivery}
use Rattle.diagnosis.specs.declared.Fault.{Fault}
use Rattle.diagnosis.specs.Fault.{next_fault}

-- what an answer tells of the stretch from its place on: the verdict on it with its offset, "byte found" but for V7, "and, for V4 and V6,
-- byte wanted"
pub record VerdictTold (s : List ℕ) (f : Fault) : Type 0 where
  pub verdict : f.verdict ≡ (validation_of (drop f.place s)).verdict
  pub offset : f.offset ≡ (validation_of (drop f.place s)).offset
  pub names-byte : (f.has_byte ≡ true) ↔ (f.verdict ≢ 7)
  pub names-wanted : (f.has_wanted ≡ true) ↔ ((f.verdict ≡ 4) ⊎ (f.verdict ≡ 6))

-- one valid stream, and nothing behind it
pub record IsStream (s : List ℕ) : Type 0 where
  pub whole : (validation_of s).verdict ≡ 0
  pub ends : (validation_of s).offset ≡ length s

-- "could still have grown into a valid stream": some bytes behind these make one
abbrev pub CanGrow : List ℕ → Type 0
CanGrow p = (t : List ℕ) × IsStream (p ++ t)

-- the bytes of the stretch from a fault's place on, as far as its offset
abbrev pub before : List ℕ → Fault → List ℕ
before s f = take f.offset (drop f.place s)

-- "The reason must be true": the bytes before the offset could still have grown into a valid stream, and with the named byte, which stands
-- there, no longer can; where none is named, the recording ends at the offset, so that they are all that there are
pub record ReasonTrue (s : List ℕ) (f : Fault) : Type 0 where
  pub grows : CanGrow (before s f)
  pub stands : f.has_byte ≡ true → take (f.offset + 1) (drop f.place s) ≡ before s f ++ (f.byte ∷ [])
  pub stops : f.has_byte ≡ true → CanGrow (before s f ++ (f.byte ∷ [])) → ⊥
  pub ends : f.has_byte ≡ false → f.place + f.offset ≡ length s

-- with the byte wanted in place of the one found they still can, and with no other
pub record WantedRight (s : List ℕ) (f : Fault) : Type 0 where
  pub grows : CanGrow (before s f ++ (f.wanted ∷ []))
  pub only : (byte : ℕ) → CanGrow (before s f ++ (byte ∷ [])) → byte ≡ f.wanted

-- the answers that are had by asking from a place on, and again one place behind each fault, until there is none
pub data Asked (s : List ℕ) : ℕ → List Fault → Type 0 where
  ended : (start : ℕ) → (next_fault s start).found ≡ false → Asked s start []
  again : (start : ℕ) (rest : List Fault) → (next_fault s start).found ≡ true → Asked s ((next_fault s start).place + 1) rest → Asked s start (next_fault s start ∷ rest)

-- the places that hold a 0xAA, of bytes that stand from place q on
unfoldable pub sync_places_from : ℕ → List ℕ → List ℕ
sync_places_from q [] = []
sync_places_from q (byte ∷ rest) = choose (eqb byte 0xAA) (q ∷ sync_places_from (suc q) rest) (sync_places_from (suc q) rest)

abbrev pub is_in : ℕ → List ℕ → Bool
is_in x [] = false
is_in x (y ∷ rest) = eqb x y || is_in x rest

-- a list without the numbers that another has
unfoldable pub without : List ℕ → List ℕ → List ℕ
without gone [] = []
without gone (x ∷ rest) = choose (is_in x gone) (without gone rest) (x ∷ without gone rest)

-- the places of faults, and the positions of deliveries
abbrev pub fault_places : List Fault → List ℕ
fault_places [] = []
fault_places (f ∷ rest) = f.place ∷ fault_places rest

abbrev pub delivery_positions : List Delivery → List ℕ
delivery_positions [] = []
delivery_positions (d ∷ rest) = d.position ∷ delivery_positions rest
