-- Every refusal has a number above 0, which no other has.
use Prim.Native.Nat.{ℕ, ◌<◌}
use native.Mathlib.Omega.{arith}
use mathlib.Core.Path.{◌≡◌, refl, sym, ap, ◌∙◌}
use mathlib.Core.List.{List, [], ◌∷◌}
use lib.ListN.{get_or}
use Rattle.std.specs.Prelude.{Result, Ok, Err}
use Rattle.basics.specs.Refusal.{number, number_in}
use Rattle.basics.specs.declared.refusal.Refusal.{Refusal}
use Rattle.basics.specs.declared.refusal.Refusal.TheVariants.{UnknownVersion, HighAddress, HighCommand, WrongLength, OutputTooShort, StartPastEnd, WrongSeptetBlock, NotBlockPacket, SectionPastEnd, NoSuchPart, UnknownSectionType, PositionOverflow, PartialElement, NotSlaveAddress, AddressTaken, TableFull, NoSuchAddress, NotSlaveId, WrongSettings, SenderBusy, WrongTableLength, QueueTooLong}

pub number-positive : (refusal : Refusal) → 0 < number refusal
number-positive UnknownVersion = omega arith
number-positive HighAddress = omega arith
number-positive HighCommand = omega arith
number-positive WrongLength = omega arith
number-positive OutputTooShort = omega arith
number-positive StartPastEnd = omega arith
number-positive WrongSeptetBlock = omega arith
number-positive NotBlockPacket = omega arith
number-positive SectionPastEnd = omega arith
number-positive NoSuchPart = omega arith
number-positive UnknownSectionType = omega arith
number-positive PositionOverflow = omega arith
number-positive PartialElement = omega arith
number-positive NotSlaveAddress = omega arith
number-positive AddressTaken = omega arith
number-positive TableFull = omega arith
number-positive NoSuchAddress = omega arith
number-positive NotSlaveId = omega arith
number-positive WrongSettings = omega arith
number-positive SenderBusy = omega arith
number-positive WrongTableLength = omega arith
number-positive QueueTooLong = omega arith

-- the refusal of each number; where none has it, another stands
refusals : List Refusal
refusals =
    UnknownVersion
    ∷ UnknownVersion
    ∷ HighAddress
    ∷ HighCommand
    ∷ WrongLength
    ∷ OutputTooShort
    ∷ StartPastEnd
    ∷ WrongSeptetBlock
    ∷ NotBlockPacket
    ∷ SectionPastEnd
    ∷ NoSuchPart
    ∷ UnknownSectionType
    ∷ PositionOverflow
    ∷ PartialElement
    ∷ NotSlaveAddress
    ∷ AddressTaken
    ∷ TableFull
    ∷ NoSuchAddress
    ∷ NotSlaveId
    ∷ WrongSettings
    ∷ SenderBusy
    ∷ UnknownVersion
    ∷ UnknownVersion
    ∷ UnknownVersion
    ∷ WrongTableLength
    ∷ QueueTooLong
    ∷ []

refusal_of : ℕ → Refusal
refusal_of n = get_or refusals n UnknownVersion

refusal_of-number : (refusal : Refusal) → refusal_of (number refusal) ≡ refusal
unfolding refusal_of refusals
refusal_of-number UnknownVersion = refl
refusal_of-number HighAddress = refl
refusal_of-number HighCommand = refl
refusal_of-number WrongLength = refl
refusal_of-number OutputTooShort = refl
refusal_of-number StartPastEnd = refl
refusal_of-number WrongSeptetBlock = refl
refusal_of-number NotBlockPacket = refl
refusal_of-number SectionPastEnd = refl
refusal_of-number NoSuchPart = refl
refusal_of-number UnknownSectionType = refl
refusal_of-number PositionOverflow = refl
refusal_of-number PartialElement = refl
refusal_of-number NotSlaveAddress = refl
refusal_of-number AddressTaken = refl
refusal_of-number TableFull = refl
refusal_of-number NoSuchAddress = refl
refusal_of-number NotSlaveId = refl
refusal_of-number WrongSettings = refl
refusal_of-number SenderBusy = refl
refusal_of-number WrongTableLength = refl
refusal_of-number QueueTooLong = refl

pub number-injective : (a b : Refusal) → number a ≡ number b → a ≡ b
number-injective a b e = sym (refusal_of-number a) ∙ ap refusal_of e ∙ refusal_of-number b

-- so the number fixes the answer of a check
pub number_in-injective : (a b : Result (Unit {0}) Refusal) → number_in a ≡ number_in b → a ≡ b
number_in-injective (Ok x) (Ok y) e = refl
number_in-injective (Ok x) (Err b) e = absurd (omega (arith, number-positive b, e))
number_in-injective (Err a) (Ok y) e = absurd (omega (arith, number-positive a, e))
number_in-injective (Err a) (Err b) e = ap Err (number-injective a b e)
