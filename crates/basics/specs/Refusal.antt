-- The refusals of documents 01 and 02, by their numbers.
use Rattle.std.specs.Prelude.{ℕ, Result, Ok, Err}
use Rattle.basics.specs.declared.refusal.Refusal.{Refusal}
use Rattle.basics.specs.declared.refusal.Refusal.TheVariants.{UnknownVersion, HighAddress, HighCommand, WrongLength, OutputTooShort, StartPastEnd, WrongSeptetBlock, NotBlockPacket, SectionPastEnd, NoSuchPart, UnknownSectionType, PositionOverflow, PartialElement, NotSlaveAddress, AddressTaken, TableFull, NoSuchAddress, NotSlaveId, WrongSettings, SenderBusy, WrongTableLength, QueueTooLong}

abbrev pub number : Refusal → ℕ
number UnknownVersion = 1
number HighAddress = 2
number HighCommand = 3
number WrongLength = 4
number OutputTooShort = 5
number StartPastEnd = 6
number WrongSeptetBlock = 7
number NotBlockPacket = 8
number SectionPastEnd = 9
number NoSuchPart = 10
number UnknownSectionType = 11
number PositionOverflow = 12
number PartialElement = 13
number NotSlaveAddress = 14
number AddressTaken = 15
number TableFull = 16
number NoSuchAddress = 17
number NotSlaveId = 18
number WrongSettings = 19
number SenderBusy = 20
number WrongTableLength = 24
number QueueTooLong = 25

-- the number in an answer that may be a refusal, 0 if it is none
abbrev pub number_in : {T : Type 0} → Result T Refusal → ℕ
number_in (Ok x) = 0
number_in (Err refusal) = number refusal
