-- What the private functions under `receive` promise. No public contract cites this file.
use Rattle.std.specs.Prelude.{ℕ, ◌≤◌, ◌<◌, ◌≡◌, List, take}
use Rattle.stream.specs.Layout.{stream_length}
use Rattle.recording.specs.declared.Found.{Found}
use Rattle.receiver.specs.Holding.{extended}
use Rattle.receiver.specs.Receive.{held_in}
use Rattle.receiver.specs.declared.Receiver.{Receiver}
use Rattle.receiver.specs.declared.buffer.Unfinished.{Unfinished}

-- the first bytes of the memory are held, an unfinished stream of which it is known that it has no fewer than `least` bytes
pub record Holds (memory : List ℕ) (u : Unfinished) : Type 0 where
  pub short : u.held < u.least
  pub announced : u.least ≤ stream_length (take u.held memory)
  pub most : stream_length (take u.held memory) ≤ 772

-- the bytes that it holds are those that a state holds, no more than were used
pub record Restored (receiver : Receiver) (memory : List ℕ) (u : Unfinished) : Type 0 where
  pub holding : Holds memory u
  pub bytes : take u.held memory ≡ held_in receiver memory
  pub counted : u.held ≤ receiver.position

-- what a byte did to the held bytes h: with it they are unfinished, or as long as they announce
pub data TookByte (h : List ℕ) (byte : ℕ) (after : List ℕ) (u : Unfinished) : Type 0 where
  unfinished : Holds after u → take u.held after ≡ extended h byte → TookByte h byte after u
  full : u.held ≡ u.least → u.held ≤ 772 → take u.held after ≡ extended h byte → stream_length (extended h byte) ≡ u.held → TookByte h byte after u

-- what was found, at another position
abbrev pub found_at : ℕ → Found → Found
found_at position f =
    record { number = f.number; found = f.found; position = position; length = f.length; header = f.header; payload_length = f.payload_length }
