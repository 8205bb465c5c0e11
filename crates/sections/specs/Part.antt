-- A part of the caller's payload that is shown, and no copy.
use Rattle.std.specs.Prelude.{ℕ, ◌+◌, ◌≡◌, List}
use Rattle.std.specs.Borrow.{Bor}
use Rattle.sections.specs.declared.Part.{Part}
use Rattle.sections.specs.declared.Shown.{Shown}

-- a part that has these bytes, and stands in the payload's own memory, from start on
pub record StandsAt (payload : Bor (List ℕ)) (start : ℕ) (bytes : List ℕ) (part : Bor (List ℕ)) : Type 0 where
  pub holds : part.now ≡ bytes
  pub stands : part.ref_ptr ≡ (payload.ref_ptr.0, start + payload.ref_ptr.1)

-- an answer that has the number of what was found, and shows these bytes where it was found
pub record Shows (payload : Bor (List ℕ)) (found : Part) (bytes : List ℕ) (answer : Shown) : Type 0 where
  pub numbered : answer.number ≡ found.number
  pub shown : StandsAt payload found.start bytes answer.part
