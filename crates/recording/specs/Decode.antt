-- The record that a stretch begins with, with document 01's refusal 5.
use Rattle.std.specs.Prelude.{ℕ, List, [], ◌∷◌, eqb}
use Rattle.basics.specs.Choice.{choose}
use Rattle.basics.specs.Output.{room_refusal, output_for}
use Rattle.stream.specs.Validation.{is_whole}
use Rattle.recording.specs.Next.{without, first_of, payload_of}
use Rattle.recording.specs.Recording.{Delivery, delivery_at}
use Rattle.recording.specs.declared.Found.{Found}

-- the delivery of a stretch that stands at position q and is V0, or none
unfoldable pub beginning : ℕ → List ℕ → List Delivery
beginning q s = choose (is_whole s) (delivery_at q s ∷ []) []

-- what is answered for an output of the given room; 5: it is shorter than the payload
abbrev pub decoded_of : List ℕ → ℕ → Found
decoded_of s room =
    choose (eqb (room_refusal (payload_of (beginning 0 s)) room) 0) (first_of (beginning 0 s)) (without (room_refusal (payload_of (beginning 0 s)) room))

-- the output afterwards
abbrev pub decoded_after : List ℕ → List ℕ → List ℕ
decoded_after s out = output_for (payload_of (beginning 0 s)) out
