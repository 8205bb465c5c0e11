-- What the private functions under `next_fault` promise. No public contract cites this file.
use Rattle.std.specs.Prelude.{ℕ, List, Option, None, Some}
use Rattle.basics.specs.Choice.{choose}
use Rattle.stream.specs.Validation.{number}
use Rattle.stream.specs.declared.stop.Stop.{Stop}
use Rattle.diagnosis.specs.Fault.{has_wanted_of, wanted_at}

-- the byte wanted where a stretch first goes wrong, if one is
abbrev pub byte_wanted : List ℕ → Stop → Option ℕ
byte_wanted s stop = choose (has_wanted_of (number stop.verdict)) (Some (wanted_at s (number stop.verdict) stop.offset)) None
