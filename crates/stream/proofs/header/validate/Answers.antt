-- `stream::header::validate` meets its contract: the kind that the version names is the stream's. Assumes nothing.
use native.Mathlib.Omega.{arith}
use mathlib.Core.Path.{sym}
use Rattle.stream.proofs.Headers.{version-unknown}
use Rattle.stream.proofs.Reached.{told-fault}
use Rattle.stream.proofs.header.validate.Goals as goal

pub returns-in-Unknown : goal.returns-in-Unknown
returns-in-Unknown c = rw (c.at.ensures.verdict, c.at.ensures.offset) (told-fault _ (version-unknown _ c.requires (sym c.in-Unknown.ensures)) (λ e. omega arith))
