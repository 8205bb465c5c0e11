-- `stream::next_sync` meets its contract: the first sync byte of what is left is the next. Assumes nothing.
use native.Mathlib.Omega.{arith}
use Rattle.std.proofs.Common.{rules}
use mathlib.Core.Path.{sym}
use Rattle.basics.proofs.Over.{part}
use Rattle.stream.proofs.Syncs.{sync-end, sync-by-match}
use Rattle.stream.proofs.next_sync.Goals as goal

pub returns-then-input-start : goal.returns-then-input-start
returns-then-input-start c = sym (sync-end _ _ (omega arith))

pub returns : goal.returns
returns c = sync-by-match _ c.args.start _ c.first_sync.result (omega arith) (rw part at c.first_sync.ensures) c.map_or.ensures (λ behind q. search rules)
