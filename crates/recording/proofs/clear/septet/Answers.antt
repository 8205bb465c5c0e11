-- `clear::septet` meets its contract: two stores, the septet and the checksum behind it. Assumes nothing.
use Rattle.recording.proofs.Clearing.{cleared-set}
use Rattle.recording.proofs.clear.septet.Goals as goal

pub returns : goal.returns
returns c = cleared-set _ _ c.requires.1 _ _ c.checksum.ensures
