-- `write::frame` meets its contract. Assumes nothing.
use Prim.Native.Nat.{◌+◌}
use lib.ListN.{length}
use Rattle.record.specs.Record.{with_septet}
use Rattle.record.proofs.StreamParts.{length-with_septet, summed}
use Rattle.record.proofs.write.frame.Goals as goal

pub returns : goal.returns
returns c =
    let payload = c.args.payload.now in
    summed (with_septet 0 payload) c.args.out.now c.block.new.out c.sum.new.out
    (length payload + 1) (length-with_septet 0 payload) c.block.ensures c.sum.ensures
