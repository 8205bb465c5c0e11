-- `stream::frame::fault` meets its contract: what isn't right in a frame of low bytes is its checksum. Assumes nothing.
use Rattle.stream.proofs.Frames.{frame-stops, frame-sum, frame-whole}
use Rattle.stream.proofs.frame.fault.Goals as goal

pub returns-in-Err : goal.returns-in-Err
returns-in-Err c = frame-stops c.args.width c.in-Err.ensures

pub returns-in-Ok : goal.returns-in-Ok
returns-in-Ok c =
    rw (c.at.ensures.verdict, c.at.ensures.offset)
    (frame-sum c.args.width c.in-Ok.ensures (λ sum. c.requires.1 (frame-whole c.args.width c.in-Ok.ensures sum)))
