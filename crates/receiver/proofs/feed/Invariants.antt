-- The loop of `receiver::feed`: what is to come of the bytes from here on is what was to come of all of them.
use Rattle.receiver.specs.Receive.{held_in}
use Rattle.receiver.proofs.Looping.{FeedAt}
use Rattle.receiver.proofs.feed.Given as goal

abbrev pub invariant-loop-index : goal.invariant-loop-index
invariant-loop-index l =
    FeedAt l.receiver.position (held_in l.receiver l.initial.memory) l.chunk l.initial.out l.memory l.out l.state l.index
