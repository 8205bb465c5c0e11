-- `receiver::feed` meets its contract: what is to come of the bytes from here on is what was to come of all of them. Assumes nothing.
use native.Mathlib.Omega.{arith}
use mathlib.Core.Path.{◌≡◌, ap}
use lib.ListN.{length}
use Rattle.receiver.proofs.Looping.{feed-on, feed-faulty, feed-by-length, feed-ends, full-counted, found-long}
use Rattle.receiver.proofs.feed.Goals as goal
use Rattle.receiver.proofs.feed.Goals.{then-state+else-found, else-state}

pub delivered-requires : goal.delivered-requires
delivered-requires c =
    let decode = c.decode-found in
    let took = c.take_byte-state in
    let loop = c.loop-index in
    let counted = full-counted loop.invariant (omega arith) took.new.memory (omega arith) took.result took.ensures c.if-state.true in
    let long = found-long loop.invariant (omega arith) took.new.memory (omega arith) took.result took.ensures c.if-state.true (omega (arith, c.requires.0, ap length loop.invariant.output)) decode.result decode.new.out decode.ensures.value decode.ensures.out_after c.if-found.true in
    omega arith

pub returns-then-found : goal.returns-then-found
returns-then-found c =
    let decode = c.decode-found in
    let took = c.take_byte-state in
    let loop = c.loop-index in
    let (value, (out_after, memory_after)) =
    feed-by-length loop.invariant (omega arith) took.new.memory (omega arith) took.result took.ensures c.if-state.true (omega (arith, c.requires.0, ap length loop.invariant.output)) decode.result decode.new.out decode.ensures.value decode.ensures.out_after c.if-found.true in
    rw c.delivered.ensures (record { value = value; out_after = out_after; memory_after = memory_after })

pub loop-index-preserved : goal.loop-index-preserved
loop-index-preserved c =
    let loop = c.loop-index in
    let took = c.take_byte-state in
    elim c.if-state.branch [
      | then-state+else-found w ↦
          let decode = w.decode-found in
          rw (w.out-is, w.state-is, w.nothing-state.ensures)
          (feed-faulty loop.invariant (omega arith) took.new.memory (omega arith) took.result took.ensures w.if-state.true (omega (arith, c.requires.0, ap length loop.invariant.output)) decode.result decode.new.out decode.ensures.value decode.ensures.out_after w.if-found.false)
      | else-state w ↦
          rw (w.out-is, w.state-is)
          (feed-on loop.invariant (omega arith) took.new.memory (omega arith) took.result took.ensures w.if-state.false)
    ]

pub returns : goal.returns
returns c =
    let end : c.loop-index.index ≡ length c.args.chunk.now = omega arith in
    let (value, (out_after, memory_after)) = feed-ends c.loop-index.invariant end in
    rw (c.unfound.ensures, ← end) (record { value = value; out_after = out_after; memory_after = memory_after })
