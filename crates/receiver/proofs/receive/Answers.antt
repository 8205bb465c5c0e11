-- `receiver::receive` meets its contract, by the room and the count. Assumes nothing.
use Prim.Native.Nat.{ℕ, ◌+◌, ◌^◌, ◌<◌}
use native.Mathlib.Omega.{arith}
use mathlib.Core.Path.{◌≡◌}
use mathlib.Core.Bool.{true, false}
use lib.ListN.{length}
use Rattle.std.specs.Prelude.{Option, Some, None, SomeIff, is_some}
use Rattle.receiver.proofs.Answers.{refusal-room, refusal-count, refusal-none, refused_all, accepted-all}
use Rattle.receiver.proofs.receive.Goals as goal

-- a sum that is checked is there exactly if it is small enough
is-small : (P : Type 0) (v : ℕ) (sum : Option ℕ) → SomeIff sum P v → is_some sum ≡ true → P
is-small P v None told e = absurd cc
is-small P v (Some x) told e = told.0

is-large : (P : Type 0) (v : ℕ) (sum : Option ℕ) → SomeIff sum P v → is_some sum ≡ false → P → ⊥
is-large P v None told e small = told small
is-large P v (Some x) told e small = absurd cc

pub returns-then-out-lt-LONGEST_PAYLOAD : goal.returns-then-out-lt-LONGEST_PAYLOAD
returns-then-out-lt-LONGEST_PAYLOAD c =
    let args = c.args in
    let number = refusal-room args.receiver args.chunk.now (length args.out.now) (omega arith) in
    let called = refused_all args.receiver args.memory.now args.chunk.now args.out.now 5 (omega arith) number in
    rw c.refused.ensures (record { value = called.answers; out_after = called.output; remembered = called.remembers })

pub returns-then-is_none : goal.returns-then-is_none
returns-then-is_none c =
    let args = c.args in
    let past : (args.receiver.position + length args.chunk.now < 2 ^ 64) → ⊥ = is-large _ _ _ c.checked_add.ensures c.if-is_none.ensures in
    let number = refusal-count args.receiver args.chunk.now (length args.out.now) (omega arith) (omega arith) in
    let called = refused_all args.receiver args.memory.now args.chunk.now args.out.now 12 (omega arith) number in
    rw c.refused-then-is_none.ensures (record { value = called.answers; out_after = called.output; remembered = called.remembers })

pub returns : goal.returns
returns c =
    let args = c.args in
    let feed = c.feed in
    let within : args.receiver.position + length args.chunk.now < 2 ^ 64 = is-small _ _ _ c.checked_add.ensures c.if-is_none.ensures in
    let number = refusal-none args.receiver args.chunk.now (length args.out.now) (omega arith) within in
    let called = accepted-all args.receiver args.memory.now args.chunk.now args.out.now feed.result feed.new.out feed.new.memory number feed.ensures.value feed.ensures.out_after feed.ensures.memory_after in
    record { value = called.answers; out_after = called.output; remembered = called.remembers }
