-- `write::hex_bytes` meets its contract: after i turns the digits of i bytes stand at the start. Assumes nothing.
use Prim.Native.Nat.{ℕ, ◌-◌, ◌*◌, ◌<◌}
use native.Mathlib.Omega.{arith}
use native.Mathlib.Numerals.{add-one}
use mathlib.Core.Path.{◌≡◌, refl, ap, ◌∙◌}
use mathlib.Core.List.{List}
use lib.ListN.{length, take, drop, get_or}
use lib.Seq.{length-take-le}
use Rattle.basics.specs.Bytes.{over}
use Rattle.basics.proofs.Over.{lent, all-written}
use Rattle.text.specs.Hex.{hex_byte}
use Rattle.listing.specs.Line.{hex_bytes}
use Rattle.listing.proofs.Lines.{length-bytes_hex, bytes_hex-take}
use Rattle.listing.proofs.write.hex_bytes.Goals as goal

pub loop-i-init : goal.loop-i-init
unfolding hex_bytes
loop-i-init c = refl

pub loop-i-preserved : goal.loop-i-preserved
loop-i-preserved c =
    let loop = c.loop-i in
    let out = c.args.out.now in
    let bytes = c.args.bytes.now in
    let inside : loop.i < length bytes = omega arith in
    let done = hex_bytes (take loop.i bytes) in
    let part = take (length loop.out - 2 * loop.i) (drop (2 * loop.i) loop.out) in
    let passed : length done ≡ 2 * loop.i = length-bytes_hex (take loop.i bytes) ∙ rw (length-take-le loop.i bytes (omega arith)) in
    rw (add-one, bytes_hex-take bytes loop.i inside)
    (lent done (hex_byte (get_or bytes loop.i 0)) out loop.out c.copy.new.out (2 * loop.i) passed
    loop.invariant (all-written _ part _ c.copy.ensures.out_after (omega arith) ∙ ap (λ (l : List ℕ). over l part) c.hex_byte.ensures))
