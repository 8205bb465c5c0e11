-- `write::frames` meets its contract: after i turns the output begins with i frames. Assumes nothing.
use mathlib.Core.Path.{◌≡◌, refl, ap, ◌∙◌, sym}
use mathlib.Core.List.{List, []}
use Prim.Native.Nat.{ℕ, ◌+◌, ◌-◌, ◌*◌, ◌≤◌}
use native.Mathlib.Numerals.{add-one}
use native.Mathlib.Omega.{arith}
use native.Mathlib.Nat.{mul-le-mul_left}
use lib.ListN.{length, take, drop}
use Rattle.basics.specs.Bytes.{over}
use Rattle.basics.proofs.Over.{lent}
use Rattle.record.specs.Record.{with_checksum, with_septet, framed}
use Rattle.record.proofs.StreamParts.{framed-more, framed-length}
use Rattle.record.proofs.write.frames.Goals as goal

pub loop-i-init : goal.loop-i-init
unfolding framed
loop-i-init c = refl

pub loop-i-preserved : goal.loop-i-preserved
loop-i-preserved c =
    let width = c.args.width in
    let i = c.loop-i.i in
    let payload = c.args.payload.now in
    let out = c.args.out.now in
    let done = framed width i [] payload in
    let frame = with_checksum (with_septet 0 (take width (drop (width * i) payload))) in
    let at = (width + 2) * i in
    let rest = take (length c.loop-i.out - at) (drop at c.loop-i.out) in
    let wide : width * (i + 1) - width * i ≡ width = omega arith in
    let below : i ≤ c.args.count = omega arith in
    let enough : width * i ≤ length payload = omega (arith, mul-le-mul_left width below) in
    lent done frame out c.loop-i.out c.frame.new.out _ (framed-length width i [] payload enough) c.loop-i.invariant
    (c.frame.ensures ∙ ap (λ (n : ℕ). over (with_checksum (with_septet 0 (take n (drop (width * i) payload)))) rest) wide)
    ∙ ap (λ (l : List ℕ). over l out) (rw add-one (sym (framed-more width i payload)))
