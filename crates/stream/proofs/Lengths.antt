-- Laws of the length that a stream announces, as bytes are added: it grows, and is settled before the stream is that long.
use Prim.Native.Nat.{ℕ, ◌<◌, ◌≤◌}
use native.Mathlib.Omega.{arith}
use native.Mathlib.Decide.{dec_lt, ℕ_discrete}
use mathlib.Core.Path.{◌≡◌, refl, ap}
use mathlib.Core.Logic.{dite}
use mathlib.Core.List.{List, [], ◌∷◌, ◌++◌}
use lib.ListN.{length, get_or, length-append, get_or-append, get_or-eq_default}
use lib.Seq.{get_or-append_seam}
use Rattle.basics.specs.Choice.{choose}
use Rattle.stream.specs.Layout.{kind_of, kind, header_length, frame_width, frame_count, length_as, stream_length}
use Rattle.stream.specs.declared.Kind.{Kind}
use Rattle.stream.specs.declared.Kind.TheVariants.{Packet, Datagram, Telegram, Unknown}
use Rattle.stream.proofs.Headers.{at-least-six}

-- before the version is there, six bytes are announced
pub length-early : (s : List ℕ) → length s < 6 → stream_length s ≡ 6
unfolding stream_length kind_of choose header_length frame_width frame_count
length-early s early = rw (get_or-eq_default s 0 {n = 5} (omega arith))

module _ (s t : List ℕ) where
  kind-append : 6 ≤ length s → kind (s ++ t) ≡ kind s
  kind-append long = ap kind_of (get_or-append s t 0 5 (omega arith))

  as-append : (K : Kind) → length_as K s ≤ length s → length_as K (s ++ t) ≡ length_as K s
  unfolding header_length frame_width frame_count
  as-append Packet held = rw (get_or-append s t 0 8 (omega arith))
  as-append Datagram held = refl
  as-append Telegram held = rw (get_or-append s t 0 6 (omega arith))
  as-append Unknown held = refl

  -- a stream that is as long as it announces announces the same, whatever follows it
  pub length-settled : stream_length s ≤ length s → stream_length (s ++ t) ≡ stream_length s
  unfolding stream_length
  length-settled held =
      let long : 6 ≤ length s = omega (arith, at-least-six s) in
      rw (kind-append long) (as-append (kind s) held)

  as-grows : (K : Kind) → length_as K s ≤ length_as K (s ++ t)
  unfolding header_length frame_width frame_count
  as-grows Packet =
      dite (dec_lt 8 (length s)) (λ there. omega (arith, get_or-append s t 0 8 there)) (λ before. omega (arith, get_or-eq_default s 0 {n = 8} (omega arith)))
  as-grows Datagram = omega arith
  as-grows Telegram =
      dite (dec_lt 6 (length s)) (λ there. omega (arith, get_or-append s t 0 6 there)) (λ before. omega (arith, get_or-eq_default s 0 {n = 6} (omega arith)))
  as-grows Unknown = omega arith

  -- with whatever follows, it announces no less
  pub length-grows : stream_length s ≤ stream_length (s ++ t)
  unfolding stream_length
  length-grows =
      dite (dec_lt (length s) 6)
      (λ early. omega (arith, length-early s early, at-least-six (s ++ t)))
      (λ late. rw (kind-append (omega arith)) (as-grows (kind s)))

-- ── one low byte more

pub as-low : (K : Kind) (s : List ℕ) → get_or s 8 0 < 0x80 → length_as K s ≤ 772
unfolding header_length frame_width frame_count
as-low Packet s low = omega arith
as-low Datagram s low = omega arith
as-low Telegram s low = omega arith
as-low Unknown s low = omega arith

module _ (s : List ℕ) (byte : ℕ) (low : byte < 0x80) where
  abbrev longer : List ℕ
  longer = s ++ (byte ∷ [])

  count_next : get_or s 8 0 < 0x80 → get_or longer 8 0 < 0x80
  count_next before =
      dite (dec_lt 8 (length s))
      (λ there. rw (get_or-append s (byte ∷ []) 0 8 there) before)
      (λ early. dite (ℕ_discrete (length s) 8)
      (λ here. rw (← here, get_or-append_seam s byte [] 0) low)
      (λ short. rw (get_or-eq_default longer 0 {n = 8} (omega (arith, length-append s (byte ∷ [])))) (omega arith)))

  as-next : (K : Kind) → length_as K s ≤ 772 → length_as K longer ≤ 772
  unfolding header_length frame_width frame_count
  as-next Packet most = omega (arith, count_next (omega arith))
  as-next Datagram most = omega arith
  as-next Telegram most = omega arith
  as-next Unknown most = omega arith

  -- only byte 8 can announce more than 772, and only if it isn't low
  pub length-next : stream_length s ≤ 772 → stream_length longer ≤ 772
  unfolding stream_length
  length-next most =
      dite (dec_lt (length s) 6)
      (λ early. as-low (kind longer) longer (count_next (rw (get_or-eq_default s 0 {n = 8} (omega arith)) (omega arith))))
      (λ late. rw (kind-append s (byte ∷ []) (omega arith)) (as-next (kind s) most))
