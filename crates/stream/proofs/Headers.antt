-- Laws of the header: its rules by the kind, and what a look at it has reached, at each place where it answers.
use Prim.Native.Nat.{ℕ, ◌+◌, ◌-◌, ◌≤◌, ◌<◌}
use native.Mathlib.Omega.{arith}
use native.Mathlib.Decide.{ℕ_discrete, dec_lt}
use native.Mathlib.Nat.{zero-add}
use mathlib.Core.Path.{◌≡◌, refl, ap, ◌∙◌, sym, subst⁻¹}
use mathlib.Core.Logic.{dite}
use mathlib.Core.List.{List}
use borrow.Author.Tests.{ne_eqb}
use lib.ListN.{length, get_or, take, drop}
use Rattle.basics.specs.Choice.{choose}
use Rattle.checksum.specs.Checksum.{checksum_of}
use Rattle.stream.specs.Layout.{kind, header_length, frame_width, frame_count, length_as, stream_length}
use Rattle.stream.specs.Validation.{any, header_sum, header_rule, rule_at, breach, fault_at}
use Rattle.stream.specs.Stage.{Clean, Reached, whole, ended, found, ReachedBy, LowUpTo, StopsAt, AddressClean, AddressCleanAs, ChecksumAt, FramesFrom, CountedFrom}
use Rattle.stream.specs.Unused.{unused_frames, count_nonzero, unused_septets_of}
use Rattle.stream.specs.declared.Kind.{Kind}
use Rattle.stream.specs.declared.Kind.TheVariants.{Packet, Datagram, Telegram, Unknown}
use Rattle.stream.specs.declared.stop.Stop.{Stop}
use Rattle.stream.proofs.Faults.{rule-header, rule-frame, fault-high, fault-low, breach-any, header_sum-right, header_sum-wrong, sync-right, sync-wrong, stop-reached}
use Rattle.stream.proofs.Reached.{through, bounded}

-- ── the rules of a kind

packet-any : (k : ℕ) → k < 9 → header_rule Packet k ≡ any
unfolding header_rule choose
packet-any k h = simp (ne_eqb k 9 (λ e. omega arith))

datagram-any : (k : ℕ) → k < 15 → header_rule Datagram k ≡ any
unfolding header_rule choose
datagram-any k h = simp (ne_eqb k 15 (λ e. omega arith))

telegram-any : (k : ℕ) → k < 7 → header_rule Telegram k ≡ any
unfolding header_rule choose
telegram-any k h = simp (ne_eqb k 7 (λ e. omega arith))

-- before the version any byte may stand
pub address-any : (K : Kind) (k : ℕ) → k < 5 → header_rule K k ≡ any
unfolding header_rule choose
address-any Packet k h = packet-any k (omega arith)
address-any Datagram k h = datagram-any k (omega arith)
address-any Telegram k h = telegram-any k (omega arith)
address-any Unknown k h = simp (ne_eqb k 5 (λ e. omega arith))

-- ── the length

pub length-as : (s : List ℕ) (K : Kind) → kind s ≡ K → stream_length s ≡ length_as K s
unfolding stream_length
length-as s K e = ap (λ (x : Kind). length_as x s) e

pub header_length-least : (K : Kind) → 5 < header_length K
unfolding header_length
header_length-least Packet = omega arith
header_length-least Datagram = omega arith
header_length-least Telegram = omega arith
header_length-least Unknown = omega arith

pub at-least-six : (s : List ℕ) → 6 ≤ stream_length s
at-least-six s = omega (arith, header_length-least (kind s), length-as s (kind s) refl)

-- ── what a look at the bytes behind the version reaches

-- the rules find nothing from the version to k
abbrev Kept : List ℕ → ℕ → Type 0
Kept s k = (i : ℕ) → 5 ≤ i → i < k → breach (rule_at (kind s) i) s i ≡ 0

-- one place more
kept_more : (s : List ℕ) (k : ℕ) → Kept s k → breach (rule_at (kind s) k) s k ≡ 0 → Kept s (k + 1)
kept_more s k kept here i after h =
    dite (ℕ_discrete i k)
    (λ e. subst⁻¹ (λ (n : ℕ). breach (rule_at (kind s) n) s n ≡ 0) e here)
    (λ ne. kept i after (omega arith))

module _ (s : List ℕ) (address : AddressClean s) {end : ℕ} (low : LowUpTo s 6 end) where
  clean-to : (k : ℕ) → k ≤ end → Kept s k → Clean (fault_at s) k
  clean-to k below kept i h =
      dite (dec_lt i 5)
      (λ early. address.clean i early)
      (λ late.
      fault-low s i (omega arith)
      (dite (ℕ_discrete i 5)
      (λ e. subst⁻¹ (λ (n : ℕ). get_or s n 0 < 0x80) e address.low)
      (λ ne. low.low i (omega arith) (omega arith)))
      ∙ kept i (omega arith) h)

-- ── a header with its checksum at `at`

module _ (s : List ℕ) (at : ℕ) (header : ChecksumAt s at) where
  kept_free : Kept s at
  kept_free i after h = breach-any _ s i (header.free i h)

  pub header-stops : {stop : Stop} → StopsAt s 6 (at + 1) stop → ReachedBy (fault_at s) (at + 1) (length s) stop
  header-stops {stop} stops =
      stop-reached stops (omega arith)
      (clean-to s header.address stops.before stop.offset (omega arith) (λ i after h. kept_free i after (omega (arith, stops.short))))
      (fault-high s stop.offset (omega (arith, stops.after)))

  module _ (low : LowUpTo s 6 (at + 1)) where
    pub header-wrong : (get_or s at 0 ≡ checksum_of (take (at - 1) (drop 1 s)) → ⊥) → Reached (fault_at s) (at + 1) (length s) 4 at
    header-wrong bad =
        found
        (fault-low s at (omega (arith, header.after)) (low.low at (omega arith) header.after) ∙ rw header.sum (header_sum-wrong (at - 1) s at bad))
        (omega arith)
        (clean-to s header.address low at (omega arith) kept_free)
        (omega arith)
        (omega (arith, low.within))

    pub header-right : get_or s at 0 ≡ checksum_of (take (at - 1) (drop 1 s)) → Reached (fault_at s) (at + 1) (length s) 0 (at + 1)
    header-right right =
        whole refl refl
        (clean-to s header.address low (at + 1) (omega arith) (kept_more s at kept_free (rw header.sum (header_sum-right (at - 1) s at right))))
        (omega (arith, low.within))

-- ── the header of each kind

-- the kind's header ends with its checksum at `at`, before which any byte may stand
pub record EndsAt (K : Kind) (at : ℕ) : Type 0 where
  pub ends : header_length K ≡ at + 1
  pub free : (i : ℕ) → i < at → header_rule K i ≡ any
  pub sum : header_rule K at ≡ header_sum (at - 1)

pub packet-ends : EndsAt Packet 9
unfolding header_length header_rule choose
packet-ends = record { ends = refl; free = packet-any; sum = refl }

pub datagram-ends : EndsAt Datagram 15
unfolding header_length header_rule choose
datagram-ends = record { ends = refl; free = datagram-any; sum = refl }

pub telegram-ends : EndsAt Telegram 7
unfolding header_length header_rule choose
telegram-ends = record { ends = refl; free = telegram-any; sum = refl }

module _ (K : Kind) (at : ℕ) (ends : EndsAt K at) (s : List ℕ) (sort : AddressCleanAs s K) where
  pub checksum-at : 6 ≤ at → at ≤ 15 → ChecksumAt s at
  checksum-at after near =
      record {
        address = sort.address;
        after = after;
        near = near;
        free = λ i h. rw sort.is (rule-header K i (omega (arith, ends.ends)) ∙ ends.free i h);
        sum = rw sort.is (rule-header K at (omega (arith, ends.ends)) ∙ ends.sum);
      }

  -- the header counts for no more than the stream
  pub header-within : at + 1 ≤ stream_length s
  header-within = omega (arith, ends.ends, length-as s K sort.is)

  frames-from : Reached (fault_at s) (at + 1) (length s) 0 (at + 1) → frame_width K ≤ 7 → FramesFrom s (at + 1) (frame_width K) (frame_count K s)
  frames-from reached narrow =
      record {
        there = omega (arith, bounded reached);
        clean = through reached (omega arith);
        after = omega arith;
        narrow = narrow;
        total = rw (← ends.ends) (length-as s K sort.is);
        rules = λ j i h. rw (sort.is, ← ends.ends) (rule-frame K j i h);
      }

  -- the first of them, with nothing counted yet
  pub counted-from : Reached (fault_at s) (at + 1) (length s) 0 (at + 1) → frame_width K ≤ 7 → frame_count K s < 256
      → count_nonzero (unused_frames (frame_width K) (frame_count K s) (drop (at + 1) s)) ≡ unused_septets_of s
      → CountedFrom s (at + 1) (frame_width K) (frame_count K s) 0
  counted-from reached narrow few all = record { frames = frames-from reached narrow; counted = zero-add _ ∙ all; few = omega arith }

-- ── a datagram

-- its header is all of it
datagram-length : (s : List ℕ) → AddressCleanAs s Datagram → stream_length s ≡ 16
unfolding header_length frame_width frame_count
datagram-length s sort = length-as s Datagram sort.is

pub datagram-whole : (s : List ℕ) → AddressCleanAs s Datagram → Reached (fault_at s) 16 (length s) 0 16 → Reached (fault_at s) (stream_length s) (length s) 0 16
datagram-whole s sort reached = rw (datagram-length s sort) reached

-- ── the version

pub version-unknown : (s : List ℕ) → AddressClean s → kind s ≡ Unknown → Reached (fault_at s) (stream_length s) (length s) 3 5
unfolding rule_at header_rule header_length breach choose
version-unknown s address e =
    found
    (fault-low s 5 (omega arith) address.low ∙ ap (λ (x : Kind). breach (rule_at x 5) s 5) e)
    (omega arith)
    address.clean
    (omega (arith, at-least-six s))
    (omega (arith, address.there))

-- ── the bytes before the version

module _ (s : List ℕ) (sync : get_or s 0 0 ≡ 0xAA) where
  address-clean-to : {end : ℕ} → LowUpTo s 1 end → (k : ℕ) → k ≤ end → k ≤ 5 → Clean (fault_at s) k
  address-clean-to low k below near i h =
      dite (ℕ_discrete i 0)
      (λ e. subst⁻¹ (λ (n : ℕ). fault_at s n ≡ 0) e (sync-right s sync))
      (λ ne. fault-low s i (omega arith) (low.low i (omega arith) (omega arith)) ∙ breach-any _ s i (rule-header (kind s) i (omega (arith, header_length-least (kind s))) ∙ address-any (kind s) i (omega arith)))

  pub address-stops : {stop : Stop} → StopsAt s 1 6 stop → ReachedBy (fault_at s) (stream_length s) (length s) stop
  address-stops {stop} stops =
      stop-reached stops (at-least-six s) (address-clean-to stops.before stop.offset (omega arith) (omega (arith, stops.short)))
      (fault-high s stop.offset (omega (arith, stops.after)))

  pub address-clean : LowUpTo s 1 6 → AddressClean s
  address-clean low =
      record { there = low.within; clean = address-clean-to low 5 (omega arith) (omega arith); low = low.low 5 (omega arith) (omega arith) }

pub nothing : (s : List ℕ) → length s ≡ 0 → Reached (fault_at s) (stream_length s) (length s) 7 0
nothing s e = ended refl (sym e) (λ i h. absurd (omega arith)) (omega (arith, at-least-six s))

pub no-sync : (s : List ℕ) → (get_or s 0 0 ≡ 0xAA → ⊥) → 0 < length s → Reached (fault_at s) (stream_length s) (length s) 1 0
no-sync s bad there = found (sync-wrong s bad) (omega arith) (λ i h. absurd (omega arith)) (omega (arith, at-least-six s)) there
