-- What the private functions under `first_fault` promise, as facts of each offset. No public contract cites this file.
use Rattle.std.specs.Prelude.{ℕ, ◌+◌, ◌-◌, ◌*◌, ◌≤◌, ◌<◌, ◌≡◌, List, leb, length, get_or, drop, Result, MatchResult}
use Rattle.basics.specs.Choice.{choose}
use Rattle.stream.specs.Layout.{kind, stream_length}
use Rattle.stream.specs.Validation.{number, any, header_sum, frame_rule, rule_at, breach, fault_at}
use Rattle.stream.specs.declared.Kind.{Kind}
use Rattle.stream.specs.Unused.{unused_frames, count_nonzero, unused_septets_of}
use Rattle.stream.specs.declared.stop.Stop.{Stop}

-- no fault below k
abbrev pub Clean : (ℕ → ℕ) → ℕ → Type 0
Clean fault k = (i : ℕ) → i < k → fault i ≡ 0

-- verdict v at offset k is what n bytes bring of which the first `total` count: all of them, the end, or the first fault
pub data Reached (fault : ℕ → ℕ) (total n v k : ℕ) : Type 0 where
  whole : v ≡ 0 → k ≡ total → Clean fault total → total ≤ n → Reached fault total n v k
  ended : v ≡ 7 → k ≡ n → Clean fault n → n < total → Reached fault total n v k
  found : fault k ≡ v → 0 < v → Clean fault k → k < total → k < n → Reached fault total n v k

-- the stop is what n bytes bring of which the first `total` count
abbrev pub ReachedBy : (ℕ → ℕ) → ℕ → ℕ → Stop → Type 0
ReachedBy fault total n stop = Reached fault total n (number stop.verdict) stop.offset

-- the first `total` of n bytes have no fault, or the stop is what they bring
abbrev pub Checked : {T : Type 0} → (ℕ → ℕ) → ℕ → ℕ → Result T Stop → Type 0
Checked fault total n r = MatchResult r (λ _. Reached fault total n 0 total) (ReachedBy fault total n)

-- the fault at place i of a frame of the given width, of which part is what there is
unfoldable pub frame_fault : ℕ → List ℕ → ℕ → ℕ
frame_fault width part i = choose (leb 0x80 (get_or part i 0)) 2 (breach (frame_rule width i) part i)

-- the stop is what a frame of the given width brings, of which part is what there is
abbrev pub ReachedFrame : ℕ → List ℕ → Stop → Type 0
ReachedFrame width part = ReachedBy (frame_fault width part) (width + 2) (length part)

-- part is no frame of the given width without a fault
abbrev pub Faulty : ℕ → List ℕ → Type 0
Faulty width part = Reached (frame_fault width part) (width + 2) (length part) 0 (width + 2) → ⊥

-- no byte of s is 0x80 or more
abbrev pub AllLow : List ℕ → Type 0
AllLow s = (i : ℕ) → i < length s → get_or s i 0 < 0x80

-- i is the first place of s that has such a byte
abbrev pub HighFirst : List ℕ → ℕ → Type 0
HighFirst s i = (i < length s) × (0x80 ≤ get_or s i 0) × ((k : ℕ) → k < i → get_or s k 0 < 0x80)

-- s reaches up to `end`, and has no such byte from `from` up to there
pub record LowUpTo (s : List ℕ) (from end : ℕ) : Type 0 where
  pub within : end ≤ length s
  pub low : (i : ℕ) → i < end → from ≤ i → get_or s i 0 < 0x80

-- from `from` on s has such a byte, or ends, before the limit: the first time where the stop says
pub record StopsAt (s : List ℕ) (from limit : ℕ) (stop : Stop) : Type 0 where
  pub before : LowUpTo s from stop.offset
  pub after : from ≤ stop.offset
  pub short : stop.offset < limit
  pub high : stop.offset < length s → (0x80 ≤ get_or s stop.offset 0) × (number stop.verdict ≡ 2)
  pub ends : length s ≤ stop.offset → number stop.verdict ≡ 7

-- the first six bytes are there, nothing is wrong with the first five, and the version is no high byte
pub record AddressClean (s : List ℕ) : Type 0 where
  pub there : 6 ≤ length s
  pub clean : Clean (fault_at s) 5
  pub low : get_or s 5 0 < 0x80

-- the same of a stream of the given kind
pub record AddressCleanAs (s : List ℕ) (K : Kind) : Type 0 where
  pub address : AddressClean s
  pub is : kind s ≡ K

-- the header's checksum stands at `at`, and any byte may stand before it
pub record ChecksumAt (s : List ℕ) (at : ℕ) : Type 0 where
  pub address : AddressClean s
  pub after : 6 ≤ at
  pub near : at ≤ 15
  pub free : (i : ℕ) → i < at → rule_at (kind s) i ≡ any
  pub sum : rule_at (kind s) at ≡ header_sum (at - 1)

-- nothing is wrong up to `start`, and from there on so many frames of the given width end the stream
pub record FramesFrom (s : List ℕ) (start width count : ℕ) : Type 0 where
  pub there : start ≤ length s
  pub clean : Clean (fault_at s) start
  pub after : 0 < start
  pub narrow : width ≤ 7
  pub total : stream_length s ≡ start + (width + 2) * count
  pub rules : (j i : ℕ) → i < width + 2 → rule_at (kind s) (start + (width + 2) * j + i) ≡ frame_rule width i

-- the same, and of the frames before `start` so many have unused septet bits set
pub record CountedFrom (s : List ℕ) (start width count unused : ℕ) : Type 0 where
  pub frames : FramesFrom s start width count
  pub counted : unused + count_nonzero (unused_frames width count (drop start s)) ≡ unused_septets_of s
  pub few : unused + count < 256
