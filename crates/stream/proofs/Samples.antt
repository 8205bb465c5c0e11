-- Samples of document 01, computed. Every law holds as well of another version number: the samples tie the definitions to the paper.
use Prim.Native.Nat.{ℕ, zero, suc}
use mathlib.Core.Path.{◌≡◌, refl}
use mathlib.Core.List.{List, [], ◌∷◌, ◌++◌, map, flatten}
use lib.ListN.{replicate}
use Rattle.basics.specs.Choice.{choose}
use Rattle.checksum.specs.Checksum.{checksum_from}
use Rattle.stream.specs.Layout.{kind_of, header_length, frame_width, telegram_frames, frame_count, stream_length}
use Rattle.stream.specs.declared.Kind.{Kind}
use Rattle.stream.specs.declared.Kind.TheVariants.{Packet, Datagram, Telegram, Unknown}
use Rattle.stream.specs.Sync.{sync_from, next_sync}
use Rattle.stream.specs.Unused.{block_width, unused_frames, unused_in, count_nonzero, unused_septets_of}
use Rattle.stream.specs.Validation.{frame_rule, header_rule, rule_at, breach, fault_at, validation_from, validation_of}

-- T1 under each version of a telegram, with its checksum
telegram : validation_of (0xAA ∷ 0x10 ∷ 0x20 ∷ 0x31 ∷ 0x77 ∷ 0x30 ∷ 0x01 ∷ 0x76 ∷ []) ≡ record { verdict = 0; offset = 8; unused_septets = 0 }
unfolding unused_septets_of unused_in block_width unused_frames count_nonzero validation_from stream_length kind_of choose header_length frame_width frame_count fault_at breach rule_at header_rule frame_rule checksum_from
telegram = refl

telegram-31 : validation_of (0xAA ∷ 0x10 ∷ 0x20 ∷ 0x31 ∷ 0x77 ∷ 0x31 ∷ 0x01 ∷ 0x75 ∷ []) ≡ record { verdict = 0; offset = 8; unused_septets = 0 }
unfolding unused_septets_of unused_in block_width unused_frames count_nonzero validation_from stream_length kind_of choose header_length frame_width frame_count fault_at breach rule_at header_rule frame_rule checksum_from
telegram-31 = refl

-- n numbers, from k on
abbrev from : ℕ → ℕ → List ℕ
from zero k = []
from (suc n) k = k ∷ from n (suc k)

-- every version byte: 0x10 a packet, 0x20 a datagram, 0x30 and 0x31 telegrams, and no other
versions : map kind_of (from 256 0) ≡ replicate 16 Unknown ++ (Packet ∷ (replicate 15 Unknown ++ (Datagram ∷ (replicate 15 Unknown ++ (Telegram ∷ Telegram ∷ replicate 206 Unknown)))))
unfolding kind_of choose
versions = refl

-- F is bits 5-6 of the command, and no other bit
frames : map telegram_frames (0x1F ∷ 0x20 ∷ 0x40 ∷ 0x7F ∷ 0x80 ∷ []) ≡ 0 ∷ 1 ∷ 2 ∷ 3 ∷ 0 ∷ []
frames = refl

-- of streams of one block, each with one of the septets, the unused bits as numbers
abbrev unused_of : Kind → List ℕ → List ℕ
unused_of K septets = flatten (map (λ (septet : ℕ). unused_in K (replicate 7 0x20 ++ (0 ∷ 1 ∷ (replicate 5 0 ++ (septet ∷ septet ∷ []))))) septets)

-- bits 4-6 of a packet's septet are unused, bit 6 of a datagram's, none of a telegram's
unused-packet : unused_of Packet (0x0F ∷ 0x10 ∷ 0x7F ∷ []) ≡ 0 ∷ 1 ∷ 7 ∷ []
unfolding unused_in block_width header_length unused_frames frame_count flatten
unused-packet = refl

unused-datagram : unused_of Datagram (0x3F ∷ 0x40 ∷ 0x7F ∷ []) ≡ 0 ∷ 1 ∷ 1 ∷ []
unfolding unused_in block_width flatten
unused-datagram = refl

unused-telegram : unused_of Telegram (0x7F ∷ []) ≡ 0 ∷ []
unfolding unused_in block_width header_length unused_frames frame_count flatten
unused-telegram = refl

-- a block counts once, however many of these bits are set
counted : count_nonzero (0 ∷ 1 ∷ 0 ∷ 7 ∷ []) ≡ 2
unfolding count_nonzero choose
counted = refl

-- the sync byte is 0xAA alone; without one, the place behind the bytes or, past them, the start
syncs : map (next_sync (0xAB ∷ 0xAA ∷ 0xAA ∷ 0x2A ∷ [])) (0 ∷ 1 ∷ 2 ∷ 3 ∷ 4 ∷ 6 ∷ []) ≡ 1 ∷ 1 ∷ 2 ∷ 4 ∷ 4 ∷ 6 ∷ []
unfolding next_sync sync_from choose
syncs = refl
