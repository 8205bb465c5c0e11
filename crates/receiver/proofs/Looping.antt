-- Laws of the loop over a chunk: what is to come of the bytes from here on is what was to come of all of them.
use Prim.Native.Nat.{ℕ, ◌+◌, ◌-◌, ◌<◌, ◌≤◌}
use native.Mathlib.Omega.{arith}
use native.Mathlib.Numerals.{add-one}
use mathlib.Core.Path.{◌≡◌, refl, sym, ap, subst⁻¹, ◌∙◌}
use mathlib.Core.Bool.{true, false, true≢false}
use mathlib.Core.Logic.{◌↔◌}
use mathlib.Core.List.{List, [], ◌∷◌}
use lib.ListN.{length, get_or, take, drop, length-take}
use lib.Seq.{drop-cons, drop-length, length-take-le}
use Rattle.basics.specs.Bytes.{over}
use Rattle.stream.specs.Layout.{stream_length}
use Rattle.stream.proofs.Reached.{whole-clean}
use Rattle.record.specs.Record.{record_of}
use Rattle.recording.specs.Decode.{decoded_of, decoded_after}
use Rattle.recording.specs.Next.{without, payload_of}
use Rattle.recording.specs.Recording.{Delivery}
use Rattle.recording.specs.declared.Found.{Found}
use Rattle.recording.proofs.Decoding.{beginning-whole, beginning-none, decoded-room, output-room, output-none, decode-exactly}
use Rattle.recording.proofs.Deliveries.{Whole}
use Rattle.receiver.specs.Holding.{extended, kept}
use Rattle.receiver.specs.Receive.{Outcome, one_more, outcome_of, answer_of, completed_in, accepted_of}
use Rattle.receiver.specs.Stage.{Holds, TookByte, unfinished, full, found_at}
use Rattle.receiver.specs.declared.Received.{Received}
use Rattle.receiver.specs.declared.buffer.Unfinished.{Unfinished}
use Rattle.receiver.proofs.Extending.{length-extended, kept-short, kept-long}
use Rattle.receiver.proofs.Memory.{holding-nothing, holding-room}
use Rattle.receiver.proofs.Outcomes.{outcome-done, outcome-on, nothing-whole}

-- so many bytes were used before
abbrev later : ℕ → Outcome → Outcome
later n o = record { stream = o.stream; held = o.held; used = n + o.used }

-- so many bytes of the chunk were used, none of them completed a whole stream, and the outcome is that of the others behind what is held now;
-- that isn't more than was used, with the bytes before the chunk
pub record FeedAt (before : ℕ) (h chunk out₀ memory out : List ℕ) (u : Unfinished) (used : ℕ) : Type 0 where
  pub size : length memory ≡ 772
  pub holding : Holds memory u
  pub within : used ≤ length chunk
  pub same : outcome_of h chunk ≡ later used (outcome_of (take u.held memory) (drop used chunk))
  pub output : out ≡ out₀
  pub counted : u.held ≤ before + used

-- s is as long as it announces, and stands in the memory
record Full (s memory : List ℕ) (n : ℕ) : Type 0 where
  most : n ≤ 772
  is : take n memory ≡ s
  long : stream_length s ≡ n

-- what `feed` ensures: its answer, its output and its memory
abbrev pub Fed : ℕ → List ℕ → List ℕ → List ℕ → Received → List ℕ → List ℕ → Type 0
Fed before h chunk out answer out' memory' =
    (answer ≡ accepted_of before (outcome_of h chunk))
    × ((out' ≡ over (payload_of (completed_in before (outcome_of h chunk))) out) × (take answer.receiver.held memory' ≡ (outcome_of h chunk).held))

module _ {before : ℕ} {h chunk out₀ memory out : List ℕ} {u : Unfinished} {used : ℕ} (at : FeedAt before h chunk out₀ memory out u used) where
  -- ── one byte

  module _ (more : used < length chunk) (after : List ℕ) (size : length after ≡ 772) (u' : Unfinished) (took : TookByte (take u.held memory) (get_or chunk used 0) after u') where
    abbrev byte : ℕ
    byte = get_or chunk used 0

    abbrev s : List ℕ
    s = extended (take u.held memory) byte

    abbrev rest : List ℕ
    rest = drop (used + 1) chunk

    now-at : outcome_of h chunk ≡ later used (outcome_of (take u.held memory) (byte ∷ rest))
    now-at = at.same ∙ ap (λ (l : List ℕ). later used (outcome_of (take u.held memory) l)) (drop-cons chunk used 0 more ∙ rw (add-one used))

    next : (o : Outcome) → later used (one_more o) ≡ later (used + 1) o
    next o = ap (λ (n : ℕ). record { stream = o.stream; held = o.held; used = n }) (omega arith)

    goes_on : (Whole s → ⊥) → (out' : List ℕ) → out' ≡ out → (v : Unfinished) → Holds after v → kept s ≡ take v.held after → v.held ≤ before + (used + 1)
        → FeedAt before h chunk out₀ after out' v (used + 1)
    goes_on faulty out' unchanged v holding is counted =
        record {
          size = size;
          holding = holding;
          within = omega arith;
          same = now-at ∙ ap (later used) (outcome-on (take u.held memory) byte rest faulty) ∙ next (outcome_of (kept s) rest)
              ∙ ap (λ (l : List ℕ). later (used + 1) (outcome_of l rest)) is;
          output = unchanged ∙ at.output;
          counted = counted;
        }

    -- a byte more may be held than before
    one-more : length s ≤ before + (used + 1)
    one-more = omega (arith, at.counted, length-extended (take u.held memory) byte, length-take u.held memory)

    stands-long : (n : ℕ) → take n after ≡ s → n ≤ 772 → length s ≡ n
    stands-long n is most = sym (ap length is) ∙ length-take-le n after (omega (arith, size))

    -- a stream that is still unfinished
    on-unfinished : Holds after u' → take u'.held after ≡ s → FeedAt before h chunk out₀ after out u' (used + 1)
    on-unfinished holding is =
        let long = stands-long u'.held is (omega (arith, holding-room after u' holding)) in
        let short : length s < stream_length s = omega (arith, long, holding.short, holding.announced, ap stream_length is) in
        goes_on (λ w. omega (arith, short, (whole-clean s w).held)) out refl u' holding
        (kept-short s short (omega (arith, holding.most, ap stream_length is)) ∙ sym is)
        (omega (arith, long, one-more))

    pub feed-on : (u'.held ≡ u'.least → ⊥) → FeedAt before h chunk out₀ after out u' (used + 1)
    feed-on other = by-took took
      where
        by-took : TookByte (take u.held memory) byte after u' → FeedAt before h chunk out₀ after out u' (used + 1)
        by-took (unfinished holding is) = on-unfinished holding is
        by-took (full e most is long) = absurd (other e)

    -- ── one that is as long as it announces

    module _ (reached : u'.held ≡ u'.least) where
      full-took : Full s after u'.held
      full-took = by-took took
        where
          by-took : TookByte (take u.held memory) byte after u' → Full s after u'.held
          by-took (unfinished holding is) = absurd (omega (arith, holding.short))
          by-took (full e most is long) = record { most = most; is = is; long = long }

      -- it stands in the memory, and is no longer than what was used
      full-long : length s ≡ u'.held
      full-long = stands-long u'.held full-took.is full-took.most

      pub full-counted : u'.held ≤ before + (used + 1)
      full-counted = omega (arith, full-long, one-more)

      module _ (room : 508 ≤ length out) (found : Found) (out' : List ℕ) (told : found ≡ decoded_of (take u'.held after) (length out)) (left : out' ≡ decoded_after (take u'.held after) out) where
        told_of : found ≡ decoded_of s (length out)
        told_of = told ∙ ap (λ (l : List ℕ). decoded_of l (length out)) full-took.is

        left-of : out' ≡ decoded_after s out
        left-of = left ∙ ap (λ (l : List ℕ). decoded_after l out) full-took.is

        -- an answer finds a record exactly if the stream is whole
        exactly : (found.found ≡ true) ↔ Whole s
        exactly = rw told_of (decode-exactly s (length out) room)

        -- what is found is as long as what is held
        pub found-long : found.found ≡ true → found.length ≡ u'.held
        found-long is_found =
            let w = exactly.0 is_found in
            rw (told_of, decoded-room s (length out) room, beginning-whole 0 s w) ((whole-clean s w).offset ∙ full-took.long)

        pub feed-faulty : found.found ≡ false → FeedAt before h chunk out₀ after out' (record { held = 0; least = 6 }) (used + 1)
        feed-faulty unfound =
            let faulty : Whole s → ⊥ = λ w. true≢false (sym (exactly.1 w) ∙ unfound) in
            goes_on faulty out' (left-of ∙ output-none s faulty out) (record { held = 0; least = 6 }) (holding-nothing after)
            (kept-long s (omega (arith, full-long, full-took.long))) (omega arith)

        pub feed-found : found.found ≡ true
            → Fed before h chunk out₀ (answer_of (found_at (before + (used + 1) - u'.held) found) (used + 1) (record { held = 0; position = before + (used + 1) })) out' after
        feed-found is_found =
            let w = exactly.0 is_found in
            let o : outcome_of h chunk ≡ record { stream = s; held = []; used = used + 1 } =
            now-at ∙ ap (later used) (outcome-done (take u.held memory) byte rest w) in
            let here = beginning-whole 0 s w in
            let there = beginning-whole (before + (used + 1) - length s) s w in
            let written : out' ≡ over (record_of s).payload out₀ =
            left-of ∙ output-room s out room ∙ ap (λ (ds : List Delivery). over (payload_of ds) out) here ∙ ap (over (record_of s).payload) at.output in
            rw (o, told_of, decoded-room s (length out) room, here, there, full-long) (refl, (written, refl))

        -- the same, its position by its own length
        pub feed-by-length : found.found ≡ true
            → Fed before h chunk out₀ (answer_of (found_at (before + (used + 1) - found.length) found) (used + 1) (record { held = 0; position = before + (used + 1) })) out' after
        feed-by-length is_found =
            let At : ℕ → Type 0 =
            λ n. Fed before h chunk out₀ (answer_of (found_at (before + (used + 1) - n) found) (used + 1) (record { held = 0; position = before + (used + 1) })) out' after in
            subst⁻¹ At (found-long is_found) (feed-found is_found)

  pub feed-ends : used ≡ length chunk → Fed before h chunk out₀ (answer_of (without 0) used (record { held = u.held; position = before + used })) out memory
  unfolding outcome_of
  feed-ends end =
      let holding = at.holding in
      let none = beginning-none (before + used - 0) [] nothing-whole in
      let long = length-take-le u.held memory (omega (arith, at.size, holding-room memory u holding)) in
      let o : outcome_of h chunk ≡ record { stream = []; held = take u.held memory; used = used } =
      at.same ∙ rw (end, drop-length chunk) (ap (λ (n : ℕ). record { stream = []; held = take u.held memory; used = n }) (omega arith)) in
      rw (o, none, long) (refl, (at.output, refl))
