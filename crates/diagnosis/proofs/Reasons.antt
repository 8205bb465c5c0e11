-- The reason is true, and the byte wanted is the right one.
use Prim.Native.Nat.{ℕ, ◌+◌, ◌-◌, ◌≤◌, ◌<◌}
use native.Mathlib.Omega.{arith}
use native.Mathlib.Numerals.{add-one}
use native.Mathlib.Decide.{ℕ_discrete, dec_lt}
use mathlib.Core.Path.{◌≡◌, refl, ap, ◌∙◌, sym, subst, subst⁻¹}
use mathlib.Core.Logic.{dite, ◌≢◌, ◌↔◌, ◌⊎◌, inl, inr, ⊎_elim}
use mathlib.Core.Bool.{Bool, true, false, true≢false}
use mathlib.Core.List.{List, [], ◌∷◌, ◌++◌, append_assoc}
use borrow.Author.Tests.{eqb-true, eq-eqb, ne_eqb, lt-ltb, le-ltb}
use lib.ListN.{length, get_or, take, drop, length-drop}
use lib.Seq.{take_at, take-suc, length-take-le}
use Rattle.basics.specs.Choice.{choose}
use Rattle.basics.proofs.Choice.{choose-by, equal-of-zero}
use Rattle.stream.specs.Layout.{kind, header_length, frame_width, frame_count, length_as, stream_length, payload_length_of}
use Rattle.stream.specs.declared.Kind.{Kind}
use Rattle.stream.specs.declared.Kind.TheVariants.{Packet, Datagram, Telegram, Unknown}
use Rattle.stream.specs.Validation.{Rule, any, unknown, header_sum, frame_sum, header_rule, rule_at, sum_at, breach, fault_at, number, said_by, validation_of}
use Rattle.stream.specs.declared.stop.Stop.{Stop}
use Rattle.stream.proofs.Said.{StopSaid, stop-said}
use Rattle.std.specs.Prelude.{Err, Option}
use Rattle.std.specs.Option.{is_some, unwrap_or}
use lib.Dec.{ltb}
use Rattle.stream.proofs.Faults.{rule-header, sync-right, sync-wrong, fault-low, fault-high, low_held, fault-most}
use Rattle.stream.proofs.Offsets.{NotWhole, cut, broken, not-whole}
use Rattle.stream.proofs.Prefixes.{Same, Fits, fits, same-rule, same-long, fault-stays}
use Rattle.stream.proofs.Reached.{whole-clean}
use Rattle.recording.proofs.Deliveries.{Whole}
use Rattle.diagnosis.specs.Fault.{has_byte_of, has_wanted_of, wanted_at, fault_by, fault_of, next_fault}
use Rattle.diagnosis.specs.Reason.{VerdictTold, CanGrow, ReasonTrue, WantedRight}
use Rattle.diagnosis.specs.Stage.{byte_wanted}
use Rattle.diagnosis.specs.declared.Fault.{Fault}
use Rattle.diagnosis.proofs.Faults.{found_at, fault-not-whole, width, wanted-some, wanted-or}
use Rattle.diagnosis.proofs.Growing.{CleanTo, same-right, here, next-held, grown-more, grown-can, size, taken, taken-grown, taken-below}

-- ── the rule that a byte at fault breaks

-- the verdict by which a rule is broken
abbrev verdict_of : Rule → ℕ
verdict_of any = 0
verdict_of unknown = 3
verdict_of (header_sum n) = 4
verdict_of (frame_sum width) = 6

either : (test : Bool) (x v : ℕ) → choose test 0 x ≡ v → 0 < v → x ≡ v
unfolding choose
either true x v e pos = absurd (omega arith)
either false x v e pos = e

broken-by : (rule : Rule) (s : List ℕ) (v k : ℕ) → breach rule s k ≡ v → 0 < v → verdict_of rule ≡ v
unfolding breach
broken-by any s v k e pos = e
broken-by unknown s v k e pos = e
broken-by (header_sum n) s v k e pos = either _ 4 v e pos
broken-by (frame_sum width) s v k e pos = either _ 6 v e pos

-- a verdict above V2 is a rule's
breach-of : (s : List ℕ) (k v : ℕ) → fault_at s k ≡ v → 2 < v → breach (rule_at (kind s) k) s k ≡ v
breach-of s k v e big =
    dite (ℕ_discrete k 0)
    (λ first.
    let at_first : fault_at s 0 ≡ v = subst (λ (n : ℕ). fault_at s n ≡ v) first e in
    absurd (dite (ℕ_discrete (get_or s 0 0) 0xAA) (λ sync. omega (arith, at_first, sync-right s sync)) (λ other. omega (arith, at_first, sync-wrong s other))))
    (λ pos. dite (dec_lt (get_or s k 0) 0x80)
    (λ low. sym (fault-low s k (omega arith) low) ∙ e)
    (λ high. absurd (omega (arith, e, fault-high s k (omega arith) (omega arith)))))

-- ── the reason

has-byte-not : (v : ℕ) → v ≡ 7 → has_byte_of v ≡ true → ⊥
has-byte-not v seven has = true≢false (sym has ∙ rw (eq-eqb v 7 seven) refl)

no-byte-seven : (v : ℕ) → has_byte_of v ≡ false → v ≡ 7
no-byte-seven v lacks = dite (ℕ_discrete v 7) (λ e. e) (λ ne. absurd (true≢false (rw (ne_eqb v 7 ne) at lacks)))

module _ (s : List ℕ) (q : ℕ) (there : q ≤ length s) where
  t : List ℕ
  t = drop q s

  reason-of : (v k : ℕ) → NotWhole (drop q s) v k → ReasonTrue s (fault_by q (drop q s) v k)
  unfolding t
  reason-of v k (cut seven ends clean below) =
      record {
        grows = grown-can (take k t) (taken-grown t k (omega arith) clean below);
        stands = λ has. absurd (has-byte-not v seven has);
        stops = λ has. absurd (has-byte-not v seven has);
        ends = λ lacks. omega (arith, ends, length-drop q s);
      }
  reason-of v k (broken e pos clean below inside) =
      let more : take (k + 1) t ≡ take k t ++ (get_or t k 0 ∷ []) = rw add-one (take-suc t k 0 inside) in
      record {
        grows = grown-can (take k t) (taken-grown t k (omega arith) clean below);
        stands = λ has. more;
        stops = λ has g.
            fault-stays {m = k + 1} (record { begin = more ∙ sym (take_at (take k t ++ (get_or t k 0 ∷ [])) g.0 (k + 1) (sym (ap length more) ∙ length-take-le (k + 1) t (omega arith))) })
            k (omega arith) (omega (arith, e)) below g.1.whole;
        ends = λ lacks. absurd (omega (arith, e, fault-most t k, no-byte-seven v lacks));
      }

-- "The reason must be true", of each answer that tells a fault
pub reason-true : (s : List ℕ) (start : ℕ) → (next_fault s start).found ≡ true → ReasonTrue s (next_fault s start)
reason-true s start e =
    let at = found_at s start e in
    let q = (next_fault s start).place in
    subst⁻¹ (ReasonTrue s) at.tells (reason-of s q (omega (arith, at.inside)) _ _ (not-whole (drop q s) (fault-not-whole (drop q s) at.is)))

-- ── the byte wanted

-- a checksum's rule
abbrev IsSum : Rule → Type 0
IsSum any = ⊥
IsSum unknown = ⊥
IsSum (header_sum n) = Unit {0}
IsSum (frame_sum width) = Unit {0}

-- such a rule wants one byte alone
right-only : (rule : Rule) (u : List ℕ) (k : ℕ) → IsSum rule → breach rule u k ≡ 0 → get_or u k 0 ≡ sum_at rule u k
unfolding breach
right-only any u k sum e = absurd sum
right-only unknown u k sum e = absurd sum
right-only (header_sum n) u k sum e = equal-of-zero _ _ 4 (omega arith) e
right-only (frame_sum width) u k sum e = equal-of-zero _ _ 6 (omega arith) e

sum-late : (K : Kind) (rule : Rule) (k : ℕ) → IsSum rule → Fits K rule k → 5 < k
sum-late K any k sum f = absurd sum
sum-late K unknown k sum f = absurd sum
sum-late K (header_sum n) k sum f = f.1
sum-late K (frame_sum width) k sum f = f.2

-- V4 and V6 are a checksum's
wanted_by : (rule : Rule) (v : ℕ) → verdict_of rule ≡ v → has_wanted_of v ≡ true → IsSum rule
wanted_by any v e has = absurd (true≢false (sym has ∙ ap has_wanted_of (sym e)))
wanted_by unknown v e has = absurd (true≢false (sym has ∙ ap has_wanted_of (sym e)))
wanted_by (header_sum n) v e has = tt
wanted_by (frame_sum width) v e has = tt

-- the byte wanted is what the rule asks for
wanted-sum : (s : List ℕ) (v k : ℕ) → has_wanted_of v ≡ true → wanted_at s v k ≡ sum_at (rule_at (kind s) k) s k
unfolding wanted_at choose
wanted-sum s v k has = rw has

-- 0 to V3 and V7 want no byte
wants-above : (v : ℕ) → has_wanted_of v ≡ true → (2 < v) × (v < 7)
wants-above v has =
    dite (ℕ_discrete v 4) (λ four. (omega arith, omega arith))
    (λ other. let six = eqb-true v 6 (rw (ne_eqb v 4 other) at has) in (omega arith, omega arith))

-- with the wanted byte at offset k the bytes before it can still grow, and with no other
record Wants (s : List ℕ) (k wanted : ℕ) : Type 0 where
  grows : CanGrow (take k s ++ (wanted ∷ []))
  only : (byte : ℕ) → CanGrow (take k s ++ (byte ∷ [])) → byte ≡ wanted

module _ (s : List ℕ) (k wanted : ℕ) (inside : k < length s) (clean : CleanTo s k) (below : k < stream_length s)
    (sum : IsSum (rule_at (kind s) k)) (is : wanted ≡ sum_at (rule_at (kind s) k) s k) where
  p : List ℕ
  p = take k s

  long : length p ≡ k
  unfolding p
  long = size s k (omega arith) clean below

  late : 5 < k
  late = sum-late (kind s) (rule_at (kind s) k) k sum (fits (kind s) k)

  same-p : Same k s p
  unfolding p
  same-p = taken s k (omega arith) clean below

  is_right : wanted ≡ sum_at (rule_at (kind p) (length p)) p (length p)
  is_right =
      rw long
      (is
      ∙ same-right (kind s) same-p (rule_at (kind s) k) (fits (kind s) k)
      ∙ ap (λ (r : Rule). sum_at r p k) (same-rule same-p k (omega arith) (λ e. omega (arith, late))))

  wanted-grows : CanGrow (p ++ (wanted ∷ []))
  unfolding p
  wanted-grows =
      grown-can (p ++ (wanted ∷ []))
      (grown-more p wanted (taken-grown s k (omega arith) clean below) (taken-below s k (omega arith) clean below)
      (next-held p [] wanted (omega (arith, long, late)) (λ e. omega (arith, long, late)) is_right))

  wanted-only : (byte : ℕ) → CanGrow (p ++ (byte ∷ [])) → byte ≡ wanted
  unfolding p
  wanted-only byte (t, w) =
      let u = p ++ (byte ∷ t) in
      let whole-u : Whole u = rw (append_assoc p (byte ∷ []) t) at w.whole in
      let same-u : Same k s u = record { begin = sym (take_at p (byte ∷ t) k long) } in
      let held : fault_at u k ≡ 0 = (whole-clean u whole-u).clean k (same-long same-u k (omega arith) below) in
      let pos : 0 < k = omega (arith, late) in
      let kept : breach (rule_at (kind u) k) u k ≡ 0 = sym (fault-low u k pos (low_held u k pos held)) ∙ held in
      let rule = same-rule same-u k (omega arith) (λ e. omega (arith, late)) in
      let here-u : get_or u k 0 ≡ byte = rw long at (here p t byte) in
      sym here-u
      ∙ right-only (rule_at (kind u) k) u k (subst IsSum rule sum) kept
      ∙ ap (λ (r : Rule). sum_at r u k) (sym rule)
      ∙ sym (same-right (kind s) same-u (rule_at (kind s) k) (fits (kind s) k))
      ∙ sym is

-- the rule of a byte that V4 or V6 speaks of, by the verdict
rule-of : (s : List ℕ) (v k : ℕ) → fault_at s k ≡ v → has_wanted_of v ≡ true → verdict_of (rule_at (kind s) k) ≡ v
rule-of s v k e has =
    let above = (wants-above v has).0 in
    broken-by (rule_at (kind s) k) s v k (breach-of s k v e above) (omega (arith, above))

wants-of : (s : List ℕ) (v k : ℕ) → NotWhole s v k → has_wanted_of v ≡ true → Wants s k (wanted_at s v k)
unfolding p
wants-of s v k (cut seven ends clean below) has = absurd (omega (arith, (wants-above v has).1))
wants-of s v k (broken e pos clean below inside) has =
    let sum = wanted_by (rule_at (kind s) k) v (rule-of s v k e has) has in
    let is = wanted-sum s v k has in
    record { grows = wanted-grows s k _ inside clean below sum is; only = wanted-only s k _ inside clean below sum is }

wanted-of : (s : List ℕ) (q : ℕ) → (Whole (drop q s) → ⊥) → (fault_of q (drop q s)).has_wanted ≡ true → WantedRight s (fault_of q (drop q s))
wanted-of s q bad has =
    let wants = wants-of (drop q s) _ _ (not-whole (drop q s) bad) has in
    record { grows = wants.grows; only = wants.only }

-- "byte wanted", of each answer that names one
pub wanted-right : (s : List ℕ) (start : ℕ) → (next_fault s start).found ≡ true → (next_fault s start).has_wanted ≡ true → WantedRight s (next_fault s start)
wanted-right s start e has =
    let at = found_at s start e in
    let q = (next_fault s start).place in
    subst⁻¹ (WantedRight s) at.tells
    (wanted-of s q (fault-not-whole (drop q s) at.is) (ap (λ (f : Fault). f.has_wanted) (sym at.tells) ∙ has))

-- ── what is told

wanted-exactly : (v : ℕ) → (has_wanted_of v ≡ true) ↔ ((v ≡ 4) ⊎ (v ≡ 6))
wanted-exactly v = (
  (λ has. dite (ℕ_discrete v 4) (λ four. inl four) (λ other. inr (eqb-true v 6 (rw (ne_eqb v 4 other) at has)))),
  (λ which. ⊎_elim (λ four. rw four refl) (λ six. rw six refl) which),
)

byte-exactly : (v : ℕ) → (has_byte_of v ≡ true) ↔ (v ≢ 7)
byte-exactly v = ((λ has seven. has-byte-not v seven has), (λ other. rw (ne_eqb v 7 other) refl))

-- "verdict, offset, byte found and, for V4 and V6, byte wanted", of each answer that tells a fault
pub verdict-told : (s : List ℕ) (start : ℕ) → (next_fault s start).found ≡ true → VerdictTold s (next_fault s start)
verdict-told s start e =
    subst⁻¹ (VerdictTold s) (found_at s start e).tells
    (record { verdict = refl; offset = refl; names-byte = byte-exactly _; names-wanted = wanted-exactly _ })

-- ── the bytes that a wrong checksum should cover are there

-- no header has a frame's checksum
header-not-six : (K : Kind) (k : ℕ) → verdict_of (header_rule K k) ≡ 6 → ⊥
unfolding header_rule
header-not-six Packet k = choose-by (λ (r : Rule). verdict_of r ≡ 6 → ⊥) _ (λ t e. omega arith) (λ t e. omega arith)
header-not-six Datagram k = choose-by (λ (r : Rule). verdict_of r ≡ 6 → ⊥) _ (λ t e. omega arith) (λ t e. omega arith)
header-not-six Telegram k = choose-by (λ (r : Rule). verdict_of r ≡ 6 → ⊥) _ (λ t e. omega arith) (λ t e. omega arith)
header-not-six Unknown k = choose-by (λ (r : Rule). verdict_of r ≡ 6 → ⊥) _ (λ t e. omega arith) (λ t e. omega arith)

-- where a stream has a frame's checksum, a frame has as many payload bytes as the payload of one frame
width-alike : (K : Kind) (s : List ℕ) (k : ℕ) → k < length_as K s → verdict_of (rule_at K k) ≡ 6 → frame_width K ≡ payload_length_of K 1
unfolding header_length frame_width frame_count payload_length_of
width-alike Packet s k below six = refl
width-alike Datagram s k below six = absurd (header-not-six Datagram k (ap verdict_of (sym (rule-header Datagram k (omega arith))) ∙ six))
width-alike Telegram s k below six = refl
width-alike Unknown s k below six = absurd (header-not-six Unknown k (ap verdict_of (sym (rule-header Unknown k (omega arith))) ∙ six))

-- the rule by the verdict, with what it looks back on
header-rule : (K : Kind) (rule : Rule) (k : ℕ) → Fits K rule k → verdict_of rule ≡ 4 → (rule ≡ header_sum (k - 1)) × (5 < k)
header-rule K any k f e = absurd (omega arith)
header-rule K unknown k f e = absurd (omega arith)
header-rule K (header_sum n) k f e = let before : n ≡ k - 1 = omega (arith, f.0) in (ap header_sum before, f.1)
header-rule K (frame_sum width) k f e = absurd (omega arith)

frame-rule : (K : Kind) (rule : Rule) (k : ℕ) → Fits K rule k → verdict_of rule ≡ 6 → (rule ≡ frame_sum (frame_width K)) × (frame_width K + 1 ≤ k) × (5 < k)
frame-rule K any k f e = absurd (omega arith)
frame-rule K unknown k f e = absurd (omega arith)
frame-rule K (header_sum n) k f e = absurd (omega arith)
frame-rule K (frame_sum width) k f e = (ap frame_sum f.0, omega (arith, f.0, f.1), f.2)

-- which checksum is wrong, by the verdict, and that the bytes that it should cover are there
pub record SumsAt (s : List ℕ) (verdict offset : ℕ) : Type 0 where
  pub header : verdict ≡ 4 → (rule_at (kind s) offset ≡ header_sum (offset - 1)) × (1 ≤ offset) × (offset ≤ length s)
  pub frame : verdict ≡ 6 → (rule_at (kind s) offset ≡ frame_sum (width s)) × (5 < length s) × (width s + 1 ≤ offset) × (offset ≤ length s)

sums-of : (s : List ℕ) (v k : ℕ) → NotWhole s v k → SumsAt s v k
unfolding stream_length
sums-of s v k (cut seven ends clean below) = record { header = λ e. absurd (omega arith); frame = λ e. absurd (omega arith) }
sums-of s v k (broken e pos clean below inside) =
    record {
      header = λ four.
          let (rule, far) = header-rule (kind s) _ k (fits (kind s) k) (rule-of s v k e (ap has_wanted_of four) ∙ four) in
          (rule, omega arith, omega arith);
      frame = λ six.
          let is = rule-of s v k e (ap has_wanted_of six) ∙ six in
          let (rule, room, far) = frame-rule (kind s) _ k (fits (kind s) k) is in
          let alike = width-alike (kind s) s k below is in
          (rule ∙ ap frame_sum alike, omega arith, omega (arith, room, alike), omega arith);
    }

-- ── what is told, by where the stretch first goes wrong

-- the byte at the offset is there, but for V7
byte-there : (s : List ℕ) (v k : ℕ) → NotWhole s v k → ltb k (length s) ≡ has_byte_of v
byte-there s v k (cut seven ends clean below) = rw (le-ltb k (length s) (omega arith), eq-eqb v 7 seven) refl
byte-there s v k (broken e pos clean below inside) =
    rw (lt-ltb k (length s) inside, ne_eqb v 7 (λ seven. omega (arith, e, fault-most s k))) refl

module _ (s : List ℕ) (stop : Stop) (is : said_by (Err stop) ≡ validation_of s) where
  said : StopSaid s stop
  said = stop-said s stop is

  stopped : NotWhole s (number stop.verdict) stop.offset
  stopped =
      subst (λ (n : ℕ). NotWhole s (number stop.verdict) n) said.offset
      (subst (λ (n : ℕ). NotWhole s n (validation_of s).offset) said.verdict (not-whole s said.faulty))

  pub sums_at : SumsAt s (number stop.verdict) stop.offset
  sums_at = sums-of s _ _ stopped

  pub described : (q : ℕ) (byte wanted : Option ℕ) → is_some byte ≡ ltb stop.offset (length s) → unwrap_or byte 0 ≡ get_or s stop.offset 0 → wanted ≡ byte_wanted s stop
      → record {
        found = true;
        place = q;
        verdict = number stop.verdict;
        offset = stop.offset;
        has_byte = is_some byte;
        byte = unwrap_or byte 0;
        has_wanted = is_some wanted;
        wanted = unwrap_or wanted 0;
      } ≡ fault_of q s
  described q byte wanted there b w =
      rw (there, byte-there s _ _ stopped, b, w, wanted-some s stop, wanted-or s stop, said.verdict, said.offset) refl
