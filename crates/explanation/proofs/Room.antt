-- How long an explanation can be: a line has at most 40 bytes, and there is at most one for each byte of the recording.
use Prim.Native.Nat.{ℕ, suc, ◌+◌, ◌*◌, ◌≤◌, ◌<◌}
use native.Mathlib.Omega.{arith}
use native.Mathlib.Decide.{ℕ_discrete, dec_lt}
use mathlib.Core.Path.{◌≡◌, refl, ap, ◌∙◌}
use mathlib.Core.Bool.{Bool, true, false}
use mathlib.Core.Logic.{dite}
use mathlib.Core.List.{List, [], ◌∷◌}
use borrow.Author.Tests.{le-ltb, ne_eqb}
use lib.ListN.{length, take, drop, length-append}
use lib.Seq.{take-append_seam}
use Rattle.basics.specs.Choice.{choose}
use Rattle.basics.proofs.Choice.{choose-by}
use Rattle.stream.specs.Layout.{kind, stream_length}
use Rattle.stream.specs.Validation.{fault_at}
use Rattle.stream.proofs.Faults.{low_held, fault-most}
use Rattle.stream.proofs.Lengths.{as-low}
use Rattle.stream.proofs.Offsets.{NotWhole, cut, broken, not-whole}
use Rattle.text.proofs.Decimal.{decimal-most}
use Rattle.diagnosis.specs.Fault.{is_fault, has_wanted_of, fault_of, faults_from}
use Rattle.diagnosis.specs.declared.Fault.{Fault}
use Rattle.diagnosis.proofs.Faults.{fault-not-whole}
use Rattle.explanation.specs.Line.{numbers_text, byte_text, is_cut_off, remark_text, rest_text, line_of}
use Rattle.explanation.specs.Explanation.{lines_of, explanation_of, output_of, explain_refusal, explained_of, explained_after}

-- ── the numbers of a fault

-- byte 8, which alone can announce more, is low where the offset lies behind it
offset-below : (s : List ℕ) (k : ℕ) → ((i : ℕ) → i < k → fault_at s i ≡ 0) → k < stream_length s → k < 772
unfolding stream_length
offset-below s k clean below =
    dite (dec_lt 8 k) (λ behind. omega (arith, as-low (kind s) s (low_held s 8 (omega arith) (clean 8 behind)))) (λ early. omega arith)

numbers-small : (s : List ℕ) (v k : ℕ) → NotWhole s v k → (v < 8) × (k < 772)
numbers-small s v k (cut seven ends clean below) = (omega arith, offset-below s k clean below)
numbers-small s v k (broken e pos clean below inside) = (omega (arith, fault-most s k), offset-below s k clean below)

-- ── a line

byte-most : (has : Bool) (byte : ℕ) → length (byte_text has byte) ≤ 3
unfolding byte_text
byte-most has byte = choose-by (λ (l : List ℕ). length l ≤ 3) has (λ t. omega arith) (λ t. omega arith)

byte-none : (has : Bool) (byte : ℕ) → has ≡ false → byte_text has byte ≡ []
unfolding byte_text choose
byte-none has byte e = rw e

remark-most : (said : Bool) → length (remark_text said) ≤ 24
unfolding remark_text
remark-most said = choose-by (λ (l : List ℕ). length l ≤ 24) said (λ t. omega arith) (λ t. omega arith)

remark-none : (said : Bool) → said ≡ false → remark_text said ≡ []
unfolding remark_text choose
remark-none said e = rw e

-- V2 has no byte wanted, and the others no remark
rest-most : (f : Fault) → f.has_wanted ≡ has_wanted_of f.verdict → length (rest_text f) ≤ 28
unfolding rest_text
rest-most f told =
    let bytes = byte-most f.has_byte f.byte in
    simp length-append (dite (ℕ_discrete f.verdict 2)
    (λ two.
    let none = byte-none f.has_wanted f.wanted (told ∙ ap has_wanted_of two) in
    omega (arith, bytes, ap length none, remark-most (is_cut_off f)))
    (λ other.
    let none = remark-none (is_cut_off f) (rw (ne_eqb f.verdict 2 other) refl) in
    omega (arith, bytes, byte-most f.has_wanted f.wanted, ap length none)))

-- places below 65,536 have five digits, offsets three
numbers-most : (place verdict offset : ℕ) → place < 65536 → verdict < 8 → offset < 772 → length (numbers_text place verdict offset) ≤ 12
unfolding numbers_text
numbers-most place verdict offset p v k =
    simp length-append (omega (arith, decimal-most 4 place (omega arith), decimal-most 0 verdict (omega arith), decimal-most 2 offset (omega arith)))

line-most : (q : ℕ) (s : List ℕ) → q < 65536 → is_fault s ≡ true → length (line_of (fault_of q s)) ≤ 40
unfolding line_of
line-most q s small is =
    let f = fault_of q s in
    let (v, k) = numbers-small s f.verdict f.offset (not-whole s (fault-not-whole s is)) in
    simp length-append (omega (arith, numbers-most q f.verdict f.offset small v k, rest-most f refl))

-- ── the lines

lines-most : (q : ℕ) (s : List ℕ) → q + length s ≤ 65536 → length (lines_of (faults_from q s)) ≤ 40 * length s
unfolding lines_of faults_from
lines-most q [] h = omega arith
lines-most q (byte ∷ rest) h =
    let later = lines-most (suc q) rest (omega arith) in
    choose-by (λ (fs : List Fault). length (lines_of fs) ≤ 40 * suc (length rest)) (is_fault (byte ∷ rest))
    (λ is. simp length-append (omega (arith, later, line-most q (byte ∷ rest) (omega arith) is)))
    (λ not. omega (arith, later))

pub explanation-room : (s : List ℕ) → length s ≤ 65536 → length (explanation_of s) ≤ 40 * length s
explanation-room s small = lines-most 0 s (omega arith)

-- what the program prints: the text of what `explain` answers and leaves in an output with room
pub explainer-prints : (s out : List ℕ) → 2621440 ≤ length out → take (explained_of s (length out)).length (explained_after s out) ≡ output_of s
unfolding explain_refusal choose
explainer-prints s out room = rw (le-ltb (length out) 2621440 room) (take-append_seam (output_of s) (drop (length (output_of s)) out))
