-- A row of which some digits are written, one after another.
use Rattle.std.proofs.Common.{◌≡◌, ℕ, ◌+◌, ◌-◌, ◌<◌, ◌≤◌, List, [], ◌∷◌, ◌++◌, length, take, drop, set, get_or, replicate, slice_index, sym}
use Rattle.std.proofs.Common.{ap, ◌∙◌, arith, length-append, append_assoc, refl, true, ◌==◌, subst, inl, inr}
use Rattle.std.proofs.lemmas.Bool.{true≢false, and_parts}
use Rattle.std.proofs.lemmas.Bool.Decides.{eqb_tells}
use Rattle.std.proofs.lemmas.List.{take_more, take_more_set, drop_more, set_at, length-take, take-take, length-replicate}
use Rattle.std.proofs.lemmas.List.{drop-take, take_all, take-append-drop, append-nil}
use Rattle.std.proofs.Math.Seq.{take-append-add}
use Rattle.vcd_grammar.specs.Digits.{extended, pad_of}
use Rattle.fsb_signal.specs.DumpText.{width_of}
use Rattle.vcd_way.specs.declared.tap.BitRun.{BitRun}
use Rattle.vcd_way.specs.declared.tap.Tap.{Tap}
use Rattle.vcd_way.specs.Lawful.{is_lawful_tap, is_part_within}
use Rattle.vcd_way.specs.declared.tap.Part.TheVariants as parts
use Rattle.vcd_way.specs.Events.{with_part, run_of}
use Rattle.vcd_course.proofs.DigitFacts.{length_run}

-- one more digit of the first ones
pub write_first : (row xs : List ℕ) (i d : ℕ) → i < length row → i < length xs → take i row ≡ take i xs
    → d ≡ get_or xs i 0 → take (i + 1) (set row i d) ≡ take (i + 1) xs
write_first row xs i d h k same e =
    take_more_set row i d h ∙ (λ j. same j ++ e j ∷ []) ∙ sym (take_more xs i 0 k)

-- one more digit of a run within a row
pub write_run : (old run : List ℕ) (top i d : ℕ) → top + i < length old → i < length run → d ≡ get_or run i 0
    → set (take top old ++ take i run ++ drop (top + i) old) (top + i) d
    ≡ take top old ++ take (i + 1) run ++ drop (top + (i + 1)) old
write_run old run top i d h k e =
    let first = take top old in
    let ys = drop (top + i + 1) old in
    let n : length (first ++ take i run) ≡ top + i =
    omega (arith, h, k, length-append first (take i run), length-take top old, length-take i run) in
    let more : take i run ++ d ∷ [] ≡ take (i + 1) run = ap (λ x. take i run ++ x ∷ []) e ∙ sym (take_more run i 0 k) in
    let place : top + i + 1 ≡ top + (i + 1) = omega arith in
    ap (λ x. set (first ++ take i run ++ x) (top + i) d) (drop_more old (top + i) 0 h)
    ∙ set_at (first ++ take i run) (get_or old (top + i) 0) ys d (top + i) n
    ∙ sym (append_assoc (first ++ take i run) (d ∷ []) ys)
    ∙ ap (λ x. x ++ ys) (append_assoc first (take i run) (d ∷ []) ∙ ap (λ x. first ++ x) more)
    ∙ ap (λ x. first ++ take (i + 1) run ++ drop x old) place

-- the row once the whole run is written
pub written_run : (old new xs : List ℕ) (run : BitRun) (width top i : ℕ) → length old ≡ 64 → width ≤ 64
    → run.low + run.count ≤ length xs → run.lowest + run.count ≤ width → top ≡ width - (run.lowest + run.count)
    → run.count ≤ i → new ≡ take top old ++ take i (run_of run xs) ++ drop (top + i) old → i ≤ run.count
    → take width new ≡ with_part (parts.Bits run) xs (take width old)
written_run old new xs run width top i long most low lowest is past e within =
    let r = run_of run xs in
    let line = take width old in
    let long_line : length line ≡ width = omega (arith, long, most, length-take width old) in
    let count : i ≡ run.count = omega (arith, past, within) in
    let all : take i r ≡ r = take_all i r (omega (arith, past, length_run run xs low)) in
    let n : length (take top old ++ r) ≡ top + run.count =
    omega (arith, length-append (take top old) r, length-take top old, length_run run xs low, long, most, lowest, is) in
    let split : width ≡ length (take top old ++ r) + (width - (top + run.count)) = omega (arith, n, lowest, is) in
    let split2 : (top + run.count) + (width - (top + run.count)) ≡ width = omega (arith, lowest, is) in
    let first : take top old ≡ take top line = sym (take-take top width old (omega (arith, is))) in
    let last : take (width - (top + run.count)) (drop (top + run.count) old) ≡ drop (top + run.count) line =
    sym (drop-take (top + run.count) (width - (top + run.count)) old)
    ∙ ap (λ k. drop (top + run.count) (take k old)) split2 in
    let top_is : top ≡ length line - (run.lowest + run.count) = omega (arith, is, long_line) in
    ap (take width) (e ∙ (λ j. take top old ++ all j ++ drop (top + count j) old))
    ∙ ap (λ k. take k (take top old ++ r ++ drop (top + run.count) old)) split
    ∙ take-append-add (take top old ++ r) (drop (top + run.count) old) (width - (top + run.count))
    ∙ (λ j. first j ++ r ++ last j)
    ∙ (λ j. take (top_is j) line ++ r ++ drop (top_is j + run.count) line)

-- before the first digit
pub none_written : (old run : List ℕ) (top : ℕ) → old ≡ take top old ++ take 0 run ++ drop (top + 0) old
none_written old run top =
    let place : top ≡ top + 0 = omega arith in
    sym (take-append-drop top old)
    ∙ ap (λ x. x ++ drop top old) (sym (append-nil (take top old)))
    ∙ ap (λ k. take top old ++ take 0 run ++ drop k old) place

-- the digits that are put before a value are the first of what it is extended to
pub pad_first : (width : ℕ) (digits : List ℕ) (pad : ℕ) → pad ≡ pad_of (slice_index digits 0)
    → replicate (width - length digits) pad ≡ take (width - length digits) (extended width digits)
unfolding extended
pad_first width digits pad h =
    let n = width - length digits in
    let first = replicate n (pad_of (slice_index digits 0)) in
    let long : n ≡ length first + 0 = omega (arith, length-replicate n (pad_of (slice_index digits 0))) in
    ap (replicate n) h ∙ sym (append-nil first)
    ∙ sym (ap (λ k. take k (first ++ digits)) long ∙ take-append-add first digits 0)

-- ---- a line of one bit

-- the first digit of a row is written
pub first_digit : (row : List ℕ) (d : ℕ) → 0 < length row → take 1 (set row 0 d) ≡ d ∷ []
first_digit [] d h = absurd (omega (arith, h))
first_digit (r ∷ row) d h = refl

-- a digit is all of a value
pub only_digit : (xs : List ℕ) (d : ℕ) → length xs ≡ 1 → d ≡ slice_index xs 0 → d ∷ [] ≡ xs
only_digit [] d long e = absurd (omega (arith, long))
only_digit (x ∷ []) d long e = ap (λ y. y ∷ []) e
only_digit (x ∷ y ∷ ys) d long e = absurd (omega (arith, long))

-- a tap that is a line is as wide as the line
pub whole_width : (tap : Tap) → is_lawful_tap tap ≡ true → tap.part ≡ parts.Whole → tap.width ≡ width_of tap.line
whole_width tap lawful whole =
    let part = (and_parts _ _ (and_parts _ _ lawful).1).1 in
    let same : (tap.width == width_of tap.line) ≡ true =
    subst (λ p. is_part_within p tap.width (width_of tap.line) ≡ true) whole part in
    elim (eqb_tells tap.width (width_of tap.line)) [
      | inl here ↦ here.1
      | inr other ↦ absurd (true≢false (sym same ∙ other.0))
    ]
