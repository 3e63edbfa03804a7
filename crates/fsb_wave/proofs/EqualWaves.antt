-- Equal waves show equal lines.
use Rattle.std.proofs.Common.{◌≡◌, ◌<◌, ◌≤◌, ◌+◌, ◌-◌, ◌==◌, ◌^◌, ℕ, zero, suc, Bool, true, false, not, cond, List, []}
use Rattle.std.proofs.Common.{◌∷◌, ◌++◌, Some, length, map, get_or, slice_get, refl, sym, ap, ◌∙◌, inl, inr, arith}
use Rattle.std.specs.Fmt.{decimal}
use Rattle.std.specs.Int.RustNames.{bit_and}
use Rattle.std.specs.List.{list_all, range_with_len}
use Rattle.std.specs.Option.{option_map_or}
use Rattle.std.specs.Int.Bits.{and_zero_l}
use Rattle.std.proofs.lemmas.Bool.{cases_lt, and_parts, eqb-true}
use Rattle.std.proofs.lemmas.Fmt.{decimal_injective}
use Rattle.std.proofs.lemmas.List.{append_cancel_right, get_or_append_left, get_or-append-add, length-append}
use Rattle.std.proofs.lemmas.List.FromFn.{get_or-map-range_with_len, length-map-range_with_len}
use Rattle.std.proofs.lemmas.Nat.{and_assoc}
use Rattle.std.proofs.lemmas.Option.{slice_get_past, slice_get_within}
use Rattle.fsb_signal.specs.declared.lines.Lines.{Lines}
use Rattle.fsb_signal.specs.declared.sample.Sample.{Sample}
use Rattle.fsb_signal.specs.Samples.{has_line, has_unknown, line_at}
use Rattle.fsb_wave.specs.WaveText.{NamedLine, control_lines}
use Rattle.fsb_wave.specs.WaveText.{Clocks, mark_of, mark_at, drawing, clock_count_text, requests, transfers, reached}
use Rattle.fsb_wave.specs.WaveText.{lines_over, lines_behind, wave_lines}
use Rattle.fsb_wave.specs.Law.{EqualWaves, is_unknown_at}
use Rattle.fsb_wave.proofs.LinesOfText.{same_lines, there}
use Rattle.fsb_wave.proofs.Texts.{drawings-at, line-drawn, line-below, line-behind, line-last, length-lines}

-- the last line
last-line : (clocks : Clocks) (from n all : ℕ)
    → slice_get (lines_over clocks from n all) (length (lines_over clocks from n all) - 1) ≡ Some (clock_count_text all)
last-line clocks from n all =
    let count = length-lines clocks from n all in
    let r = length (requests clocks from n) in
    let t = length (transfers clocks from n) in
    let i = length (lines_over clocks from n all) - 1 in
    let place : i - 21 - r ≡ t = omega (arith, count) in
    line-below clocks from n all i (omega (arith, count))
    ∙ line-behind clocks from n all (i - 21) (omega (arith, count))
    ∙ ap (slice_get (lines_behind clocks from n all)) place ∙ line-last clocks from n all

pub same_some : {X : Type 0} (x y : X) → Some x ≡ Some y → x ≡ y
same_some x y e = cc

same_count : (m n : ℕ) → m < 2 ^ 64 → n < 2 ^ 64 → clock_count_text m ≡ clock_count_text n → m ≡ n
unfolding clock_count_text
same_count m n a b e =
    let digits : decimal m ++ 10 ∷ [] ≡ decimal n ++ 10 ∷ [] = cc in
    decimal_injective m n a b (append_cancel_right (decimal m) (decimal n) (10 ∷ []) digits)

-- the same lines
pub lines : (v w : List Sample) (from to : ℕ) → EqualWaves v w from to → wave_lines v from to ≡ wave_lines w from to
lines v w from to e = same_lines v w from to e.same

-- as many samples
pub number : (v w : List Sample) (from to : ℕ) → EqualWaves v w from to → length v ≡ length w
number v w from to e =
    let a = last-line (slice_get v) from (reached from to (length v)) (length v) in
    let b = last-line (slice_get w) from (reached from to (length w)) (length w) in
    same_count (length v) (length w) e.short_v e.short_w
    (same_some _ _ (sym a ∙ ap (λ xs. slice_get xs (length xs - 1)) (lines v w from to e) ∙ b))

-- a control line has a bit
has_bit : NamedLine → Bool
has_bit named = not (named.line.0 == 0)

all_have : list_all has_bit control_lines ≡ true
unfolding has_bit
all_have = refl

all-at : {X : Type 0} (p : X → Bool) (xs : List X) → list_all p xs ≡ true → (k : ℕ) (x : X)
    → slice_get xs k ≡ Some x → p x ≡ true
all-at p [] all k x e = absurd (let no : ⊥ = cc in no)
all-at p (y ∷ ys) all zero x e = ap p (same_some x y (sym e)) ∙ (and_parts (p y) (list_all p ys) all).0
all-at p (y ∷ ys) all (suc k) x e = all-at p ys (and_parts (p y) (list_all p ys) all).1 k x e

-- a line with a bit is not both asserted and unknown
apart : (s : Sample) (line : Lines) → not (line.0 == 0) ≡ true → has_line s line ≡ true → has_unknown s line ≡ false
apart s line bit asserted = elim (has_unknown s line) as (λ b. has_unknown s line ≡ b → b ≡ false) [
  | false ↦ λ e. refl
  | true ↦ λ e.
      let a : bit_and s.lines.0 line.0 ≡ line.0 = eqb-true _ _ asserted in
      let b : bit_and s.unknown.0 line.0 ≡ line.0 = eqb-true _ _ e in
      let none : line.0 ≡ 0 =
      sym a ∙ ap (bit_and s.lines.0) (sym b) ∙ sym (and_assoc line.0 s.lines.0 s.unknown.0)
      ∙ ap (λ x. bit_and x line.0) s.disjoint ∙ and_zero_l line.0 in
      absurd (let no : not (0 == 0) ≡ true = ap (λ x. not (x == 0)) (sym none) ∙ bit in cc)
] refl

-- the character of a line that is asserted, or unknown
abbrev character : Bool → Bool → ℕ
character asserted unknown = cond asserted 35 (cond unknown 63 46)

-- the character tells both
asserted_by : (a b c d : Bool) → character a b ≡ character c d → a ≡ c
asserted_by true b true d e = refl
asserted_by false b false d e = refl
asserted_by true b false true e = absurd (omega (arith, e))
asserted_by true b false false e = absurd (omega (arith, e))
asserted_by false true true d e = absurd (omega (arith, e))
asserted_by false false true d e = absurd (omega (arith, e))

unknown_by : (a b c d : Bool) → (a ≡ true → b ≡ false) → (c ≡ true → d ≡ false) → character a b ≡ character c d → b ≡ d
unknown_by true b true d ab cd e = ab refl ∙ sym (cd refl)
unknown_by false true false true ab cd e = refl
unknown_by false false false false ab cd e = refl
unknown_by false true false false ab cd e = absurd (omega (arith, e))
unknown_by false false false true ab cd e = absurd (omega (arith, e))
unknown_by true b false true ab cd e = absurd (omega (arith, e))
unknown_by true b false false ab cd e = absurd (omega (arith, e))
unknown_by false true true d ab cd e = absurd (omega (arith, e))
unknown_by false false true d ab cd e = absurd (omega (arith, e))

-- the character of a clock stands in the drawing
mark-drawn : (clocks : Clocks) (from n : ℕ) (named : NamedLine) (i : ℕ) → i < n
    → get_or (drawing clocks from n named) (length named.name + i) 46 ≡ mark_at clocks named.line (from + i)
unfolding drawing
mark-drawn clocks from n named i l =
    let marks = map (mark_at clocks named.line) (range_with_len from n) in
    let long : length marks ≡ n = length-map-range_with_len (mark_at clocks named.line) from n in
    get_or_append_left (named.name ++ marks) (10 ∷ []) 46 (length named.name + i)
    (omega (arith, l, long, length-append named.name marks))
    ∙ get_or-append-add named.name marks i 46
    ∙ get_or-map-range_with_len (mark_at clocks named.line) from n i (from + i) 46 l refl

-- the same character at each clock of the range that both reach
marks : (v w : List Sample) (from to c k : ℕ) (named : NamedLine) → EqualWaves v w from to → from ≤ c → c ≤ to
    → c < length v → slice_get control_lines k ≡ Some named
    → mark_at (slice_get v) named.line c ≡ mark_at (slice_get w) named.line c
marks v w from to c k named e low high within at =
    let same = number v w from to e in
    let n = reached from to (length v) in
    let m = reached from to (length w) in
    let few : k < 21 = slice_get_within control_lines k named at in
    let a = line-drawn (slice_get v) from n (length v) k few ∙ drawings-at (slice_get v) from n k named at in
    let b = line-drawn (slice_get w) from m (length w) k few ∙ drawings-at (slice_get w) from m k named at in
    let text : drawing (slice_get v) from n named ≡ drawing (slice_get w) from m named =
    same_some _ _ (sym a ∙ ap (λ xs. slice_get xs k) (lines v w from to e) ∙ b) in
    let place : from + (c - from) ≡ c = omega arith in
    ap (mark_at (slice_get v) named.line) (sym place)
    ∙ sym (mark-drawn (slice_get v) from n named (c - from) (omega arith))
    ∙ ap (λ xs. get_or xs (length named.name + (c - from)) 46) text
    ∙ mark-drawn (slice_get w) from m named (c - from) (omega (arith, same))
    ∙ ap (mark_at (slice_get w) named.line) place

mark_at-is : (w : List Sample) (line : Lines) (c : ℕ) (s : Sample) → slice_get w c ≡ Some s
    → mark_at (slice_get w) line c ≡ character (has_line s line) (has_unknown s line)
unfolding mark_at mark_of
mark_at-is w line c s e = ap (λ o. option_map_or (mark_of line) o 46) e

line_at-is : (w : List Sample) (line : Lines) (c : ℕ) (s : Sample) → slice_get w c ≡ Some s
    → line_at line w c ≡ has_line s line
unfolding line_at
line_at-is w line c s e = ap (λ o. option_map_or (λ s. has_line s line) o false) e

unknown_at-is : (w : List Sample) (line : Lines) (c : ℕ) (s : Sample) → slice_get w c ≡ Some s
    → is_unknown_at line w c ≡ has_unknown s line
unfolding is_unknown_at
unknown_at-is w line c s e = ap (λ o. option_map_or (λ s. has_unknown s line) o false) e

-- a clock that both reach shows the same
pub asserted : (v w : List Sample) (from to c k : ℕ) (named : NamedLine) → EqualWaves v w from to → from ≤ c
    → c ≤ to → slice_get control_lines k ≡ Some named → line_at named.line v c ≡ line_at named.line w c
unfolding line_at
asserted v w from to c k named e low high at =
    let same = number v w from to e in
    elim (cases_lt c (length v)) [
      | inl within ↦
          let s = there v c within in
          let t = there w c (omega (arith, same, within)) in
          let mark = sym (mark_at-is v named.line c s.0 s.1)
          ∙ marks v w from to c k named e low high within at ∙ mark_at-is w named.line c t.0 t.1 in
          line_at-is v named.line c s.0 s.1
          ∙ asserted_by (has_line s.0 named.line) (has_unknown s.0 named.line) (has_line t.0 named.line)
          (has_unknown t.0 named.line) mark
          ∙ sym (line_at-is w named.line c t.0 t.1)
      | inr past ↦ rw (slice_get_past v c past, slice_get_past w c (omega (arith, same, past))) refl
    ]

pub unknown : (v w : List Sample) (from to c k : ℕ) (named : NamedLine) → EqualWaves v w from to → from ≤ c
    → c ≤ to → slice_get control_lines k ≡ Some named → is_unknown_at named.line v c ≡ is_unknown_at named.line w c
unfolding is_unknown_at has_bit
unknown v w from to c k named e low high at =
    let same = number v w from to e in
    elim (cases_lt c (length v)) [
      | inl within ↦
          let s = there v c within in
          let t = there w c (omega (arith, same, within)) in
          let bit = all-at has_bit control_lines all_have k named at in
          let mark = sym (mark_at-is v named.line c s.0 s.1)
          ∙ marks v w from to c k named e low high within at ∙ mark_at-is w named.line c t.0 t.1 in
          unknown_at-is v named.line c s.0 s.1
          ∙ unknown_by (has_line s.0 named.line) (has_unknown s.0 named.line) (has_line t.0 named.line)
          (has_unknown t.0 named.line) (apart s.0 named.line bit) (apart t.0 named.line bit) mark
          ∙ sym (unknown_at-is w named.line c t.0 t.1)
      | inr past ↦ rw (slice_get_past v c past, slice_get_past w c (omega (arith, same, past))) refl
    ]
