-- Each line of a wave ends with its one line feed, so equal texts of waves have equal lines.
use Rattle.std.proofs.Common.{◌≡◌, ◌<◌, ◌+◌, ◌*◌, ℕ, zero, suc, Bool, true, false, cond, List, [], ◌∷◌, ◌++◌, Some}
use Rattle.std.proofs.Common.{None, length, map, refl, sym, ap, arith, subst}
use Rattle.std.specs.Prelude.{codes, slice_get}
use Rattle.std.specs.Fmt.{decimal}
use Rattle.std.specs.List.{list_all, range_with_len}
use Rattle.std.specs.Option.{option_map_or}
use Rattle.std.proofs.lemmas.Bool.{and_parts}
use Rattle.std.proofs.lemmas.List.{map-append}
use Rattle.fsb_count.specs.Clocks.{all_where}
use Rattle.fsb_signal.specs.declared.lines.Lines.{Lines}
use Rattle.fsb_signal.specs.declared.sample.Sample.{Sample}
use Rattle.fsb_signal.specs.Samples.{has_line, has_unknown, is_known_word}
use Rattle.fsb_wave.specs.WaveText.{NamedLine, control_lines}
use Rattle.fsb_wave.specs.WaveText.{Clocks, mark_of, mark_at, drawing, known_text, request_text}
use Rattle.fsb_wave.specs.WaveText.{data_text, clock_count_text, text_at, drawings, texts_where, lines_behind}
use Rattle.fsb_wave.specs.WaveText.{lines_below, lines_over, reached, wave_lines, wave_text}
use Rattle.fsb_wave.proofs.LineEnds.{are_above, above-append, above_more, decimal_above, hexadecimal_above, IsLine}
use Rattle.fsb_wave.proofs.LineEnds.{AreLines, lines-append, joined_same}

-- the sample of a clock that is reached
pub there : (w : List Sample) (c : ℕ) → c < length w → (s : Sample) × (slice_get w c ≡ Some s)
there [] c l = absurd (omega (arith, l))
there (s ∷ w) zero l = (s, refl)
there (s ∷ w) (suc c) l = there w c (omega (arith, l))

-- ---- the drawings

mark_above : (clocks : Clocks) (line : Lines) (c : ℕ) → are_above 31 (mark_at clocks line c ∷ []) ≡ true
unfolding mark_at mark_of
mark_above clocks line c = elim (clocks c) as (λ o. are_above 31 (option_map_or (mark_of line) o 46 ∷ []) ≡ true) [
  | None ↦ refl
  | Some s ↦ by (has_line s line) (has_unknown s line)
]
  where
    by : (a b : Bool) → are_above 31 (cond a 35 (cond b 63 46) ∷ []) ≡ true
    by true b = refl
    by false true = refl
    by false false = refl

marks_above : (clocks : Clocks) (line : Lines) (from n : ℕ)
    → are_above 31 (map (mark_at clocks line) (range_with_len from n)) ≡ true
marks_above clocks line from zero = refl
marks_above clocks line from (suc n) =
    above-append 31 (mark_at clocks line from ∷ []) (map (mark_at clocks line) (range_with_len (from + 1) n))
    (mark_above clocks line from) (marks_above clocks line (from + 1) n)

is_plain_name : NamedLine → Bool
is_plain_name named = are_above 31 named.name

drawing-line : (clocks : Clocks) (from n : ℕ) (named : NamedLine) → is_plain_name named ≡ true
    → IsLine (drawing clocks from n named)
unfolding drawing is_plain_name
drawing-line clocks from n named plain =
    let marks = map (mark_at clocks named.line) (range_with_len from n) in
    record {
      body = named.name ++ marks;
      plain = above-append 31 named.name marks plain (marks_above clocks named.line from n);
      ends = refl;
    }

all_drawn : (clocks : Clocks) (from n : ℕ) (names : List NamedLine) → list_all is_plain_name names ≡ true
    → AreLines (map (drawing clocks from n) names)
all_drawn clocks from n [] all = tt
all_drawn clocks from n (named ∷ names) all =
    let parts = and_parts (is_plain_name named) (list_all is_plain_name names) all in
    (drawing-line clocks from n named parts.0, all_drawn clocks from n names parts.1)

all_plain : list_all is_plain_name control_lines ≡ true
unfolding is_plain_name
all_plain = refl

drawings-lines : (clocks : Clocks) (from n : ℕ) → AreLines (drawings clocks from n)
unfolding drawings
drawings-lines clocks from n = all_drawn clocks from n control_lines all_plain

-- ---- the lines below them

pub known_above : (known : Bool) (value : ℕ) → are_above 32 (known_text known value) ≡ true
known_above true value = hexadecimal_above value
known_above false value = refl

-- a number, or a word, behind what is of a line
behind_number : (head : List ℕ) (n : ℕ) → are_above 31 head ≡ true → are_above 31 (head ++ decimal n) ≡ true
behind_number head n h = above-append 31 head (decimal n) h (above_more (decimal n) (decimal_above n))

behind_word : (head : List ℕ) (known : Bool) (value : ℕ) → are_above 31 head ≡ true
    → are_above 31 (head ++ codes " " ++ known_text known value) ≡ true
behind_word head known value h =
    above-append 31 (head ++ codes " ") (known_text known value) (above-append 31 head (codes " ") h refl)
    (above_more (known_text known value) (known_above known value))

request-line : (c : ℕ) (s : Sample) → IsLine (request_text c s)
unfolding request_text
request-line c s =
    let number = codes "A " ++ decimal c in
    let address = number ++ codes " " ++ known_text (is_known_word s.addr) (8 * s.addr.bits) in
    record {
      body = address ++ codes " " ++ known_text (is_known_word s.req) s.req.bits;
      plain = behind_word address (is_known_word s.req) s.req.bits
          (behind_word number (is_known_word s.addr) (8 * s.addr.bits) (behind_number (codes "A ") c refl));
      ends = refl;
    }

data-line : (c : ℕ) (s : Sample) → IsLine (data_text c s)
unfolding data_text
data-line c s =
    let number = codes "D " ++ decimal c in
    record {
      body = number ++ codes " " ++ known_text (is_known_word s.dbus) s.dbus.bits;
      plain = behind_word number (is_known_word s.dbus) s.dbus.bits (behind_number (codes "D ") c refl);
      ends = refl;
    }

count-line : (n : ℕ) → IsLine (clock_count_text n)
unfolding clock_count_text
count-line n =
    record { body = codes "clocks=" ++ decimal n; plain = behind_number (codes "clocks=") n refl; ends = refl }

-- the text of a clock that is reached is a line
text-line : (text : ℕ → Sample → List ℕ) (w : List Sample) (c : ℕ) → ((s : Sample) → IsLine (text c s)) → c < length w
    → IsLine (text_at text (slice_get w) c)
unfolding text_at
text-line text w c each l =
    let s = there w c l in
    subst IsLine (sym (ap (λ o. option_map_or (text c) o []) s.1)) (each s.0)

passing-lines : (test : ℕ → Bool) (text : ℕ → List ℕ) (n : ℕ) → ((j : ℕ) → j < n → IsLine (text j))
    → AreLines (map text (all_where test n))
unfolding all_where
passing-lines test text zero each = tt
passing-lines test text (suc n) each =
    subst AreLines (sym (map-append text (all_where test n) (cond (test n) (n ∷ []) [])))
    (lines-append (map text (all_where test n)) (map text (cond (test n) (n ∷ []) []))
    (passing-lines test text n (λ j l. each j (omega (arith, l)))) (one (test n)))
  where
    one : (b : Bool) → AreLines (map text (cond b (n ∷ []) []))
    one true = (each n (omega arith), tt)
    one false = tt

texts-lines : (test : ℕ → Bool) (text : ℕ → Sample → List ℕ) (w : List Sample) (from to : ℕ)
    → ((c : ℕ) (s : Sample) → IsLine (text c s))
    → AreLines (texts_where test (text_at text (slice_get w)) from (reached from to (length w)))
unfolding texts_where
texts-lines test text w from to each =
    passing-lines (λ j. test (from + j)) (λ j. text_at text (slice_get w) (from + j)) (reached from to (length w))
    (λ j l. text-line text w (from + j) (each (from + j)) (omega (arith, l)))

-- ---- the whole wave

pub wave_lines-lines : (w : List Sample) (from to : ℕ) → AreLines (wave_lines w from to)
unfolding lines_over lines_below lines_behind
wave_lines-lines w from to =
    lines-append _ _ (drawings-lines _ _ _)
    (lines-append _ _ (texts-lines _ request_text w from to request-line)
    (lines-append _ _ (texts-lines _ data_text w from to data-line) (count-line (length w), tt)))

-- equal texts have equal lines
pub same_lines : (v w : List Sample) (from to : ℕ) → wave_text v from to ≡ wave_text w from to
    → wave_lines v from to ≡ wave_lines w from to
same_lines v w from to e =
    joined_same (wave_lines v from to) (wave_lines w from to) (wave_lines-lines v from to)
    (wave_lines-lines w from to) e
