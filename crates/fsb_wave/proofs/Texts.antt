-- The lines of a wave: how many there are, the line of a number, and what they depend on.
use Rattle.std.proofs.Common.{◌≡◌, ◌<◌, ◌≤◌, ◌+◌, ◌-◌, ℕ, Bool, List, [], ◌∷◌, ◌++◌, Some, None, length, map, replicate}
use Rattle.std.proofs.Common.{slice_get, option_map, refl, sym, ap, append_assoc, ◌∙◌, arith}
use Rattle.std.specs.List.{range_with_len}
use Rattle.std.specs.Option.{option_map_or}
use Rattle.std.proofs.lemmas.List.{length-append, length-map, replicate-append-replicate}
use Rattle.std.proofs.lemmas.List.FromFn.{map-range_with_len_more}
use Rattle.std.proofs.lemmas.Option.{slice_get-map, slice_get_past}
use Rattle.fsb_count.specs.Clocks.{all_where, count_where, nth_where}
use Rattle.fsb_count.proofs.Interface.{length-all_where, slice_get-end}
use Rattle.fsb_signal.proofs.Interface.{slice_get-before}
use Rattle.fsb_signal.specs.ControlLines.{line_names}
use Rattle.fsb_signal.specs.declared.lines.Lines.{Lines}
use Rattle.fsb_signal.specs.declared.lines.TheConstants.Lines.{ADS, DRDY}
use Rattle.fsb_signal.specs.declared.sample.Sample.{Sample}
use Rattle.fsb_wave.specs.WaveText.{NamedLine, control_lines, drawn_line}
use Rattle.fsb_wave.specs.WaveText.{Clocks, mark_of, mark_at, drawing, asserts_at, has_request, request_text, data_text}
use Rattle.fsb_wave.specs.WaveText.{clock_count_text, text_at, drawings, texts_where, requests, transfers, lines_behind}
use Rattle.fsb_wave.specs.WaveText.{lines_below, lines_over}
use Rattle.fsb_wave.proofs.Lists.{slice_get-behind, map-same, map_where-same}

-- the lines of the clocks that pass, counted
pub length-texts : (test : ℕ → Bool) (text : ℕ → List ℕ) (from n : ℕ)
    → length (texts_where test text from n) ≡ count_where (λ j. test (from + j)) n
unfolding texts_where
length-texts test text from n = length-map (all_where (λ j. test (from + j)) n) (λ j. text (from + j))
    ∙ length-all_where (λ j. test (from + j)) n

texts-at : (test : ℕ → Bool) (text : ℕ → List ℕ) (from n k : ℕ)
    → slice_get (texts_where test text from n) k ≡ option_map (λ j. text (from + j))
    (nth_where (λ j. test (from + j)) k n)
unfolding texts_where nth_where
texts-at test text from n k = slice_get-map (λ j. text (from + j)) (all_where (λ j. test (from + j)) n) k

-- the line of the k-th clock that passes
pub texts-some : (test : ℕ → Bool) (text : ℕ → List ℕ) (from n k j : ℕ) (line : List ℕ)
    → Some j ≡ nth_where (λ j. test (from + j)) k n → line ≡ text (from + j)
    → Some line ≡ slice_get (texts_where test text from n) k
texts-some test text from n k j line e is =
    ap Some is ∙ ap (option_map (λ j. text (from + j))) e ∙ sym (texts-at test text from n k)

pub texts-none : (test : ℕ → Bool) (text : ℕ → List ℕ) (from n k : ℕ)
    → None ≡ nth_where (λ j. test (from + j)) k n → None ≡ slice_get (texts_where test text from n) k
texts-none test text from n k e = ap (option_map (λ j. text (from + j))) e ∙ sym (texts-at test text from n k)

-- the drawings, and the one of a number
pub length-drawings : (clocks : Clocks) (from n : ℕ) → length (drawings clocks from n) ≡ 21
unfolding drawings
length-drawings clocks from n = length-map control_lines (drawing clocks from n)

pub drawings-at : (clocks : Clocks) (from n k : ℕ) (named : NamedLine) → slice_get control_lines k ≡ Some named
    → slice_get (drawings clocks from n) k ≡ Some (drawing clocks from n named)
unfolding drawings
drawings-at clocks from n k named e = slice_get-map (drawing clocks from n) control_lines k
    ∙ ap (option_map (drawing clocks from n)) e

-- a control line by the place of its name
pub control_lines-at : (k : ℕ) (name : List ℕ) (bits : ℕ) → slice_get line_names k ≡ Some (name, bits)
    → slice_get control_lines k ≡ Some (drawn_line (name, bits))
control_lines-at k name bits e = slice_get-map drawn_line line_names k ∙ ap (option_map drawn_line) e

-- how many lines there are
pub length-lines : (clocks : Clocks) (from n all : ℕ)
    → length (lines_over clocks from n all) ≡ 21 + length (requests clocks from n)
    + length (transfers clocks from n) + 1
unfolding lines_over lines_below lines_behind
length-lines clocks from n all =
    let a = length-append (drawings clocks from n) (lines_below clocks from n all) in
    let b = length-append (requests clocks from n) (lines_behind clocks from n all) in
    let d = length-append (transfers clocks from n) (clock_count_text all ∷ []) in
    let e = length-drawings clocks from n in
    omega (arith, a, b, d, e)

-- the line of a number, part by part
pub line-drawn : (clocks : Clocks) (from n all i : ℕ) → i < 21
    → slice_get (lines_over clocks from n all) i ≡ slice_get (drawings clocks from n) i
unfolding lines_over
line-drawn clocks from n all i h =
    slice_get-before (drawings clocks from n) (lines_below clocks from n all) i
    (omega (arith, length-drawings clocks from n))

pub line-below : (clocks : Clocks) (from n all i : ℕ) → 21 ≤ i
    → slice_get (lines_over clocks from n all) i ≡ slice_get (lines_below clocks from n all) (i - 21)
unfolding lines_over
line-below clocks from n all i h =
    slice_get-behind (drawings clocks from n) (lines_below clocks from n all) i
    (omega (arith, length-drawings clocks from n))
    ∙ ap (λ k. slice_get (lines_below clocks from n all) (i - k)) (length-drawings clocks from n)

pub line-request : (clocks : Clocks) (from n all i : ℕ) → i < length (requests clocks from n)
    → slice_get (lines_below clocks from n all) i ≡ slice_get (requests clocks from n) i
unfolding lines_below
line-request clocks from n all i h = slice_get-before (requests clocks from n) (lines_behind clocks from n all) i h

pub line-behind : (clocks : Clocks) (from n all i : ℕ) → length (requests clocks from n) ≤ i
    → slice_get (lines_below clocks from n all) i ≡ slice_get (lines_behind clocks from n all)
    (i - length (requests clocks from n))
unfolding lines_below
line-behind clocks from n all i h = slice_get-behind (requests clocks from n) (lines_behind clocks from n all) i h

pub line-transfer : (clocks : Clocks) (from n all i : ℕ) → i < length (transfers clocks from n)
    → slice_get (lines_behind clocks from n all) i ≡ slice_get (transfers clocks from n) i
unfolding lines_behind
line-transfer clocks from n all i h = slice_get-before (transfers clocks from n) (clock_count_text all ∷ []) i h

pub line-last : (clocks : Clocks) (from n all : ℕ)
    → slice_get (lines_behind clocks from n all) (length (transfers clocks from n)) ≡ Some (clock_count_text all)
unfolding lines_behind
line-last clocks from n all = slice_get-end (transfers clocks from n) (clock_count_text all)

pub line-past : (clocks : Clocks) (from n all i : ℕ) → length (transfers clocks from n) < i
    → slice_get (lines_behind clocks from n all) i ≡ None
unfolding lines_behind
line-past clocks from n all i h =
    slice_get_past (transfers clocks from n ++ clock_count_text all ∷ []) i
    (omega (arith, length-append (transfers clocks from n) (clock_count_text all ∷ [])))

-- the lines depend on the clocks of the range and on the one before them alone
pub record SameClocks (from n : ℕ) (a b : Clocks) : Type 0 where
  pub same : (c : ℕ) → 0 < n → from ≤ c + 1 → c < from + n → a c ≡ b c

mark_at-same : (a b : Clocks) (line : Lines) (c : ℕ) → a c ≡ b c → mark_at a line c ≡ mark_at b line c
unfolding mark_at
mark_at-same a b line c e = ap (λ o. option_map_or (mark_of line) o 46) e

drawing-same : (a b : Clocks) (from n : ℕ) → SameClocks from n a b → (named : NamedLine)
    → drawing a from n named ≡ drawing b from n named
unfolding drawing
drawing-same a b from n s named =
    ap (λ marks. named.name ++ marks ++ (10 ∷ [])) (map-same (mark_at a named.line) (mark_at b named.line) from n
    (λ c l u. mark_at-same a b named.line c (s.same c (omega (arith, l, u)) (omega (arith, l)) u)))

drawings-same : (a b : Clocks) (from n : ℕ) → SameClocks from n a b → drawings a from n ≡ drawings b from n
unfolding drawings
drawings-same a b from n s = λ i. map (λ named. drawing-same a b from n s named i) control_lines

is_at-same : (a b : Clocks) (line : Lines) (c : ℕ) → a c ≡ b c → asserts_at a line c ≡ asserts_at b line c
unfolding asserts_at
is_at-same a b line c e = cc

has_request-same : (a b : Clocks) (c : ℕ) → a c ≡ b c → a (c - 1) ≡ b (c - 1) → has_request a c ≡ has_request b c
unfolding has_request
has_request-same a b c e f = rw (is_at-same a b ADS c e, is_at-same a b ADS (c - 1) f) refl

text_at-same : (text : ℕ → Sample → List ℕ) (a b : Clocks) (c : ℕ) → a c ≡ b c → text_at text a c ≡ text_at text b c
unfolding text_at
text_at-same text a b c e = ap (λ o. option_map_or (text c) o []) e

requests-same : (a b : Clocks) (from n : ℕ) → SameClocks from n a b → requests a from n ≡ requests b from n
unfolding texts_where
requests-same a b from n s =
    map_where-same (λ j. text_at request_text a (from + j)) (λ j. text_at request_text b (from + j))
    (λ j. has_request a (from + j)) (λ j. has_request b (from + j)) n
    (λ j l. has_request-same a b (from + j)
    (s.same (from + j) (omega (arith, l)) (omega arith) (omega (arith, l)))
    (s.same (from + j - 1) (omega (arith, l)) (omega arith) (omega (arith, l))))
    (λ j l. text_at-same request_text a b (from + j)
    (s.same (from + j) (omega (arith, l)) (omega arith) (omega (arith, l))))

transfers-same : (a b : Clocks) (from n : ℕ) → SameClocks from n a b → transfers a from n ≡ transfers b from n
unfolding texts_where
transfers-same a b from n s =
    map_where-same (λ j. text_at data_text a (from + j)) (λ j. text_at data_text b (from + j))
    (λ j. asserts_at a DRDY (from + j)) (λ j. asserts_at b DRDY (from + j)) n
    (λ j l. is_at-same a b DRDY (from + j) (s.same (from + j) (omega (arith, l)) (omega arith) (omega (arith, l))))
    (λ j l. text_at-same data_text a b (from + j)
    (s.same (from + j) (omega (arith, l)) (omega arith) (omega (arith, l))))

pub lines-same : (a b : Clocks) (from n all : ℕ) → SameClocks from n a b
    → lines_over a from n all ≡ lines_over b from n all
unfolding lines_over lines_below lines_behind
lines-same a b from n all s =
    rw (drawings-same a b from n s, requests-same a b from n s, transfers-same a b from n s) refl

-- one more space behind a name that is filled so far
pub filled-more : (name old new : List ℕ) → old ≡ name ++ replicate (length old - length name) 32 → new ≡ old ++ 32 ∷ []
    → length name ≤ length old → new ≡ name ++ replicate (length new - length name) 32
filled-more name old new filled push least =
    let k = length old - length name in
    let more : length new - length name ≡ k + 1 = omega (arith, ap length push ∙ length-append old (32 ∷ []), least) in
    push ∙ ap (λ xs. xs ++ 32 ∷ []) filled ∙ append_assoc name (replicate k 32) (32 ∷ [])
    ∙ ap (λ xs. name ++ xs) (replicate-append-replicate k 1 32)
    ∙ ap (λ n. name ++ replicate n 32) (sym more)

-- one more character behind the ones that are drawn
pub drawn-more : (name : List ℕ) (f : ℕ → ℕ) (from k m : ℕ) (old new : List ℕ)
    → old ≡ name ++ map f (range_with_len from k) → new ≡ old ++ m ∷ [] → m ≡ f (from + k)
    → new ≡ name ++ map f (range_with_len from (k + 1))
drawn-more name f from k m old new drawn push is =
    push ∙ ap (λ xs. xs ++ m ∷ []) drawn ∙ append_assoc name (map f (range_with_len from k)) (m ∷ [])
    ∙ ap (λ x. name ++ (map f (range_with_len from k) ++ x ∷ [])) is
    ∙ ap (λ xs. name ++ xs) (sym (map-range_with_len_more f from k (from + k) refl))

-- the whole drawing, once every clock is drawn
pub drawing-is : (clocks : Clocks) (from n k : ℕ) (named : NamedLine) (line items : List ℕ)
    → line ≡ named.name ++ map (mark_at clocks named.line) (range_with_len from k) → k ≡ n
    → items ≡ line ++ 10 ∷ [] → drawing clocks from n named ≡ items
unfolding drawing
drawing-is clocks from n k named line items drawn all push =
    sym (push ∙ ap (λ xs. xs ++ 10 ∷ []) (drawn
    ∙ ap (λ m. named.name ++ map (mark_at clocks named.line) (range_with_len from m)) all))
