-- Equal waves show equal words.
use Rattle.std.proofs.Common.{◌≡◌, ◌<◌, ◌≤◌, ◌+◌, ◌-◌, ◌*◌, ◌^◌, ℕ, zero, suc, Bool, true, false, cond, List, []}
use Rattle.std.proofs.Common.{◌∷◌, ◌++◌, Some, length, refl, sym, ap, append_assoc, ◌∙◌, arith}
use Rattle.std.specs.Prelude.{codes, slice_get}
use Rattle.std.specs.Fmt.{decimal}
use Rattle.std.specs.Option.{option_map_or}
use Rattle.std.proofs.lemmas.List.{append_cancel_left, append_cancel_right, length-append}
use Rattle.std.proofs.lemmas.Option.{slice_get_within}
use Rattle.fsb_count.specs.Clocks.{AgreeBelow, count_where, nth_where}
use Rattle.fsb_count.proofs.Interface.{count_where-same, nth_where-at}
use Rattle.fsb_signal.specs.declared.lines.Lines.{Lines}
use Rattle.fsb_signal.specs.declared.lines.TheConstants.Lines.{ADS, DRDY}
use Rattle.fsb_signal.specs.declared.sample.Sample.{Sample}
use Rattle.fsb_signal.specs.Samples.{has_line, is_known_word, line_at}
use Rattle.fsb_wave.specs.WaveText.{NamedLine, control_lines, drawn_line}
use Rattle.fsb_wave.specs.WaveText.{asserts_at, has_request, known_text, request_text, data_text, text_at}
use Rattle.fsb_wave.specs.WaveText.{clock_count_text, drawings, texts_where, requests, transfers, lines_behind}
use Rattle.fsb_wave.specs.WaveText.{lines_below, lines_over, reached}
use Rattle.fsb_wave.specs.Law.{EqualWaves, EqualWavesAt, AreShownAlike}
use Rattle.fsb_wave.proofs.LineEnds.{cut_same, hexadecimal_known, hexadecimal_same, parts_same}
use Rattle.fsb_wave.proofs.LinesOfText.{known_above}
use Rattle.fsb_wave.proofs.EqualWaves.{lines, number, asserted, same_some}
use Rattle.fsb_wave.proofs.Texts.{control_lines-at, length-drawings, length-lines, length-texts, texts-some}

-- ---- the same clocks

-- a line of this number is asserted at the same clocks
same_at : (v w : List Sample) (from to c k : ℕ) (named : NamedLine) → EqualWaves v w from to → from ≤ c → c ≤ to
    → slice_get control_lines k ≡ Some named
    → asserts_at (slice_get v) named.line c ≡ asserts_at (slice_get w) named.line c
unfolding asserts_at line_at
same_at v w from to c k named e low high at = asserted v w from to c k named e low high at

ads-at : (v w : List Sample) (from to c : ℕ) → EqualWaves v w from to → from ≤ c → c ≤ to
    → asserts_at (slice_get v) ADS c ≡ asserts_at (slice_get w) ADS c
ads-at v w from to c e low high =
    same_at v w from to c 7 (drawn_line (codes "ADS", 128)) e low high (control_lines-at 7 (codes "ADS") 128 refl)

drdy-at : (v w : List Sample) (from to c : ℕ) → EqualWaves v w from to → from ≤ c → c ≤ to
    → asserts_at (slice_get v) DRDY c ≡ asserts_at (slice_get w) DRDY c
drdy-at v w from to c e low high =
    same_at v w from to c 17 (drawn_line (codes "DRDY", 131072)) e low high
    (control_lines-at 17 (codes "DRDY") 131072 refl)

-- the clocks that are drawn, of both
abbrev drawn : List Sample → ℕ → ℕ → ℕ
drawn v from to = reached from to (length v)

-- the tests of a place of the range
abbrev asks_at : List Sample → ℕ → ℕ → Bool
asks_at v from j = has_request (slice_get v) (from + j)

abbrev moves_at : List Sample → ℕ → ℕ → Bool
moves_at v from j = asserts_at (slice_get v) DRDY (from + j)

moves_alike : (v w : List Sample) (from to : ℕ) → EqualWaves v w from to
    → AgreeBelow (drawn v from to) (moves_at v from) (moves_at w from)
moves_alike v w from to e = record { same = λ j l. drdy-at v w from to (from + j) e (omega arith) (omega (arith, l)) }

-- the lines of both, over the same clocks
lines_alike : (v w : List Sample) (from to : ℕ) → EqualWaves v w from to
    → lines_over (slice_get v) from (drawn v from to) (length v)
    ≡ lines_over (slice_get w) from (drawn v from to) (length v)
lines_alike v w from to e =
    lines v w from to e ∙ ap (λ n. lines_over (slice_get w) from (reached from to n) n) (sym (number v w from to e))

-- as many lines of requests
requests_count : (v w : List Sample) (from to : ℕ) → EqualWaves v w from to
    → length (requests (slice_get v) from (drawn v from to)) ≡ length (requests (slice_get w) from (drawn v from to))
requests_count v w from to e =
    let n = drawn v from to in
    let a = length-lines (slice_get v) from n (length v) in
    let b = length-lines (slice_get w) from n (length v) in
    let same = ap (λ xs. length xs) (lines_alike v w from to e) in
    let moved : length (transfers (slice_get v) from n) ≡ length (transfers (slice_get w) from n) =
    length-texts (asserts_at (slice_get v) DRDY) (text_at data_text (slice_get v)) from n
    ∙ count_where-same (moves_at v from) (moves_at w from) n (moves_alike v w from to e)
    ∙ sym (length-texts (asserts_at (slice_get w) DRDY) (text_at data_text (slice_get w)) from n) in
    omega (arith, a, b, same, moved)

abbrev one_if : Bool → ℕ
one_if b = cond b 1 0

bit_same : (a b : Bool) → one_if a ≡ one_if b → a ≡ b
bit_same true true e = refl
bit_same false false e = refl
bit_same true false e = absurd (omega (arith, e))
bit_same false true e = absurd (omega (arith, e))

-- tests that agree past the first number, and count the same, agree at the first
first_same : (p q : ℕ → Bool) (n : ℕ) → ((j : ℕ) → 0 < j → j < suc n → p j ≡ q j)
    → count_where p (suc n) ≡ count_where q (suc n) → p 0 ≡ q 0
unfolding count_where
first_same p q zero each e = bit_same (p 0) (q 0) (omega (arith, e))
first_same p q (suc n) each e =
    let last : one_if (p (suc n)) ≡ one_if (q (suc n)) = ap one_if (each (suc n) (omega arith) (omega arith)) in
    first_same p q n (λ j low high. each j low (omega (arith, high))) (omega (arith, e, last))

-- past the first clock of the range the clock before is drawn too
asks_past : (v w : List Sample) (from to j : ℕ) → EqualWaves v w from to → 0 < j → j < drawn v from to
    → asks_at v from j ≡ asks_at w from j
unfolding has_request
asks_past v w from to j e low high =
    rw (
      ads-at v w from to (from + j) e (omega arith) (omega (arith, high)),
      ads-at v w from to (from + j - 1) e (omega (arith, low)) (omega (arith, high)),
    ) refl

asks_first : (v w : List Sample) (from to n : ℕ) → EqualWaves v w from to → drawn v from to ≡ suc n
    → asks_at v from 0 ≡ asks_at w from 0
asks_first v w from to n e long =
    let a = length-texts (has_request (slice_get v)) (text_at request_text (slice_get v)) from (drawn v from to) in
    let b = length-texts (has_request (slice_get w)) (text_at request_text (slice_get w)) from (drawn v from to) in
    let count : count_where (asks_at v from) (suc n) ≡ count_where (asks_at w from) (suc n) =
    ap (count_where (asks_at v from)) (sym long) ∙ sym a ∙ requests_count v w from to e ∙ b
    ∙ ap (count_where (asks_at w from)) long in
    first_same (asks_at v from) (asks_at w from) n
    (λ j low high. asks_past v w from to j e low (omega (arith, high, long))) count

asks_alike : (v w : List Sample) (from to : ℕ) → EqualWaves v w from to
    → AgreeBelow (drawn v from to) (asks_at v from) (asks_at w from)
asks_alike v w from to e = record { same = by }
  where
    by : (j : ℕ) → j < drawn v from to → asks_at v from j ≡ asks_at w from j
    by zero l = some (drawn v from to) refl l
      where
        some : (n : ℕ) → drawn v from to ≡ n → 0 < n → asks_at v from 0 ≡ asks_at w from 0
        some zero long l = absurd (omega (arith, l))
        some (suc n) long l = asks_first v w from to n e long
    by (suc j) l = asks_past v w from to (suc j) e (omega arith) l

-- ---- the same lines of requests and of data

both_lists : (v w : List Sample) (from to : ℕ) → EqualWaves v w from to →
    (requests (slice_get v) from (drawn v from to) ≡ requests (slice_get w) from (drawn v from to))
    × (transfers (slice_get v) from (drawn v from to) ≡ transfers (slice_get w) from (drawn v from to))
unfolding lines_over lines_below lines_behind
both_lists v w from to e =
    let n = drawn v from to in
    let all = length v in
    let a = slice_get v in
    let b = slice_get w in
    let below = parts_same (drawings a from n) (drawings b from n) (lines_below a from n all) (lines_below b from n all)
    (length-drawings a from n ∙ sym (length-drawings b from n)) (lines_alike v w from to e) in
    let behind = parts_same (requests a from n) (requests b from n) (lines_behind a from n all)
    (lines_behind b from n all) (requests_count v w from to e) below.1 in
    let moved : length (transfers a from n) ≡ length (transfers b from n) =
    omega (
      arith,
      ap (λ xs. length xs) behind.1,
      length-append (transfers a from n) (clock_count_text all ∷ []),
      length-append (transfers b from n) (clock_count_text all ∷ []),
    ) in
    (behind.0, (parts_same (transfers a from n) (transfers b from n) _ _ moved behind.1).0)

-- the text of a place that passes
same_text : (p q : ℕ → Bool) (f g : ℕ → List ℕ) (from n j : ℕ)
    → AgreeBelow n (λ j. p (from + j)) (λ j. q (from + j)) → texts_where p f from n ≡ texts_where q g from n → j < n
    → p (from + j) ≡ true → f (from + j) ≡ g (from + j)
same_text p q f g from n j a e l passes =
    let one : ℕ → Bool = λ j. p (from + j) in
    let other : ℕ → Bool = λ j. q (from + j) in
    let k = count_where one j in
    let before : AgreeBelow j one other = record { same = λ c m. a.same c (omega (arith, l, m)) } in
    let here = nth_where-at one n j l passes in
    let there : nth_where other k n ≡ Some j =
    ap (λ k. nth_where other k n) (count_where-same one other j before)
    ∙ nth_where-at other n j l (sym (a.same j l) ∙ passes) in
    same_some _ _ (texts-some p f from n k j (f (from + j)) (sym here) refl ∙ ap (λ xs. slice_get xs k) e
    ∙ sym (texts-some q g from n k j (g (from + j)) (sym there) refl))

-- ---- the words of a line

known_same : (a b : Bool) (m n : ℕ) → m < 2 ^ 64 → n < 2 ^ 64 → known_text a m ≡ known_text b n
    → (a ≡ b) × (a ≡ true → m ≡ n)
known_same true true m n x y e = (refl, λ k. hexadecimal_same m n x y e)
known_same true false m n x y e = absurd (hexadecimal_known m e)
known_same false true m n x y e = absurd (hexadecimal_known n (sym e))
known_same false false m n x y e = (refl, λ k. absurd (let no : ⊥ = cc in no))

pub data_words : (c : ℕ) (s t : Sample) → s.dbus.bits < 2 ^ 64 → t.dbus.bits < 2 ^ 64 → data_text c s ≡ data_text c t
    → AreShownAlike s.dbus t.dbus
unfolding data_text
data_words c s t a b e =
    let head = codes "D " ++ decimal c ++ codes " " in
    let one = known_text (is_known_word s.dbus) s.dbus.bits in
    let other = known_text (is_known_word t.dbus) t.dbus.bits in
    let same : one ≡ other =
    append_cancel_left head one other (append_cancel_right (head ++ one) (head ++ other) (10 ∷ []) e) in
    let words = known_same (is_known_word s.dbus) (is_known_word t.dbus) s.dbus.bits t.dbus.bits a b same in
    record { known = words.0; bits = words.1 }

-- the two words of a request
behind_head : (head address request : List ℕ)
    → head ++ address ++ codes " " ++ request ++ codes "\n" ≡ head ++ (address ++ 32 ∷ (request ++ 10 ∷ []))
behind_head head address request = simp append_assoc

request_words : (c : ℕ) (s t : Sample) → request_text c s ≡ request_text c t
    → AreShownAlike s.addr t.addr × AreShownAlike s.req t.req
unfolding request_text
request_words c s t e =
    let head = codes "A " ++ decimal c ++ codes " " in
    let a = known_text (is_known_word s.addr) (8 * s.addr.bits) in
    let b = known_text (is_known_word t.addr) (8 * t.addr.bits) in
    let x = known_text (is_known_word s.req) s.req.bits in
    let y = known_text (is_known_word t.req) t.req.bits in
    let both = append_cancel_left head (a ++ 32 ∷ (x ++ 10 ∷ [])) (b ++ 32 ∷ (y ++ 10 ∷ []))
    (sym (behind_head head a x) ∙ e ∙ behind_head head b y) in
    let cut = cut_same 32 32 a b (x ++ 10 ∷ []) (y ++ 10 ∷ []) (omega arith) (known_above _ _) (known_above _ _) both in
    let low_a = s.addr_bits in
    let low_b = t.addr_bits in
    let low_x = s.req_bits in
    let low_y = t.req_bits in
    let address = known_same (is_known_word s.addr) (is_known_word t.addr) (8 * s.addr.bits) (8 * t.addr.bits)
    (omega (arith, low_a)) (omega (arith, low_b)) cut.0 in
    let request = known_same (is_known_word s.req) (is_known_word t.req) s.req.bits t.req.bits
    (omega (arith, low_x)) (omega (arith, low_y)) (append_cancel_right x y (10 ∷ []) cut.1) in (
      record { known = address.0; bits = λ k. omega (arith, address.1 k) },
      record { known = request.0; bits = request.1 },
    )

-- ---- at a clock

text-is : (text : ℕ → Sample → List ℕ) (w : List Sample) (c : ℕ) (s : Sample) → slice_get w c ≡ Some s
    → text_at text (slice_get w) c ≡ text c s
unfolding text_at
text-is text w c s e = ap (λ o. option_map_or (text c) o []) e

-- the place of a clock among those that are drawn
place : (v w : List Sample) (from to c : ℕ) (s t : Sample) → EqualWavesAt v w from to c s t
    → (j : ℕ) × (j < drawn v from to) × (from + j ≡ c)
place v w from to c s t e =
    let within : c < length v = slice_get_within v c s e.first in
    let low = e.low in
    let high = e.high in
    (c - from, omega (arith, within, low, high), omega (arith, low))

pub asked : (v w : List Sample) (from to c : ℕ) (s t : Sample) → EqualWavesAt v w from to c s t
    → has_request (slice_get v) c ≡ has_request (slice_get w) c
asked v w from to c s t e =
    let at = place v w from to c s t e in
    ap (has_request (slice_get v)) (sym at.2) ∙ (asks_alike v w from to e.waves).same at.0 at.1
    ∙ ap (has_request (slice_get w)) at.2

asked_words : (v w : List Sample) (from to c : ℕ) (s t : Sample) → EqualWavesAt v w from to c s t
    → has_request (slice_get v) c ≡ true → AreShownAlike s.addr t.addr × AreShownAlike s.req t.req
asked_words v w from to c s t e asks =
    let at = place v w from to c s t e in
    let one = text_at request_text (slice_get v) in
    let other = text_at request_text (slice_get w) in
    let same = same_text (has_request (slice_get v)) (has_request (slice_get w)) one other from (drawn v from to) at.0
    (asks_alike v w from to e.waves) (both_lists v w from to e.waves).0 at.1
    (ap (has_request (slice_get v)) at.2 ∙ asks) in
    request_words c s t (sym (text-is request_text v c s e.first) ∙ ap one (sym at.2) ∙ same ∙ ap other at.2
    ∙ text-is request_text w c t e.second)

pub address : (v w : List Sample) (from to c : ℕ) (s t : Sample) → EqualWavesAt v w from to c s t
    → has_request (slice_get v) c ≡ true → AreShownAlike s.addr t.addr
address v w from to c s t e asks = (asked_words v w from to c s t e asks).0

pub request : (v w : List Sample) (from to c : ℕ) (s t : Sample) → EqualWavesAt v w from to c s t
    → has_request (slice_get v) c ≡ true → AreShownAlike s.req t.req
request v w from to c s t e asks = (asked_words v w from to c s t e asks).1

asserts-is : (w : List Sample) (line : Lines) (c : ℕ) (s : Sample) → slice_get w c ≡ Some s
    → asserts_at (slice_get w) line c ≡ has_line s line
unfolding asserts_at
asserts-is w line c s e = ap (λ o. option_map_or (λ s. has_line s line) o false) e

pub data_shown : (v w : List Sample) (from to c : ℕ) (s t : Sample) → EqualWavesAt v w from to c s t
    → has_line s DRDY ≡ true → s.dbus.bits < 2 ^ 64 → t.dbus.bits < 2 ^ 64 → AreShownAlike s.dbus t.dbus
data_shown v w from to c s t e moves a b =
    let at = place v w from to c s t e in
    let one = text_at data_text (slice_get v) in
    let other = text_at data_text (slice_get w) in
    let same = same_text (asserts_at (slice_get v) DRDY) (asserts_at (slice_get w) DRDY) one other from
    (drawn v from to) at.0 (moves_alike v w from to e.waves) (both_lists v w from to e.waves).1 at.1
    (ap (asserts_at (slice_get v) DRDY) at.2 ∙ asserts-is v DRDY c s e.first ∙ moves) in
    data_words c s t a b (sym (text-is data_text v c s e.first) ∙ ap one (sym at.2) ∙ same ∙ ap other at.2
    ∙ text-is data_text w c t e.second)
