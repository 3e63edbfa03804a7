-- Tokens that are taken at once do what any token does.
use Rattle.std.proofs.Common.{◌≡◌, ℕ, ◌+◌, ◌-◌, ◌^◌, ◌<◌, ◌≤◌, ◌==◌, true, false, None, Some, List, [], ◌∷◌, length}
use Rattle.std.proofs.Common.{take, drop, slice_index, nat_le, suc, refl, sym, ap, ◌∙◌, subst, arith, inl, inr}
use Rattle.std.specs.List.{list_all}
use Rattle.std.proofs.lemmas.Bool.{and_parts, and_from, and_right, ne_eqb, le-leb, lt-leb, le-ltb, leb-true, cases_lt}
use Rattle.std.proofs.lemmas.Bool.{false≢true, both_ways}
use Rattle.std.proofs.Math.Nat.{min-le_left, min-le_right}
use Rattle.std.proofs.lemmas.List.{length-take, length-take-le, take-take}
use Rattle.fsb_signal.specs.declared.sample.Sample.{Sample}
use Rattle.vcd_grammar.specs.Tokens.{Token, is_white, longest}
use Rattle.vcd_grammar.specs.Digits.{is_digit, number_from, number_up_to, time_in, is_value_digit}
use Rattle.vcd_grammar.specs.Codes.{lines_of}
use Rattle.vcd_grammar.specs.Words.{Stamp, Scalar, value_word}
use Rattle.vcd_grammar.specs.Judging.{Known, Values, turn, value_turn, scalar_turn, stamped}
use Rattle.vcd_read.specs.Taking.{Taken, turned, decided_of, pushed}
use Rattle.vcd_read.specs.Scanning.{Reading, after_bytes, samples_in_bytes, decided_in_reading, is_dark}
use Rattle.vcd_read.specs.Direct.{AwaitsToken, BeginsWithNumber, BeginsWithStamp}
use Rattle.vcd_read.proofs.Numbers.{not_empty}
use Rattle.vcd_read.proofs.Readings.{token_of, whole_taken, whole_sampled}

-- bytes that are no white space
dark_above : (b : ℕ) → 33 ≤ b → is_dark b ≡ true
dark_above b h =
    rw (
      and_right (nat_le 9 b) (nat_le b 13) (lt-leb b 13 (omega (arith, h))),
      ne_eqb b 32 (λ e. omega (arith, e, h)),
    ) refl

not_digit : (b : ℕ) → b < 33 → is_value_digit b ≡ false
not_digit b h =
    rw (
      ne_eqb b 48 (λ e. omega (arith, e, h)),
      ne_eqb b 49 (λ e. omega (arith, e, h)),
      ne_eqb b 120 (λ e. omega (arith, e, h)),
      ne_eqb b 88 (λ e. omega (arith, e, h)),
      ne_eqb b 122 (λ e. omega (arith, e, h)),
      ne_eqb b 90 (λ e. omega (arith, e, h)),
    ) refl

pub value_digit_dark : (b : ℕ) → is_value_digit b ≡ true → is_dark b ≡ true
value_digit_dark b t =
    elim (cases_lt b 33) [ inl l ↦ absurd (both_ways _ (not_digit b l) t) | inr l ↦ dark_above b l ]

pub digits_dark : (bs : List ℕ) → list_all is_digit bs ≡ true → list_all is_dark bs ≡ true
digits_dark [] t = refl
digits_dark (b ∷ bs) t =
    let p = and_parts _ _ t in
    let digit = and_parts (nat_le 48 b) (nat_le b 57) p.0 in
    and_from _ _ (dark_above b (omega (arith, leb-true 48 b digit.0))) (digits_dark bs p.1)

-- a token between values
pub turn_between : (k : Known) (t : Token) → k.fault ≡ None → k.mode ≡ Values → length t.word ≤ longest
    → turn k t ≡ value_turn k t.place (value_word t.word)
unfolding turn
turn_between k t sound values short = rw (sound, values, le-ltb longest (length t.word) short) refl

-- a scalar change with a code of one byte
no_stamp : (b : ℕ) → is_value_digit b ≡ true → (b == 35) ≡ false
no_stamp b t = ne_eqb b 35 (λ e. let u : is_value_digit 35 ≡ true = sym (ap (λ c. is_value_digit c) e) ∙ t in
    false≢true u)

scalar_says : (d c : ℕ) → is_value_digit d ≡ true → value_word (d ∷ c ∷ []) ≡ Scalar d (c ∷ [])
unfolding value_word
scalar_says d c t = rw (no_stamp d t, t) refl

scalar_turns : (k : Known) (at d c number : ℕ) → k.fault ≡ None → k.mode ≡ Values → is_value_digit d ≡ true
    → lines_of k.codes (c ∷ []) ≡ Some (number ∷ [])
    → turn k (token_of at (d ∷ c ∷ [])) ≡ scalar_turn k 0 d (Some (number ∷ []))
scalar_turns k at d c number sound values digit line =
    turn_between k (token_of at (d ∷ c ∷ [])) sound values (omega arith)
    ∙ ap (value_turn k at) (scalar_says d c digit) ∙ ap (scalar_turn k at d) line

pub scalar_taken : (r : Reading) (now : Taken) (w d c number : ℕ) → AwaitsToken r → is_value_digit d ≡ true
    → is_white c ≡ false → lines_of r.taken.known.codes (c ∷ []) ≡ Some (number ∷ []) → is_white w ≡ true
    → now ≡ turned r.taken (scalar_turn r.taken.known 0 d (Some (number ∷ [])))
    → record { taken = now; at = r.at + 3; run = r.run } ≡ after_bytes r (d ∷ c ∷ w ∷ [])
scalar_taken r now w d c number ready digit code line white h =
    let dark : list_all is_dark (d ∷ c ∷ []) ≡ true = rw (value_digit_dark d digit, code) refl in
    let at : r.at + 3 ≡ r.at + length (d ∷ c ∷ []) + 1 = omega arith in
    (λ i. record { taken = now; at = at i; run = r.run })
    ∙ whole_taken r now w (d ∷ c ∷ []) ready.empty dark (omega arith) (omega arith) white (h
    ∙ ap (turned r.taken) (sym (scalar_turns r.taken.known r.at d c number ready.sound ready.values digit line)))

pub scalar_sampled : (r : Reading) (w d c number limit : ℕ) (to : List Sample) → AwaitsToken r
    → is_value_digit d ≡ true → is_white c ≡ false → lines_of r.taken.known.codes (c ∷ []) ≡ Some (number ∷ [])
    → is_white w ≡ true
    → to ≡ pushed limit (decided_in_reading r) to (samples_in_bytes r (d ∷ c ∷ w ∷ []))
scalar_sampled r w d c number limit to ready digit code line white =
    let dark : list_all is_dark (d ∷ c ∷ []) ≡ true = rw (value_digit_dark d digit, code) refl in
    whole_sampled r w limit (d ∷ c ∷ []) to to ready.empty dark (omega arith) (omega arith) white
    (ap (λ t. pushed limit (decided_in_reading r) to (decided_of r.taken t))
    (sym (scalar_turns r.taken.known r.at d c number ready.sound ready.values digit line)))

-- a time stamp of few digits
pub stamp_turns : (k : Known) (at : ℕ) (word : List ℕ) (time : ℕ) → k.fault ≡ None → k.mode ≡ Values
    → length word ≤ longest → value_word word ≡ Stamp time → turn k (token_of at word) ≡ stamped k at time k.time
stamp_turns k at word time sound values short says = turn_between k (token_of at word) sound values short
    ∙ ap (value_turn k at) says

pub time_is : (digits : List ℕ) (time : ℕ) → 0 < length digits → length digits ≤ 15
    → list_all is_digit digits ≡ true → number_from 0 digits ≡ time → time < 2 ^ 64 → time_in digits ≡ Some time
unfolding time_in number_up_to
time_is digits time some few are value small =
    rw (
      le-leb (length digits) 20 (omega (arith, few)),
      not_empty digits some,
      are,
      value,
      le-leb time (2 ^ 64 - 1) (omega (arith, small)),
    ) refl

pub stamp_says : (digits : List ℕ) (time : ℕ) → time_in digits ≡ Some time → value_word (35 ∷ digits) ≡ Stamp time
unfolding value_word
stamp_says digits time h = rw h refl

pub number_longer : (n : ℕ) (text : List ℕ) (len number : ℕ) → BeginsWithNumber (take n text) len number
    → BeginsWithNumber text len number
number_longer n text len number begins =
    let size = length-take n text in
    let within : len < length text = omega (arith, begins.within, size, min-le_right n (length text)) in
    let same : take len (take n text) ≡ take len text =
    take-take len n text (omega (arith, begins.within, size, min-le_left n (length text))) in
    record {
      within = within;
      few = begins.few;
      digits = sym (ap (list_all is_digit) same) ∙ begins.digits;
      value = sym (ap (number_from 0) same) ∙ begins.value;
      fits = begins.fits;
    }

pub stamp_begins : (bytes : List ℕ) (len time : ℕ) → 0 < length bytes → slice_index bytes 0 ≡ 35
    → BeginsWithNumber (drop 1 bytes) len time → (len ≡ 0 → ⊥) → is_white (slice_index (drop 1 bytes) len) ≡ true
    → BeginsWithStamp bytes (len + 1) time
stamp_begins [] len time some first number more white = absurd (omega (arith, some))
stamp_begins (b ∷ bytes) len time some first number more white =
    let size : length (take len bytes) ≡ len = length-take-le len bytes (omega (arith, number.within)) in
    let is_time = time_is (take len bytes) time (omega (arith, size, more)) (omega (arith, size, number.few))
    number.digits number.value number.fits in
    let one : suc len ≡ len + 1 = omega arith in
    subst (λ n. BeginsWithStamp (b ∷ bytes) n time) one (record {
      within = omega (arith, number.within);
      some = omega arith;
      short = omega (arith, number.few);
      dark = rw first (digits_dark (take len bytes) number.digits);
      white = white;
      says = rw first (stamp_says (take len bytes) time is_time);
    })
