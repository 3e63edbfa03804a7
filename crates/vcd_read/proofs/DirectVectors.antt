-- A vector that is taken at once does what its digits and its code do.
use Rattle.std.proofs.Common.{◌≡◌, ℕ, ◌+◌, ◌<◌, ◌≤◌, true, false, None, Some, List, [], ◌∷◌, ◌++◌, length, take, drop}
use Rattle.std.proofs.Common.{slice_index, get_or, suc, zero, refl, sym, ap, ◌∙◌, subst, arith}
use Rattle.std.specs.List.{list_all}
use Rattle.std.proofs.lemmas.Bool.{and_parts, and_from, le-ltb}
use Rattle.std.proofs.lemmas.List.{take_all, length-take-le}
use Rattle.fsb_signal.specs.DumpText.{width_of}
use Rattle.fsb_signal.specs.declared.sample.Sample.{Sample}
use Rattle.vcd_grammar.specs.declared.level.Level.{Level}
use Rattle.vcd_grammar.specs.Tokens.{is_white}
use Rattle.vcd_grammar.specs.Digits.{is_value_digit, extended}
use Rattle.vcd_grammar.specs.Levels.{bits_from, is_low, level_of}
use Rattle.vcd_grammar.specs.Codes.{Code, lines_of}
use Rattle.vcd_grammar.specs.Words.{Vector, value_word}
use Rattle.vcd_grammar.specs.Judging.{Known, Values, Pending, turn, value_turn, goes_to}
use Rattle.vcd_read.specs.Taking.{Taken, turned, decided_of, pushed, line_changed}
use Rattle.vcd_read.specs.Scanning.{Reading, after_bytes, samples_in_bytes, decided_in_reading, is_dark}
use Rattle.vcd_read.specs.Lanes.{is_binary, BeginsWithBinary}
use Rattle.vcd_read.specs.declared.direct.DirectVector.{DirectVector}
use Rattle.vcd_read.specs.Direct.{AwaitsToken, BeginsWithVector}
use Rattle.vcd_read.proofs.Numbers.{not_empty}
use Rattle.vcd_read.proofs.LaneRuns.{binary_value}
use Rattle.vcd_read.proofs.Readings.{token_of, whole_taken, whole_sampled, behind_taken, behind_sampled}
use Rattle.vcd_read.proofs.DirectTokens.{turn_between, value_digit_dark}

-- digits 0 and 1
binary_values : (ds : List ℕ) → list_all is_binary ds ≡ true → list_all is_value_digit ds ≡ true
binary_values [] h = refl
binary_values (d ∷ ds) h = let p = and_parts _ _ h in and_from _ _ (binary_value d p.0) (binary_values ds p.1)

values_dark : (ds : List ℕ) → list_all is_value_digit ds ≡ true → list_all is_dark ds ≡ true
values_dark [] h = refl
values_dark (d ∷ ds) h = let p = and_parts _ _ h in and_from _ _ (value_digit_dark d p.0) (values_dark ds p.1)

-- the digits of a vector
vector_says : (digits : List ℕ) → 0 < length digits → length digits ≤ 64 → list_all is_value_digit digits ≡ true
    → value_word (98 ∷ digits) ≡ Vector digits
unfolding value_word
vector_says digits some few are = rw (not_empty digits some, are, take_all 65 digits (omega (arith, few))) refl

digits_turn : (k : Known) (at : ℕ) (digits : List ℕ) → k.fault ≡ None → k.mode ≡ Values → 0 < length digits
    → length digits ≤ 64
    → list_all is_value_digit digits ≡ true
    → turn k (token_of at (98 ∷ digits)) ≡ goes_to k (Pending at digits)
digits_turn k at digits sound values some few are =
    turn_between k (token_of at (98 ∷ digits)) sound values (omega (arith, few))
    ∙ ap (value_turn k at) (vector_says digits some few are)

-- the code behind them
code_turn : (k : Known) (at from c number : ℕ) (digits : List ℕ) → k.fault ≡ None → k.mode ≡ Pending from digits
    → lines_of k.codes (c ∷ []) ≡ Some (number ∷ []) → length digits ≤ width_of number
    → turn k (token_of at (c ∷ [])) ≡ line_changed (record k { mode = Values }) number digits
unfolding turn
code_turn k at from c number digits sound pending line fits =
    rw (sound, pending, line, le-ltb (width_of number) (length digits) fits) refl

-- both
module _ (r : Reading) (bytes : List ℕ) (v : DirectVector) (ready : AwaitsToken r)
    (b : BeginsWithVector r.taken.known.codes bytes v) where
  some : 0 < length b.digits
  some = omega (arith, b.long, b.some)

  few : length b.digits ≤ 64
  few = omega (arith, b.long, b.few)

  narrow : length b.digits ≤ width_of v.number
  narrow = omega (arith, b.long, b.fits)

  are : list_all is_value_digit b.digits ≡ true
  are = binary_values b.digits b.binary

  abbrev between : Reading
  between = record {
    taken = turned r.taken (goes_to r.taken.known (Pending r.at b.digits));
    at = r.at + length (98 ∷ b.digits) + 1;
    run = r.run;
  }

  first_turn : turn r.taken.known (token_of r.at (98 ∷ b.digits)) ≡ goes_to r.taken.known (Pending r.at b.digits)
  first_turn = digits_turn r.taken.known r.at b.digits ready.sound ready.values some few are

  first_taken : between ≡ after_bytes r ((98 ∷ b.digits) ++ b.white ∷ [])
  first_taken =
      whole_taken r _ b.white (98 ∷ b.digits) ready.empty (values_dark b.digits are) (omega arith)
      (omega (arith, few)) b.between
      (ap (turned r.taken) (sym first_turn))

  second_turn : turn between.taken.known (token_of between.at (v.code ∷ []))
      ≡ line_changed (record r.taken.known { mode = Values }) v.number b.digits
  second_turn = code_turn between.taken.known between.at r.at v.code v.number b.digits ready.sound refl b.line narrow

  code_dark : list_all is_dark (v.code ∷ []) ≡ true
  code_dark = rw b.code refl

  pub vector_taken : (now : Taken) → now ≡ turned r.taken (line_changed r.taken.known v.number b.digits)
      → record { taken = now; at = r.at + (v.count + 4); run = r.run } ≡ after_bytes r (take (v.count + 4) bytes)
  vector_taken now h =
      let is_now : now ≡ turned between.taken (turn between.taken.known (token_of between.at (v.code ∷ []))) =
      h ∙ (λ i. turned r.taken
      (line_changed (record r.taken.known { mode = ready.values i }) v.number b.digits))
      ∙ ap (turned between.taken) (sym second_turn) in
      let second = whole_taken between now b.last (v.code ∷ []) ready.empty code_dark (omega arith)
      (omega arith) b.behind is_now in
      let at : r.at + (v.count + 4) ≡ between.at + length (v.code ∷ []) + 1 = omega (arith, b.long) in
      (λ i. record { taken = now; at = at i; run = r.run })
      ∙ behind_taken r between _ ((98 ∷ b.digits) ++ b.white ∷ []) (v.code ∷ b.last ∷ []) first_taken second
      ∙ ap (after_bytes r) (sym b.begins)

  pub vector_sampled : (limit : ℕ) (to : List Sample)
      → to ≡ pushed limit (decided_in_reading r) to (samples_in_bytes r (take (v.count + 4) bytes))
  vector_sampled limit to =
      let one = whole_sampled r b.white limit (98 ∷ b.digits) to to ready.empty (values_dark b.digits are)
      (omega arith) (omega (arith, few)) b.between
      (ap (λ t. pushed limit (decided_in_reading r) to (decided_of r.taken t)) (sym first_turn)) in
      let other = whole_sampled between b.last limit (v.code ∷ []) to to ready.empty code_dark (omega arith)
      (omega arith) b.behind
      (ap (λ t. pushed limit (decided_in_reading between) to (decided_of between.taken t)) (sym second_turn)) in
      behind_sampled r between ((98 ∷ b.digits) ++ b.white ∷ []) (v.code ∷ b.last ∷ []) limit to to to
      first_taken one other
      ∙ ap (λ bs. pushed limit (decided_in_reading r) to (samples_in_bytes r bs)) (sym b.begins)

-- where such a vector begins some bytes
tail_split : (n : ℕ) (xs : List ℕ) → n + 3 ≤ length xs
    → take (n + 3) xs ≡ (take n xs ++ get_or xs n 0 ∷ []) ++ get_or xs (n + 1) 0 ∷ get_or xs (n + 2) 0 ∷ []
tail_split zero (a ∷ b ∷ c ∷ xs) h = refl
tail_split zero (a ∷ b ∷ []) h = absurd (omega (arith, h))
tail_split zero (a ∷ []) h = absurd (omega (arith, h))
tail_split n [] h = absurd (omega (arith, h))
tail_split (suc n) (x ∷ xs) h =
    let three : suc n + 3 ≡ suc (n + 3) = omega arith in
    let one : suc n + 1 ≡ suc (n + 1) = omega arith in
    let two : suc n + 2 ≡ suc (n + 2) = omega arith in
    rw (three, one, two) (ap (λ l. x ∷ l) (tail_split n xs (omega (arith, h))))

pub vector_begins : (codes : List Code) (bytes : List ℕ) (count low code number : ℕ) (level : Level)
    → 68 ≤ length bytes → slice_index bytes 0 ≡ 98
    → BeginsWithBinary (drop 1 bytes) count low → (count ≡ 0 → ⊥)
    → is_white (slice_index bytes (count + 1)) ≡ true → code ≡ slice_index bytes (count + 2)
    → is_white code ≡ false → is_white (slice_index bytes (count + 3)) ≡ true
    → lines_of codes (code ∷ []) ≡ Some (number ∷ []) → (number ≡ 0 → ⊥) → number < 22 → count ≤ width_of number
    → ((digits : List ℕ) → length digits ≡ count → list_all is_binary digits ≡ true
    → bits_from is_low 0 digits ≡ low → level ≡ level_of (extended (width_of number) digits))
    → BeginsWithVector codes bytes (record { count = count; code = code; number = number; level = level })
vector_begins codes [] count low code number level room first begins more white code_at dark last line other
    known fits says = absurd (omega (arith, room))
vector_begins codes (b ∷ bytes) count low code number level room first begins more white code_at dark last line
    other known fits says =
    let long : length (take count bytes) ≡ count = length-take-le count bytes (omega (arith, room, begins.few)) in
    let one : count + 1 ≡ suc count = omega arith in
    let two : count + 2 ≡ suc (count + 1) = omega arith in
    let code_is : code ≡ get_or bytes (count + 1) 0 = code_at ∙ ap (λ n. get_or (b ∷ bytes) n 0) two in
    let three : count + 3 ≡ suc (count + 2) = omega arith in
    let four : count + 4 ≡ suc (count + 3) = omega arith in
    record {
      digits = take count bytes;
      white = get_or bytes count 0;
      last = get_or bytes (count + 2) 0;
      begins = rw (four, first, code_is) (ap (λ l. 98 ∷ l) (tail_split count bytes (omega (arith, room, begins.few))));
      enough = omega (arith, room, begins.few);
      long = long;
      some = omega (arith, more);
      few = begins.few;
      binary = begins.digits;
      code = dark;
      between = subst (λ n. is_white (get_or (b ∷ bytes) n 0) ≡ true) one white;
      behind = subst (λ n. is_white (get_or (b ∷ bytes) n 0) ≡ true) three last;
      line = line;
      other = omega (arith, other);
      known = known;
      fits = fits;
      level = says (take count bytes) long begins.digits begins.value;
    }
