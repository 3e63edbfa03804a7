-- A word is split off a line, and a line off a text.
use Rattle.std.proofs.Common.{◌≡◌, ℕ, suc, ◌+◌, ◌^◌, ◌<◌, ◌≤◌, Bool, true, false, List, [], ◌∷◌, ◌++◌, length, take}
use Rattle.std.proofs.Common.{drop, Result, Ok, refl, ◌∙◌, arith}
use Rattle.std.specs.Prelude.{nat_lt, nat_le}
use Rattle.std.specs.List.{list_all}
use Rattle.std.specs.Fmt.{decimal}
use Rattle.std.proofs.lemmas.Bool.{leb-true, lt-ltb, ltb-true, ne_eqb, and_from, and_parts}
use Rattle.std.proofs.lemmas.List.{append-nil}
use Rattle.std.proofs.lemmas.List.Folds.{list_all-append}
use Rattle.std.proofs.Math.Seq.{take-append_seam, drop-append_seam}
use Rattle.fsb_io.specs.NumberText.{hexadecimal}
use Rattle.fsb_script.specs.TextWords.{text_lines, is_blank, word_len, next_word}
use Rattle.fsb_script.specs.TextWords.{decimal_word, hex_word}
use Rattle.fsb_script.specs.declared.fault.Cause.{Cause}
use Rattle.fsb_script.specs.Text.{digit_text}
use Rattle.fsb_script.specs.Plans.{PlanView}
use Rattle.fsb_script.specs.Drafts.{Progress, after_line, plan_from}
use Rattle.fsb_script_laws.proofs.Numbers.{is_figure, figure, Figures, decimal_figures, hex_figures, decimal_back}
use Rattle.fsb_script_laws.proofs.Numbers.{hex_back}

-- a byte of a word
abbrev pub is_plain : ℕ → Bool
is_plain b = nat_lt 32 b

-- a byte of a line: of a word, or a space
abbrev pub is_inner : ℕ → Bool
is_inner b = nat_lt 31 b

pub record Word (word : List ℕ) : Type 0 where
  pub some : 1 ≤ length word
  pub plain : list_all is_plain word ≡ true

-- what may stand behind a word
abbrev pub stops : List ℕ → Bool
stops [] = true
stops (b ∷ bs) = is_blank b

not_blank : (b : ℕ) → is_plain b ≡ true → is_blank b ≡ false
not_blank b plain =
    let h : 32 < b = ltb-true 32 b plain in
    rw (ne_eqb b 32 (λ e. omega arith), ne_eqb b 9 (λ e. omega arith), ne_eqb b 13 (λ e. omega arith)) refl

word_len_of : (word rest : List ℕ) → list_all is_plain word ≡ true → stops rest ≡ true
    → word_len (word ++ rest) ≡ length word
word_len_of [] [] plain stop = refl
word_len_of [] (b ∷ bs) plain stop = rw stop refl
word_len_of (b ∷ bs) rest plain stop =
    let again : word_len (bs ++ rest) ≡ length bs =
    word_len_of bs rest (and_parts (is_plain b) (list_all is_plain bs) plain).1 stop in
    let one : 1 + length bs ≡ suc (length bs) = omega arith in
    rw (not_blank b (and_parts (is_plain b) (list_all is_plain bs) plain).0) (rw again one)

-- what a split gave
abbrev Split : Result (List ℕ × List ℕ) Cause → List ℕ → List ℕ → Type 0
Split r word rest = r ≡ Ok (word, rest)

pub next_is : (word rest : List ℕ) → Word word → stops rest ≡ true → next_word (word ++ rest) ≡ Ok (word, rest)
unfolding next_word
next_is [] rest w stop = absurd (omega (arith, w.some))
next_is (b ∷ bs) rest w stop =
    let len : word_len ((b ∷ bs) ++ rest) ≡ length (b ∷ bs) = word_len_of (b ∷ bs) rest w.plain stop in
    let front : take (length (b ∷ bs)) ((b ∷ bs) ++ rest) ≡ b ∷ bs = take-append_seam (b ∷ bs) rest in
    let back : drop (length (b ∷ bs)) ((b ∷ bs) ++ rest) ≡ rest = drop-append_seam (b ∷ bs) rest in
    rw (not_blank b (and_parts (is_plain b) (list_all is_plain bs) w.plain).0)
    (cut (word_len ((b ∷ bs) ++ rest)) len front back)
  where
    cut : (n : ℕ) → n ≡ length (b ∷ bs) → take (length (b ∷ bs)) ((b ∷ bs) ++ rest) ≡ b ∷ bs
        → drop (length (b ∷ bs)) ((b ∷ bs) ++ rest) ≡ rest
        → Split (Ok (take n ((b ∷ bs) ++ rest), drop n ((b ∷ bs) ++ rest))) (b ∷ bs) rest
    cut n e front back = rw e (rw front (rw back refl))

pub next_behind : (word rest : List ℕ) → Word word → stops rest ≡ true
    → next_word (32 ∷ (word ++ rest)) ≡ Ok (word, rest)
unfolding next_word
next_behind word rest w stop = next_is word rest w stop

-- ---- figures

figures_plain : (word : List ℕ) → list_all is_figure word ≡ true → list_all is_plain word ≡ true
figures_plain [] all = refl
figures_plain (b ∷ bs) all =
    let here : is_figure b ≡ true = (and_parts (is_figure b) (list_all is_figure bs) all).0 in
    let low : 48 ≤ b = leb-true 48 b (and_parts (nat_le 48 b) (nat_le b 102) here).0 in
    and_from _ _ (lt-ltb 32 b (omega arith)) (figures_plain bs (and_parts (is_figure b) (list_all is_figure bs) all).1)

pub figures_word : (most : ℕ) (word : List ℕ) → Figures most word → Word word
figures_word most word f = record { some = f.some; plain = figures_plain word f.all }

-- a number behind a space
pub decimal_next : (n : ℕ) (rest : List ℕ) → n < 10 ^ 18 → stops rest ≡ true
    → decimal_word (32 ∷ (decimal n ++ rest)) ≡ Ok (n, rest)
unfolding decimal_word
decimal_next n rest below stop = rw (next_behind (decimal n) rest
    (figures_word 18 (decimal n) (decimal_figures 17 n (omega arith) below)) stop) (rw (decimal_back n below) refl)

pub hex_next : (n : ℕ) (rest : List ℕ) → n < 16 ^ 16 → stops rest ≡ true
    → hex_word (32 ∷ (hexadecimal n ++ rest)) ≡ Ok (n, rest)
unfolding hex_word
hex_next n rest below stop = rw (next_behind (hexadecimal n) rest
    (figures_word 16 (hexadecimal n) (hex_figures 15 n (omega arith) below)) stop) (rw (hex_back n below) refl)

-- a number at the line's end
pub decimal_last : (n : ℕ) → n < 10 ^ 18 → decimal_word (32 ∷ decimal n) ≡ Ok (n, [])
decimal_last n below = rw append-nil at (decimal_next n [] below refl)

pub hex_last : (n : ℕ) → n < 16 ^ 16 → hex_word (32 ∷ hexadecimal n) ≡ Ok (n, [])
hex_last n below = rw append-nil at (hex_next n [] below refl)

-- ---- lines

pub plain_inner : (word : List ℕ) → list_all is_plain word ≡ true → list_all is_inner word ≡ true
plain_inner [] plain = refl
plain_inner (b ∷ bs) plain =
    let here : 32 < b = ltb-true 32 b (and_parts (is_plain b) (list_all is_plain bs) plain).0 in
    and_from _ _ (lt-ltb 31 b (omega arith)) (plain_inner bs (and_parts (is_plain b) (list_all is_plain bs) plain).1)

pub inner_append : (a b : List ℕ) → list_all is_inner a ≡ true → list_all is_inner b ≡ true
    → list_all is_inner (a ++ b) ≡ true
inner_append a b p q = list_all-append is_inner a b ∙ and_from _ _ p q

pub decimal_inner : (n : ℕ) → n < 10 ^ 18 → list_all is_inner (decimal n) ≡ true
decimal_inner n below = plain_inner (decimal n)
    (figures_plain (decimal n) (decimal_figures 17 n (omega arith) below).all)

pub hex_inner : (n : ℕ) → n < 16 ^ 16 → list_all is_inner (hexadecimal n) ≡ true
hex_inner n below = plain_inner (hexadecimal n)
    (figures_plain (hexadecimal n) (hex_figures 15 n (omega arith) below).all)

pub first_line_is : (line rest : List ℕ) → list_all is_inner line ≡ true
    → text_lines (line ++ (10 ∷ rest)) ≡ line ∷ text_lines rest
first_line_is [] rest inner = refl
first_line_is (b ∷ bs) rest inner =
    let here : 31 < b = ltb-true 31 b (and_parts (is_inner b) (list_all is_inner bs) inner).0 in
    rw (first_line_is bs rest (and_parts (is_inner b) (list_all is_inner bs) inner).1)
    (rw (ne_eqb b 10 (λ e. omega arith)) refl)

-- the text goes on from there to the plan, whatever its first line's number
abbrev pub GoesOn : Progress → List ℕ → PlanView → Type 0
GoesOn d text p = (number : ℕ) → plan_from number d (text_lines text) ≡ Ok p

pub goes_on : (d e : Progress) (line rest : List ℕ) (p : PlanView) → list_all is_inner line ≡ true
    → after_line d line ≡ Ok e → GoesOn e rest p → GoesOn d (line ++ (10 ∷ rest)) p
goes_on d e line rest p inner taken then_ number = rw (first_line_is line rest inner) (rw taken (then_ (number + 1)))

-- the two digits of a byte
pub byte_word : (high low : ℕ) → high < 16 → low < 16 → Word (digit_text high ∷ digit_text low ∷ [])
byte_word high low h l = record {
  some = omega arith;
  plain =
      figures_plain (digit_text high ∷ digit_text low ∷ [])
      (and_from (is_figure (digit_text high)) _ (figure high h)
      (and_from (is_figure (digit_text low)) true (figure low l) refl));
}
