-- Lines that are listed, and copied.
use Rattle.std.proofs.Common.{◌≡◌, ◌≢◌, ◌≤◌, ℕ, ◌+◌, ◌<◌, Bool, true, false, ◌==◌, ◌||◌, List, [], ◌∷◌, length}
use Rattle.std.proofs.Common.{take, set, get_or, refl, sym, ap, ◌∙◌, inl, inr, arith}
use Rattle.std.proofs.lemmas.Bool.{true≢false, or_parts, ne_eqb}
use Rattle.std.proofs.lemmas.Bool.Decides.{eqb_tells}
use Rattle.std.proofs.lemmas.List.{get_or-set_same, get_or-set_other, get_or_past, take_more, take_more_set}
use Rattle.std.proofs.lemmas.List.Folds.{list_any-append}
use Rattle.vcd_course.specs.Lines.{SameUnlessListed, is_listed}

-- one more line is listed
pub listed_more : (lines : List ℕ) (i line : ℕ) → i < length lines
    → is_listed (take (i + 1) lines) line ≡ (is_listed (take i lines) line || ((get_or lines i 0 == line) || false))
listed_more lines i line h =
    ap (λ l. is_listed l line) (take_more lines i 0 h)
    ∙ list_any-append (λ k. k == line) (take i lines) (get_or lines i 0 ∷ [])

listed_set : (lines : List ℕ) (i n line : ℕ) → i < length lines
    → is_listed (take (i + 1) (set lines i n)) line ≡ (is_listed (take i lines) line || ((n == line) || false))
listed_set lines i n line h =
    ap (λ l. is_listed l line) (take_more_set lines i n h)
    ∙ list_any-append (λ k. k == line) (take i lines) (n ∷ [])

first_holds : (p q : Bool) → q ≡ false → (p || (q || false)) ≡ true → p ≡ true
first_holds true q e h = refl
first_holds false true e h = absurd (true≢false e)
first_holds false false e h = h

equal_false : (n line : ℕ) → (n == line) ≡ false → line ≢ n
equal_false n line h =
    elim (eqb_tells n line) [
      | inl here ↦ absurd (true≢false (sym here.0 ∙ h))
      | inr other ↦ λ e. other.1 (sym e)
    ]

-- a line that is listed with one more, and is another
listed_before : (lines : List ℕ) (i line : ℕ) → i < length lines → line ≢ get_or lines i 0
    → is_listed (take (i + 1) lines) line ≡ true → is_listed (take i lines) line ≡ true
listed_before lines i line h other listed =
    first_holds (is_listed (take i lines) line) (get_or lines i 0 == line)
    (ne_eqb (get_or lines i 0) line (λ e. other (sym e))) (sym (listed_more lines i line h) ∙ listed)

-- one line changes, and is listed
pub listed_one : (changed : List ℕ) (count : ℕ) (before inside new : List (List ℕ)) (n : ℕ) → length changed ≡ 32
    → count < 32 → SameUnlessListed count changed before inside
    → ((line : ℕ) → line ≢ n → get_or new line [] ≡ get_or inside line [])
    → SameUnlessListed (count + 1) (set changed count n) before new
listed_one changed count before inside new n long h same rest few line absent =
    let both = or_parts _ _ (sym (listed_set changed count n line (omega (arith, h, long))) ∙ absent) in
    let other = equal_false n line (or_parts _ _ both.1).0 in
    same (omega (arith, h)) line both.0 ∙ sym (rest line other)

-- past the room nothing is said
pub listed_past : (changed : List ℕ) (before inside : List (List ℕ)) → SameUnlessListed 33 changed before inside
listed_past changed before inside few = absurd (omega (arith, few))

-- where all rows are the same, none has to be listed
pub listed_none : (changed : List ℕ) (before inside : List (List ℕ))
    → ((line : ℕ) → get_or before line [] ≡ get_or inside line []) → SameUnlessListed 0 changed before inside
listed_none changed before inside all few line absent = all line

-- a line is copied: itself, and any other that was the same
pub copied_line : (before inside : List (List ℕ)) (n line : ℕ) → length before ≡ 22 → n < 22
    → (line ≢ n → get_or before line [] ≡ get_or inside line [])
    → get_or (set before n (get_or inside n [])) line [] ≡ get_or inside line []
copied_line before inside n line long h same =
    elim (eqb_tells line n) [
      | inl here ↦ ap (λ k. get_or (set before n (get_or inside n [])) k []) here.1
          ∙ get_or-set_same before n (get_or inside n []) [] (omega (arith, h, long))
          ∙ ap (λ k. get_or inside k []) (sym here.1)
      | inr other ↦ get_or-set_other before n line (get_or inside n []) [] other.1 ∙ same other.1
    ]

-- the lines that were copied, and one more
pub copied_more : (before inside : List (List ℕ)) (lines : List ℕ) (i : ℕ) → length before ≡ 22 → i < length lines
    → get_or lines i 0 < 22
    → ((line : ℕ) → is_listed (take i lines) line ≡ true → get_or before line [] ≡ get_or inside line [])
    → (line : ℕ) → is_listed (take (i + 1) lines) line ≡ true
    → get_or (set before (get_or lines i 0) (get_or inside (get_or lines i 0) [])) line [] ≡ get_or inside line []
copied_more before inside lines i long within h first line listed =
    copied_line before inside (get_or lines i 0) line long h
    (λ other. first line (listed_before lines i line within other listed))

-- a line that is not of the table
pub copied_past : (before inside : List (List ℕ)) (lines : List ℕ) (i : ℕ) → length before ≡ 22 → length inside ≡ 22
    → i < length lines → 22 ≤ get_or lines i 0
    → ((line : ℕ) → is_listed (take i lines) line ≡ true → get_or before line [] ≡ get_or inside line [])
    → (line : ℕ) → is_listed (take (i + 1) lines) line ≡ true → get_or before line [] ≡ get_or inside line []
copied_past before inside lines i long other within h first line listed =
    elim (eqb_tells line (get_or lines i 0)) [
      | inl here ↦ get_or_past before line [] (omega (arith, here.1, h, long))
          ∙ sym (get_or_past inside line [] (omega (arith, here.1, h, other)))
      | inr apart ↦ first line (listed_before lines i line within apart.1 listed)
    ]

-- a line is listed, or it is not
pub same_either : (b : Bool) (x y : List ℕ) → (b ≡ true → x ≡ y) → (b ≡ false → x ≡ y) → x ≡ y
same_either true x y f g = f refl
same_either false x y f g = g refl
