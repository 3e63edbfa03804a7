-- Rows of bytes as the digits of lines.
use Rattle.std.proofs.Common.{◌≡◌, ℕ, List, [], ◌∷◌, length, take, set, get_or, slice_get}
use Rattle.std.proofs.Common.{slice_index, replicate, map, ◌<◌, zero, suc, refl, sym, ap, ◌∙◌, arith, length-set}
use Rattle.std.proofs.lemmas.List.{get_or-map, map-set}
use Rattle.std.specs.Option.{option_map_or}
use Rattle.fsb_signal.specs.Table.{TableEntry, table}
use Rattle.vcd_grammar.specs.declared.level.Level.{Level}
use Rattle.vcd_grammar.specs.Levels.{level_of}
use Rattle.vcd_grammar.specs.Values.{Values, clock_of, at_first}
use Rattle.vcd_way.specs.Events.{digits_at, sampled}
use Rattle.vcd_course.specs.Lines.{values_in}

-- how many bits an entry has
abbrev pub width_in : List TableEntry → ℕ → ℕ
width_in es n = option_map_or (λ (e : TableEntry). e.width) (slice_get es n) 0

pub length_values : (es : List TableEntry) (rows : List (List ℕ)) → length rows ≡ length es
    → length (values_in es rows) ≡ length es
unfolding values_in
length_values [] rows h = refl
length_values (e ∷ es) [] h = absurd (omega (arith, h))
length_values (e ∷ es) (row ∷ rows) h = omega (arith, length_values es rows (omega (arith, h)))

-- one row changes
pub set_values : (es : List TableEntry) (rows : List (List ℕ)) (n : ℕ) (row : List ℕ) → length rows ≡ length es
    → values_in es (set rows n row) ≡ set (values_in es rows) n (take (width_in es n) row)
unfolding values_in
set_values [] [] n row h = refl
set_values [] (r ∷ rows) n row h = absurd (omega (arith, h))
set_values (e ∷ es) [] n row h = absurd (omega (arith, h))
set_values (e ∷ es) (r ∷ rows) zero row h = refl
set_values (e ∷ es) (r ∷ rows) (suc n) row h =
    ap (λ x. take e.width r ∷ x) (set_values es rows n row (omega (arith, h)))

-- one row
pub values_at : (es : List TableEntry) (rows : List (List ℕ)) (n : ℕ) → length rows ≡ length es
    → digits_at (values_in es rows) n ≡ take (width_in es n) (get_or rows n [])
unfolding values_in
values_at [] [] n h = refl
values_at [] (r ∷ rows) n h = absurd (omega (arith, h))
values_at (e ∷ es) [] n h = absurd (omega (arith, h))
values_at (e ∷ es) (r ∷ rows) zero h = refl
values_at (e ∷ es) (r ∷ rows) (suc n) h = values_at es rows n (omega (arith, h))

pub row_at : (es : List TableEntry) (rows : List (List ℕ)) (n : ℕ) → length rows ≡ length es
    → get_or (values_in es rows) n [] ≡ take (width_in es n) (get_or rows n [])
unfolding values_in
row_at [] [] n h = refl
row_at [] (r ∷ rows) n h = absurd (omega (arith, h))
row_at (e ∷ es) [] n h = absurd (omega (arith, h))
row_at (e ∷ es) (r ∷ rows) zero h = refl
row_at (e ∷ es) (r ∷ rows) (suc n) h = row_at es rows n (omega (arith, h))

-- ---- the rows of the table

-- the digits of the clock, of which there is one
clock_digit : (row : List ℕ) → slice_index row 0 ≡ slice_index (take 1 row) 0
clock_digit [] = refl
clock_digit (b ∷ row) = refl

pub clock_at : (rows : List (List ℕ)) → length rows ≡ 22
    → slice_index (get_or rows 0 []) 0 ≡ clock_of (values_in table rows)
unfolding values_in
clock_at [] h = absurd (omega (arith, h))
clock_at (row ∷ rows) h = clock_digit row

pub first_rows : values_in table (replicate 22 (replicate 64 49)) ≡ at_first
unfolding values_in
first_rows = refl

-- the digits of a line, by its place
pub digits_get : (values : Values) (n : ℕ) → digits_at values n ≡ get_or values n []
digits_get [] n = refl
digits_get (v ∷ values) zero = refl
digits_get (v ∷ values) (suc n) = digits_get values n

-- ---- what the lines say

pub first_says : replicate 22 (record { asserted = 0; unknown = 0 })
    ≡ map level_of (values_in table (replicate 22 (replicate 64 49)))
unfolding values_in level_of
first_says = refl

-- one row changes, and what it says
pub set_says : (rows : List (List ℕ)) (levels : List Level) (n : ℕ) (row : List ℕ) (level : Level) → length rows ≡ 22
    → levels ≡ map level_of (values_in table rows) → level ≡ level_of (take (width_in table n) row)
    → set levels n level ≡ map level_of (values_in table (set rows n row))
set_says rows levels n row level long says e =
    (λ j. set (says j) n (e j))
    ∙ sym (map-set level_of (values_in table rows) n (take (width_in table n) row))
    ∙ ap (map level_of) (sym (set_values table rows n row long))

-- what one line says
pub says_at : (rows : List (List ℕ)) (levels : List Level) (n : ℕ) → length rows ≡ 22
    → levels ≡ map level_of (values_in table rows) → n < 22
    → get_or levels n (record { asserted = 0; unknown = 0 }) ≡ level_of (take (width_in table n) (get_or rows n []))
says_at rows levels n long says h =
    let none : Level = record { asserted = 0; unknown = 0 } in
    let v : length (values_in table rows) ≡ 22 = length_values table rows long in
    ap (λ l. get_or l n none) says
    ∙ get_or-map level_of (values_in table rows) n [] none (omega (arith, h, v))
    ∙ ap level_of (row_at table rows n long)

pub length_sampled : (late : List ℕ) (before after : Values) → length (sampled late before after) ≡ length before
length_sampled [] before after = refl
length_sampled (n ∷ late) before after =
    length-set (sampled late before after) n (digits_at after n) ∙ length_sampled late before after
