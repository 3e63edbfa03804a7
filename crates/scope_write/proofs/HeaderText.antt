-- The lines of the header, by their entry.
use Rattle.std.proofs.Common.{◌≡◌, ℕ, ◌+◌, ◌-◌, ◌<◌, ◌≤◌, ◌≢◌, List, [], ◌∷◌, ◌++◌, refl, codes, decimal, append_assoc}
use Rattle.std.proofs.Common.{sym, arith, length, true, Some, slice_get, get_or, Bool, nat_lt, ap, ◌∙◌}
use Rattle.std.specs.List.{list_all}
use Rattle.std.proofs.lemmas.Option.{slice_get_within, get_or_from_slice_get}
use Rattle.std.proofs.lemmas.List.Folds.{list_all_at}
use Rattle.std.proofs.lemmas.Bool.{ne_eqb, ltb-true, true_from_ne_false}
use Rattle.fsb_signal.specs.Table.{TableEntry, table}
use Rattle.fsb_signal.specs.DumpText.{width_of, lowest_of, range_text, declaration_text}

-- a word's lines, from the highest to the lowest
pub range_text-word : (number width : ℕ) → width ≡ width_of number → 1 < width →
    range_text number
    ≡ codes "[" ++ decimal (lowest_of number + width - 1) ++ codes ":" ++ decimal (lowest_of number) ++ codes "] "
unfolding range_text
range_text-word number width is many =
    let more : width ≢ 1 = omega (arith, many) in
    rw (sym is, ne_eqb width 1 more) refl

-- a single line has no lines to name
pub range_text-single : (number width : ℕ) → width ≡ width_of number → width ≡ 1 → range_text number ≡ []
unfolding range_text
range_text-single number width is one = rw (sym is, one) refl

-- the declaration of an entry of the table
pub declaration_text-entry : (number : ℕ) (e : TableEntry) → slice_get table number ≡ Some e →
    declaration_text number
    ≡ codes "$var wire " ++ decimal e.width ++ codes " " ++ (33 + number) ∷ [] ++ codes " " ++ e.name
    ++ codes " " ++ range_text number ++ codes "$end\n"
unfolding declaration_text
declaration_text-entry number e h = rw h refl

-- the entry's name has at most seven bytes
abbrev is_short : TableEntry → Bool
is_short e = nat_lt (length e.name) 8

-- the name of each entry has at most seven bytes
pub entry_name-short : (number : ℕ) (e : TableEntry) → slice_get table number ≡ Some e → length e.name ≤ 7
entry_name-short number e h =
    let within = slice_get_within table number e h in
    let at : get_or table number e ≡ e = get_or_from_slice_get table number e e h in
    let all : list_all is_short table ≡ true = refl in
    let short : is_short e ≡ true =
    true_from_ne_false (is_short e)
    (λ long. cc (sym all ∙ list_all_at is_short table number e within (ap is_short at ∙ long)))
    in
    omega (arith, ltb-true (length e.name) 8 short)

-- five texts behind another
pub append_five : (t p q r s u : List ℕ) → t ++ p ++ q ++ r ++ s ++ u ≡ t ++ (p ++ q ++ r ++ s ++ u)
append_five t p q r s u = simp append_assoc refl

-- nine texts behind another
pub append_nine : (t a b c d e f g h i : List ℕ)
    → t ++ a ++ b ++ c ++ d ++ e ++ f ++ g ++ h ++ i ≡ t ++ (a ++ b ++ c ++ d ++ e ++ f ++ g ++ h ++ i)
append_nine t a b c d e f g h i = simp append_assoc refl
