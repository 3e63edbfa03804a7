-- Names between commas, read from the left.
use Rattle.std.proofs.Common.{◌≡◌, ◌∙◌, ◌+◌, ◌<◌, ◌≤◌, ℕ, nat_eq, true, false, Option, Some, None, option_map, List, [], ◌∷◌, ◌++◌, length, map, drop, get_or, refl, sym, ap, append_assoc, append-nil}
use Rattle.std.proofs.lemmas.List.{drop_more, drop_all}
use Rattle.fsb_trigger.specs.Grammar.{all_there, both, onto_first, parts}
use Rattle.scope_pick.specs.Names.{line_named}
use Rattle.scope_words.specs.Names.{lines_in}

-- bytes before the first of some parts
onto : List ℕ → List (List ℕ) → List (List ℕ)
onto [] ps = ps
onto (c ∷ cs) ps = onto_first c (onto cs ps)

onto_empty : (p : List ℕ) (ps : List (List ℕ)) → onto p ([] ∷ ps) ≡ p ∷ ps
unfolding onto onto_first
onto_empty [] ps = refl
onto_empty (c ∷ cs) ps = ap (onto_first c) (onto_empty cs ps)

onto_more : (p : List ℕ) (c : ℕ) (ps : List (List ℕ)) → onto (p ++ c ∷ []) ps ≡ onto p (onto_first c ps)
unfolding onto
onto_more [] c ps = refl
onto_more (d ∷ p) c ps = ap (onto_first d) (onto_more p c ps)

-- lines that were read, and those of the parts
joined : List ℕ → List (List ℕ) → Option (List ℕ)
joined lines ps = option_map (λ more. lines ++ more) (all_there (map line_named ps))

-- lines that were read, and those of a name that was begun and of the rest of the word
pub lines_behind : List ℕ → List ℕ → List ℕ → Option (List ℕ)
lines_behind lines name rest = joined lines (onto name (parts 44 rest))

one_more : (lines : List ℕ) (line : ℕ) (more : Option (List ℕ))
    → option_map (λ m. (lines ++ line ∷ []) ++ m) more ≡ option_map (λ m. lines ++ m) (both (λ x xs. x ∷ xs) (Some line) more)
unfolding both
one_more lines line None = refl
one_more lines line (Some m) = ap Some (append_assoc lines (line ∷ []) m)

joined_some : (lines p : List ℕ) (line : ℕ) (ps : List (List ℕ)) → line_named p ≡ Some line
    → joined lines (p ∷ ps) ≡ joined (lines ++ line ∷ []) ps
unfolding joined all_there
joined_some lines p line ps e = rw e (sym (one_more lines line (all_there (map line_named ps))))

joined_none : (lines p : List ℕ) (ps : List (List ℕ)) → line_named p ≡ None → joined lines (p ∷ ps) ≡ None
unfolding joined all_there both
joined_none lines p ps e = rw e refl

none_before : (more : Option (List ℕ)) → option_map (λ m. [] ++ m) more ≡ more
none_before None = refl
none_before (Some m) = refl

-- nothing was read yet
pub lines_begin : (word : List ℕ) → lines_behind [] [] word ≡ lines_in word
unfolding lines_behind joined onto lines_in
lines_begin word = none_before (all_there (map line_named (parts 44 word)))

-- a comma behind the name of a line
pub lines_comma : (lines name word : List ℕ) (i line : ℕ) → i < length word → nat_eq (get_or word i 0) 44 ≡ true
    → line_named name ≡ Some line
    → lines_behind (lines ++ line ∷ []) [] (drop (i + 1) word) ≡ lines_behind lines name (drop i word)
unfolding lines_behind parts onto
lines_comma lines name word i line within comma e =
    rw (drop_more word i 0 within)
    (rw comma (sym (ap (joined lines) (onto_empty name (parts 44 (drop (i + 1) word)))
    ∙ joined_some lines name line (parts 44 (drop (i + 1) word)) e)))

-- a comma behind another name
pub lines_wrong : (lines name word : List ℕ) (i : ℕ) → i < length word → nat_eq (get_or word i 0) 44 ≡ true
    → line_named name ≡ None → lines_behind lines name (drop i word) ≡ None
unfolding lines_behind parts
lines_wrong lines name word i within comma e =
    rw (drop_more word i 0 within)
    (rw comma (ap (joined lines) (onto_empty name (parts 44 (drop (i + 1) word)))
    ∙ joined_none lines name (parts 44 (drop (i + 1) word)) e))

-- another byte
pub lines_byte : (lines name word : List ℕ) (i : ℕ) → i < length word → nat_eq (get_or word i 0) 44 ≡ false
    → lines_behind lines (name ++ get_or word i 0 ∷ []) (drop (i + 1) word) ≡ lines_behind lines name (drop i word)
unfolding lines_behind parts
lines_byte lines name word i within other =
    rw (drop_more word i 0 within)
    (rw other (ap (joined lines) (onto_more name (get_or word i 0) (parts 44 (drop (i + 1) word)))))

joined_end : (xs : List ℕ) → joined xs [] ≡ Some xs
unfolding joined all_there
joined_end xs = ap Some (append-nil xs)

-- the last name is that of a line
pub lines_last : (lines name word : List ℕ) (i line : ℕ) → length word ≤ i → line_named name ≡ Some line
    → lines_behind lines name (drop i word) ≡ Some (lines ++ line ∷ [])
unfolding lines_behind parts
lines_last lines name word i line over e =
    rw (drop_all i word over) (ap (joined lines) (onto_empty name []) ∙ joined_some lines name line [] e ∙ joined_end (lines ++ line ∷ []))

-- the last name is another
pub lines_wrong_last : (lines name word : List ℕ) (i : ℕ) → length word ≤ i → line_named name ≡ None
    → lines_behind lines name (drop i word) ≡ None
unfolding lines_behind parts
lines_wrong_last lines name word i over e =
    rw (drop_all i word over) (ap (joined lines) (onto_empty name []) ∙ joined_none lines name [] e)
