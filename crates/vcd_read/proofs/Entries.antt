-- Entries of the signal table, found at their places.
use Rattle.std.proofs.Common.{◌≡◌, ℕ, ◌+◌, List, [], ◌∷◌, drop, Option, Some, slice_get, ap, sym, ◌∙◌, not, ◌&&◌, true}
use Rattle.std.proofs.Common.{false, Bool, get_or, ◌<◌}
use Rattle.std.proofs.lemmas.List.{drop_more}
use Rattle.std.proofs.lemmas.Option.{slice_get-get_or}
use Rattle.fsb_signal.specs.Table.{TableEntry, table, needed}
use Rattle.vcd_grammar.specs.Judging.{is_declared, missing_from}

-- an entry of the table
entry : ℕ → TableEntry
entry n = get_or table n (needed [] 0)

has_entry : (n : ℕ) → n < 22 → slice_get table n ≡ Some (entry n)
unfolding entry
has_entry n within = slice_get-get_or table n (needed [] 0) within

-- the rest of the table from an entry on
rest : (n : ℕ) → n < 22 → drop n table ≡ entry n ∷ drop (n + 1) table
unfolding entry
rest n within = drop_more table n (needed [] 0) within

-- the entry at a place is missing, or the ones behind it tell
pub missing_here : (lines : List ℕ) (n : ℕ) (missing : Bool) (told : Option ℕ) → n < 22
    → ((e : TableEntry) → slice_get table n ≡ Some e → missing ≡ (e.needed && not (is_declared lines n)))
    → missing_from lines n (drop n table) ≡ told → missing ≡ true → Some n ≡ told
missing_here lines n missing told within is h t =
    sym (rw (sym (is (entry n) (has_entry n within)) ∙ t) at (ap (missing_from lines n) (rest n within))) ∙ h

pub missing_later : (lines : List ℕ) (n : ℕ) (missing : Bool) (told : Option ℕ) → n < 22
    → ((e : TableEntry) → slice_get table n ≡ Some e → missing ≡ (e.needed && not (is_declared lines n)))
    → missing_from lines n (drop n table) ≡ told → missing ≡ false
    → missing_from lines (n + 1) (drop (n + 1) table) ≡ told
missing_later lines n missing told within is h t =
    sym (rw (sym (is (entry n) (has_entry n within)) ∙ t) at (ap (missing_from lines n) (rest n within))) ∙ h
