-- The texts of the elements of a list that are still ahead, numbered, and what comes after them.
use Rattle.std.proofs.Common.{◌≡◌, ℕ, ◌+◌, ◌<◌, ◌≤◌, List, [], ◌++◌, None, length, map, drop, get_or, refl, sym, ap}
use Rattle.std.proofs.Common.{◌∙◌, add-one, append-nil}
use Rattle.std.proofs.Math.ListN.{get_or-map}
use Rattle.std.proofs.Math.Seq.{drop-cons}
use Rattle.std.proofs.lemmas.List.{drop_all, length-map}
use Rattle.fsb_io.specs.Appends.{AppendsPart}
use Rattle.fsb_report.specs.VerdictText.{verdict_text}
use Rattle.fsb_table.specs.declared.row.Row.{Row}
use Rattle.fsb_show.specs.ShowText.{numbered_text, probe_text, row_text, table_text}

-- the texts of the elements that are left: that of the next one, and then those after it
pub next_numbered : {X : Type 0} (text : ℕ → X → List ℕ) (xs : List X) (i : ℕ) (d : X) → i < length xs
    → numbered_text text i (drop i xs) ≡ text i (get_or xs i d) ++ numbered_text text (i + 1) (drop (i + 1) xs)
unfolding numbered_text
next_numbered text xs i d h = rw (add-one, drop-cons xs i d h) refl

-- past the last element nothing is left
pub end_numbered : {X : Type 0} (text : ℕ → X → List ℕ) (xs : List X) (i : ℕ) → length xs ≤ i
    → numbered_text text i (drop i xs) ≡ []
unfolding numbered_text
end_numbered text xs i h = ap (numbered_text text i) (drop_all i xs h)

-- the same, of what is seen of the elements
pub next_seen : {X Y : Type 0} (text : ℕ → Y → List ℕ) (see : X → Y) (xs : List X) (i : ℕ) (x : X) (y : Y)
    → i < length xs → x ≡ get_or xs i x → y ≡ see x
    → numbered_text text i (drop i (map see xs)) ≡ text i y ++ numbered_text text (i + 1) (drop (i + 1) (map see xs))
next_seen text see xs i x y h is e =
    next_numbered text (map see xs) i (see x) (rw length-map h)
    ∙ ap (λ z. text i z ++ numbered_text text (i + 1) (drop (i + 1) (map see xs)))
    (get_or-map see xs i x ∙ ap see (sym is) ∙ sym e)

pub end_seen : {X Y : Type 0} (text : ℕ → Y → List ℕ) (see : X → Y) (xs : List X) (i : ℕ) → length xs ≤ i
    → numbered_text text i (drop i (map see xs)) ≡ []
end_seen text see xs i h = end_numbered text (map see xs) i (rw length-map h)

-- a text that was appended whole was appended in part
pub part_of_all : (text old now : List ℕ) → now ≡ old ++ text → AppendsPart text old now
part_of_all text old now e = record { part = text; rest = []; whole = sym (append-nil text); appended = e }

-- a table is its totals, its rows and its verdict
pub table_parts : (totals : List ℕ) (rows : List Row) (clocks : ℕ)
    → table_text totals rows clocks
    ≡ numbered_text probe_text 0 totals ++ (numbered_text row_text 0 rows ++ verdict_text clocks None)
unfolding table_text
table_parts totals rows clocks = refl
