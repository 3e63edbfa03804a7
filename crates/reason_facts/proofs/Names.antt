-- Names of the control lines, one after another.
use Rattle.std.proofs.Common.{◌≡◌, ◌∙◌, ap, sym, ℕ, ◌<◌, get_or, ◌+◌, List, [], ◌∷◌, ◌++◌, map, filter, take, slice_get, Some}
use Rattle.std.proofs.lemmas.List.{map-append, take_more}
use Rattle.std.proofs.lemmas.List.Elements.{filter-append}
use Rattle.std.proofs.lemmas.Option.{slice_get_within, slice_get-get_or, get_or_from_slice_get}
use Rattle.serde_json.specs.Data.{Data, string}
use Rattle.fsb_signal.specs.declared.lines.Lines.{Lines}
use Rattle.fsb_signal.specs.ControlLines.{line_names}
use Rattle.reason_facts.specs.Unknown.{is_among, names_in}

-- the names up to the next row of the table are those before it, and that of the row
named-next : (lines : Lines) (n : ℕ) (row : List ℕ × ℕ) → slice_get line_names n ≡ Some row →
    names_in lines (take (n + 1) line_names) ≡ names_in lines (take n line_names) ++ names_in lines (row ∷ [])
named-next lines n row e =
    ap (names_in lines) (take_more line_names n row (slice_get_within line_names n row e))
    ∙ ap (λ last. names_in lines (take n line_names ++ last ∷ [])) (get_or_from_slice_get line_names n row row e)
    ∙ ap (map (λ row. string row.0)) (filter-append (is_among lines) (take n line_names) (row ∷ []))
    ∙ map-append (λ row. string row.0) (filter (is_among lines) (take n line_names)) (filter (is_among lines) (row ∷ []))

-- the same of a list to which the name of the next row is added, if that is among the lines
pub named_on : (lines : Lines) (n : ℕ) (old new : List Data) → n < 21 → old ≡ names_in lines (take n line_names)
    → ((row : List ℕ × ℕ) → slice_get line_names n ≡ Some row → new ≡ old ++ names_in lines (row ∷ []))
    → new ≡ names_in lines (take (n + 1) line_names)
named_on lines n old new below so_far added =
    let row = get_or line_names n ([], 0) in
    let e = slice_get-get_or line_names n ([], 0) below in
    added row e ∙ ap (λ xs. xs ++ names_in lines (row ∷ [])) so_far ∙ sym (named-next lines n row e)
