-- The lines of a text that are still ahead.
use Rattle.std.proofs.Common.{◌≡◌, ℕ, ◌+◌, ◌<◌, ◌≤◌, List, [], ◌++◌, length, drop, ap, sym, add-one, append-nil, refl}
use Rattle.std.proofs.Math.Seq.{drop-cons}
use Rattle.std.proofs.lemmas.List.{drop_all}
use Rattle.std.proofs.lemmas.List.Concat.{flat_map-cons}
use Rattle.std.proofs.lemmas.Option.{slice_get-get_or}
use Rattle.std.specs.List.{flat_map, slice_get}
use Rattle.fsb_io.specs.Appends.{AppendsPart}
use Rattle.fsb_look.specs.SearchText.{line_text}

-- the next line, and those behind it
pub next_line : (lines : List (List ℕ)) (i : ℕ) → i < length lines
    → flat_map (λ line. line) (drop i lines) ≡ line_text (slice_get lines i) ++ flat_map (λ line. line)
    (drop (i + 1) lines)
next_line lines i h =
    let e = slice_get-get_or lines i [] h in
    rw (e, add-one, drop-cons lines i []) (rw flat_map-cons refl)

-- behind the last line nothing is left
pub no_line : (lines : List (List ℕ)) (i : ℕ) → length lines ≤ i → flat_map (λ line. line) (drop i lines) ≡ []
no_line lines i h = ap (λ l. flat_map (λ line. line) l) (drop_all i lines h)

-- a text that was appended whole was appended in part
pub part_of_all : (text old now : List ℕ) → now ≡ old ++ text → AppendsPart text old now
part_of_all text old now e = record { part = text; rest = []; whole = sym (append-nil text); appended = e }
