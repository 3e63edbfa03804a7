-- Where codes stand.
use Rattle.std.specs.Prelude.{◌≡◌, ℕ, Bool, nat_lt, List, Option, Some, None, slice_get, if◌then◌else◌}
use Rattle.std.specs.Map.{lookup}
use Rattle.std.specs.BTreeMap.{is_at}
use Rattle.std.specs.Ordering.{nat_cmp}
use Rattle.std.specs.Cmp.Lexicographic.{slice_cmp}
use Rattle.steady_map.specs.Entries.{get}
use Rattle.vcd_grammar.specs.Words.{same}
use Rattle.vcd_scan.specs.CodeNumbers.{number_of}
use Rattle.vcd_scan.specs.declared.places.CodePlaces.{CodePlaces}

-- the option in an option
abbrev pub joined : Option (Option ℕ) → Option ℕ
joined None = None
joined (Some place) = place

-- the place of a small number
abbrev pub low_place : List (Option ℕ) → ℕ → Option ℕ
low_place low number = joined (slice_get low number)

-- the place of a code that has this number, or none
abbrev pub place_at : CodePlaces → List ℕ → Option ℕ → Option ℕ
place_at t code (Some number) = if nat_lt number 65536 then low_place t.low.items number else get t.high number
place_at t code None = lookup (is_at (λ v. slice_cmp nat_cmp code v.items)) t.others.entries

-- the place of a code
abbrev pub place_by : CodePlaces → List ℕ → Option ℕ
place_by t code = place_at t code (number_of code)

-- a place that there was, and another one where this is so
abbrev pub first_of : Option ℕ → Bool → ℕ → Option ℕ
first_of (Some old) so place = Some old
first_of None so place = if so then Some place else None

-- the code has the place, and each other code what it had
abbrev pub Puts : CodePlaces → CodePlaces → List ℕ → ℕ → Type 0
Puts old new code place =
    (other : List ℕ) → place_by new other ≡ (if same code other then Some place else place_by old other)
