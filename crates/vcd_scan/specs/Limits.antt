-- Sections that say that a limit is exceeded.
use Rattle.std.specs.Prelude.{ℕ, Bool, false, ◌&&◌, ◌||◌, nat_le, if◌then◌else◌, List, [], ◌∷◌, length, take, codes, Option, Some, None}
use Rattle.std.specs.List.{list_any}
use Rattle.std.specs.Str.{str_eq_ignore_ascii_case}
use Rattle.vcd_way.specs.Declarations.{DumpSection}

-- bytes begin with these, in letters of either case
abbrev pub begins_with : List ℕ → List ℕ → Bool
begins_with bytes part =
    nat_le (length part) (length bytes) && str_eq_ignore_ascii_case (take (length part) bytes) part

-- a word has these bytes in it, in letters of either case
abbrev pub has_part : List ℕ → List ℕ → Bool
has_part [] part = false
has_part (b ∷ bs) part = begins_with (b ∷ bs) part || has_part bs part

-- a word has `limit` in it
abbrev pub is_limit : List ℕ → Bool
is_limit word = has_part word (codes "limit")

-- a word has `exceeded` in it
abbrev pub is_exceeded : List ℕ → Bool
is_exceeded word = has_part word (codes "exceeded")

-- a section has words of both kinds
abbrev pub tells_limit : DumpSection → Bool
tells_limit section = list_any is_limit section.words && list_any is_exceeded section.words

-- where the first section begins that has
abbrev pub first_limit : List DumpSection → Option ℕ
first_limit [] = None
first_limit (section ∷ sections) = if tells_limit section then Some section.place else first_limit sections
