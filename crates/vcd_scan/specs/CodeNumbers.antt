-- The numbers of codes.
use Rattle.std.specs.Prelude.{ℕ, ◌+◌, ◌*◌, ◌-◌, nat_le, List, [], ◌∷◌, length, Option, Some, None, ◌&&◌, if◌then◌else◌}
use Rattle.std.specs.List.{list_all}
use Rattle.std.specs.Char.{is_ascii_graphic}

-- printable characters as digits from 1 to 94, the first one counting least
abbrev pub numbered : List ℕ → ℕ
numbered [] = 0
numbered (b ∷ bs) = (b - 32) + 94 * numbered bs

-- the number of a code: one of at most nine characters that are all printable has it
abbrev pub number_of : List ℕ → Option ℕ
number_of code = if nat_le (length code) 9 && list_all is_ascii_graphic code then Some (numbered code) else None
