-- Which bits of a variable are a line of the bus.
use Rattle.std.specs.Prelude.{ℕ, Bool, true, false, nat_eq, nat_le, nat_lt, ◌+◌, ◌-◌, ◌&&◌, Option, Some, None, slice_get, if◌then◌else◌}
use Rattle.fsb_signal.specs.Table.{table, TableEntry}
use Rattle.scope_pick.specs.declared.variable.Range.{Range}
use Rattle.scope_pick.specs.declared.variable.Written.{Written}
use Rattle.scope_pick.specs.declared.variable.Written.TheVariants.{Absent, Numbers, Unreadable}
use Rattle.scope_pick.specs.declared.place.Place.{Place}

-- the width of an entry of the table of lines; 0 where there is none
unfoldable pub entry_width : Option TableEntry → ℕ
entry_width None = 0
entry_width (Some e) = e.width

-- how many bits the line has
unfoldable pub line_width : ℕ → ℕ
line_width line = entry_width (slice_get table line)

-- the line has more than one bit
unfoldable pub is_multi_bit : ℕ → Bool
is_multi_bit line = nat_lt line 22 && nat_lt 1 (line_width line)

-- the entry is of a line that a dump must declare
unfoldable pub is_entry_needed : Option TableEntry → Bool
is_entry_needed None = false
is_entry_needed (Some e) = e.needed

-- the line is one that a dump must declare
unfoldable pub is_line_needed : ℕ → Bool
is_line_needed line = is_entry_needed (slice_get table line)

-- the index of the line's lowest bit: the address begins at A3
unfoldable pub lowest_index : ℕ → ℕ
lowest_index line = if nat_eq line 10 then 3 else 0

-- the index of the line's highest bit
unfoldable pub highest_index : ℕ → ℕ
highest_index line = lowest_index line + line_width line - 1

-- the range has as many indices as the variable has bits; one of no bits has no range
unfoldable pub is_range_of : ℕ → Range → Bool
is_range_of width range =
    nat_lt 0 width
    && nat_eq
    (if nat_le range.right range.left
    then range.left - range.right else range.right - range.left)
    (width - 1)

-- the bits from the low one on, as they are or turned
abbrev pub from_bit : ℕ → Bool → Place
from_bit low turned = record { low = low; turned = turned }

-- the bits of the line's indices in a variable with this range: its last digit has the right index
unfoldable pub place_by_index : ℕ → Range → Option Place
place_by_index line range =
    if nat_le range.right range.left then
    if nat_le range.right (lowest_index line) && nat_le (highest_index line) range.left
    then Some (from_bit (lowest_index line - range.right) false) else None
    else
    if nat_le range.left (lowest_index line) && nat_le (highest_index line) range.right
    then Some (from_bit (range.right - highest_index line) true) else None

-- which bits of a variable of this width and range are the line:
-- a variable as wide as the line is taken by place;
-- in a wider one a word is taken by its indices, and a single line is not looked for
unfoldable pub place_within : ℕ → ℕ → Range → Option Place
place_within line width range =
    if nat_eq width (line_width line) then Some (from_bit 0 false)
    else if nat_lt 1 (line_width line) && nat_lt (line_width line) width && is_range_of width range
    then place_by_index line range
    else None

-- the variable's range: where none is written, from its width less one down to 0
unfoldable pub known_range : ℕ → Written → Option Range
known_range width Absent = Some (record { left = width - 1; right = 0 })
known_range width (Numbers range) = Some range
known_range width Unreadable = None

-- which bits of a variable are the line, if it can be the line
unfoldable pub place_of : ℕ → ℕ → Written → Option Place
place_of line width written =
    elim (known_range width written) [ None ↦ None | Some range ↦ place_within line width range ]
