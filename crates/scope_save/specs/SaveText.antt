-- The text of a save file: one row for each line of the bus that has wires.
use Rattle.std.specs.Prelude.{ℕ, ◌+◌, ◌-◌, ◌*◌, ◌==◌, nat_eq, nat_lt, nat_le, Bool, true, false, ◌&&◌, ◌||◌, not, if◌then◌else◌, List, [], ◌∷◌, ◌++◌, codes, decimal, slice_get, Option, Some, None}
use Rattle.std.specs.List.{filter, list_any}
use Rattle.fsb_signal.specs.DumpText.{lowest_of, name_of, texts_from, width_of}
use Rattle.scope_pick.specs.declared.variable.Range.{Range}
use Rattle.scope_pick.specs.declared.variable.Variable.{Variable}
use Rattle.scope_pick.specs.declared.variable.Written.{Written}
use Rattle.scope_pick.specs.declared.variable.Written.TheVariants.{Absent, Numbers, Unreadable}
use Rattle.scope_wiring.specs.declared.wire.Wire.{Wire}
use Rattle.vcd_way.specs.declared.tap.Part.{Part}
use Rattle.vcd_way.specs.declared.tap.Part.TheVariants.{Whole, Bits}
use Rattle.scope_save.specs.declared.mark.Mark.{Mark}
use Rattle.scope_save.specs.Names.{path_text}
use Rattle.scope_save.specs.Bits.{bit_text, place_in, word_text}
use Rattle.scope_save.specs.Views.{begin_of, clock_of, doublings, marker_of, capped}

-- ---- a row

-- the wires that are a line, or bits of it
abbrev pub wires_at : List Wire → ℕ → List Wire
wires_at ws line = filter (λ (w : Wire). nat_eq w.tap.line line) ws

-- how GTKWave writes a value: single lines as they are; words with 1 for asserted, those of up to three bits in binary, the
-- others in hexadecimal, and the address with zeros for the bits below its lowest line
unfoldable pub radix_text : ℕ → Bool → List ℕ
radix_text line is_high =
    if nat_le (width_of line) 1 then codes "28"
    else if nat_le (width_of line) 3 then (if is_high then codes "28" else codes "68")
    else if nat_eq line 10 then (if is_high then codes "100022" else codes "200062")
    else if is_high then codes "22" else codes "62"

-- the address by the table's range: GTKWave can tell its lowest line
abbrev pub is_address_range : Written → Bool
is_address_range (Numbers range) = nat_eq range.left 35 && nat_eq range.right 3
is_address_range Absent = false
is_address_range Unreadable = false

-- the variable is shown as it is declared: it is the whole line, and an address has the table's range
unfoldable pub is_shown_whole : ℕ → Part → Variable → Bool
is_shown_whole line Whole v = not (nat_eq line 10) || is_address_range v.range
is_shown_whole line (Bits run) v = false

-- a single line by a bit of a variable, if it has one
unfoldable pub single_text : Variable → Option ℕ → List ℕ
single_text v None = []
single_text v (Some place) = bit_text v place

-- a word that is put together of bits, by the name and the range of the table
unfoldable pub joined_text : List Variable → List Wire → ℕ → List ℕ
joined_text vs here line =
    codes "#{" ++ name_of line ++ codes "[" ++ decimal (lowest_of line + width_of line - 1) ++ codes ":"
    ++ decimal (lowest_of line) ++ codes "]}" ++ word_text vs here (width_of line)

-- what a line is shown by, whose first wire has this part of this variable
unfoldable pub shown_text : List Variable → List Wire → ℕ → Part → Variable → List ℕ
shown_text vs here line part v =
    if is_shown_whole line part v then path_text v
    else (if nat_le (width_of line) 1 then single_text v (place_in part 0) else joined_text vs here line)

-- the same, if there is the variable
unfoldable pub named_text : List Variable → List Wire → ℕ → Part → Option Variable → List ℕ
named_text vs here line part None = []
named_text vs here line part (Some v) = shown_text vs here line part v

-- the row of a line with these wires, of which this is the first: how its value is written, and what it is shown by
unfoldable pub first_text : List Variable → List Wire → ℕ → Wire → List ℕ
first_text vs here line w =
    codes "@" ++ radix_text line w.tap.inverted ++ codes "\n"
    ++ named_text vs here line w.tap.part (slice_get vs w.index) ++ codes "\n"

-- the same, if there is one
unfoldable pub headed_text : List Variable → List Wire → ℕ → Option Wire → List ℕ
headed_text vs here line None = []
headed_text vs here line (Some w) = first_text vs here line w

-- the row of a line
unfoldable pub row_text : List Variable → List Wire → ℕ → List ℕ
row_text vs ws line = headed_text vs (wires_at ws line) line (slice_get (wires_at ws line) 0)

-- ---- the text

-- a byte that would end a line or a quoted name
abbrev pub is_breaking : ℕ → Bool
is_breaking b = nat_lt b 32 || (nat_eq b 34 || nat_eq b 127)

-- a line that names a dump
abbrev pub quoted_text : List ℕ → List ℕ
quoted_text name = codes "[dumpfile] \"" ++ name ++ codes "\"\n"

-- the line that names the dump; a name that does not fit into it is left out
unfoldable pub dump_text : List ℕ → List ℕ
dump_text name = if list_any is_breaking name then [] else quoted_text name

-- where the view begins, in a window of this size
abbrev pub begin_text : ℕ → List ℕ
begin_text begin = codes "[timestart] " ++ decimal begin ++ codes "\n[size] 1400 800\n[pos] -1 -1\n"

-- how many doublings of a unit 200 pixels show, and where the marker stands
abbrev pub zoom_text : ℕ → ℕ → List ℕ
zoom_text marker n = codes "*-" ++ decimal n ++ codes ".000000 " ++ decimal marker ++ codes "\n"

-- what is shown of the dump: the marker stands in the middle
unfoldable pub view_text : ℕ → ℕ → List ℕ
view_text marker n = begin_text (begin_of marker n) ++ zoom_text marker n
    ++ codes "[sst_width] 0\n[signals_width] 260\n[sst_expanded] 0\n"

-- the whole text: 200 pixels are the greatest power of two of units that is no longer than two clocks, so that a clock has
-- 100 to 200
unfoldable pub save_text : List ℕ → List Variable → List Wire → Mark → List ℕ
save_text name vs ws m =
    codes "[*] The bus as p6scope judged it: the marker stands on the sample of the broken clock\n"
    ++ dump_text name ++ view_text (marker_of m) (doublings (capped (2 * clock_of m)))
    ++ texts_from (row_text vs ws) 0 22
