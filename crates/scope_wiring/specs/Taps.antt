-- What is taken of a variable as a line of the bus.
use Rattle.std.specs.Prelude.{ℕ, Bool, true, false, nat_eq, nat_le, nat_lt, not, ◌-◌, ◌&&◌, Option, Some, None, if◌then◌else◌}
use Rattle.scope_pick.specs.declared.variable.Variable.{Variable}
use Rattle.scope_pick.specs.declared.variable.Range.{Range}
use Rattle.scope_pick.specs.declared.place.Place.{Place}
use Rattle.scope_pick.specs.Places.{line_width, place_of, from_bit, is_range_of, known_range}
use Rattle.scope_pick.specs.Numbering.{is_wire_kind}
use Rattle.vcd_way.specs.declared.tap.Tap.{Tap}
use Rattle.vcd_way.specs.declared.tap.Part.{Part}
use Rattle.vcd_way.specs.declared.tap.Part.TheVariants as parts

-- a variable as wide as its line is all of it, unless it is turned
unfoldable pub part_at : ℕ → ℕ → Place → Part
part_at line width place =
    if nat_eq width (line_width line) && not place.turned then parts.Whole
    else parts.Bits (record {
      count = line_width line;
      low = place.low;
      lowest = 0;
      is_turned = place.turned;
    })

-- the line, taken at a place of a variable of this width
unfoldable pub tap_at : ℕ → ℕ → Bool → Place → Tap
tap_at line width inverted place = record {
  line = line;
  width = width;
  part = part_at line width place;
  inverted = inverted;
}

-- one bit of a word, from its lowest on
unfoldable pub bit_tap : ℕ → ℕ → Bool → Tap
bit_tap line number inverted = record {
  line = line;
  width = 1;
  part = parts.Bits (record { count = 1; low = 0; lowest = number; is_turned = false });
  inverted = inverted;
}

-- the line, at a place if there is one
unfoldable pub tap_if : ℕ → Variable → Bool → Option Place → Option Tap
tap_if line v inverted None = None
tap_if line v inverted (Some place) =
    if is_wire_kind v.kind.items then Some (tap_at line v.width inverted place) else None

-- what is taken of a variable as the line, if it can be the line
unfoldable pub tap_of : ℕ → Variable → Bool → Option Tap
tap_of line v inverted =
    if nat_lt line 22 then tap_if line v inverted (place_of line v.width v.range) else None

-- the bit of an index, counted from the last digit
unfoldable pub bit_at_index : Range → ℕ → Option ℕ
bit_at_index range index =
    if nat_le range.right range.left then
    if nat_le range.right index && nat_le index range.left then Some (index - range.right) else None
    else
    if nat_le range.left index && nat_le index range.right then Some (range.right - index) else None

-- the bits from the one to the other, which are turned where the first is the lower
unfoldable pub place_between : Option ℕ → Option ℕ → Option Place
place_between None low = None
place_between (Some high) None = None
place_between (Some high) (Some low) =
    if nat_le low high then Some (from_bit low false) else Some (from_bit high true)

-- the place of bits that the user names in a variable of this range: as many as the line has
unfoldable pub place_named : ℕ → ℕ → Range → Range → Option Place
place_named line width range bits =
    if is_range_of (line_width line) bits && is_range_of width range
    then place_between (bit_at_index range bits.left) (bit_at_index range bits.right) else None

-- the same, where the variable's range can be read
unfoldable pub place_if : ℕ → ℕ → Option Range → Range → Option Place
place_if line width None bits = None
place_if line width (Some range) bits = place_named line width range bits

-- what is taken of a variable of which the user names the bits
unfoldable pub tap_named : ℕ → Variable → Bool → Range → Option Tap
tap_named line v inverted bits =
    if nat_lt line 22
    then tap_if line v inverted (place_if line v.width (known_range v.width v.range) bits) else None
