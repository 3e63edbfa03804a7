-- The variables that are named like lines of the bus.
use Rattle.std.specs.Prelude.{ℕ, Bool, true, false, ◌&&◌, List, Option, Some, None, is_some, if◌then◌else◌}
use Rattle.std.specs.List.{filter_map, enumerate_from}
use Rattle.scope_pick.specs.declared.variable.Variable.{Variable}
use Rattle.scope_pick.specs.declared.wires.Named.{Named}
use Rattle.scope_pick.specs.declared.split.Bit.{Bit}
use Rattle.scope_pick.specs.Names.{line_named, is_exact_name}
use Rattle.scope_pick.specs.Places.{place_of}
use Rattle.scope_pick.specs.Numbering.{is_wire_kind, scope_number, wire_number}
use Rattle.scope_pick.specs.Splits.{bits, bit_at, is_joined, is_first_bit}

-- the variable can be the line that its name stands for
unfoldable pub can_be : Variable → ℕ → Bool
can_be v line = is_wire_kind v.kind.items && is_some (place_of line v.width v.range)

-- the i-th variable by the line that its name stands for
unfoldable pub as_line : List Variable → ℕ → Variable → ℕ → Named
as_line vs i v line = record {
  index = i;
  line = line;
  exact = is_exact_name line v.name.items;
  scope = scope_number vs i v;
  wire = wire_number vs i v;
  is_split = false;
}

-- a bit by the word that it belongs to
unfoldable pub as_word : Bit → Named
as_word b = record {
  index = b.index;
  line = b.line;
  exact = b.exact;
  scope = b.scope;
  wire = b.wire;
  is_split = true;
}

-- the i-th variable as a whole line, if it is named like one and can be it
unfoldable pub whole_at : List Variable → ℕ → Variable → Option Named
whole_at vs i v =
    elim (line_named v.name.items) [
      | None ↦ None
      | Some n ↦ if can_be v n then Some (as_line vs i v n) else None
    ]

-- a word that has all its bits stands at the first of them
unfoldable pub split_at : List Bit → Option Bit → Option Named
split_at bs None = None
split_at bs (Some b) = if is_first_bit bs b && is_joined bs b then Some (as_word b) else None

-- the i-th variable as a line of the bus: a whole one, or the first bit of a word
unfoldable pub named_at : List Variable → List Bit → ℕ → Variable → Option Named
named_at vs bs i v =
    elim (whole_at vs i v) [ Some e ↦ Some e | None ↦ split_at bs (bit_at vs i v) ]

-- a bit of a word that lacks others
unfoldable pub lone_bit : List Bit → Option Bit → Option Named
lone_bit bs None = None
lone_bit bs (Some b) = if is_joined bs b then None else Some (as_word b)

-- a variable that is named like a line and cannot be it
unfoldable pub unfit_line : List Variable → ℕ → Variable → Option ℕ → Option Named
unfit_line vs i v None = None
unfit_line vs i v (Some line) = if can_be v line then None else Some (as_line vs i v line)

-- the i-th variable, if it is named like a line or like a bit of one, and cannot be it
unfoldable pub unfit_at : List Variable → List Bit → ℕ → Variable → Option Named
unfit_at vs bs i v =
    elim (bit_at vs i v) [
      | Some b ↦ lone_bit bs (Some b)
      | None ↦ unfit_line vs i v (line_named v.name.items)
    ]

-- all variables that are named like lines and cannot be them, by their type, width or range,
-- or since other bits lack
unfoldable pub unfit_lines : List Variable → List Named
unfit_lines vs = filter_map (λ p. unfit_at vs (bits vs) p.0 p.1) (enumerate_from 0 vs)

-- all that are named like lines and can be them, in the order of the header
unfoldable pub named_lines : List Variable → List Named
named_lines vs = filter_map (λ p. named_at vs (bits vs) p.0 p.1) (enumerate_from 0 vs)
