-- Taps and ways that fit the signal table.
use Rattle.std.specs.Prelude.{◌≡◌, ℕ, ◌+◌, Bool, true, ◌&&◌, ◌==◌, nat_le, nat_lt, List, [], ◌∷◌, map, length, Some}
use Rattle.std.specs.List.{list_all}
use Rattle.fsb_signal.specs.Table.{TableEntry, table}
use Rattle.fsb_signal.specs.DumpText.{width_of}
use Rattle.vcd_grammar.specs.Tokens.{tokens_so_far}
use Rattle.vcd_grammar.specs.Values.{Values, at_first}
use Rattle.vcd_grammar.specs.Judging.{is_declared}
use Rattle.vcd_way.specs.declared.tap.Part.{Part}
use Rattle.vcd_way.specs.declared.tap.Part.TheVariants as parts
use Rattle.vcd_way.specs.declared.tap.Tap.{Tap}
use Rattle.vcd_way.specs.Declarations.{Declaration}
use Rattle.vcd_way.specs.Ways.{Kept, Keeps, Refuses, Way}
use Rattle.vcd_way.specs.Pieces.{Happening, Comes, Gets, Switches}
use Rattle.vcd_way.specs.Events.{set_taps, unknown_in}
use Rattle.vcd_way.specs.Steps.{first_state, happenings_in}

-- the signal table has a line of this number
abbrev pub is_line : ℕ → Bool
is_line number = nat_lt number (length table)

-- a variable of this width may be a line of that width, or its bits be bits of the line
abbrev pub is_part_within : Part → ℕ → ℕ → Bool
is_part_within parts.Whole width line_width = width == line_width
is_part_within (parts.Bits run) width line_width =
    nat_le (run.low + run.count) width && nat_le (run.lowest + run.count) line_width

-- a tap of a variable that has bits, for a line of the table, with bits that both have
abbrev pub is_lawful_tap : Tap → Bool
is_lawful_tap tap =
    is_line tap.line
    && (nat_le 1 tap.width && is_part_within tap.part tap.width (width_of tap.line))

abbrev pub IsLawfulTap : Tap → Type 0
IsLawfulTap tap = is_lawful_tap tap ≡ true

-- what is kept holds, and the lines that become unknown are of the table; or it is a fault
abbrev pub is_lawfully_kept : {W : Type 0} → (W → Bool) → Kept W → Bool
is_lawfully_kept holds (Keeps header lines) = holds header && list_all is_line lines
is_lawfully_kept holds (Refuses cause) = true

-- what a way keeps of a header has a property throughout, by which its lines are of the table, its
-- taps are lawful, and each of them leads to a line that was declared
pub record IsLawfulWay {W : Type 0} (way : Way W) (holds : W → Bool) : Type 0 where
  pub start : holds way.start ≡ true
  pub declares : (h : W) (d : Declaration) → holds h ≡ true
      → is_lawfully_kept holds (way.declares h d) ≡ true
  pub closes : (h : W) → holds h ≡ true → is_lawfully_kept holds (way.closes h) ≡ true
  pub lines : (h : W) → holds h ≡ true → list_all is_line (way.lines h) ≡ true
  pub taps : (h : W) (code : List ℕ) (taps : List Tap) → holds h ≡ true
      → way.taps h code ≡ Some taps → list_all is_lawful_tap taps ≡ true
  pub declared : (h : W) (code : List ℕ) (taps : List Tap) → holds h ≡ true
      → way.taps h code ≡ Some taps → list_all (λ (tap : Tap). is_declared (way.lines h) tap.line) taps ≡ true

-- the values of the lines after what happens
abbrev pub values_through : Values → List Happening → Values
values_through values [] = values
values_through values (Comes stamp ∷ hs) = values_through values hs
values_through values (Gets change ∷ hs) =
    values_through (set_taps values change.taps change.digits) hs
values_through values (Switches switch lines ∷ hs) = values_through (unknown_in values lines) hs

-- the values of the lines after the first bytes of a text
unfoldable pub values_so_far_by : {W : Type 0} → Way W → List ℕ → Values
values_so_far_by way fed =
    values_through at_first (happenings_in way (first_state way) (tokens_so_far fed))

-- each line has as many digits as the table says
abbrev pub HasWidths : Values → Type 0
HasWidths values = map length values ≡ map (λ (e : TableEntry). e.width) table
