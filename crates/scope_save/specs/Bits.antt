-- The bits of variables that stand for the bits of a line.
use Rattle.std.specs.Prelude.{ℕ, zero, suc, ◌+◌, ◌-◌, ◌||◌, nat_le, nat_lt, if◌then◌else◌, List, [], ◌++◌, codes, decimal, slice_get, Option, Some, None}
use Rattle.std.specs.List.{flat_map}
use Rattle.scope_pick.specs.declared.variable.Variable.{Variable}
use Rattle.scope_wiring.specs.declared.wire.Wire.{Wire}
use Rattle.vcd_way.specs.declared.tap.BitRun.{BitRun}
use Rattle.vcd_way.specs.declared.tap.Part.{Part}
use Rattle.vcd_way.specs.declared.tap.Part.TheVariants.{Whole, Bits}
use Rattle.scope_save.specs.Names.{path_text}

-- the bit of the variable, from its last one up, that stands for this bit of the line by a run
unfoldable pub place_of : BitRun → ℕ → Option ℕ
place_of run bit =
    if nat_lt bit run.lowest || nat_le run.count (bit - run.lowest) then None
    else (if run.is_turned then Some (run.low + (run.count - 1 - (bit - run.lowest)))
    else Some (run.low + (bit - run.lowest)))

-- the same by a tap's part, if it has the bit
unfoldable pub place_in : Part → ℕ → Option ℕ
place_in Whole bit = Some bit
place_in (Bits run) bit = place_of run bit

-- a bit of a variable: `tb.ads`, or of one with several bits `(5)tb.control[7:0]`, counted from the first
unfoldable pub bit_text : Variable → ℕ → List ℕ
bit_text v place =
    (if nat_lt 1 v.width then codes "(" ++ decimal (v.width - 1 - place) ++ codes ")" else []) ++ path_text v

-- the bit, behind a space, if there is one
unfoldable pub spaced_text : Variable → Option ℕ → List ℕ
spaced_text v None = []
spaced_text v (Some place) = codes " " ++ bit_text v place

-- what a part of a variable gives for this bit of the line
unfoldable pub piece_text : Option Variable → Part → ℕ → List ℕ
piece_text None part bit = []
piece_text (Some v) part bit = spaced_text v (place_in part bit)

-- what a wire gives for it
unfoldable pub wire_text : List Variable → ℕ → Wire → List ℕ
wire_text vs bit w = piece_text (slice_get vs w.index) w.tap.part bit

-- what wires give for it
abbrev pub pieces_text : List Variable → List Wire → ℕ → List ℕ
pieces_text vs ws bit = flat_map (wire_text vs bit) ws

-- what wires give for so many of the first bits of a line, from the highest to the lowest
abbrev pub word_text : List Variable → List Wire → ℕ → List ℕ
word_text vs ws zero = []
word_text vs ws (suc n) = pieces_text vs ws n ++ word_text vs ws n
