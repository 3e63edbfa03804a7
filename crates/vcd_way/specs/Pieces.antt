-- What the tokens after the header do, in any way to read a dump, and the pieces that it makes of
-- a dump.
use Rattle.std.specs.Prelude.{ℕ, ◌+◌, ◌-◌, ◌==◌, count_by, List, [], ◌∷◌, ◌++◌, length, take, Option, Some, None}
use Rattle.std.specs.Option.{option_map_or}
use Rattle.vcd_way.specs.declared.tap.Tap.{Tap}

-- a time, and the place of its stamp in the text
pub record Stamp : Type 0 where
  pub time : ℕ
  pub place : ℕ

-- the time of a stamp; before the first one it is 0
abbrev pub time_at : Option Stamp → ℕ
time_at stamp = option_map_or (λ (s : Stamp). s.time) stamp 0

-- the number, from 1, of the text line with the byte at this place
abbrev pub line_number : List ℕ → ℕ → ℕ
line_number text place = 1 + count_by (λ b. b == 10) (take place text)

-- these taps get these digits
pub record TapChange : Type 0 where
  pub taps : List Tap
  pub digits : List ℕ

-- the dump stops for a time, or it goes on
pub data DumpSwitch : Type 0 where
  Off : DumpSwitch
  On : DumpSwitch

-- a greater time comes; or a change; or the dump stops or goes on, and these lines are unknown
pub data Happening : Type 0 where
  Comes : Stamp → Happening
  Gets : TapChange → Happening
  Switches : DumpSwitch → List ℕ → Happening

-- a block, which is all changes at one time, with its stamp; or the begin or the end of a hole,
-- with the stamp before it and the lines that are unknown after it. What stands before the first
-- stamp has none
pub data Piece : Type 0 where
  Changes : Option Stamp → List TapChange → Piece
  Switched : DumpSwitch → Option Stamp → List ℕ → Piece

-- the pieces of what happens after some changes of a block that stands open; the last one is the
-- block that stands open after it. A stamp ends a block, and so do the begin and the end of a hole
abbrev pub pieces_from : Option Stamp → List TapChange → List Happening → List Piece
pieces_from stamp block [] = Changes stamp block ∷ []
pieces_from stamp block (Comes next ∷ hs) = Changes stamp block ∷ pieces_from (Some next) [] hs
pieces_from stamp block (Gets change ∷ hs) = pieces_from stamp (block ++ change ∷ []) hs
pieces_from stamp block (Switches switch lines ∷ hs) =
    Changes stamp block ∷ Switched switch stamp lines ∷ pieces_from stamp [] hs

-- the pieces of what happens in a text
abbrev pub pieces_of : List Happening → List Piece
pieces_of hs = pieces_from None [] hs

-- the pieces that are over: all but the last one
abbrev pub over : List Piece → List Piece
over pieces = take (length pieces - 1) pieces
