-- A way to read a dump: who is a line of the bus, of which bits, which bytes are digits, and when
-- there is a sample.
use Rattle.std.specs.Prelude.{ℕ, Bool, List, Option}
use Rattle.vcd_grammar.specs.declared.fault.VcdCause.{VcdCause}
use Rattle.vcd_way.specs.declared.tap.Tap.{Tap}
use Rattle.vcd_way.specs.declared.tap.Edge.{Edge}
use Rattle.vcd_way.specs.Declarations.{Declaration}

-- what a way makes of a declaration, or of the header's end: what it keeps, and the lines that are
-- unknown from here; or a fault
pub data Kept (W : Type 0) : Type 0 where
  Keeps : W → List ℕ → Kept W
  Refuses : VcdCause → Kept W

-- what a way says of values, whatever was declared
pub record ValueRules : Type 0 where
  -- the digit that a byte means: 0, 1, x or X for unknown, z or Z for open
  pub digit : ℕ → Option ℕ
  -- any value is let pass of a variable that is no line
  pub takes_any : Bool
  -- the most bits that a variable has
  pub widest : ℕ
  pub edge : Edge
  -- a clock whose first known digit is the one after an edge has an edge there
  pub takes_first : Bool
  -- the lines that are sampled after the changes of the edge's own time
  pub late : List ℕ
  -- words before the first `$` are read past
  pub skips_preface : Bool
  -- where the dump stops for a time, and where it goes on, this is told, and all lines are unknown
  pub tells_holes : Bool
  -- a last token that is a fault, after which the text ends, ends it early
  pub ends_early : Bool

-- a way to read a dump, which keeps a W of what the header declares
pub record Way (W : Type 0) : Type 0 where
  -- before the first declaration
  pub start : W
  -- after a declaration
  pub declares : W → Declaration → Kept W
  -- after the end of the header
  pub closes : W → Kept W
  -- the lines that were declared
  pub lines : W → List ℕ
  -- the taps of a code; none where it wasn't declared, empty where it is another variable's
  pub taps : W → List ℕ → Option (List Tap)
  pub rules : ValueRules
