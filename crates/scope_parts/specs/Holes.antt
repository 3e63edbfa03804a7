-- The times for which a dump stops.
use Rattle.std.specs.Prelude.{ℕ, ◌+◌, List, [], ◌∷◌, Option, None}
use Rattle.vcd_way.specs.Pieces.{Stamp}
use Rattle.vcd_way.specs.Events.{DumpEvent, Sampled, Hole, Resumed}

-- how many times the dump stops
abbrev pub holes_in : List DumpEvent → ℕ
holes_in [] = 0
holes_in (Sampled sample stamp ∷ es) = holes_in es
holes_in (Hole stamp ∷ es) = 1 + holes_in es
holes_in (Resumed stamp ∷ es) = holes_in es

-- the stamp before the first time, if there is one
abbrev pub first_hole_in : List DumpEvent → Option Stamp
first_hole_in [] = None
first_hole_in (Sampled sample stamp ∷ es) = first_hole_in es
first_hole_in (Hole stamp ∷ es) = stamp
first_hole_in (Resumed stamp ∷ es) = first_hole_in es
