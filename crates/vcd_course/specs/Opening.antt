-- The block that stands open while a dump is read, and what is told when it ends.
use Rattle.std.specs.Prelude.{ℕ, Bool, not, ◌&&◌, ◌==◌, if◌then◌else◌, List, [], ◌∷◌, ◌++◌, Option, Some, None}
use Rattle.vcd_grammar.specs.Values.{Values, at_first, clock_of, sample_of}
use Rattle.vcd_way.specs.declared.tap.Edge.{Edge}
use Rattle.vcd_way.specs.Ways.{ValueRules}
use Rattle.vcd_way.specs.Pieces.{Stamp, Happening, Comes, Gets, Switches}
use Rattle.vcd_way.specs.Events.{Course, course_at_first, course_after, set_taps, unknown_in, is_edge, digit_after}
use Rattle.vcd_way.specs.Events.{sampled, at_first_edge, DumpEvent, Sampled, switch_event, sample_in_block}

-- the lines before the open block, its stamp, and the values in it
pub record OpenPiece : Type 0 where
  pub course : Course
  pub stamp : Option Stamp
  pub now : Values

-- before anything happens
abbrev pub first_open : OpenPiece
first_open = record { course = course_at_first; stamp = None; now = at_first }

-- the next block, where this one ends here
abbrev pub next_open : OpenPiece → OpenPiece
next_open o = record o { course = course_after o.course o.now }

-- the same, where these lines become unknown
abbrev pub forgotten : OpenPiece → List ℕ → OpenPiece
forgotten o lines =
    let values = unknown_in o.now lines in record o { course = record o.course { values = values }; now = values }

-- what happens makes this of it
abbrev pub after_happening : OpenPiece → Happening → OpenPiece
after_happening o (Gets change) = record o { now = set_taps o.now change.taps change.digits }
after_happening o (Comes stamp) = record (next_open o) { stamp = Some stamp }
after_happening o (Switches switch lines) = forgotten (next_open o) lines

-- what is told where the block ends
abbrev pub ended_in : ValueRules → OpenPiece → List DumpEvent
ended_in m o = sample_in_block m o.course o.stamp o.now

-- what is told where this happens
abbrev pub told_at : ValueRules → OpenPiece → Happening → List DumpEvent
told_at m o (Gets change) = []
told_at m o (Comes stamp) = ended_in m o
told_at m o (Switches switch lines) = ended_in m o ++ switch_event switch o.stamp ∷ []

-- what one thing after another makes of it
abbrev pub after_happenings : OpenPiece → List Happening → OpenPiece
after_happenings o [] = o
after_happenings o (h ∷ hs) = after_happenings (after_happening o h) hs

-- what is told where one thing after another happens
abbrev pub told_in : ValueRules → OpenPiece → List Happening → List DumpEvent
told_in m o [] = []
told_in m o (h ∷ hs) = told_at m o h ++ told_in m (after_happening o h) hs

-- the sample of a block by an edge, whether the first one counts, and the late lines
abbrev pub sample_by : Edge → Bool → List ℕ → OpenPiece → List DumpEvent
sample_by edge takes_first late o =
    if o.course.is_seen && is_edge edge (clock_of o.course.values) (clock_of o.now) then
    Sampled (sample_of (sampled late o.course.values o.now)) o.stamp ∷ []
    else (if takes_first && not o.course.is_seen && (clock_of o.now == digit_after edge) then
    Sampled (sample_of (sampled late (at_first_edge o.stamp o.course.values o.now) o.now)) o.stamp ∷ []
    else [])
