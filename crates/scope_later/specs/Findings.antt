-- What is found of a part of a waveform.
use Rattle.std.specs.Prelude.{ℕ, ◌-◌, ◌++◌, Bool, true, false, ◌&&◌, ◌||◌, ◌==◌, nat_lt, if◌then◌else◌, Option, Some, None}
use Rattle.fsb_signal.specs.declared.marks.Marks.{Marks}
use Rattle.fsb_trace.specs.At.{Trace}
use Rattle.fsb_trace.specs.Verdict.{verdict}
use Rattle.fsb_rules.specs.declared.broken.Broken.{Broken}
use Rattle.fsb_rules.specs.Checker.{as_broken}
use Rattle.scope_later.specs.Histories.{history, past}

-- what was found behind a history, its clock counted from the begin of the part
abbrev pub counted_behind : Option Broken → Option Broken
counted_behind None = None
counted_behind (Some b) = Some (record { clock = b.clock - past; rule = b.rule })

-- what is found of a part before which this agent had the bus last
unfoldable pub found_behind : ℕ → Marks → Trace → Option Broken
found_behind a m part = counted_behind (as_broken (verdict m (history a ++ part)))

-- the first finding comes before the second: at an earlier clock, or at the same one by a lesser rule
abbrev pub comes_before : Broken → Broken → Bool
comes_before b c = nat_lt b.clock c.clock || (b.clock == c.clock && nat_lt b.rule c.rule)

-- the later of two findings; none, where one of them is none
abbrev pub later_of : Option Broken → Option Broken → Option Broken
later_of None other = None
later_of (Some b) None = None
later_of (Some b) (Some c) = if comes_before b c then Some c else Some b

-- what is found of a part that begins later: the latest of what is found behind each of the four agents, and nothing
-- where behind one of them nothing is found
unfoldable pub found_later : Marks → Trace → Option Broken
found_later m part =
    later_of (later_of (found_behind 0 m part) (found_behind 1 m part))
    (later_of (found_behind 2 m part) (found_behind 3 m part))

-- what is found of a part, which begins later or is judged as a whole waveform
abbrev pub found_on : Bool → Marks → Trace → Option Broken
found_on false m part = as_broken (verdict m part)
found_on true m part = found_later m part
