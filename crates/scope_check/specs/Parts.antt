-- The part of a dump that is judged.
use Rattle.std.specs.Prelude.{◌≡◌, ℕ, ◌+◌, ◌%◌, Bool, true, false, not, ◌&&◌, ◌||◌, ◌==◌, nat_le, if◌then◌else◌, List, [], ◌∷◌, ◌++◌, length}
use Rattle.std.specs.List.{suffix_len}
use Rattle.fsb_signal.specs.declared.lines.TheConstants.Lines.{AP0}
use Rattle.fsb_signal.specs.Samples.{has_known_lines}
use Rattle.vcd_way.specs.Events.{DumpEvent, Sampled, Hole, Resumed, samples_among, time_of}
use Rattle.scope_check.specs.declared.part.Begin.{Begin}
use Rattle.scope_check.specs.declared.part.Begin.TheVariants.{Known, At, Quiet}
use Rattle.scope_check.specs.declared.part.Part.{Part}
use Rattle.scope_check.specs.Bounds.{reaches, passes}

-- a sample in which all control lines are known
abbrev pub is_ready : DumpEvent → Bool
is_ready (Sampled sample stamp) = has_known_lines sample
is_ready (Hole stamp) = false
is_ready (Resumed stamp) = false

-- a sample in which all control lines are known, and none but those of parity is asserted. AP# and RP# are the last of
-- the control lines, from AP0 up
abbrev pub is_quiet : DumpEvent → Bool
is_quiet (Sampled sample stamp) = has_known_lines sample && (sample.lines.0 % AP0.0 == 0)
is_quiet (Hole stamp) = false
is_quiet (Resumed stamp) = false

-- the dump does not stop there for a time, and does not go on
abbrev pub is_sampled : DumpEvent → Bool
is_sampled (Sampled sample stamp) = true
is_sampled (Hole stamp) = false
is_sampled (Resumed stamp) = false

-- the dump stops or goes on among the events
abbrev pub has_stopped : List DumpEvent → Bool
has_stopped [] = false
has_stopped (e ∷ events) = not (is_sampled e) || has_stopped events

-- how many clocks there are among the events
abbrev pub clocks_of : List DumpEvent → ℕ
clocks_of events = length (samples_among events)

-- how many of the last events are quiet, one after another
abbrev pub quiet_run : List DumpEvent → ℕ
quiet_run events = suffix_len is_quiet events

-- how many they are with one more event, where they were so many
abbrev pub quiet_more : ℕ → DumpEvent → ℕ
quiet_more run e = if is_quiet e then 1 + run else 0

-- a part may begin so with this event, behind so many clocks, where so many of the last ones up to it are quiet
abbrev pub may_begin : Begin → ℕ → ℕ → DumpEvent → Bool
may_begin Known clock run e = is_ready e
may_begin (At bound) clock run e = reaches bound clock (time_of e)
may_begin (Quiet bound quiet) clock run e = reaches bound clock (time_of e) && nat_le quiet run

-- the same, where the event is a clock, and not above the last one
abbrev pub opens_at : Part → ℕ → ℕ → DumpEvent → Bool
opens_at p clock run e = is_sampled e && not (passes p.to clock (time_of e)) && may_begin p.begin clock run e

-- the part begins with this event behind these, if it has not begun
abbrev pub opens : Part → List DumpEvent → DumpEvent → Bool
opens p before e = opens_at p (clocks_of before) (quiet_run (before ++ e ∷ [])) e

-- the part ends before this event, behind some of its own: the dump stops, or the clock is above the last one
abbrev pub closes : Part → List DumpEvent → List DumpEvent → DumpEvent → Bool
closes p before inside e = not (is_sampled e) || passes p.to (clocks_of before + clocks_of inside) (time_of e)

-- each of the events is so behind those before it
abbrev pub Throughout : (List DumpEvent → DumpEvent → Bool) → List DumpEvent → Type 0
Throughout is_so [] = Unit {0}
Throughout is_so (e ∷ events) = (is_so [] e ≡ true) × Throughout (λ es. is_so (e ∷ es)) events

-- the first of the events is so, if there is one
abbrev pub begins : (DumpEvent → Bool) → List DumpEvent → Bool
begins is_so [] = true
begins is_so (e ∷ events) = is_so e

-- there is none
abbrev pub is_none : List DumpEvent → Bool
is_none [] = true
is_none (e ∷ events) = false

-- the part that is judged, and what comes before and behind it: it begins as soon as it may, and goes on up to the first
-- event before which it ends
pub record IsParted (p : Part) (events before part behind : List DumpEvent) : Type 0 where
  pub whole : events ≡ before ++ part ++ behind
  pub unopened : Throughout (λ es e. not (opens p es e)) before
  pub opened : begins (opens p before) part ≡ true
  pub unclosed : Throughout (λ es e. not (closes p before es e)) part
  pub closed : begins (closes p before part) behind ≡ true
  pub begun : is_none behind ≡ false → is_none part ≡ false
