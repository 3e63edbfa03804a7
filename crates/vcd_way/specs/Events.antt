-- The values of the lines, and the samples and holes of a dump.
use Rattle.std.specs.Prelude.{ℕ, ◌+◌, ◌-◌, Bool, false, not, ◌&&◌, ◌||◌, ◌==◌, if◌then◌else◌, List, [], ◌∷◌, ◌++◌, length, take, drop, map, reverse, slice_get, slice_set, Option, Some, None}
use Rattle.std.specs.Option.{option_map_or}
use Rattle.fsb_signal.specs.declared.sample.Sample.{Sample}
use Rattle.fsb_signal.specs.DumpText.{width_of}
use Rattle.vcd_grammar.specs.Digits.{is_unknown, extended}
use Rattle.vcd_grammar.specs.Values.{Values, at_first, clock_of, is_rise, sample_of}
use Rattle.vcd_way.specs.declared.tap.BitRun.{BitRun}
use Rattle.vcd_way.specs.declared.tap.Part.{Part}
use Rattle.vcd_way.specs.declared.tap.Part.TheVariants as parts
use Rattle.vcd_way.specs.declared.tap.Tap.{Tap}
use Rattle.vcd_way.specs.declared.tap.Edge.{Edge}
use Rattle.vcd_way.specs.declared.tap.Edge.TheVariants as edges
use Rattle.vcd_way.specs.Ways.{ValueRules}
use Rattle.vcd_way.specs.Pieces.{Stamp, time_at, TapChange, DumpSwitch, Off, On, Piece, Changes, Switched}

-- the tap of a variable that is the line of this number
abbrev pub whole : ℕ → Tap
whole number = record { line = number; width = width_of number; part = parts.Whole; inverted = false }

-- 0 and 1, each for the other
abbrev pub inverted_digit : ℕ → ℕ
inverted_digit b = if b == 48 then 49 else (if b == 49 then 48 else b)

-- the digits of a variable as the line's
abbrev pub inverted_if : Bool → List ℕ → List ℕ
inverted_if inverted digits = if inverted then map inverted_digit digits else digits

-- the digits of a variable that a run takes
abbrev pub run_of : BitRun → List ℕ → List ℕ
run_of run digits =
    let taken = take run.count (drop (length digits - (run.low + run.count)) digits) in
    if run.is_turned then reverse taken else taken

-- the digits of a line after a part of it took its digits from a variable
abbrev pub with_part : Part → List ℕ → List ℕ → List ℕ
with_part parts.Whole digits line = digits
with_part (parts.Bits run) digits line =
    let top = length line - (run.lowest + run.count) in
    take top line ++ run_of run digits ++ drop (top + run.count) line

-- the digits of the line of this number
abbrev pub digits_at : Values → ℕ → List ℕ
digits_at values number = option_map_or (λ digits. digits) (slice_get values number) []

-- the values where a tap got some digits: they are extended to the variable's width first
abbrev pub set_tap : Values → Tap → List ℕ → Values
set_tap values tap digits =
    slice_set values tap.line
    (with_part tap.part (inverted_if tap.inverted (extended tap.width digits)) (digits_at values tap.line))

-- the values where each of some taps got some digits
abbrev pub set_taps : Values → List Tap → List ℕ → Values
set_taps values [] digits = values
set_taps values (tap ∷ taps) digits = set_taps (set_tap values tap digits) taps digits

-- the values after changes
abbrev pub values_after : Values → List TapChange → Values
values_after values [] = values
values_after values (change ∷ block) = values_after (set_taps values change.taps change.digits) block

-- the values where these lines are unknown
abbrev pub unknown_in : Values → List ℕ → Values
unknown_in values lines = set_taps values (map whole lines) (120 ∷ [])

-- the clock's edge lies between these digits
abbrev pub is_edge : Edge → ℕ → ℕ → Bool
is_edge edges.Rising before after = is_rise before after
is_edge edges.Falling before after = is_rise after before

-- the clock's digit after its edge
abbrev pub digit_after : Edge → ℕ
digit_after edges.Rising = 49
digit_after edges.Falling = 48

-- the digit is known
abbrev pub is_known_digit : ℕ → Bool
is_known_digit b = (b == 48) || (b == 49)

-- the values, and whether the clock was ever 0 or 1
pub record Course : Type 0 where
  pub values : Values
  pub is_seen : Bool

-- before the first token
abbrev pub course_at_first : Course
course_at_first = record { values = at_first; is_seen = false }

-- after a block, which leaves these values
abbrev pub course_after : Course → Values → Course
course_after c values = record { values = values; is_seen = c.is_seen || is_known_digit (clock_of values) }

-- what is sampled: the values before the block; of the late lines, those after it
abbrev pub sampled : List ℕ → Values → Values → Values
sampled [] before after = before
sampled (number ∷ late) before after = slice_set (sampled late before after) number (digits_at after number)

-- the digits of a line at the first edge: each is the one before it; where that is unknown, the one
-- after it
abbrev pub settled_digits : List ℕ → List ℕ → List ℕ
settled_digits (b ∷ before) (a ∷ after) =
    (if is_unknown b then a else b) ∷ settled_digits before after
settled_digits before after = before

-- the values at the first edge, from those before its block and those after it
abbrev pub settled : Values → Values → Values
settled (b ∷ before) (a ∷ after) = settled_digits b a ∷ settled before after
settled before after = before

-- what is sampled at the first edge of a clock that is high when it is first seen: before the first
-- stamp of the dump nothing comes, so there it is the values of its block
abbrev pub at_first_edge : Option Stamp → Values → Values → Values
at_first_edge None before after = after
at_first_edge (Some stamp) before after = settled before after

-- what a dump tells, each with the last stamp: a sample; that it stops for a time; or that it
-- goes on
pub data DumpEvent : Type 0 where
  Sampled : Sample → Option Stamp → DumpEvent
  Hole : Option Stamp → DumpEvent
  Resumed : Option Stamp → DumpEvent

-- the begin of a hole, or its end
abbrev pub switch_event : DumpSwitch → Option Stamp → DumpEvent
switch_event Off stamp = Hole stamp
switch_event On stamp = Resumed stamp

-- the time of an event
abbrev pub time_of : DumpEvent → ℕ
time_of (Sampled sample stamp) = time_at stamp
time_of (Hole stamp) = time_at stamp
time_of (Resumed stamp) = time_at stamp

-- the sample of a block that leaves these values: one where the clock has its edge in it
abbrev pub sample_in_block : ValueRules → Course → Option Stamp → Values → List DumpEvent
sample_in_block m c stamp after =
    if c.is_seen && is_edge m.edge (clock_of c.values) (clock_of after) then
    Sampled (sample_of (sampled m.late c.values after)) stamp ∷ []
    else (if m.takes_first && not c.is_seen && (clock_of after == digit_after m.edge) then
    Sampled (sample_of (sampled m.late (at_first_edge stamp c.values after) after)) stamp ∷ []
    else [])

-- what pieces tell, the first of which begins with these values. Where the dump stops, and where it
-- goes on, all lines are unknown: some tools write changes of that time after `$dumpoff`
abbrev pub events_from : ValueRules → Course → List Piece → List DumpEvent
events_from m c [] = []
events_from m c (Changes stamp block ∷ pieces) =
    let after = values_after c.values block in
    sample_in_block m c stamp after ++ events_from m (course_after c after) pieces
events_from m c (Switched switch stamp lines ∷ pieces) =
    switch_event switch stamp ∷ events_from m (record c { values = unknown_in c.values lines }) pieces

-- the samples among events
abbrev pub samples_among : List DumpEvent → List Sample
samples_among [] = []
samples_among (Sampled sample stamp ∷ events) = sample ∷ samples_among events
samples_among (Hole stamp ∷ events) = samples_among events
samples_among (Resumed stamp ∷ events) = samples_among events
