-- Hazards and snoop results: what is on BNR#, AERR#, HIT#, HITM# and DEFER#.
use Rattle.std.specs.Prelude.{ℕ, ◌-◌, ◌&&◌, ◌||◌, Bool, true, false, not, nat_eq, nat_le, Option, Some, None, slice_get}
use Rattle.std.specs.Bool.{beq}
use Rattle.std.specs.Option.{option_map_or, option_and_then}
use Rattle.fsb_count.specs.Clocks.{any_where}
use Rattle.fsb_count.specs.Options.{is_some_and}
use Rattle.fsb_signal.specs.declared.lines.TheConstants.Lines.{ADS, BNR, AERR, HIT, HITM, DEFER}
use Rattle.fsb_signal.specs.Samples.{line_at}
use Rattle.fsb_hazard.specs.declared.choice.Choice.{Choice}
use Rattle.fsb_hazard.specs.declared.choice.Turn.{Turn}
use Rattle.fsb_hazard.specs.declared.choice.Turn.TheVariants.{Keep, Retry, Defer}
use Rattle.fsb_hazard.specs.Choice.{quiet_choice}
use Rattle.fsb_trace.specs.At.{stalls_at}
use Rattle.fsb_trace.specs.Requests.{live_clock_of, live_count, is_reply_kind}
use Rattle.fsb_trace.specs.Snoop.{snoop_start_of, is_snoop_clock, line_at_snoop_end}
use Rattle.fsb_trace.specs.Timing.{is_stall_from}
use Rattle.fsb_timely.specs.Past.{SnoopEnd, Past}
use Rattle.fsb_timely.specs.Grants.{snooped_at, holds_line}
use Rattle.fsb_timely.specs.Hits.{is_dirty}
use Rattle.fsb_timely.specs.Moments.{choice_at, turns_in, served_number, number_snooped_at}
use Rattle.fsb_timely.specs.Runs.{Run}

-- BNR# is asked for at c
unfoldable pub is_bnr_chosen : Run → ℕ → Bool
is_bnr_chosen r c = option_map_or (λ hold. hold) (slice_get r.holds c) false

-- the request that began three clocks before c is to be cancelled
unfoldable pub is_error_chosen : Run → ℕ → Bool
is_error_chosen r c = nat_le 3 c && line_at ADS r.trace (c - 3) && (choice_at r.choices r.trace (c - 3)).aerr

-- the choice for live request i
unfoldable pub live_choice : Run → ℕ → Choice
live_choice r i = option_map_or (choice_at r.choices r.trace) (live_clock_of r.trace i) quiet_choice

-- live request i stalls its snoop at c: c is its first snoop clock, or an even number of clocks after it, as long as its
-- stalls are not used up
unfoldable pub is_stall_chosen : Run → ℕ → ℕ → Bool
is_stall_chosen r c i =
    is_some_and (snoop_start_of r.trace i) (is_stall_from (live_choice r i).stall c)

-- the turn is Keep
unfoldable pub is_keep : Turn → Bool
is_keep Keep = true
is_keep Retry = false
is_keep (Defer later) = false

-- the snoop end at c has an effective turn that is not Keep
unfoldable pub is_put_off : Past → ℕ → Bool
is_put_off p c = is_some_and (snooped_at p c) (λ s. not (is_keep s.turn))

-- BNR# is at c exactly where it is asked for
unfoldable pub drives_bnr : Run → ℕ → Bool
drives_bnr r c = beq (line_at BNR r.trace c) (is_bnr_chosen r c)

-- AERR# is at c exactly where the request that began three clocks before is to be cancelled
unfoldable pub drives_aerr : Run → ℕ → Bool
drives_aerr r c = beq (line_at AERR r.trace c) (is_error_chosen r c)

-- HIT# and HITM# are both at c exactly where a live request stalls
unfoldable pub drives_stalls : Run → ℕ → Bool
drives_stalls r c = beq (stalls_at r.trace c) (any_where (is_stall_chosen r c) (live_count r.trace))

-- DEFER# is at c exactly where c is a snoop end whose turn is not Keep
unfoldable pub drives_defer : Run → Past → ℕ → Bool
drives_defer r p c = beq (line_at DEFER r.trace c) (is_put_off p c)

-- HIT# or HITM# is at c at a snoop clock alone
unfoldable pub keeps_snoop_lines : Run → ℕ → Bool
keeps_snoop_lines r c = is_snoop_clock r.trace c || not (line_at HIT r.trace c || line_at HITM r.trace c)

-- Hazard lines: BNR#, AERR#, the stalls and DEFER# are as they are chosen, and the snoop lines are at snoop clocks alone.
unfoldable pub drives_hazards : Run → Past → ℕ → Bool
drives_hazards r p c =
    drives_bnr r c && drives_aerr r c && drives_stalls r c && drives_defer r p c && keeps_snoop_lines r c

-- an agent other than a is dirty on the line at c
unfoldable pub is_dirty_elsewhere : Past → ℕ → ℕ → ℕ → Bool
is_dirty_elsewhere p a line c = any_where (λ b. not (nat_eq b a) && is_dirty p b line c) 4

-- an agent other than a holds the line at c
unfoldable pub is_held_elsewhere : Past → ℕ → ℕ → ℕ → Bool
is_held_elsewhere p a line c = any_where (λ b. not (nat_eq b a) && holds_line p b line c) 4

-- an agent other than the one whose snoop end this is is dirty on its line at c
unfoldable pub is_dirty_for : Past → ℕ → SnoopEnd → Bool
is_dirty_for p c s = is_some_and s.claim (λ claim. is_dirty_elsewhere p claim.agent claim.line c)

-- an agent other than the one whose snoop end this is holds its line at c
unfoldable pub is_held_for : Past → ℕ → SnoopEnd → Bool
is_held_for p c s = is_some_and s.claim (λ claim. is_held_elsewhere p claim.agent claim.line c)

-- the live request that is served by the one whose snoop end is c
unfoldable pub number_served_at : Run → Past → ℕ → Option ℕ
number_served_at r p c =
    option_and_then (served_number r.trace (turns_in p.moments)) (number_snooped_at r.trace c)

-- HIT# was at the snoop end of the live request that is served at c
unfoldable pub was_hit_before : Run → Past → ℕ → Bool
was_hit_before r p c = is_some_and (number_served_at r p c) (line_at_snoop_end HIT r.trace)

-- the snoop end at c is that of a reply
unfoldable pub is_reply_end : SnoopEnd → Bool
is_reply_end s = is_some_and s.kind is_reply_kind

-- the result at the snoop end at c is right. At a reply HIT# is what it was at the snoop end of the request that it
-- answers, and HITM# is not there. At any other request HITM# is there exactly where another agent is dirty on the line,
-- and HIT# exactly where none is and another agent holds it.
unfoldable pub has_right_result : Run → Past → ℕ → SnoopEnd → Bool
has_right_result r p c s =
    elim (is_reply_end s) [
      | true ↦ beq (line_at HIT r.trace c) (was_hit_before r p c) && not (line_at HITM r.trace c)
      | false ↦
          beq (line_at HITM r.trace c) (is_dirty_for p c s)
          && beq (line_at HIT r.trace c) (not (is_dirty_for p c s) && is_held_for p c s)
    ]

-- Snoop results: where c is a snoop end, its result is right.
unfoldable pub has_snoop_result : Run → Past → ℕ → Bool
has_snoop_result r p c = elim (snooped_at p c) [ None ↦ true | Some s ↦ has_right_result r p c s ]
