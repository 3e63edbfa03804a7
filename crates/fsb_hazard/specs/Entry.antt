-- What a list of hazard lines chooses.
use Rattle.std.specs.Prelude.{ℕ, Bool, true, false, ◌&&◌, nat_eq, nat_le, List, map}
use Rattle.std.specs.List.{fold, filter}
use Rattle.fsb_hazard.specs.declared.choice.Choice.{Choice}
use Rattle.fsb_hazard.specs.declared.choice.Turn.TheVariants.{Retry as RetryTurn, Defer as DeferTurn}
use Rattle.fsb_hazard.specs.declared.choice.Ask.{Ask}
use Rattle.fsb_hazard.specs.declared.choice.Ask.TheVariants.{Clock, Begun}
use Rattle.fsb_hazard.specs.declared.line.HazardLine.{HazardLine}
use Rattle.fsb_hazard.specs.declared.line.HazardLine.TheVariants.{Stall, Trdy, Resp, Gap, Retry, Defer, Aerr, Bnr}
use Rattle.fsb_hazard.specs.Choice.{quiet_choice, join}

-- whether a question is of the request with this number
abbrev pub is_of_request : ℕ → Ask → Bool
is_of_request k (Clock c) = false
is_of_request k (Begun number request) = nat_eq k number

-- whether a question is of one of the clocks from the first to the last
abbrev pub is_of_clocks : ℕ → ℕ → Ask → Bool
is_of_clocks first last (Clock c) = nat_le first c && nat_le c last
is_of_clocks first last (Begun number request) = false

-- whether the line speaks of what is asked
abbrev pub is_asked : Ask → HazardLine → Bool
is_asked ask (Stall k n) = is_of_request k ask
is_asked ask (Trdy k n) = is_of_request k ask
is_asked ask (Resp k n) = is_of_request k ask
is_asked ask (Gap k n) = is_of_request k ask
is_asked ask (Retry k) = is_of_request k ask
is_asked ask (Defer k later) = is_of_request k ask
is_asked ask (Aerr k) = is_of_request k ask
is_asked ask (Bnr first last) = is_of_clocks first last ask

-- what the line chooses, where it is asked
abbrev pub choice_of : HazardLine → Choice
choice_of (Stall k n) = record quiet_choice { stall = n }
choice_of (Trdy k n) = record quiet_choice { trdy = n }
choice_of (Resp k n) = record quiet_choice { resp = n }
choice_of (Gap k n) = record quiet_choice { gap = n }
choice_of (Retry k) = record quiet_choice { turn = RetryTurn }
choice_of (Defer k later) = record quiet_choice { turn = DeferTurn later }
choice_of (Aerr k) = record quiet_choice { aerr = true }
choice_of (Bnr first last) = record quiet_choice { bnr = true }

-- the entry of a list of lines: what those of them choose together that speak of what is asked
abbrev pub entry : List HazardLine → Ask → Choice
entry lines ask = fold join quiet_choice (map choice_of (filter (is_asked ask) lines))
