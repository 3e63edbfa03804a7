-- What a seed chooses.
use Rattle.std.specs.Prelude.{ℕ, ◌+◌, ◌*◌, ◌/◌, ◌%◌, ◌^◌, nat_eq, if◌then◌else◌, Option, Some, None}
use Rattle.std.specs.Option.{option_map_or}
use Rattle.fsb_hazard.specs.declared.choice.Choice.{Choice}
use Rattle.fsb_hazard.specs.declared.choice.Ask.{Ask}
use Rattle.fsb_hazard.specs.declared.choice.Ask.TheVariants.{Clock, Begun}
use Rattle.fsb_hazard.specs.declared.line.HazardLine.{HazardLine}
use Rattle.fsb_hazard.specs.declared.line.HazardLine.TheVariants.{Stall, Trdy, Resp, Gap, Retry, Defer, Aerr}
use Rattle.fsb_hazard.specs.Choice.{quiet_choice}
use Rattle.fsb_hazard.specs.Entry.{choice_of}

-- the state that comes after a state of the generator
abbrev pub next_state : ℕ → ℕ
next_state state = (state * 6364136223846793005 + 1442695040888963407) % 2 ^ 64

-- the number below m that is drawn at a state: the state that comes after it without its 33 lowest bits, modulo m
abbrev pub drawn_below : ℕ → ℕ → ℕ
drawn_below m state = next_state state / 2 ^ 33 % m

-- the hazard line of request k, by a number drawn below 16; there is none from 7 on
unfoldable pub line_drawn : ℕ → ℕ → Option HazardLine
line_drawn k number =
    if nat_eq number 0 then Some (Stall k 1)
    else if nat_eq number 1 then Some (Retry k)
    else if nat_eq number 2 then Some (Defer k 5)
    else if nat_eq number 3 then Some (Aerr k)
    else if nat_eq number 4 then Some (Resp k 2)
    else if nat_eq number 5 then Some (Trdy k 1)
    else if nat_eq number 6 then Some (Gap k 1)
    else None

-- the hazard line that a seed has for request k
abbrev pub seed_line : ℕ → ℕ → Option HazardLine
seed_line seed k = line_drawn k (drawn_below 16 ((seed + k) % 2 ^ 64))

-- the entry of a seed: for a request what its line chooses, and for a clock nothing
abbrev pub seed_entry : ℕ → Ask → Choice
seed_entry seed (Clock c) = quiet_choice
seed_entry seed (Begun number request) = option_map_or choice_of (seed_line seed number) quiet_choice
