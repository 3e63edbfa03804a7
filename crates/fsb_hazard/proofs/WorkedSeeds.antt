-- What seeds choose for some requests, worked out by hand.
use Rattle.std.proofs.Common.{◌≡◌, ◌-◌, ◌^◌, [], ◌∷◌, map, Some, None, refl}
use Rattle.fsb_encode.specs.declared.request.Request.{Request}
use Rattle.fsb_hazard.specs.declared.choice.Ask.TheVariants.{Clock, Begun}
use Rattle.fsb_hazard.specs.declared.line.HazardLine.TheVariants.{Stall, Trdy, Resp, Gap, Retry, Defer, Aerr}
use Rattle.fsb_hazard.specs.Choice.{quiet_choice}
use Rattle.fsb_hazard.specs.Seed.{next_state, drawn_below, line_drawn, seed_line}
use Rattle.fsb_hazard.specs.Told.{by_seed, entry_told}

-- seed 0 begins with its increment, of which 15 is drawn
pub first_state : next_state 0 ≡ 1442695040888963407
first_state = refl

pub first_number : drawn_below 16 0 ≡ 15
first_number = refl

-- the first fourteen requests of seed 0
pub seed_zero : map (seed_line 0) (0 ∷ 1 ∷ 2 ∷ 3 ∷ 4 ∷ 5 ∷ 6 ∷ 7 ∷ 8 ∷ 9 ∷ 10 ∷ 11 ∷ 12 ∷ 13 ∷ [])
    ≡ None ∷ Some (Gap 1 1) ∷ None ∷ Some (Aerr 3) ∷ None ∷ Some (Stall 5 1) ∷ None ∷ None ∷ Some (Resp 8 2)
    ∷ None ∷ Some (Retry 10) ∷ None ∷ None ∷ Some (Trdy 13 1) ∷ []
unfolding line_drawn
seed_zero = refl

-- one that is deferred
pub seed_of_a_deferral : seed_line 42 9 ≡ Some (Defer 9 5)
unfolding line_drawn
seed_of_a_deferral = refl

-- a seed and a number together begin again at 0
pub last_seed : seed_line (2 ^ 64 - 1) 2 ≡ Some (Gap 2 1)
unfolding line_drawn
last_seed = refl

-- an object that tells seed 0 answers so for request 5, whatever is asked for, and at clock 5
pub fifth_request : (request : Request) → entry_told (by_seed 0) (Begun 5 request) ≡ record quiet_choice { stall = 1 }
unfolding line_drawn
fifth_request request = refl

pub fifth_clock : entry_told (by_seed 0) (Clock 5) ≡ quiet_choice
fifth_clock = refl
