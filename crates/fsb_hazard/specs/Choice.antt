-- What hazards choose, together and in effect.
use Rattle.std.specs.Prelude.{max, Bool, true, false, not, ◌&&◌, ◌||◌, if◌then◌else◌}
use Rattle.fsb_encode.specs.declared.request.Kind.{Kind}
use Rattle.fsb_encode.specs.declared.request.Kind.TheVariants.{Reply, Invalidate, Read, WriteBack, Upgrade}
use Rattle.fsb_encode.specs.declared.request.Request.{Request}
use Rattle.fsb_hazard.specs.declared.choice.Choice.{Choice}
use Rattle.fsb_hazard.specs.declared.choice.Turn.{Turn}
use Rattle.fsb_hazard.specs.declared.choice.Turn.TheVariants.{Keep, Retry, Defer}

-- the choice in which nothing goes wrong or takes longer
abbrev pub quiet_choice : Choice
quiet_choice = record { bnr = false; aerr = false; stall = 0; trdy = 0; resp = 0; gap = 0; turn = Keep }

-- of two turns the stronger: Retry before Defer before Keep, and of two Defers the later
abbrev pub join_turns : Turn → Turn → Turn
join_turns Keep b = b
join_turns Retry b = Retry
join_turns (Defer later) Keep = Defer later
join_turns (Defer later) Retry = Retry
join_turns (Defer later) (Defer later') = Defer (max later later')

-- two choices together: what either asserts, the greater of the numbers, the stronger turn
abbrev pub join : Choice → Choice → Choice
join a b = record {
  bnr = a.bnr || b.bnr;
  aerr = a.aerr || b.aerr;
  stall = max a.stall b.stall;
  trdy = max a.trdy b.trdy;
  resp = max a.resp b.resp;
  gap = max a.gap b.gap;
  turn = join_turns a.turn b.turn;
}

-- whether requests of this kind are neither retried nor put off
abbrev pub is_never_held_up : Kind → Bool
is_never_held_up Reply = true
is_never_held_up Invalidate = false
is_never_held_up Read = false
is_never_held_up WriteBack = true
is_never_held_up Upgrade = false

-- whether a request is put off for later
abbrev pub is_defer : Turn → Bool
is_defer Keep = false
is_defer Retry = false
is_defer (Defer later) = true

-- the turn that counts, by the first rule that applies: a write-back or a reply has Keep; a request for a
-- pending line is retried; one that may not be deferred, or whose line is outside the window, is not; else as chosen
abbrev pub effective_turn : Turn → Request → Bool → Bool → Turn
effective_turn turn request in_window pending =
    if is_never_held_up request.kind then Keep
    else if pending then Retry
    else if is_defer turn && (not request.den || not in_window) then Keep
    else turn

-- the choice with the turn that counts
abbrev pub effective : Choice → Request → Bool → Bool → Choice
effective choice request in_window pending =
    record choice { turn = effective_turn choice.turn request in_window pending }
