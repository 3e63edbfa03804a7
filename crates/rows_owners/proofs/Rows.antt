-- Worked runs, and runs with one line changed, judged by the rules of ownership: all of it is computed.
use Rattle.std.proofs.Common.{◌≡◌, ℕ, refl, List, [], ◌∷◌, Option, Some, None, set}
use Rattle.fsb_signal.specs.declared.lines.TheConstants.Lines.{BREQ0, BREQ1, ADS, HIT, HITM, DBSY, DRDY, AP0}
use Rattle.fsb_trace.specs.At.{Trace}
use Rattle.fsb_owners.specs.Joint.{Joint, unheld}
use Rattle.fsb_owners.specs.Rules.{ownership_verdict}
use Rattle.rows_timely.proofs.Interface.{clock, idle, cancelled_by_address_error, deferred_and_replied}
use Rattle.rows_timely.proofs.Interface.{dirty_victim_written_back, drop_at_snoop_end, load_then_store_hit}
use Rattle.rows_timely.proofs.Interface.{locked_increments, modified_overrides_retry, upgrade_retried}
use Rattle.rows_timely.proofs.Interface.{shared_line_invalidated, stalled_snoop, store_at_snoop_end}
use Rattle.rows_timely.proofs.Interface.{store_handed_over_before_arrival, three_stores_chained}
use Rattle.rows_timely.proofs.Interface.{upgrade_lost_and_handed, upgrade_lost_and_made_again}
use Rattle.rows_timely.proofs.Interface.{upgrade_of_a_shared_line, write_back_held_off}
use Rattle.rows_owners.proofs.Judging.{judging}

-- the verdict, where no cache holds anything at first
abbrev pub judged : Trace → Option (ℕ × ℕ)
judged w = ownership_verdict (unheld ∷ []) w

-- worked runs, none of which breaks a rule
pub runs_1 :
    (judged store_handed_over_before_arrival.trace ≡ None)
    × (judged shared_line_invalidated.trace ≡ None)
    × (judged locked_increments.trace ≡ None)
    × (judged write_back_held_off.trace ≡ None)
unfolding judging
runs_1 = (refl, refl, refl, refl)

-- worked runs, none of which breaks a rule
pub runs_2 :
    (judged upgrade_lost_and_handed.trace ≡ None)
    × (judged upgrade_lost_and_made_again.trace ≡ None)
    × (judged dirty_victim_written_back.trace ≡ None)
    × (judged drop_at_snoop_end.trace ≡ None)
unfolding judging
runs_2 = (refl, refl, refl, refl)

-- worked runs, none of which breaks a rule
pub runs_3 :
    (judged modified_overrides_retry.trace ≡ None)
    × (judged stalled_snoop.trace ≡ None)
    × (judged store_at_snoop_end.trace ≡ None)
    × (judged three_stores_chained.trace ≡ None)
unfolding judging
runs_3 = (refl, refl, refl, refl)

-- worked runs, none of which breaks a rule
pub runs_4 :
    (judged upgrade_retried.trace ≡ None)
    × (judged upgrade_of_a_shared_line.trace ≡ None)
    × (judged cancelled_by_address_error.trace ≡ None)
    × (judged deferred_and_replied.trace ≡ None)
unfolding judging
runs_4 = (refl, refl, refl, refl)

-- a deferred request is not turned away: its line is given again
pub line_given_again : judged (set deferred_and_replied.trace 9 (idle)) ≡ Some (9, 31)
unfolding judging
line_given_again = refl

-- the reply has HIT#, which the deferred request had not
pub hit_of_a_reply : judged (set deferred_and_replied.trace 25 (clock (HIT ∷ []) 0x2 0x20002 0x0)) ≡ Some (25, 30)
unfolding judging
hit_of_a_reply = refl

-- the bytes of a reply have come, and its agent may not have dropped them yet
pub bytes_of_a_reply : judged (set deferred_and_replied.trace 28 (clock (DBSY ∷ DRDY ∷ []) 0x0 0x0 0x0)) ≡ Some (28, 27)
unfolding judging
bytes_of_a_reply = refl

-- an owner whose bytes have not come is silent
pub silent_owner : judged (set store_handed_over_before_arrival.trace 9 (clock (DBSY ∷ DRDY ∷ []) 0x0 0x0 0x0)) ≡ Some (9, 26)
unfolding judging
silent_owner = refl

-- a holder whose bytes have not come is silent
pub silent_holder : judged (set shared_line_invalidated.trace 9 (clock (DBSY ∷ DRDY ∷ []) 0x0 0x0 0x0)) ≡ Some (9, 27)
unfolding judging
silent_holder = refl

-- a holder is silent that may have dropped its copy
pub copy_dropped : judged (set shared_line_invalidated.trace 18 (idle)) ≡ None
unfolding judging
copy_dropped = refl

-- HIT# of a line that nobody holds
pub hit_without_a_holder : judged (set shared_line_invalidated.trace 6 (clock (HIT ∷ []) 0x2 0x20002 0x0)) ≡ Some (6, 28)
unfolding judging
hit_without_a_holder = refl

-- an owner by an upgrade is silent
pub silent_owner_by_upgrade : judged (set upgrade_lost_and_handed.trace 22 (idle)) ≡ Some (22, 26)
unfolding judging
silent_owner_by_upgrade = refl

-- an upgrade begins at the snoop end at which its agent is silent
pub silent_upgrader : judged (set upgrade_lost_and_handed.trace 18 (clock (BREQ1 ∷ ADS ∷ AP0 ∷ []) 0x2 0x8 0x0)) ≡ Some (19, 27)
unfolding judging
silent_upgrader = refl

-- a line is written back that nobody has Modified
pub write_back_of_nothing : judged (set (set load_then_store_hit.trace 2 (clock (BREQ0 ∷ ADS ∷ []) 0x5 0x8 0x0)) 3 (clock [] 0x2 0x0 0x0)) ≡ Some (3, 22)
unfolding judging
write_back_of_nothing = refl

-- HITM# of a line whose bytes come, so that nobody has stored into it
pub owner_too_soon : judged (set upgrade_of_a_shared_line.trace 9 (clock (DBSY ∷ DRDY ∷ HITM ∷ []) 0x0 0x0 0x0)) ≡ Some (9, 25)
unfolding judging
owner_too_soon = refl

-- HIT# behind an upgrade that was turned away: all others gave the line up
pub hit_behind_an_upgrade : judged (set upgrade_retried.trace 27 (clock (HIT ∷ []) 0x0 0x0 0x0)) ≡ Some (27, 28)
unfolding judging
hit_behind_an_upgrade = refl
