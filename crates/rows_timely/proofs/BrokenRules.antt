-- A changed run for each phase rule: a worked run in which one clock is another one breaks that rule there, and no rule
-- before it, nor any rule at an earlier clock. All of it is computed.
use Rattle.std.proofs.Common.{◌≡◌, refl, [], ◌∷◌, Some, lit<, set, take}
use Rattle.fsb_signal.specs.declared.lines.TheConstants.Lines.{HIT}
use Rattle.fsb_signal.specs.declared.marks.Marks.{Marks}
use Rattle.fsb_signal.specs.declared.sample.Sample.{Sample}
use Rattle.fsb_signal.specs.Parity.{is_address_odd, is_request_odd, marks_in}
use Rattle.fsb_trace.specs.Rules.{has_unknown_line, is_request_too_soon, is_code_unlawful, is_queue_full}
use Rattle.fsb_trace.specs.Rules.{is_request_blocked, has_no_winner, is_own_id, is_identified, is_identity_wrong}
use Rattle.fsb_trace.specs.Rules.{is_asked_wrongly, is_some_asked_wrongly, is_lock_alone, is_error_alone}
use Rattle.fsb_trace.specs.Rules.{is_snoop_line_alone, is_result_unfit_for, is_snoop_result_unfit, next_response}
use Rattle.fsb_trace.specs.Rules.{may_answer, is_response_early, has_den, is_code_for, responds_soundly, has_code_at}
use Rattle.fsb_trace.specs.Rules.{is_code_wrong, is_ready_in_time, is_ready_wrongly, is_target_ready_wrong}
use Rattle.fsb_trace.specs.Rules.{is_transferring_of, is_transferring, is_data_wrong, has_unknown_data, awaits_reply}
use Rattle.fsb_trace.specs.Rules.{is_id_taken_by, is_outstanding_of_winner, is_begun_wrongly, is_outstanding_wrong}
use Rattle.fsb_trace.specs.Rules.{has_parity_at, is_address_parity_wrong, is_request_parity_wrong}
use Rattle.fsb_trace.specs.Rules.{is_marked_address_wrong, is_marked_request_wrong, phase_rules, breaks}
use Rattle.fsb_trace.specs.Verdict.{is_broken, breaks_a_rule, least_rule, verdict}
use Rattle.rows_timely.proofs.DirtyVictimWrittenBack.{run as victim_written_back}
use Rattle.rows_timely.proofs.LaidOut.{changed}
use Rattle.rows_timely.proofs.LoadThenStoreHit.{run as load}
use Rattle.rows_timely.proofs.LookAheadTwo.{run as two_loads}
use Rattle.rows_timely.proofs.Opened.{opened}
use Rattle.rows_timely.proofs.ParityOfALoad.{run as load_with_parity}
use Rattle.rows_timely.proofs.QueueFull.{run as eight_in_flight}
use Rattle.rows_timely.proofs.Words.{◌+◌, on, pair, chunk, idle, b0, b1, b2, b3, lock, bnr, ads, aerr, hit, rs, trdy}
use Rattle.rows_timely.proofs.Words.{dbsy, drdy, ap0, rp}

-- a sample in which HIT# is unknown
abbrev pub unknown_hit : Sample
unknown_hit = record idle { unknown = record { 0 = HIT.0 }; disjoint = refl; line_unknown = lit< tt }

-- the first chunk of a load, with a bit of D unknown
abbrev pub unknown_chunk : Sample
unknown_chunk = record (on (rs 7 + dbsy + drdy)) { dbus = record { bits = 0; unknown = 1; disjoint = refl } }

-- a dump of profile 1, without parity lines, and one of profile 2, with both
abbrev pub without_parity : Marks
without_parity = marks_in 1

abbrev pub with_parity : Marks
with_parity = marks_in 2

-- rule by rule: the changed clock, and the rule that is broken there first
pub computes :
    (verdict without_parity (changed load.trace 5 unknown_hit) ≡ Some (5, 1))
    × (verdict without_parity (changed load.trace 4 (pair (b0 + ads) 0x6 0x8)) ≡ Some (4, 2))
    × (verdict without_parity (changed load.trace 3 (pair 0 0x3 0x2)) ≡ Some (3, 3))
    × (verdict without_parity (changed eight_in_flight.trace 26 (pair (b0 + b1 + b2 + b3 + ads + drdy) 0x6 0x10))
    ≡ Some (26, 4))
    × (verdict without_parity (take 3 (set load.trace 0 (on (b0 + bnr)))) ≡ Some (2, 5))
    × (verdict without_parity (take 3 (set load.trace 0 idle)) ≡ Some (2, 6))
    × (verdict without_parity (changed load.trace 3 (pair 0 0x2 0x20002)) ≡ Some (3, 7))
    × (verdict without_parity (changed load.trace 3 (pair b0 0x2 0x2)) ≡ Some (3, 8))
    × (verdict without_parity (changed load.trace 5 (on lock)) ≡ Some (5, 9))
    × (verdict without_parity (changed load.trace 4 (on aerr)) ≡ Some (4, 10))
    × (verdict without_parity (changed load.trace 5 (on hit)) ≡ Some (5, 11))
    × (verdict without_parity (changed victim_written_back.trace 18 (on hit)) ≡ Some (18, 12))
    × (verdict without_parity (changed load.trace 7 (chunk (rs 7 + dbsy + drdy) 0x7)) ≡ Some (7, 13))
    × (verdict without_parity (changed load.trace 8 (on (rs 1))) ≡ Some (8, 14))
    × (verdict without_parity (changed load.trace 8 (chunk (rs 7 + trdy + dbsy + drdy) 0x7)) ≡ Some (8, 15))
    × (verdict without_parity (changed load.trace 9 (on drdy)) ≡ Some (9, 16))
    × (verdict without_parity (changed load.trace 8 unknown_chunk) ≡ Some (8, 17))
    × (verdict without_parity (changed two_loads.trace 7 (pair 0 0x2 0x2)) ≡ Some (7, 18))
    × (verdict with_parity (changed load_with_parity.trace 2 (pair (b0 + ads + rp) 0x6 0x8)) ≡ Some (2, 19))
    × (verdict with_parity (changed load_with_parity.trace 2 (pair (b0 + ads + ap0) 0x6 0x8)) ≡ Some (2, 20))
unfolding opened is_address_odd is_request_odd is_broken breaks_a_rule least_rule verdict
    has_unknown_line is_request_too_soon is_code_unlawful is_queue_full is_request_blocked has_no_winner
    is_own_id is_identified is_identity_wrong is_asked_wrongly is_some_asked_wrongly is_lock_alone is_error_alone
    is_snoop_line_alone is_result_unfit_for is_snoop_result_unfit next_response may_answer is_response_early
    has_den is_code_for responds_soundly has_code_at is_code_wrong is_ready_in_time is_ready_wrongly
    is_target_ready_wrong is_transferring_of is_transferring is_data_wrong has_unknown_data awaits_reply
    is_id_taken_by is_outstanding_of_winner is_begun_wrongly is_outstanding_wrong has_parity_at
    is_address_parity_wrong is_request_parity_wrong is_marked_address_wrong is_marked_request_wrong phase_rules
    breaks
computes = (
  refl,
  refl,
  refl,
  refl,
  refl,
  refl,
  refl,
  refl,
  refl,
  refl,
  refl,
  refl,
  refl,
  refl,
  refl,
  refl,
  refl,
  refl,
  refl,
  refl,
)
