-- Worked traces, clock by clock, and what the definitions of an audit say of them: all of it is computed.
use Rattle.std.proofs.Common.{◌≡◌, ℕ, ◌+◌, refl, List, [], ◌∷◌, Some, None, true, false, replicate, take, set}
use Rattle.fsb_signal.specs.declared.lines.Lines.{Lines}
use Rattle.fsb_signal.specs.declared.lines.TheConstants.Lines.{BREQ0, BREQ1, BPRI, ADS, HIT, DEFER, RS0, RS1, RS2, TRDY}
use Rattle.fsb_signal.specs.declared.lines.TheConstants.Lines.{DBSY, DRDY}
use Rattle.fsb_signal.specs.declared.marks.Marks.{Marks}
use Rattle.fsb_signal.specs.declared.sample.Sample.{Sample}
use Rattle.fsb_signal.specs.Parity.{marks_in}
use Rattle.fsb_signal.specs.Samples.{known_sample}
use Rattle.fsb_count.specs.Options.{is_some_and, is_before, is_at, greater_of}
use Rattle.fsb_count.specs.Clocks.{first_where, last_where, any_where, count_where, all_where, nth_where, from_clock}
use Rattle.fsb_count.specs.Clocks.{holds_since}
use Rattle.std.specs.Int.Count.{ones}
use Rattle.fsb_signal.specs.Samples.{line_at}
use Rattle.fsb_signal.specs.Parity.{is_address_odd, is_request_odd}
use Rattle.fsb_encode.specs.Request.{is_lawful_request, are_lawful_fields, high_bit, den_bit, clocks, row_of, pairs_of}
use Rattle.fsb_encode.specs.Decoded.{req_words, kind_of, read_off, is_pair, is_coded_as, if_coded_as, request_of}
use Rattle.fsb_trace.specs.At.{Trace, line_back, response_code_at, responds_at, stalls_at, known_pair, known_pair_at}
use Rattle.fsb_trace.specs.At.{request_at}
use Rattle.fsb_trace.specs.Winner.{bus_request_of, request_line_of, is_same_agent, is_agent, no_requesters}
use Rattle.fsb_trace.specs.Winner.{symmetric_after, then_begun, first_in_order, agent_in_order, asks_in_order}
use Rattle.fsb_trace.specs.Winner.{first_asking, last_if_asking, winner_by, winner_after, requesters_before, winner_at}
use Rattle.fsb_trace.specs.Winner.{last_agent, last_symmetric, begins_at}
use Rattle.fsb_trace.specs.Requests.{is_cancelled, seen_at, requests_of, first_clock_of, is_live, live_count}
use Rattle.fsb_trace.specs.Requests.{live_clock_of, live_number_of, live_request_of, is_reply_kind, is_write_back_kind}
use Rattle.fsb_trace.specs.Requests.{is_upgrade_kind, is_reply, is_write_back, is_upgrade, have_same_id, line_of}
use Rattle.fsb_trace.specs.Snoop.{is_every_second_from, ends_snoop, snoop_end_from, snoop_end_if, start_after_clock}
use Rattle.fsb_trace.specs.Snoop.{start_after_end, snoop_end_of, snoop_start_of, is_snoop_clock_of, is_snoop_clock}
use Rattle.fsb_trace.specs.Snoop.{line_at_snoop_end}
use Rattle.fsb_trace.specs.Outcome.{does_move, response_code_of, is_deferral, outcome_by_kind, response_clock_of}
use Rattle.fsb_trace.specs.Outcome.{live_response_of, told_by, outcome_of, moves_data, is_deferred, settled_by}
use Rattle.fsb_trace.specs.Outcome.{settled_outcome_of, is_settled_deferred}
use Rattle.fsb_trace.specs.Response.{takes, data_clock_of, end_of, is_clear_before, clock_after_snoop, ready_after}
use Rattle.fsb_trace.specs.Response.{ready_clock_of}
use Rattle.fsb_trace.specs.Flight.{is_dropped, has_ended, is_in_flight, in_flight, is_reply_to, is_live_reply_to}
use Rattle.fsb_trace.specs.Flight.{reply_clock_of, reply_number_of, reply_end_of, last_clock_of, is_finished}
use Rattle.fsb_trace.specs.Flight.{is_outstanding, outstanding}
use Rattle.fsb_trace.specs.Deferral.{answers, is_answered, later_of, is_due, due_at, keeps_pending, is_pending}
use Rattle.fsb_trace.specs.Rules.{has_unknown_line, is_request_too_soon, is_code_unlawful, is_queue_full}
use Rattle.fsb_trace.specs.Rules.{is_request_blocked, has_no_winner, is_own_id, is_identified, is_identity_wrong}
use Rattle.fsb_trace.specs.Rules.{is_asked_wrongly, is_some_asked_wrongly, is_lock_alone, is_error_alone}
use Rattle.fsb_trace.specs.Rules.{is_snoop_line_alone, is_result_unfit_for, is_snoop_result_unfit, next_response}
use Rattle.fsb_trace.specs.Rules.{may_answer, is_response_early, has_den, is_code_for, responds_soundly, has_code_at}
use Rattle.fsb_trace.specs.Rules.{is_code_wrong, is_ready_in_time, is_ready_wrongly, is_target_ready_wrong}
use Rattle.fsb_trace.specs.Rules.{is_transferring_of, is_transferring, is_data_wrong, has_unknown_data, awaits_reply}
use Rattle.fsb_trace.specs.Rules.{is_id_taken_by, is_outstanding_of_winner, is_begun_wrongly, is_outstanding_wrong}
use Rattle.fsb_trace.specs.Rules.{has_parity_at, is_address_parity_wrong, is_request_parity_wrong}
use Rattle.fsb_trace.specs.Rules.{is_marked_address_wrong, is_marked_request_wrong, phase_rules, breaks}
use Rattle.fsb_trace.specs.Verdict.{is_broken, least_rule, breaks_a_rule, verdict}
use Rattle.fsb_encode.specs.Burst.{burst_order}
use Rattle.fsb_audit.specs.declared.finding.Finding.{Finding}
use Rattle.fsb_audit.specs.declared.finding.Finding.TheVariants.{Broken as BrokenFirst, Foul as FoulFirst}
use Rattle.fsb_audit.specs.MovedChunks.{data_place_at, mover_at, is_named_by_reply, namer_of, nth_chunk, chunk_moved_by}
use Rattle.fsb_audit.specs.MovedChunks.{chunk_moved_at, moved_at, moved_count, does_come_from_memory, is_from_memory}
use Rattle.fsb_audit.specs.Fouls.{latest_move, have_same_data, is_stale, is_foul_clock, first_foul, foul_at, broken_at}
use Rattle.fsb_audit.specs.Fouls.{found_below, found_with, finding_of}

-- the bits of some different lines together
abbrev pub bits_of : List Lines → ℕ
bits_of [] = 0
bits_of (line ∷ lines) = line.0 + bits_of lines

-- a sample in which these lines and these bits of REQ, A and D are asserted, and nothing is unknown
abbrev pub clock : List Lines → ℕ → ℕ → ℕ → Sample
clock lines req addr dbus = known_sample (bits_of lines) req addr dbus

-- a sample in which nothing is asserted
abbrev pub idle : Sample
idle = clock [] 0 0 0

-- the marks of a dump without parity lines
abbrev pub no_marks : Marks
no_marks = marks_in 1

-- what is found: a foul clock with the address of its chunk, or a clock with its broken rule
abbrev pub foul : ℕ → ℕ → Finding
foul clock addr = FoulFirst (record { clock = clock; addr = addr })

abbrev pub broken : ℕ → ℕ → Finding
broken clock rule = BrokenFirst (record { clock = clock; rule = rule })

-- a line is read and stored into, written back behind a read, and read again
abbrev pub dirty_victim_written_back : Trace
dirty_victim_written_back =
    clock (BREQ0 ∷ []) 0x0 0x0 0x0
    ∷ clock (BREQ0 ∷ []) 0x0 0x0 0x0
    ∷ clock (BREQ0 ∷ ADS ∷ []) 0x2 0x8 0x0
    ∷ clock ([]) 0x2 0x2 0x0
    ∷ idle
    ∷ idle
    ∷ idle
    ∷ idle
    ∷ clock (RS0 ∷ RS1 ∷ RS2 ∷ DBSY ∷ DRDY ∷ []) 0x0 0x0 0x0
    ∷ clock (DBSY ∷ DRDY ∷ []) 0x0 0x0 0x0
    ∷ clock (DBSY ∷ DRDY ∷ []) 0x0 0x0 0x0
    ∷ clock (DRDY ∷ []) 0x0 0x0 0x0
    ∷ clock (BREQ0 ∷ []) 0x0 0x0 0x0
    ∷ clock (BREQ0 ∷ []) 0x0 0x0 0x0
    ∷ clock (BREQ0 ∷ ADS ∷ []) 0x5 0x8 0x0
    ∷ clock ([]) 0x2 0x0 0x0
    ∷ idle
    ∷ idle
    ∷ idle
    ∷ idle
    ∷ clock (TRDY ∷ []) 0x0 0x0 0x0
    ∷ idle
    ∷ clock (RS0 ∷ RS2 ∷ DBSY ∷ DRDY ∷ []) 0x0 0x0 0x1
    ∷ clock (DBSY ∷ DRDY ∷ []) 0x0 0x0 0x0
    ∷ clock (DBSY ∷ DRDY ∷ []) 0x0 0x0 0x0
    ∷ clock (DRDY ∷ []) 0x0 0x0 0x0
    ∷ clock (BREQ0 ∷ []) 0x0 0x0 0x0
    ∷ clock (BREQ0 ∷ []) 0x0 0x0 0x0
    ∷ clock (BREQ0 ∷ ADS ∷ []) 0x6 0x10 0x0
    ∷ clock ([]) 0x2 0x2 0x0
    ∷ idle
    ∷ idle
    ∷ idle
    ∷ idle
    ∷ clock (RS0 ∷ RS1 ∷ RS2 ∷ DBSY ∷ DRDY ∷ []) 0x0 0x0 0x0
    ∷ clock (DBSY ∷ DRDY ∷ []) 0x0 0x0 0x0
    ∷ clock (DBSY ∷ DRDY ∷ []) 0x0 0x0 0x0
    ∷ clock (DRDY ∷ []) 0x0 0x0 0x0
    ∷ clock (BREQ0 ∷ []) 0x0 0x0 0x0
    ∷ clock (BREQ0 ∷ []) 0x0 0x0 0x0
    ∷ clock (BREQ0 ∷ ADS ∷ []) 0x6 0x8 0x0
    ∷ clock ([]) 0x2 0x2 0x0
    ∷ idle
    ∷ idle
    ∷ idle
    ∷ idle
    ∷ clock (RS0 ∷ RS1 ∷ RS2 ∷ DBSY ∷ DRDY ∷ []) 0x0 0x0 0x1
    ∷ clock (DBSY ∷ DRDY ∷ []) 0x0 0x0 0x0
    ∷ clock (DBSY ∷ DRDY ∷ []) 0x0 0x0 0x0
    ∷ clock (DRDY ∷ []) 0x0 0x0 0x0
    ∷ replicate 10 idle

-- two agents read a line, and one of them reads and invalidates it
abbrev pub shared_line_invalidated : Trace
shared_line_invalidated =
    clock (BREQ0 ∷ BREQ1 ∷ []) 0x0 0x0 0x0
    ∷ clock (BREQ0 ∷ BREQ1 ∷ []) 0x0 0x0 0x0
    ∷ clock (BREQ0 ∷ BREQ1 ∷ ADS ∷ []) 0x6 0x8 0x0
    ∷ clock (BREQ1 ∷ []) 0x2 0x2 0x0
    ∷ clock (BREQ1 ∷ []) 0x0 0x0 0x0
    ∷ clock (BREQ1 ∷ ADS ∷ []) 0x6 0x8 0x0
    ∷ clock ([]) 0x2 0x20002 0x0
    ∷ idle
    ∷ clock (RS0 ∷ RS1 ∷ RS2 ∷ DBSY ∷ DRDY ∷ []) 0x0 0x0 0x0
    ∷ clock (HIT ∷ DBSY ∷ DRDY ∷ []) 0x0 0x0 0x0
    ∷ clock (DBSY ∷ DRDY ∷ []) 0x0 0x0 0x0
    ∷ clock (DRDY ∷ []) 0x0 0x0 0x0
    ∷ clock (BREQ0 ∷ RS0 ∷ RS1 ∷ RS2 ∷ DBSY ∷ DRDY ∷ []) 0x0 0x0 0x0
    ∷ clock (BREQ0 ∷ DBSY ∷ DRDY ∷ []) 0x0 0x0 0x0
    ∷ clock (BREQ0 ∷ ADS ∷ DBSY ∷ DRDY ∷ []) 0x2 0x8 0x0
    ∷ clock (DRDY ∷ []) 0x2 0x2 0x0
    ∷ idle
    ∷ idle
    ∷ clock (HIT ∷ []) 0x0 0x0 0x0
    ∷ idle
    ∷ clock (RS0 ∷ RS1 ∷ RS2 ∷ DBSY ∷ DRDY ∷ []) 0x0 0x0 0x0
    ∷ clock (DBSY ∷ DRDY ∷ []) 0x0 0x0 0x0
    ∷ clock (DBSY ∷ DRDY ∷ []) 0x0 0x0 0x0
    ∷ clock (DRDY ∷ []) 0x0 0x0 0x0
    ∷ []

-- a read that begins with chunk 1 of its line is deferred; the line is read again, from chunk 0 on, behind the reply
abbrev pub deferred_and_replied : Trace
deferred_and_replied =
    clock (BREQ0 ∷ BREQ1 ∷ []) 0x0 0x0 0x0
    ∷ clock (BREQ0 ∷ BREQ1 ∷ []) 0x0 0x0 0x0
    ∷ clock (BREQ0 ∷ BREQ1 ∷ ADS ∷ []) 0x6 0x201 0x0
    ∷ clock (BREQ1 ∷ []) 0x2 0x2 0x0
    ∷ clock (BREQ1 ∷ []) 0x0 0x0 0x0
    ∷ clock (BREQ1 ∷ ADS ∷ []) 0x2 0x200 0x0
    ∷ clock (DEFER ∷ []) 0x2 0x20002 0x0
    ∷ idle
    ∷ clock (RS1 ∷ []) 0x0 0x0 0x0
    ∷ clock (DEFER ∷ []) 0x0 0x0 0x0
    ∷ idle
    ∷ clock (RS0 ∷ []) 0x0 0x0 0x0
    ∷ clock (BREQ1 ∷ []) 0x0 0x0 0x0
    ∷ clock (BREQ1 ∷ []) 0x0 0x0 0x0
    ∷ clock (BREQ1 ∷ ADS ∷ []) 0x2 0x200 0x0
    ∷ clock ([]) 0x2 0x20002 0x0
    ∷ idle
    ∷ idle
    ∷ clock (DEFER ∷ []) 0x0 0x0 0x0
    ∷ clock (BPRI ∷ []) 0x0 0x0 0x0
    ∷ clock (BPRI ∷ RS0 ∷ []) 0x0 0x0 0x0
    ∷ clock (BREQ1 ∷ BPRI ∷ ADS ∷ []) 0x0 0x0 0x0
    ∷ clock (BREQ1 ∷ []) 0x0 0x0 0x0
    ∷ clock (BREQ1 ∷ []) 0x0 0x0 0x0
    ∷ clock (BREQ1 ∷ ADS ∷ []) 0x2 0x200 0x0
    ∷ clock ([]) 0x2 0x20002 0x0
    ∷ idle
    ∷ clock (RS0 ∷ RS1 ∷ RS2 ∷ DBSY ∷ DRDY ∷ []) 0x0 0x0 0x5
    ∷ clock (HIT ∷ DBSY ∷ DRDY ∷ []) 0x0 0x0 0x0
    ∷ clock (DBSY ∷ DRDY ∷ []) 0x0 0x0 0x0
    ∷ clock (DRDY ∷ []) 0x0 0x0 0x0
    ∷ clock (RS0 ∷ RS1 ∷ RS2 ∷ DBSY ∷ DRDY ∷ []) 0x0 0x0 0x0
    ∷ clock (DBSY ∷ DRDY ∷ []) 0x0 0x0 0x5
    ∷ clock (DBSY ∷ DRDY ∷ []) 0x0 0x0 0x0
    ∷ clock (DRDY ∷ []) 0x0 0x0 0x0
    ∷ replicate 1 idle

-- the second read gives another byte than the first
abbrev pub stale_byte : Trace
stale_byte = set shared_line_invalidated 12 (clock (BREQ0 ∷ RS0 ∷ RS1 ∷ RS2 ∷ DBSY ∷ DRDY ∷ []) 0x0 0x0 0x1)

-- and at a later clock a rule is broken
abbrev pub stale_then_broken : Trace
stale_then_broken = set stale_byte 17 (clock (HIT ∷ []) 0x0 0x0 0x0)

-- and at an earlier clock a rule is broken
abbrev pub broken_then_stale : Trace
broken_then_stale = set stale_byte 10 (clock (HIT ∷ DBSY ∷ DRDY ∷ []) 0x0 0x0 0x0)

-- a rule is broken at the clock of the other byte itself
abbrev pub broken_and_stale : Trace
broken_and_stale = set shared_line_invalidated 12 (clock (BREQ0 ∷ RS0 ∷ RS1 ∷ RS2 ∷ DRDY ∷ []) 0x0 0x0 0x1)

-- the second read of the line gives what it was before it was written back
abbrev pub store_lost : Trace
store_lost = set dirty_victim_written_back 46 (clock (RS0 ∷ RS1 ∷ RS2 ∷ DBSY ∷ DRDY ∷ []) 0x0 0x0 0x0)

-- the second read gives the byte of the reply at the place in its burst
abbrev pub reply_forgotten : Trace
reply_forgotten = set (set deferred_and_replied 32 (clock (DBSY ∷ DRDY ∷ []) 0x0 0x0 0x0)) 31
    (clock (RS0 ∷ RS1 ∷ RS2 ∷ DBSY ∷ DRDY ∷ []) 0x0 0x0 0x5)

-- the first read is cut after two chunks
abbrev pub cut_transfer : Trace
cut_transfer = take 10 shared_line_invalidated

-- all that is said of them
pub rows_hold :
    (finding_of no_marks dirty_victim_written_back ≡ None)
    × (moved_count dirty_victim_written_back ≡ 16)
    × (moved_at dirty_victim_written_back 22 ≡ Some 8)
    × (is_from_memory dirty_victim_written_back 22 ≡ false)
    × (is_from_memory dirty_victim_written_back 46 ≡ true)
    × (latest_move dirty_victim_written_back 8 46 ≡ Some 22)
    × (finding_of no_marks shared_line_invalidated ≡ None)
    × (moved_count shared_line_invalidated ≡ 12)
    × (finding_of no_marks stale_byte ≡ Some (foul 12 0x40))
    × (finding_of no_marks stale_then_broken ≡ Some (foul 12 0x40))
    × (finding_of no_marks broken_then_stale ≡ Some (broken 10 11))
    × (first_foul broken_then_stale 24 ≡ Some 12)
    × (finding_of no_marks broken_and_stale ≡ Some (broken 12 16))
    × (finding_of no_marks store_lost ≡ Some (foul 46 0x40))
    × (finding_of no_marks deferred_and_replied ≡ None)
    × (moved_count deferred_and_replied ≡ 8)
    × (namer_of deferred_and_replied 3 ≡ Some 0)
    × (moved_at deferred_and_replied 27 ≡ Some 0x201)
    × (moved_at deferred_and_replied 28 ≡ Some 0x200)
    × (latest_move deferred_and_replied 0x201 32 ≡ Some 27)
    × (finding_of no_marks reply_forgotten ≡ Some (foul 31 0x1000))
    × (finding_of no_marks cut_transfer ≡ None)
    × (moved_count cut_transfer ≡ 2)
unfolding is_some_and is_before is_at greater_of first_where last_where any_where count_where all_where nth_where
    from_clock holds_since line_at is_lawful_request are_lawful_fields high_bit den_bit clocks row_of pairs_of
    req_words kind_of read_off is_pair is_coded_as if_coded_as request_of line_back response_code_at responds_at
    stalls_at known_pair known_pair_at request_at bus_request_of request_line_of is_same_agent is_agent no_requesters
    symmetric_after then_begun first_in_order agent_in_order asks_in_order first_asking last_if_asking winner_by
    winner_after
    requesters_before winner_at last_agent last_symmetric begins_at is_cancelled seen_at requests_of
    first_clock_of is_live
    live_count live_clock_of live_number_of live_request_of is_reply_kind is_write_back_kind
    is_upgrade_kind is_reply is_write_back is_upgrade
    have_same_id line_of is_every_second_from ends_snoop snoop_end_from snoop_end_if start_after_clock start_after_end
    snoop_end_of snoop_start_of is_snoop_clock_of is_snoop_clock line_at_snoop_end does_move response_code_of
    is_deferral outcome_by_kind response_clock_of live_response_of told_by outcome_of moves_data is_deferred settled_by
    settled_outcome_of is_settled_deferred takes data_clock_of end_of is_clear_before clock_after_snoop ready_after
    ready_clock_of is_dropped has_ended is_in_flight in_flight is_reply_to is_live_reply_to reply_clock_of
    reply_number_of reply_end_of last_clock_of is_finished is_outstanding outstanding answers is_answered later_of
    is_due due_at keeps_pending is_pending has_unknown_line is_request_too_soon is_code_unlawful is_queue_full
    is_request_blocked has_no_winner is_own_id is_identified is_identity_wrong is_asked_wrongly is_some_asked_wrongly
    is_lock_alone is_error_alone is_snoop_line_alone is_result_unfit_for is_snoop_result_unfit next_response
    may_answer is_response_early has_den is_code_for responds_soundly has_code_at is_code_wrong is_ready_in_time
    is_ready_wrongly is_target_ready_wrong is_transferring_of is_transferring is_data_wrong has_unknown_data
    awaits_reply is_id_taken_by is_outstanding_of_winner is_begun_wrongly is_outstanding_wrong has_parity_at
    is_address_parity_wrong is_request_parity_wrong is_marked_address_wrong is_marked_request_wrong is_address_odd
    is_request_odd ones phase_rules breaks
    is_broken least_rule breaks_a_rule verdict
    burst_order data_place_at mover_at is_named_by_reply namer_of nth_chunk chunk_moved_by chunk_moved_at
    moved_at moved_count
    does_come_from_memory is_from_memory latest_move have_same_data is_stale is_foul_clock first_foul foul_at
    broken_at found_below found_with finding_of
rows_hold = (
  refl,
  refl,
  refl,
  refl,
  refl,
  refl,
  refl,
  refl,
  refl,
  refl,
  refl,
  refl,
  refl,
  refl,
  refl,
  refl,
  refl,
  refl,
  refl,
  refl,
  refl,
  refl,
  refl,
)
