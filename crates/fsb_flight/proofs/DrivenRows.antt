-- Runs, laid out clock by clock: what is due at each clock, after the clocks before it, is what the run has there.
-- All of
-- it is computed.
use Rattle.std.proofs.Common.{◌+◌, ◌≡◌, refl, ℕ, Bool, true, false, not, cond, ◌&&◌, nat_eq, List, [], ◌∷◌, map, take}
use Rattle.std.proofs.Common.{length, is_some, Option, Some, None, sym, ap, subst, ◌∙◌}
use Rattle.std.specs.List.{slice_get}
use Rattle.std.specs.Option.{option_map}
use Rattle.std.proofs.lemmas.Option.{slice_get-map}
use Rattle.fsb_count.specs.Options.{is_some_and, is_before, is_at, greater_of}
use Rattle.fsb_count.specs.Clocks.{first_where, any_where, count_where, all_where, nth_where, from_clock}
use Rattle.fsb_signal.specs.declared.lines.TheConstants.Lines.{BREQ0, BREQ1, ADS, HIT, HITM, RS0, RS1, RS2, TRDY, DBSY}
use Rattle.fsb_signal.specs.declared.lines.TheConstants.Lines.{DRDY}
use Rattle.fsb_signal.specs.Samples.{line_at}
use Rattle.fsb_encode.specs.declared.request.Kind.TheVariants.{Read}
use Rattle.fsb_encode.specs.Request.{is_lawful_request, are_lawful_fields, high_bit, den_bit, clocks, row_of, pairs_of}
use Rattle.fsb_encode.specs.Decoded.{req_words, kind_of, read_off, is_pair, is_coded_as, if_coded_as, request_of}
use Rattle.fsb_hazard.specs.declared.choice.Choice.{Choice}
use Rattle.fsb_hazard.specs.Choice.{quiet_choice}
use Rattle.fsb_trace.specs.declared.who.Who.TheVariants.{Priority}
use Rattle.fsb_trace.specs.At.{Trace, response_code_at, responds_at, stalls_at, known_pair, known_pair_at, request_at}
use Rattle.fsb_trace.specs.Requests.{is_cancelled, is_live, live_count, live_clock_of, live_number_of, live_request_of}
use Rattle.fsb_trace.specs.Requests.{is_write_back_kind, is_write_back}
use Rattle.fsb_trace.specs.Snoop.{is_every_second_from, ends_snoop, snoop_end_from, snoop_end_if, start_after_clock}
use Rattle.fsb_trace.specs.Snoop.{start_after_end, snoop_end_of, snoop_start_of, line_at_snoop_end}
use Rattle.fsb_trace.specs.Outcome.{does_move, response_code_of, outcome_by_kind, response_clock_of, live_response_of}
use Rattle.fsb_trace.specs.Outcome.{told_by, outcome_of, moves_data, settled_by, settled_outcome_of}
use Rattle.fsb_trace.specs.Response.{takes, data_clock_of, end_of, clock_after_snoop, ready_after, ready_clock_of}
use Rattle.fsb_trace.specs.Response.{two_after_snoop, answer_from}
use Rattle.fsb_trace.specs.Flight.{is_dropped, has_ended, is_in_flight, in_flight}
use Rattle.fsb_trace.proofs.Interface.{cancelled_by_address_error, clock, deferred_and_replied, idle, locked_increments}
use Rattle.fsb_trace.proofs.Interface.{stalled_snoop, store_handed_over_before_arrival, two_agents_overlap}
use Rattle.fsb_trace.proofs.Interface.{write_back_held_off}
use Rattle.fsb_queue.specs.declared.entry.Entry.{Entry}
use Rattle.fsb_trace.specs.Timing.{is_stall_from, is_ready_from, is_response_from, chunk_from, is_busy_from}
use Rattle.fsb_phase.specs.Due.{rank_of, has_snoop, is_stalled, has_ready, has_response, response_to_now, due_chunk}
use Rattle.fsb_phase.specs.Due.{keeps_busy}
use Rattle.fsb_phase.specs.declared.drive.Drive.{Drive}
use Rattle.fsb_phase.specs.declared.drive.Phased.{Phased}
use Rattle.fsb_phase.specs.Drive.{settled_code, numbered_chunk, drive_of, ends_snoop_at, has_end_at, phased_at}
use Rattle.fsb_phase.specs.FitQueue.{HoldsInFlight}

-- the request that begins at q, as an entry with this choice, where these are the effective turns
abbrev pub entry_at : Choice → List ℕ → Trace → ℕ → Entry
entry_at choice turns h q = record {
  number = count_where (line_at ADS h) q;
  clock = q;
  who = Priority;
  request = record { kind = Read; line = 0; chunk = 0; did = 0; den = false };
  choice = choice;
  outcome = settled_outcome_of h turns (live_number_of h q);
}

abbrev pub same_bool : Bool → Bool → Bool
same_bool a b = cond a b (not b)

-- what is due after the first c clocks is not what clock c has
abbrev pub misses_after : Choice → List ℕ → Trace → Trace → ℕ → Bool
misses_after choice turns w h c =
    let d = drive_of h (map (entry_at choice turns h) (in_flight h (length h))) in
    not (same_bool d.stall (stalls_at w c) && same_bool d.trdy (line_at TRDY w c) && nat_eq d.rs (response_code_at w c)
    && same_bool d.dbsy (line_at DBSY w c) && same_bool (is_some d.chunk) (line_at DRDY w c))

abbrev pub misses : Choice → List ℕ → Trace → ℕ → Bool
misses choice turns w c = misses_after choice turns w (take c w) c

-- the snoop of a stalled request is to be stalled twice
abbrev pub stalled_twice : Choice
stalled_twice = record quiet_choice { stall = 2 }

pub rows_driven :
    (any_where (misses quiet_choice [] two_agents_overlap) 18 ≡ false)
    × (any_where (misses quiet_choice [] store_handed_over_before_arrival) 20 ≡ false)
    × (any_where (misses stalled_twice [] stalled_snoop) 18 ≡ false)
    × (any_where (misses quiet_choice [] cancelled_by_address_error) 20 ≡ false)
    × (any_where (misses quiet_choice (12 ∷ 1 ∷ 1 ∷ []) deferred_and_replied) 37 ≡ false)
    × (any_where (misses quiet_choice [] locked_increments) 28 ≡ false)
    × (any_where (misses quiet_choice [] write_back_held_off) 31 ≡ false)
    × (misses stalled_twice [] two_agents_overlap 6 ≡ true)
    × (misses quiet_choice [] deferred_and_replied 8 ≡ true)
unfolding is_some_and is_before is_at greater_of first_where any_where count_where all_where nth_where
    from_clock line_at is_lawful_request are_lawful_fields high_bit den_bit clocks row_of pairs_of req_words
    kind_of read_off is_pair is_coded_as if_coded_as request_of response_code_at responds_at stalls_at
    known_pair known_pair_at request_at is_cancelled is_live live_count live_clock_of live_number_of
    live_request_of is_write_back_kind is_write_back is_every_second_from ends_snoop snoop_end_from snoop_end_if
    start_after_clock start_after_end snoop_end_of snoop_start_of line_at_snoop_end does_move response_code_of
    outcome_by_kind response_clock_of live_response_of told_by outcome_of moves_data settled_by
    settled_outcome_of takes data_clock_of end_of clock_after_snoop ready_after ready_clock_of is_dropped
    has_ended is_in_flight in_flight is_stall_from is_ready_from is_response_from chunk_from is_busy_from
    has_snoop is_stalled two_after_snoop answer_from has_ready has_response response_to_now due_chunk keeps_busy
    settled_code numbered_chunk drive_of
rows_driven = (refl, refl, refl, refl, refl, refl, refl, refl, refl)

-- the requests in flight, as entries
abbrev pub queue_at : Choice → List ℕ → Trace → List Entry
queue_at choice turns h = map (entry_at choice turns h) (in_flight h (length h))

-- what is driven at clock c of w, after the clocks before it
abbrev pub driven : Choice → List ℕ → Trace → ℕ → Drive
driven choice turns w c = drive_of (take c w) (queue_at choice turns (take c w))

-- what happens at clock c of w
abbrev pub happens : Choice → List ℕ → Trace → ℕ → Phased
happens choice turns w c = phased_at (take (c + 1) w) c (queue_at choice turns (take c w))

-- the numbers of the requests whose snoop clock it is, whose chunk is due, whose snoop end it is and whose end
pub rows_numbered :
    (map (λ c. (driven quiet_choice [] two_agents_overlap c).snoop) (5 ∷ 6 ∷ 8 ∷ 9 ∷ 10 ∷ [])
    ≡ None ∷ Some 0 ∷ None ∷ Some 1 ∷ None ∷ [])
    × (map (λ c. (driven quiet_choice [] two_agents_overlap c).chunk) (7 ∷ 8 ∷ 9 ∷ 10 ∷ 11 ∷ [])
    ≡ None ∷ Some (0, 0) ∷ Some (0, 1) ∷ Some (0, 2) ∷ Some (0, 3) ∷ [])
    × (map (λ c. (driven quiet_choice [] two_agents_overlap c).chunk) (12 ∷ 15 ∷ 16 ∷ [])
    ≡ Some (1, 0) ∷ Some (1, 3) ∷ None ∷ [])
    × (map (λ c. (happens quiet_choice [] two_agents_overlap c).snooped) (5 ∷ 6 ∷ 8 ∷ 9 ∷ [])
    ≡ None ∷ Some 0 ∷ None ∷ Some 1 ∷ [])
    × (map (λ c. (happens quiet_choice [] two_agents_overlap c).ended) (8 ∷ 11 ∷ 12 ∷ 15 ∷ [])
    ≡ None ∷ Some 0 ∷ None ∷ Some 1 ∷ [])
    × (map (λ c. (driven stalled_twice [] stalled_snoop c).snoop) (6 ∷ 7 ∷ 8 ∷ 10 ∷ 12 ∷ [])
    ≡ Some 0 ∷ None ∷ Some 0 ∷ Some 0 ∷ None ∷ [])
    × (map (λ c. (happens stalled_twice [] stalled_snoop c).snooped) (6 ∷ 8 ∷ 10 ∷ []) ≡ None ∷ None ∷ Some 0 ∷ [])
    × (map (λ c. (driven quiet_choice [] cancelled_by_address_error c).snoop) (6 ∷ 12 ∷ []) ≡ None ∷ Some 1 ∷ [])
    × (map (λ c. (happens quiet_choice (12 ∷ 1 ∷ 1 ∷ []) deferred_and_replied c).ended) (8 ∷ 11 ∷ 30 ∷ [])
    ≡ Some 0 ∷ Some 1 ∷ Some 3 ∷ [])
unfolding is_some_and is_before is_at greater_of first_where any_where count_where all_where nth_where
    from_clock line_at is_lawful_request are_lawful_fields high_bit den_bit clocks row_of pairs_of req_words
    kind_of read_off is_pair is_coded_as if_coded_as request_of response_code_at responds_at stalls_at
    known_pair known_pair_at request_at is_cancelled is_live live_count live_clock_of live_number_of
    live_request_of is_write_back_kind is_write_back is_every_second_from ends_snoop snoop_end_from snoop_end_if
    start_after_clock start_after_end snoop_end_of snoop_start_of line_at_snoop_end does_move response_code_of
    outcome_by_kind response_clock_of live_response_of told_by outcome_of moves_data settled_by
    settled_outcome_of takes data_clock_of end_of clock_after_snoop ready_after ready_clock_of is_dropped
    has_ended is_in_flight in_flight is_stall_from is_ready_from is_response_from chunk_from is_busy_from
    has_snoop is_stalled two_after_snoop answer_from has_ready has_response response_to_now due_chunk keeps_busy
    settled_code numbered_chunk drive_of ends_snoop_at has_end_at phased_at
rows_numbered = (refl, refl, refl, refl, refl, refl, refl, refl, refl)

-- two agents load a line and upgrade it: the first keeps it with no data, the second has lost, and is handed it
abbrev pub upgrade_lost_and_handed : Trace
upgrade_lost_and_handed =
    clock (BREQ0 ∷ BREQ1 ∷ []) 0x0 0x0
    ∷ clock (BREQ0 ∷ BREQ1 ∷ []) 0x0 0x0
    ∷ clock (BREQ0 ∷ BREQ1 ∷ ADS ∷ []) 0x6 0x8
    ∷ clock (BREQ1 ∷ []) 0x2 0x2
    ∷ clock (BREQ1 ∷ []) 0x0 0x0
    ∷ clock (BREQ1 ∷ ADS ∷ []) 0x6 0x8
    ∷ clock ([]) 0x2 0x20002
    ∷ idle
    ∷ clock (RS0 ∷ RS1 ∷ RS2 ∷ DBSY ∷ DRDY ∷ []) 0x0 0x0
    ∷ clock (HIT ∷ DBSY ∷ DRDY ∷ []) 0x0 0x0
    ∷ clock (DBSY ∷ DRDY ∷ []) 0x0 0x0
    ∷ clock (DRDY ∷ []) 0x0 0x0
    ∷ clock (BREQ0 ∷ RS0 ∷ RS1 ∷ RS2 ∷ DBSY ∷ DRDY ∷ []) 0x0 0x0
    ∷ clock (BREQ0 ∷ DBSY ∷ DRDY ∷ []) 0x0 0x0
    ∷ clock (BREQ0 ∷ ADS ∷ DBSY ∷ DRDY ∷ []) 0x2 0x8
    ∷ clock (DRDY ∷ []) 0x0 0x0
    ∷ clock (BREQ1 ∷ []) 0x0 0x0
    ∷ clock (BREQ1 ∷ []) 0x0 0x0
    ∷ clock (BREQ1 ∷ ADS ∷ HIT ∷ []) 0x2 0x8
    ∷ clock ([]) 0x0 0x20000
    ∷ clock (RS0 ∷ RS2 ∷ []) 0x0 0x0
    ∷ idle
    ∷ clock (HITM ∷ []) 0x0 0x0
    ∷ idle
    ∷ clock (TRDY ∷ []) 0x0 0x0
    ∷ idle
    ∷ clock (RS1 ∷ RS2 ∷ DBSY ∷ DRDY ∷ []) 0x0 0x0
    ∷ clock (DBSY ∷ DRDY ∷ []) 0x0 0x0
    ∷ clock (DBSY ∷ DRDY ∷ []) 0x0 0x0
    ∷ clock (DRDY ∷ []) 0x0 0x0
    ∷ idle
    ∷ []

pub rows_with_upgrades :
    (any_where (misses quiet_choice [] upgrade_lost_and_handed) 31 ≡ false)
    × (map (λ c. (driven quiet_choice [] upgrade_lost_and_handed c).rs) (19 ∷ 20 ∷ 21 ∷ 26 ∷ [])
    ≡ 0 ∷ 0b101 ∷ 0 ∷ 0b110 ∷ [])
    × (map (λ c. (driven quiet_choice [] upgrade_lost_and_handed c).chunk) (20 ∷ 26 ∷ 29 ∷ [])
    ≡ None ∷ Some (3, 0) ∷ Some (3, 3) ∷ [])
    × (map (λ c. (happens quiet_choice [] upgrade_lost_and_handed c).snooped) (18 ∷ 22 ∷ []) ≡ Some 2 ∷ Some 3 ∷ [])
    × (map (λ c. (happens quiet_choice [] upgrade_lost_and_handed c).ended) (15 ∷ 20 ∷ 26 ∷ 29 ∷ [])
    ≡ Some 1 ∷ Some 2 ∷ None ∷ Some 3 ∷ [])
unfolding is_some_and is_before is_at greater_of first_where any_where count_where all_where nth_where
    from_clock line_at is_lawful_request are_lawful_fields high_bit den_bit clocks row_of pairs_of req_words
    kind_of read_off is_pair is_coded_as if_coded_as request_of response_code_at responds_at stalls_at
    known_pair known_pair_at request_at is_cancelled is_live live_count live_clock_of live_number_of
    live_request_of is_write_back_kind is_write_back is_every_second_from ends_snoop snoop_end_from snoop_end_if
    start_after_clock start_after_end snoop_end_of snoop_start_of line_at_snoop_end does_move response_code_of
    outcome_by_kind response_clock_of live_response_of told_by outcome_of moves_data settled_by
    settled_outcome_of takes data_clock_of end_of clock_after_snoop ready_after ready_clock_of is_dropped
    has_ended is_in_flight in_flight is_stall_from is_ready_from is_response_from chunk_from is_busy_from
    has_snoop is_stalled two_after_snoop answer_from has_ready has_response response_to_now due_chunk keeps_busy
    settled_code numbered_chunk drive_of ends_snoop_at has_end_at phased_at
rows_with_upgrades = (refl, refl, refl, refl, refl)

-- a line that is handed on, with waits of two clocks for its target, of three for its response, and of one between
-- its chunks
abbrev pub handed_on_with_waits : Trace
handed_on_with_waits =
    clock (BREQ0 ∷ []) 0x0 0x0
    ∷ clock (BREQ0 ∷ []) 0x0 0x0
    ∷ clock (BREQ0 ∷ ADS ∷ []) 0x2 0x8
    ∷ clock ([]) 0x2 0x2
    ∷ idle
    ∷ idle
    ∷ clock (HITM ∷ []) 0x0 0x0
    ∷ idle
    ∷ idle
    ∷ idle
    ∷ clock (TRDY ∷ []) 0x0 0x0
    ∷ idle
    ∷ idle
    ∷ idle
    ∷ idle
    ∷ clock (RS1 ∷ RS2 ∷ DBSY ∷ DRDY ∷ []) 0x0 0x0
    ∷ clock (DBSY ∷ []) 0x0 0x0
    ∷ clock (DBSY ∷ DRDY ∷ []) 0x0 0x0
    ∷ clock (DBSY ∷ []) 0x0 0x0
    ∷ clock (DBSY ∷ DRDY ∷ []) 0x0 0x0
    ∷ clock (DBSY ∷ []) 0x0 0x0
    ∷ clock (DRDY ∷ []) 0x0 0x0
    ∷ idle
    ∷ []

-- a read whose response waits for two clocks
abbrev pub read_with_a_wait : Trace
read_with_a_wait =
    clock (BREQ0 ∷ []) 0x0 0x0
    ∷ clock (BREQ0 ∷ []) 0x0 0x0
    ∷ clock (BREQ0 ∷ ADS ∷ []) 0x6 0x8
    ∷ clock ([]) 0x2 0x2
    ∷ idle
    ∷ idle
    ∷ idle
    ∷ idle
    ∷ idle
    ∷ idle
    ∷ clock (RS0 ∷ RS1 ∷ RS2 ∷ DBSY ∷ DRDY ∷ []) 0x0 0x0
    ∷ clock (DBSY ∷ DRDY ∷ []) 0x0 0x0
    ∷ clock (DBSY ∷ DRDY ∷ []) 0x0 0x0
    ∷ clock (DRDY ∷ []) 0x0 0x0
    ∷ idle
    ∷ []

pub rows_with_waits :
    (any_where (misses (record quiet_choice { trdy = 2; resp = 3; gap = 1 }) [] handed_on_with_waits) 23 ≡ false)
    × (any_where (misses (record quiet_choice { trdy = 9; resp = 2 }) [] read_with_a_wait) 15 ≡ false)
unfolding is_some_and is_before is_at greater_of first_where any_where count_where all_where nth_where
    from_clock line_at is_lawful_request are_lawful_fields high_bit den_bit clocks row_of pairs_of req_words
    kind_of read_off is_pair is_coded_as if_coded_as request_of response_code_at responds_at stalls_at
    known_pair known_pair_at request_at is_cancelled is_live live_count live_clock_of live_number_of
    live_request_of is_write_back_kind is_write_back is_every_second_from ends_snoop snoop_end_from snoop_end_if
    start_after_clock start_after_end snoop_end_of snoop_start_of line_at_snoop_end does_move response_code_of
    outcome_by_kind response_clock_of live_response_of told_by outcome_of moves_data settled_by
    settled_outcome_of takes data_clock_of end_of clock_after_snoop ready_after ready_clock_of is_dropped
    has_ended is_in_flight in_flight is_stall_from is_ready_from is_response_from chunk_from is_busy_from
    has_snoop is_stalled two_after_snoop answer_from has_ready has_response response_to_now due_chunk keeps_busy
    settled_code numbered_chunk drive_of
rows_with_waits = (refl, refl)

-- for every history there is such a queue, and it holds the requests in flight
clocks_again : (choice : Choice) (turns : List ℕ) (h : Trace) (qs : List ℕ)
    → map (λ e. e.clock) (map (entry_at choice turns h) qs) ≡ qs
clocks_again choice turns h [] = refl
clocks_again choice turns h (q ∷ qs) = ap (λ rest. q ∷ rest) (clocks_again choice turns h qs)

settled_again : (choice : Choice) (turns : List ℕ) (h : Trace) (o : Option ℕ) (e : Entry)
    → option_map (entry_at choice turns h) o ≡ Some e → e.outcome ≡ settled_outcome_of h turns (rank_of h e)
settled_again choice turns h None e g = absurd (let none : ⊥ = cc in none)
settled_again choice turns h (Some q) e g =
    let same : entry_at choice turns h q ≡ e = cc in
    subst (λ y. y.outcome ≡ settled_outcome_of h turns (live_number_of h y.clock)) same refl

pub held_by_history : (choice : Choice) (h : Trace)
    → HoldsInFlight (map (entry_at choice [] h) (in_flight h (length h))) [] h
held_by_history choice h = record {
  clocks = clocks_again choice [] h (in_flight h (length h));
  settled = λ k e g. settled_again choice [] h (slice_get (in_flight h (length h)) k) e
      (sym (slice_get-map (entry_at choice [] h) (in_flight h (length h)) k) ∙ g);
  kept = λ i t. refl;
}
