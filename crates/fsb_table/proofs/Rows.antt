-- Worked traces, clock by clock, and their tables: all of it is computed.
use Rattle.std.proofs.Common.{◌≡◌, ℕ, ◌+◌, refl, Bool, List, [], ◌∷◌, ◌++◌, Option, Some, None, true, false, replicate}
use Rattle.std.proofs.Common.{take}
use Rattle.fsb_signal.specs.declared.lines.Lines.{Lines}
use Rattle.fsb_signal.specs.declared.lines.TheConstants.Lines.{BREQ0, BREQ1, BPRI, ADS, AERR, HIT, DEFER, RS0, RS1, RS2}
use Rattle.fsb_signal.specs.declared.lines.TheConstants.Lines.{DBSY, DRDY}
use Rattle.fsb_signal.specs.declared.sample.Sample.{Sample}
use Rattle.fsb_signal.specs.Samples.{known_sample, line_at}
use Rattle.fsb_count.specs.Options.{is_some_and, greater_of}
use Rattle.fsb_count.specs.Clocks.{first_where, count_where, all_where, nth_where, from_clock}
use Rattle.fsb_encode.specs.declared.request.Kind.{Kind}
use Rattle.fsb_encode.specs.declared.request.Kind.TheVariants.{Reply, Invalidate, Read, Upgrade}
use Rattle.fsb_encode.specs.declared.request.Request.{Request}
use Rattle.fsb_encode.specs.Request.{is_lawful_request, are_lawful_fields, high_bit, den_bit, clocks, row_of, pairs_of}
use Rattle.fsb_encode.specs.Decoded.{req_words, kind_of, read_off, is_pair, is_coded_as, if_coded_as, request_of}
use Rattle.fsb_trace.specs.declared.outcome.Outcome.{Outcome}
use Rattle.fsb_trace.specs.declared.outcome.Outcome.TheVariants.{Granted, Retried, Deferred, Replied, Failed, Upgraded}
use Rattle.fsb_trace.specs.declared.who.Who.{Who}
use Rattle.fsb_trace.specs.declared.who.Who.TheVariants.{Symmetric, Priority}
use Rattle.fsb_trace.specs.At.{Trace, response_code_at, responds_at, stalls_at, known_pair, known_pair_at, request_at}
use Rattle.fsb_trace.specs.Winner.{bus_request_of, request_line_of, no_requesters, symmetric_after, then_begun}
use Rattle.fsb_trace.specs.Winner.{first_in_order, agent_in_order, asks_in_order, first_asking, last_if_asking}
use Rattle.fsb_trace.specs.Winner.{winner_by, winner_after, requesters_before, winner_at}
use Rattle.fsb_trace.specs.Requests.{is_cancelled, seen_at, is_live, live_count, live_clock_of, live_number_of}
use Rattle.fsb_trace.specs.Requests.{live_request_of}
use Rattle.fsb_trace.specs.Snoop.{is_every_second_from, ends_snoop, snoop_end_from, snoop_end_if, start_after_clock}
use Rattle.fsb_trace.specs.Snoop.{start_after_end, snoop_end_of, line_at_snoop_end}
use Rattle.fsb_trace.specs.Outcome.{does_move, response_code_of, outcome_by_kind, response_clock_of, live_response_of}
use Rattle.fsb_trace.specs.Outcome.{told_by, outcome_of, moves_data}
use Rattle.fsb_trace.specs.Response.{data_clock_of, end_of}
use Rattle.fsb_table.specs.declared.row.Row.{Row}
use Rattle.fsb_table.specs.Rows.{live_row, cancelled_row, row_at, rows_of}

-- the bits of some different lines together
abbrev pub bits_of : List Lines → ℕ
bits_of [] = 0
bits_of (line ∷ lines) = line.0 + bits_of lines

-- a sample in which these lines and these bits of REQ and A are asserted, and nothing is unknown
abbrev pub clock : List Lines → ℕ → ℕ → Sample
clock lines req addr = known_sample (bits_of lines) req addr 0

-- a sample in which nothing is asserted
abbrev pub idle : Sample
idle = clock [] 0 0

-- a request that is decoded
abbrev pub request : Kind → ℕ → ℕ → Bool → Option Request
request kind line did den = Some (record { kind = kind; line = line; chunk = 0; did = did; den = den })

-- the row of a live request: its first clock, its agent, its words and its numbers
abbrev pub live : ℕ → Who → Option Request → Option ℕ → Option ℕ → Option ℕ → Option Outcome → Row
live q who request snoop response end outcome = record {
  seen = record { clock = q; who = Some who; request = request; cancelled = false };
  snoop = snoop;
  response = response;
  end = end;
  outcome = outcome;
}

-- a load of one agent, and a store that hits: one request
abbrev pub load_then_store_hit : Trace
load_then_store_hit =
    clock (BREQ0 ∷ []) 0x0 0x0
    ∷ clock (BREQ0 ∷ []) 0x0 0x0
    ∷ clock (BREQ0 ∷ ADS ∷ []) 0x6 0x8
    ∷ clock ([]) 0x2 0x2
    ∷ idle
    ∷ idle
    ∷ idle
    ∷ idle
    ∷ clock (RS0 ∷ RS1 ∷ RS2 ∷ DBSY ∷ DRDY ∷ []) 0x0 0x0
    ∷ clock (DBSY ∷ DRDY ∷ []) 0x0 0x0
    ∷ clock (DBSY ∷ DRDY ∷ []) 0x0 0x0
    ∷ clock (DRDY ∷ []) 0x0 0x0
    ∷ replicate 48 idle

-- a load that an address error cancels, and that is asked for again
abbrev pub cancelled_by_address_error : Trace
cancelled_by_address_error =
    clock (BREQ0 ∷ []) 0x0 0x0
    ∷ clock (BREQ0 ∷ []) 0x0 0x0
    ∷ clock (BREQ0 ∷ ADS ∷ []) 0x6 0x8
    ∷ clock ([]) 0x2 0x2
    ∷ idle
    ∷ clock (AERR ∷ []) 0x0 0x0
    ∷ clock (BREQ0 ∷ []) 0x0 0x0
    ∷ clock (BREQ0 ∷ []) 0x0 0x0
    ∷ clock (BREQ0 ∷ ADS ∷ []) 0x6 0x8
    ∷ clock ([]) 0x2 0x2
    ∷ idle
    ∷ idle
    ∷ idle
    ∷ idle
    ∷ clock (RS0 ∷ RS1 ∷ RS2 ∷ DBSY ∷ DRDY ∷ []) 0x0 0x0
    ∷ clock (DBSY ∷ DRDY ∷ []) 0x0 0x0
    ∷ clock (DBSY ∷ DRDY ∷ []) 0x0 0x0
    ∷ clock (DRDY ∷ []) 0x0 0x0
    ∷ replicate 42 idle

-- a load that is deferred, an access to the line that is retried twice, the reply, and the access
abbrev pub deferred_and_replied : Trace
deferred_and_replied =
    clock (BREQ0 ∷ BREQ1 ∷ []) 0x0 0x0
    ∷ clock (BREQ0 ∷ BREQ1 ∷ []) 0x0 0x0
    ∷ clock (BREQ0 ∷ BREQ1 ∷ ADS ∷ []) 0x6 0x200
    ∷ clock (BREQ1 ∷ []) 0x2 0x2
    ∷ clock (BREQ1 ∷ []) 0x0 0x0
    ∷ clock (BREQ1 ∷ ADS ∷ []) 0x2 0x200
    ∷ clock (DEFER ∷ []) 0x2 0x20002
    ∷ idle
    ∷ clock (RS1 ∷ []) 0x0 0x0
    ∷ clock (DEFER ∷ []) 0x0 0x0
    ∷ idle
    ∷ clock (RS0 ∷ []) 0x0 0x0
    ∷ clock (BREQ1 ∷ []) 0x0 0x0
    ∷ clock (BREQ1 ∷ []) 0x0 0x0
    ∷ clock (BREQ1 ∷ ADS ∷ []) 0x2 0x200
    ∷ clock ([]) 0x2 0x20002
    ∷ idle
    ∷ idle
    ∷ clock (DEFER ∷ []) 0x0 0x0
    ∷ clock (BPRI ∷ []) 0x0 0x0
    ∷ clock (BPRI ∷ RS0 ∷ []) 0x0 0x0
    ∷ clock (BREQ1 ∷ BPRI ∷ ADS ∷ []) 0x0 0x0
    ∷ clock (BREQ1 ∷ []) 0x0 0x0
    ∷ clock (BREQ1 ∷ []) 0x0 0x0
    ∷ clock (BREQ1 ∷ ADS ∷ []) 0x2 0x200
    ∷ clock ([]) 0x2 0x20002
    ∷ idle
    ∷ clock (RS0 ∷ RS1 ∷ RS2 ∷ DBSY ∷ DRDY ∷ []) 0x0 0x0
    ∷ clock (HIT ∷ DBSY ∷ DRDY ∷ []) 0x0 0x0
    ∷ clock (DBSY ∷ DRDY ∷ []) 0x0 0x0
    ∷ clock (DRDY ∷ []) 0x0 0x0
    ∷ clock (RS0 ∷ RS1 ∷ RS2 ∷ DBSY ∷ DRDY ∷ []) 0x0 0x0
    ∷ clock (DBSY ∷ DRDY ∷ []) 0x0 0x0
    ∷ clock (DBSY ∷ DRDY ∷ []) 0x0 0x0
    ∷ clock (DRDY ∷ []) 0x0 0x0
    ∷ replicate 25 idle

-- two agents read a line, and one of them upgrades it
abbrev pub upgrade_of_a_shared_line : Trace
upgrade_of_a_shared_line =
    clock (BREQ0 ∷ BREQ1 ∷ []) 0x0 0x0
    ∷ clock (BREQ0 ∷ BREQ1 ∷ []) 0x0 0x0
    ∷ clock (BREQ0 ∷ BREQ1 ∷ ADS ∷ []) 0x6 0x8
    ∷ clock (BREQ1 ∷ []) 0x2 0x2
    ∷ clock (BREQ1 ∷ []) 0x0 0x0
    ∷ clock (BREQ1 ∷ ADS ∷ []) 0x6 0x8
    ∷ clock ([]) 0x2 0x20002
    ∷ idle
    ∷ clock (RS0 ∷ RS1 ∷ RS2 ∷ DBSY ∷ DRDY ∷ []) 0x0 0x0
    ∷ clock (HIT ∷ DBSY ∷ DRDY ∷ []) 0x0 0x0
    ∷ clock (DBSY ∷ DRDY ∷ []) 0x0 0x0
    ∷ clock (DRDY ∷ []) 0x0 0x0
    ∷ clock (BREQ0 ∷ RS0 ∷ RS1 ∷ RS2 ∷ DBSY ∷ DRDY ∷ []) 0x0 0x0
    ∷ clock (BREQ0 ∷ DBSY ∷ DRDY ∷ []) 0x0 0x0
    ∷ clock (BREQ0 ∷ ADS ∷ DBSY ∷ DRDY ∷ []) 0x2 0x8
    ∷ clock (DRDY ∷ []) 0x0 0x0
    ∷ idle
    ∷ idle
    ∷ clock (HIT ∷ []) 0x0 0x0
    ∷ idle
    ∷ clock (RS0 ∷ RS2 ∷ []) 0x0 0x0
    ∷ replicate 39 idle

-- the first run, cut behind the first clock of the request, and in the middle of its data
abbrev pub cut_at_request : Trace
cut_at_request = take 3 load_then_store_hit

abbrev pub cut_transfer : Trace
cut_transfer = take 10 load_then_store_hit

-- the load fails
abbrev pub hard_failure : Trace
hard_failure = take 8 load_then_store_hit ++ clock (RS2 ∷ []) 0x0 0x0 ∷ replicate 20 idle

-- all that is said of them
pub rows_hold :
    (rows_of load_then_store_hit
    ≡ live 2 (Symmetric 0) (request Read 2 0 true) (Some 6) (Some 8) (Some 11) (Some Granted) ∷ [])
    × (rows_of cancelled_by_address_error
    ≡ record {
      seen = record { clock = 2; who = Some (Symmetric 0); request = request Read 2 0 true; cancelled = true };
      snoop = None;
      response = None;
      end = None;
      outcome = None;
    }
    ∷ live 8 (Symmetric 0) (request Read 2 0 true) (Some 12) (Some 14) (Some 17) (Some Granted) ∷ [])
    × (rows_of deferred_and_replied
    ≡ live 2 (Symmetric 0) (request Read 128 0 true) (Some 6) (Some 8) (Some 8) (Some Deferred)
    ∷ live 5 (Symmetric 1) (request Invalidate 128 16 true) (Some 9) (Some 11) (Some 11) (Some Retried)
    ∷ live 14 (Symmetric 1) (request Invalidate 128 16 true) (Some 18) (Some 20) (Some 20) (Some Retried)
    ∷ live 21 Priority (request Reply 0 0 false) (Some 25) (Some 27) (Some 30) (Some Replied)
    ∷ live 24 (Symmetric 1) (request Invalidate 128 16 true) (Some 28) (Some 31) (Some 34) (Some Granted) ∷ [])
    × (rows_of upgrade_of_a_shared_line
    ≡ live 2 (Symmetric 0) (request Read 2 0 true) (Some 6) (Some 8) (Some 11) (Some Granted)
    ∷ live 5 (Symmetric 1) (request Read 2 16 true) (Some 9) (Some 12) (Some 15) (Some Granted)
    ∷ live 14 (Symmetric 0) (request Upgrade 2 0 false) (Some 18) (Some 20) (Some 20) (Some Upgraded) ∷ [])
    × (rows_of cut_at_request ≡ live 2 (Symmetric 0) None None None None None ∷ [])
    × (rows_of cut_transfer
    ≡ live 2 (Symmetric 0) (request Read 2 0 true) (Some 6) (Some 8) None (Some Granted) ∷ [])
    × (rows_of hard_failure
    ≡ live 2 (Symmetric 0) (request Read 2 0 true) (Some 6) (Some 8) (Some 8) (Some Failed) ∷ [])
unfolding is_some_and greater_of first_where count_where all_where nth_where from_clock line_at is_lawful_request
    are_lawful_fields high_bit den_bit clocks row_of pairs_of req_words kind_of read_off is_pair is_coded_as if_coded_as
    request_of response_code_at responds_at stalls_at known_pair known_pair_at request_at bus_request_of request_line_of
    no_requesters symmetric_after then_begun first_in_order agent_in_order asks_in_order first_asking last_if_asking
    winner_by winner_after requesters_before winner_at is_cancelled seen_at is_live live_count live_clock_of
    live_number_of live_request_of is_every_second_from ends_snoop snoop_end_from snoop_end_if start_after_clock
    start_after_end snoop_end_of line_at_snoop_end does_move response_code_of outcome_by_kind response_clock_of
    live_response_of told_by outcome_of moves_data data_clock_of end_of live_row cancelled_row row_at rows_of
rows_hold = (refl, refl, refl, refl, refl, refl, refl)
