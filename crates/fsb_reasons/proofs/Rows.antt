-- Reasons of worked waveforms: what each says is computed.
use Rattle.std.proofs.Common.{◌∷◌, [], Some, refl, arith}
use Rattle.fsb_signal.specs.declared.lines.TheConstants.Lines.{BREQ0, ADS, TRDY}
use Rattle.fsb_signal.specs.Samples.{line_at}
use Rattle.fsb_count.specs.Options.{is_some_and}
use Rattle.fsb_count.specs.Clocks.{first_where, last_where, count_where, all_where, nth_where, from_clock}
use Rattle.fsb_encode.specs.Request.{is_lawful_request, are_lawful_fields, high_bit, den_bit, clocks, row_of, pairs_of}
use Rattle.fsb_encode.specs.Decoded.{req_words, kind_of, read_off, is_pair, is_coded_as, if_coded_as, request_of}
use Rattle.fsb_trace.specs.At.{response_code_at, responds_at, stalls_at, known_pair, known_pair_at, request_at}
use Rattle.fsb_trace.specs.Requests.{is_cancelled, is_live, live_clock_of, live_request_of, is_write_back}
use Rattle.fsb_trace.specs.Requests.{is_write_back_kind}
use Rattle.fsb_trace.specs.Snoop.{is_every_second_from, ends_snoop, snoop_end_from, snoop_end_if, start_after_clock}
use Rattle.fsb_trace.specs.Snoop.{snoop_end_of, line_at_snoop_end}
use Rattle.fsb_trace.specs.Response.{takes, clock_after_snoop, ready_after, ready_clock_of}
use Rattle.fsb_trace.specs.Rules.{next_response}
use Rattle.fsb_trace.proofs.LaidOut.{no_marks, clock, idle}
use Rattle.fsb_reasons.specs.declared.reason.Reason.TheVariants.{TooSoon, ReadyUnwanted, ReadyTwice}
use Rattle.fsb_reasons.specs.Holds.{Holds}

-- requests at 2 and at 4: the second may come at 5 at the earliest
pub second_request_too_soon : Holds no_marks
    (clock (BREQ0 ∷ []) 0x0 0x0 ∷ clock (BREQ0 ∷ []) 0x0 0x0 ∷ clock (BREQ0 ∷ ADS ∷ []) 0x6 0x8 ∷ clock [] 0x2 0x2
    ∷ clock (BREQ0 ∷ ADS ∷ []) 0x6 0x8 ∷ []) 4 (TooSoon 2 5)
unfolding line_at last_where
second_request_too_soon = (refl, refl, refl, omega arith)

-- TRDY# at 8 for a read, which has its snoop end at 6 and takes nothing
pub ready_for_a_read : Holds no_marks
    (clock (BREQ0 ∷ []) 0x0 0x0 ∷ clock (BREQ0 ∷ []) 0x0 0x0 ∷ clock (BREQ0 ∷ ADS ∷ []) 0x6 0x8 ∷ clock [] 0x2 0x2
    ∷ idle ∷ idle ∷ idle ∷ idle ∷ clock (TRDY ∷ []) 0x0 0x0 ∷ []) 8
    (ReadyUnwanted (record { number = 0; clock = 2 }) 6)
unfolding line_at is_some_and first_where count_where all_where nth_where is_lawful_request are_lawful_fields high_bit
    den_bit clocks row_of pairs_of req_words kind_of read_off is_pair is_coded_as if_coded_as request_of
    response_code_at responds_at stalls_at known_pair known_pair_at request_at is_cancelled is_live live_clock_of
    live_request_of is_write_back is_write_back_kind is_every_second_from ends_snoop snoop_end_from snoop_end_if
    start_after_clock snoop_end_of line_at_snoop_end takes next_response
ready_for_a_read = (refl, (refl, refl), refl, refl)

-- TRDY# at 8 and at 9 for a write-back
pub ready_for_two_clocks : Holds no_marks
    (clock (BREQ0 ∷ []) 0x0 0x0 ∷ clock (BREQ0 ∷ []) 0x0 0x0 ∷ clock (BREQ0 ∷ ADS ∷ []) 0x5 0x8 ∷ clock [] 0x2 0x0
    ∷ idle ∷ idle ∷ idle ∷ idle ∷ clock (TRDY ∷ []) 0x0 0x0 ∷ clock (TRDY ∷ []) 0x0 0x0 ∷ []) 9
    (ReadyTwice (record { number = 0; clock = 2 }) 8)
unfolding line_at is_some_and first_where count_where all_where nth_where from_clock response_code_at responds_at
    stalls_at is_cancelled is_live live_clock_of is_every_second_from ends_snoop snoop_end_from snoop_end_if
    start_after_clock snoop_end_of clock_after_snoop ready_after ready_clock_of next_response
ready_for_two_clocks = (refl, (refl, refl), refl, omega arith)
