-- The rows of a trace, one clock on.
use Rattle.std.proofs.Common.{ℕ, zero, suc, ◌+◌, ◌<◌, ◌≤◌, ◌≡◌, true, false, not, List, [], ◌∷◌, ◌++◌, map, take}
use Rattle.std.proofs.Common.{get_or, Option, Some, None, length, refl, sym, ap, ◌∙◌, arith}
use Rattle.std.proofs.lemmas.Bool.{and_from, and_left, and_right}
use Rattle.std.proofs.lemmas.List.{length-take-le, map-append, take_more}
use Rattle.std.proofs.lemmas.Option.{slice_get_within, slice_get-get_or}
use Rattle.std.specs.List.{slice_get}
use Rattle.std.specs.Option.{option_and_then, option_map_or}
use Rattle.fsb_count.specs.Clocks.{all_where, count_where}
use Rattle.fsb_count.proofs.Interface.{all_where-passed, all_where-failed, count_where-passed, count_where-failed}
use Rattle.fsb_signal.specs.declared.lines.TheConstants.Lines.{ADS}
use Rattle.fsb_signal.specs.declared.sample.Sample.{Sample}
use Rattle.fsb_signal.specs.Samples.{has_line, line_at}
use Rattle.fsb_trace.specs.At.{Trace, request_at}
use Rattle.fsb_trace.specs.Agree.{AgreeTo}
use Rattle.fsb_trace.specs.declared.seen.Seen.{Seen}
use Rattle.fsb_trace.specs.declared.outcome.Outcome.{Outcome}
use Rattle.fsb_trace.specs.Requests.{is_cancelled, is_live, live_clock_of, live_number_of, live_request_of, seen_at}
use Rattle.fsb_trace.specs.Snoop.{snoop_end_of}
use Rattle.fsb_trace.specs.Outcome.{outcome_of, response_clock_of}
use Rattle.fsb_trace.specs.Response.{end_of}
use Rattle.fsb_trace.specs.Winner.{winner_at}
use Rattle.fsb_trace.proofs.Interface.{live_clock_of-number, winner_at-agree}
use Rattle.fsb_table.specs.declared.row.Row.{Row}
use Rattle.fsb_table.specs.Rows.{cancelled_row, live_row, row_at, rows_of}

-- the rows of the requests that begin below c
abbrev pub rows_before : Trace → ℕ → List Row
rows_before w c = map (row_at w) (all_where (line_at ADS w) c)

pub rows_before-start : (w : Trace) → rows_before w 0 ≡ []
unfolding all_where
rows_before-start w = refl

pub rows_before-begun : (w : Trace) (c : ℕ) → line_at ADS w c ≡ true
    → rows_before w (c + 1) ≡ rows_before w c ++ row_at w c ∷ []
rows_before-begun w c t =
    ap (map (row_at w)) (all_where-passed (line_at ADS w) c t)
    ∙ map-append (row_at w) (all_where (line_at ADS w) c) (c ∷ [])

pub rows_before-kept : (w : Trace) (c : ℕ) → line_at ADS w c ≡ false → rows_before w (c + 1) ≡ rows_before w c
rows_before-kept w c f = ap (map (row_at w)) (all_where-failed (line_at ADS w) c f)

pub rows_before-end : (w : Trace) → rows_before w (length w) ≡ rows_of w
unfolding rows_of
rows_before-end w = refl

-- a request that is not cancelled is live, and counts
pub live-begun : (w : Trace) (q : ℕ) → line_at ADS w q ≡ true → is_cancelled w q ≡ false → is_live w q ≡ true
unfolding is_live
live-begun w q t f = and_from _ _ t (ap not f)

pub number-live : (w : Trace) (q : ℕ) → is_live w q ≡ true → live_number_of w (q + 1) ≡ live_number_of w q + 1
unfolding live_number_of
number-live w q t = count_where-passed (is_live w) q t

-- a cancelled one does not count, and neither does a clock at which none begins
pub number-cancelled : (w : Trace) (q : ℕ) → is_cancelled w q ≡ true → live_number_of w (q + 1) ≡ live_number_of w q
unfolding live_number_of is_live
number-cancelled w q t = count_where-failed (is_live w) q (and_right _ _ (ap not t))

pub number-idle : (w : Trace) (q : ℕ) → line_at ADS w q ≡ false → live_number_of w (q + 1) ≡ live_number_of w q
unfolding live_number_of is_live
number-idle w q f = count_where-failed (is_live w) q (and_left _ _ f)

taken : {X : Type 0} (xs : List X) (n c : ℕ) → c < n → n ≤ length xs → slice_get (take n xs) c ≡ slice_get xs c
taken [] n c l k = absurd (omega arith)
taken (x ∷ xs) zero c l k = absurd (omega arith)
taken (x ∷ xs) (suc n) zero l k = refl
taken (x ∷ xs) (suc n) (suc c) l k = taken xs n c (omega arith) (omega arith)

agree_taken : (w : Trace) (q : ℕ) → q ≤ length w → AgreeTo q (take q w) w
agree_taken w q l =
    let size : length (take q w) ≡ q = length-take-le q w l in
    record { left = omega arith; right = l; same = λ c k. taken w q c k l }

-- the winner at a clock shows in the samples before it
pub winner-before : (w : Trace) (q : ℕ) → q ≤ length w → winner_at (take q w) (length (take q w)) ≡ winner_at w q
winner-before w q l =
    ap (winner_at (take q w)) (length-take-le q w l)
    ∙ winner_at-agree q (take q w) w q (agree_taken w q l) (omega arith)

-- one sample more
pub taken-more : (w : Trace) (q : ℕ) (x : Sample) → q < length w → x ≡ get_or w q x
    → take (q + 1) w ≡ take q w ++ x ∷ []
taken-more w q x l is = take_more w q x l ∙ ap (λ y. take q w ++ y ∷ []) (sym is)

-- the line at a clock is that of its sample
pub line-of : (w : Trace) (q : ℕ) (x : Sample) → q < length w → x ≡ get_or w q x → line_at ADS w q ≡ has_line x ADS
unfolding line_at
line-of w q x l is =
    ap (λ o. option_map_or (λ s. has_line s ADS) o false) (slice_get-get_or w q x l ∙ ap (λ y. Some y) (sym is))

within-cases : (w : Trace) (q : ℕ) (o : Option Sample) → slice_get w q ≡ o → line_at ADS w q ≡ true → q < length w
unfolding line_at
within-cases w q None e t = let no : false ≡ true = rw e at t in absurd (let bad : ⊥ = cc in bad)
within-cases w q (Some s) e t = slice_get_within w q s e

-- before the first clock no request is live
pub number-start : (w : Trace) → live_number_of w 0 ≡ 0
unfolding live_number_of count_where
number-start w = refl

-- a live request has the clock of its number
pub clock-live : (w : Trace) (q : ℕ) → line_at ADS w q ≡ true → is_live w q ≡ true
    → live_clock_of w (live_number_of w q) ≡ Some q
clock-live w q t live = live_clock_of-number w q (within-cases w q (slice_get w q) refl t) live

pub request-live : (w : Trace) (i q : ℕ) → live_clock_of w i ≡ Some q → live_request_of w i ≡ request_at w q
unfolding live_request_of
request-live w i q e = ap (option_and_then (request_at w)) e

-- a request that is seen has its clock, its words, and whether it is cancelled
pub clock-seen : (w : Trace) (q : ℕ) (seen : Seen) → seen ≡ seen_at w q → seen.clock ≡ q
unfolding seen_at
clock-seen w q seen e = ap (λ s. s.clock) e

pub request-seen : (w : Trace) (q : ℕ) (seen : Seen) → seen ≡ seen_at w q → seen.request ≡ request_at w q
unfolding seen_at
request-seen w q seen e = ap (λ s. s.request) e

pub cancelled-seen : (w : Trace) (q : ℕ) (seen : Seen) → seen ≡ seen_at w q → seen.cancelled ≡ is_cancelled w q
unfolding seen_at
cancelled-seen w q seen e = ap (λ s. s.cancelled) e

-- its row
pub row-cancelled : (w : Trace) (q : ℕ) (seen : Seen) → seen ≡ seen_at w q → is_cancelled w q ≡ true
    → cancelled_row seen ≡ row_at w q
unfolding row_at
row-cancelled w q seen e t = rw t (ap cancelled_row e)

pub row-live : (w : Trace) (q : ℕ) (seen : Seen) → seen ≡ seen_at w q → is_cancelled w q ≡ false
    → live_row w (live_number_of w q) seen ≡ row_at w q
unfolding row_at
row-live w q seen e f = rw f (ap (live_row w (live_number_of w q)) e)

-- a row with the numbers of a live request
pub row-made : (w : Trace) (i : ℕ) (seen : Seen) (snoop response end : Option ℕ) (outcome : Option Outcome)
    → snoop ≡ snoop_end_of w i → response ≡ response_clock_of w i → end ≡ end_of w i → outcome ≡ outcome_of w i
    → record { seen = seen; snoop = snoop; response = response; end = end; outcome = outcome } ≡ live_row w i seen
unfolding live_row
row-made w i seen snoop response end outcome e f g h = rw (e, f, g, h) refl
