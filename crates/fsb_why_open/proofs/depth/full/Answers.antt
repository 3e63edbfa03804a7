use Rattle.std.proofs.Common.{sym, ap, ◌∙◌, arith}
use Rattle.std.specs.List.{count_by, find}
use Rattle.fsb_owner_table.specs.Kept.{rows_of}
use Rattle.fsb_why_open.specs.Open.{is_row_in_flight}
use Rattle.fsb_why_open.proofs.InFlight.{counted, depth_full, depth_kept, none_counted, oldest_is}
use Rattle.fsb_why_open.proofs.depth.full.Goals as goal

pub returns-in-Some : goal.returns-in-Some
returns-in-Some c = λ m h x g t.
    let kept = c.rows-rows.ensures h g.stands in
    let count = counted h x c.args.clock c.count_in_flight.result c.number.result c.with_one-in_flight.result
    c.begun_last.result c.is_some.result g.orderly (c.begun_last.ensures h g.stands) g.clock c.ranges.clock.fits
    c.is_some.ensures (c.count_in_flight.ensures ∙ ap (count_by (is_row_in_flight c.args.clock)) kept)
    c.number.ensures c.with_one-in_flight.ensures in
    depth_full m h x c.args.clock c.with_one-in_flight.result c.in-Some.row.seen.clock g.clock t count c.if-in_flight-ge8.true
    (oldest_is h x c.in-Some.row g.orderly (sym c.in-Some.is ∙ c.first_in_flight.ensures
    ∙ ap (find (is_row_in_flight c.args.clock)) kept
    ∙ ap (λ n. find (is_row_in_flight n) (rows_of h)) g.clock))

pub returns-in-None : goal.returns-in-None
returns-in-None c = λ m h x g t.
    let kept = c.rows-rows.ensures h g.stands in
    let count = counted h x c.args.clock c.count_in_flight.result c.number.result c.with_one-in_flight.result
    c.begun_last.result c.is_some.result g.orderly (c.begun_last.ensures h g.stands) g.clock c.ranges.clock.fits
    c.is_some.ensures (c.count_in_flight.ensures ∙ ap (count_by (is_row_in_flight c.args.clock)) kept)
    c.number.ensures c.with_one-in_flight.ensures in
    let few = none_counted h x c.with_one-in_flight.result c.begun_last.result g.orderly (c.begun_last.ensures h g.stands)
    (sym c.in-None.is ∙ c.first_in_flight.ensures ∙ ap (find (is_row_in_flight c.args.clock)) kept
    ∙ ap (λ n. find (is_row_in_flight n) (rows_of h)) g.clock) count in
    let many = c.if-in_flight-ge8.true in
    absurd (omega (arith, few, many))

pub returns-else-in_flight-ge8 : goal.returns-else-in_flight-ge8
returns-else-in_flight-ge8 c = λ m h x g t.
    let kept = c.rows-rows.ensures h g.stands in
    let count = counted h x c.args.clock c.count_in_flight.result c.number.result c.with_one-in_flight.result
    c.begun_last.result c.is_some.result g.orderly (c.begun_last.ensures h g.stands) g.clock c.ranges.clock.fits
    c.is_some.ensures (c.count_in_flight.ensures ∙ ap (count_by (is_row_in_flight c.args.clock)) kept)
    c.number.ensures c.with_one-in_flight.ensures in
    depth_kept m h x c.args.clock c.with_one-in_flight.result g.clock count c.if-in_flight-ge8.false
