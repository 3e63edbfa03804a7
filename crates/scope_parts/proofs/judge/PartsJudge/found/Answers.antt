use Rattle.std.proofs.Common.{refl, ◌<◌, length, ap, ◌∙◌, arith}
use Rattle.scope_parts.specs.Segments.{next_part}
use Rattle.scope_parts.proofs.Found.{judged_in_parts, last_at, last_clocks}
use Rattle.scope_check.proofs.Interface.{clocks-few, if-err}
use Rattle.scope_check.specs.Bounds.{most_counted}
use Rattle.scope_check.specs.Parts.{clocks_of}
use Rattle.scope_parts.specs.Segments.{events_in}
use Rattle.scope_parts.proofs.Clocks.{clocks-counted, clocks_of-append, found-within, segments-few, within-more}
use Rattle.scope_parts.proofs.Faults.{fault-told}
use Rattle.scope_parts.proofs.judge.PartsJudge.found.Goals as goal

pub returns-clause-judged : goal.returns-clause-judged
returns-clause-judged c p m es s =
    let j = c.args.self in
    let f = j.latest.found in
    let end = c.last_end.result in
    judged_in_parts j c.add.new.self p m es s end c.last_end.ensures
    (c.in_ok-add.ensures.tallies s.segments (last_at s.open_events f end) s.tallied refl refl
    (last_clocks f (next_part p s.segments) m s.open_events end s.latest.found))

pub returns-clause-fault : goal.returns-clause-fault
returns-clause-fault c p m es s =
    let j = c.args.self in
    let f = j.latest.found in
    let end = c.last_end.result in
    fault-told j c.add.new.self p m es s end c.last_end.ensures
    (c.in_ok-add.ensures.tallies s.segments (last_at s.open_events f end) s.tallied refl refl
    (last_clocks f (next_part p s.segments) m s.open_events end s.latest.found))

pub returns-in_err-add-clause-many : goal.returns-in_err-add-clause-many
returns-in_err-add-clause-many c p m es s =
    let f = c.args.self.latest.found in
    let part = next_part p s.segments in
    let size = clocks-counted f part m s.open_events s.latest.found in
    let within = within-more f (clocks_of s.open_events) f.clocks (found-within f part m s.open_events s.latest.found)
    (omega (arith, size)) in
    let full = c.in_err-add.ensures.many s.segments s.tallied (segments-few p m s.segments s.over) within in
    let all = ap clocks_of s.whole ∙ clocks_of-append (events_in s.segments) s.open_events in
    let few = clocks-few es in
    let so : most_counted < length es = omega (arith, full, size, all, few) in
    if-err _ so
