use Rattle.std.proofs.Common.{◌≡◌, ◌∙◌, ◌++◌, ◌∷◌, [], refl, sym, ap, subst}
use Rattle.vcd_course.specs.Told.{event_told}
use Rattle.scope_check.specs.Parts.{clocks_of}
use Rattle.scope_parts.specs.declared.counts.Counts.{Counts}
use Rattle.scope_parts.specs.declared.judge.PartsJudge.{PartsJudge}
use Rattle.scope_parts.specs.Segments.{all_of, next_part}
use Rattle.scope_parts.specs.Standing.{Counted}
use Rattle.scope_parts.proofs.Clocks.{clocks-counted}
use Rattle.scope_parts.proofs.Turns.{all_at, ending_is, is_over, on_ok, segment_at, stands_behind, stands_on}
use Rattle.std.proofs.Common.{◌≤◌, length, arith}
use Rattle.scope_check.specs.Bounds.{most_counted}
use Rattle.std.proofs.lemmas.List.{length-append}
use Rattle.scope_check.proofs.Interface.{clocks-few, if-err}
use Rattle.scope_parts.specs.Segments.{events_in}
use Rattle.scope_parts.specs.Standing.{but_last}
use Rattle.scope_parts.proofs.Clocks.{clocks-before, err-so, found-within, kept-within, segments-few, within-more}
use Rattle.scope_parts.specs.Plans.{later_part}
use Rattle.scope_parts.proofs.FaultSteps.{ends-with, goes-on}
use Rattle.scope_parts.proofs.judge.PartsJudge.take.Goals as goal

pub returns-in-None-clause-stands : goal.returns-in-None-clause-stands
returns-in-None-clause-stands c p m es s =
    let j = c.args.self.now in
    let e = event_told c.args.event.now in
    let part = next_part p s.segments in
    let f = c.judged-found.result in
    let judging = c.in_ok-take.ensures.stands part m s.open_events s.judging in
    let found = c.judged-found.ensures part m (s.open_events ++ e ∷ []) judging in
    stands_on j (record j { counts = c.count.new.self; judging = c.take.new.self; latest = c.follow.new.self })
    p m es e s refl refl refl (c.in_ok-count.ensures.counted es s.counted) judging
    (c.follow.ensures part m s.open_events e s.latest found) f found
    (sym (ending_is j p m es s f e) ∙ sym c.in-None.ensures)

pub returns-in-None-clause-goes : goal.returns-in-None-clause-goes
returns-in-None-clause-goes c p m es s =
    let j = c.args.self.now in
    let e = event_told c.args.event.now in
    let part = next_part p s.segments in
    let xs = s.open_events in
    let found = c.judged-found.ensures part m (xs ++ e ∷ []) (c.in_ok-take.ensures.stands part m xs s.judging) in
    goes-on j (record j { counts = c.count.new.self; judging = c.take.new.self; latest = c.follow.new.self })
    p m es e s refl (c.follow.ensures part m xs e s.latest found).found

pub returns-in-Some-clause-goes : goal.returns-in-Some-clause-goes
returns-in-Some-clause-goes c p m es s =
    let j = c.args.self.now in
    let k = c.close.new.self in
    let e = event_told c.args.event.now in
    let part = next_part p s.segments in
    let xs = s.open_events in
    let f = c.judged-found.result in
    let b = j.latest.before in
    let end = c.in-Some.end in
    let found = c.judged-found.ensures part m (xs ++ e ∷ []) (c.in_ok-take.ensures.stands part m xs s.judging) in
    let x = segment_at end xs e f b in
    let size : f.clocks ≡ clocks_of (all_of x) =
    clocks-counted f part m (xs ++ e ∷ []) found ∙ ap clocks_of (sym (all_at end xs e f b)) in
    on_ok c.close.result (λ tallied judging latest. ends-with j k p m es e s end f x
    (later_part j.plan k.tally.clocks) j.marks found (sym (ending_is j p m es s f e) ∙ sym c.in-Some.ensures)
    refl refl tallied latest)
    (c.close.ensures.tallied s.segments x s.tallied refl refl size) c.close.ensures.judging c.close.ensures.latest

pub returns-in-Some-clause-stands : goal.returns-in-Some-clause-stands
returns-in-Some-clause-stands c p m es s =
    let j = c.args.self.now in
    let k = c.close.new.self in
    let e = event_told c.args.event.now in
    let part = next_part p s.segments in
    let xs = s.open_events in
    let f = c.judged-found.result in
    let b = j.latest.before in
    let end = c.in-Some.end in
    let found = c.judged-found.ensures part m (xs ++ e ∷ []) (c.in_ok-take.ensures.stands part m xs s.judging) in
    let x = segment_at end xs e f b in
    let all = all_at end xs e f b in
    let same = c.close.ensures.rest in
    let over = is_over end p m s.segments xs e f b s.unended found s.latest.before
    (sym (ending_is j p m es s f e) ∙ sym c.in-Some.ensures) in
    let size : f.clocks ≡ clocks_of (all_of x) = clocks-counted f part m (xs ++ e ∷ []) found ∙ ap clocks_of (sym all) in
    let counted : Counted k.counts (es ++ e ∷ []) =
    subst (λ (n : Counts). Counted n (es ++ e ∷ [])) (sym (ap (λ (v : PartsJudge). v.counts) same))
    (c.in_ok-count.ensures.counted es s.counted) in
    on_ok c.close.result (λ tallied judging latest. stands_behind j k p m es e s x all over
    (ap (λ (v : PartsJudge). v.plan) same) (ap (λ (v : PartsJudge). v.marks) same) counted tallied judging latest)
    (c.close.ensures.tallied s.segments x s.tallied refl refl size) c.close.ensures.judging c.close.ensures.latest

pub returns-in_err-take-clause-many : goal.returns-in_err-take-clause-many
returns-in_err-take-clause-many c p m es s =
    let full = c.in_err-take.ensures.many (next_part p s.segments) m s.open_events s.judging in
    let size = ap length s.whole ∙ length-append (events_in s.segments) s.open_events in
    let so : most_counted ≤ length es = omega (arith, full, size) in
    if-err _ so

pub returns-in-Some-clause-many : goal.returns-in-Some-clause-many
returns-in-Some-clause-many c p m es s =
    let j = c.args.self.now in
    let e = event_told c.args.event.now in
    let part = next_part p s.segments in
    let xs = s.open_events in
    let f = c.judged-found.result in
    let found = c.judged-found.ensures part m (xs ++ e ∷ []) (c.in_ok-take.ensures.stands part m xs s.judging) in
    let size = clocks-counted f part m (xs ++ e ∷ []) found in
    let before = clocks-before xs e in
    let within = kept-within c.in-Some.end f j.latest.before f.clocks
    (within-more f (clocks_of (xs ++ e ∷ [])) f.clocks (found-within f part m (xs ++ e ∷ []) found) (omega (arith, size)))
    (within-more j.latest.before (clocks_of (but_last xs)) f.clocks
    (found-within j.latest.before part m (but_last xs) s.latest.before) (omega (arith, size, before))) in
    let closed = c.close.ensures.many s.segments s.tallied (segments-few p m s.segments s.over) within in
    let all = ap length s.whole ∙ length-append (events_in s.segments) xs in
    let old = clocks-few (events_in s.segments) in
    let new = clocks-few (xs ++ e ∷ []) in
    let more = length-append xs (e ∷ []) in
    err-so c.close.result (λ full. omega (arith, full, size, all, old, new, more)) closed
