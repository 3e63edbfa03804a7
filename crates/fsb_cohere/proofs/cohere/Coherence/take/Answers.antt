use Rattle.std.proofs.Common.{◌++◌, ◌∷◌, [], sym, subst}
use Rattle.fsb_trace.specs.At.{Trace}
use Rattle.fsb_owner_judge.specs.Judge.{Shows}
use Rattle.fsb_owner_judge.proofs.Standing.{if_ok, on_ok}
use Rattle.fsb_cohere.proofs.Passing.{next, passed, takes, waits_shown}
use Rattle.fsb_cohere.proofs.cohere.Coherence.take.Goals as goal

pub returns-clause-found : goal.returns-clause-found
returns-clause-found c =
    if_ok c.step.result (λ found p first h s r n.
    let x = c.args.sample.now in
    let v : Trace = h ++ x ∷ [] in
    let t = takes c.args.self.now first h x s r n in
    let g = next c.args.self.now first h x c.rows-rows.result.now s r n (c.rows-rows.ensures v (c.in_ok-happened.ensures.stands h t)) in
    let clock = (c.in_ok-happened.ensures.happened h t).clock in
    let w = waits_shown g c.in_ok-waits.waits.items c.saturating_sub.result c.in_ok-happened.happened.clock clock c.saturating_sub.ensures
    c.in_ok-waits.ensures.lines c.in_ok-waits.ensures.shown in
    p first h x v g.stands (subst (Shows first h x v c.shown_at-shown.result) (sym c.as_slice.ensures.value) (c.shown_at-shown.ensures.shows first h x v _ g clock w)))
    c.step.ensures.found

pub returns-clause-stands : goal.returns-clause-stands
returns-clause-stands c =
    on_ok c.step.result (λ room first h s r n.
    let x = c.args.sample.now in
    let v : Trace = h ++ x ∷ [] in
    let t = takes c.args.self.now first h x s r n in
    let fed = c.in_ok-happened.ensures.stands h t in
    let g = next c.args.self.now first h x c.rows-rows.result.now s r n (c.rows-rows.ensures v fed) in
    let clock = (c.in_ok-happened.ensures.happened h t).clock in
    let w = waits_shown g c.in_ok-waits.waits.items c.saturating_sub.result c.in_ok-happened.happened.clock clock c.saturating_sub.ensures
    c.in_ok-waits.ensures.lines c.in_ok-waits.ensures.shown in
    passed _ first v fed (c.step.ensures.stands first h x v g.stands (subst (Shows first h x v c.shown_at-shown.result) (sym c.as_slice.ensures.value) (c.shown_at-shown.ensures.shows first h x v _ g clock w))) room)
    c.step.ensures.room
