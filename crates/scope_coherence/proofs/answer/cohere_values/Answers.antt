use Rattle.std.proofs.Common.{rules, refl, ◌≡◌, [], Err}
use Rattle.scope_coherence.proofs.Wholes.{cohered-stop, cohered-whole}
use Rattle.scope_coherence.proofs.answer.cohere_values.Goals as goal

pub returns-in_err-ended-clause-judged : goal.returns-in_err-ended-clause-judged
returns-in_err-ended-clause-judged g c = λ tells choice ts text at taken.
    let first = c.new-coherer.result in
    let none = c.new-coherer.ensures.none in
    let same : c.from_residual.result ≡ Err c.in_err-ended.field-0.0 = search rules in
    rw same (cohered-stop _ _ c.args.part c.args.marks _ text
    (λ e. c.in_err-ended.ensures.write_fault e first [] none)
    (c.in_err-ended.ensures.read tells first [] choice ts text none at taken))

pub returns-clause-judged : goal.returns-clause-judged
returns-clause-judged g c = λ tells choice ts text at taken.
    let first = c.new-coherer.result in
    let now = c.new-coherer.ensures in
    let r = c.in_ok-ended.ensures.read tells first [] choice ts text now.none at taken in
    cohered-whole first c.watch_values.new.watcher c.in_ok-ended.ended _ c.told-told.result c.args.part c.args.marks _ text
    now.part now.marks r refl c.from.ensures refl refl
    (c.count.ensures first.part _ r.shown.samples r.shown.parted) c.told-told.ensures
