use Rattle.std.proofs.Common.{rules, ◌≡◌, [], Err}
use Rattle.scope_explain.proofs.Wholes.{found-stop, found-whole}
use Rattle.scope_explain.proofs.explain.explain_values.Goals as goal

pub returns-in_err-watch_values-clause-found : goal.returns-in_err-watch_values-clause-found
returns-in_err-watch_values-clause-found g c = λ tells choice ts text at taken.
    let first = c.in_ok-explainer.explainer in
    let none = c.in_ok-explainer.ensures.none in
    let same : c.from_residual-in_err-watch_values.result ≡ Err c.in_err-watch_values.field-0.0 = search rules in
    rw same (found-stop _ _ c.args.part c.args.marks _ text
    (λ e. c.in_err-watch_values.ensures.write_fault e first [] none)
    (c.in_err-watch_values.ensures.read tells first [] choice ts text none at taken))

pub returns-clause-found : goal.returns-clause-found
returns-clause-found g c = λ tells choice ts text at taken.
    let first = c.in_ok-explainer.explainer in
    let now = c.in_ok-explainer.ensures in
    found-whole first c.watch_values.new.watcher _ c.explained.result c.args.part c.args.marks _ text now.part now.marks
    (c.in_ok-watch_values.ensures.read tells first [] choice ts text now.none at taken) c.explained.ensures
