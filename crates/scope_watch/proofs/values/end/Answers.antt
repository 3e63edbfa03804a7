use Rattle.std.proofs.Common.{rules, ◌≡◌, ◌≤◌, ◌++◌, length, Err, refl, ap, subst, ◌∙◌}
use Rattle.vcd_scan.specs.Standing.{tokens_after, told_after}
use Rattle.vcd_scan.specs.Ending.{told_to_end}
use Rattle.scope_watch.specs.Stops.{stop_of}
use Rattle.scope_watch.proofs.Stopping.{finishes-stop, ended-many}
use Rattle.scope_watch.proofs.Steps.{not-refused, last-shown, ends-well, ends-badly}
use Rattle.scope_watch.proofs.values.end.Goals as goal

pub finish-requires : goal.finish-requires
finish-requires g c = (c.requires.4, c.requires.5, c.requires.6.stands, c.requires.7)

pub returns-in_ok-show-in-Ok-clause-finishes : goal.returns-in_ok-show-in-Ok-clause-finishes
returns-in_ok-show-in-Ok-clause-finishes g c = λ first h m w head fed s.
    let last = c.in-Ok.ensures in
    let none = not-refused _ _ _ refl last.again in
    ends-well _ _ _ m w c.args.reader.now head fed s (last.answer head fed s.stands none) (last.early head fed s.stands)
    (c.limit-limit.ensures.held ∙ (last.marks head fed s.stands none).limit)
    (subst (λ es. g.W.EventWatcher.has_seen first c.show.new.watcher es)
    (last-shown m w c.args.reader.now c.finish.new.self head fed h s.rules s.wiring (s.taken none) (last.told head fed s.stands))
    (c.in_ok-show-in-Ok.ensures.shown first (h ++ told_after m w (tokens_after head fed)) (s.shown none)))

pub returns-in-Err-Bad-clause-finishes : goal.returns-in-Err-Bad-clause-finishes
returns-in-Err-Bad-clause-finishes g c = λ first h m w head fed s.
    let last = c.in-Err-Bad.ensures in
    ends-badly _ m w c.args.reader.now head fed c.in-Err-Bad.fault (Err c.in-Err-Bad.field-0) s
    (λ none. last.answer head fed s.stands none) (ap (λ stop. Err stop) c.in-Err-Bad.field-0-is) last.again

pub returns-in_err-show-in-Ok-clause-finishes : goal.returns-in_err-show-in-Ok-clause-finishes
returns-in_err-show-in-Ok-clause-finishes g c = λ first h m w head fed s.
    let same : c.from_residual.result ≡ Err (stop_of c.in_err-show-in-Ok.field-0.0) = search rules in
    let last = c.in-Ok.ensures in
    let none = not-refused _ _ _ refl last.again in
    rw same (finishes-stop c.in_err-show-in-Ok.field-0.0 _ _ m w head fed
    (λ e. ended-many g.W.EventWatcher.most h (told_to_end m w head fed)
    (subst (λ es. g.W.EventWatcher.most ≤ length es)
    (last-shown m w c.args.reader.now c.finish.new.self head fed h s.rules s.wiring (s.taken none) (last.told head fed s.stands))
    (c.in_err-show-in-Ok.ensures.many (ap (λ stop. Err stop) e) first (h ++ told_after m w (tokens_after head fed)) (s.shown none)))))
