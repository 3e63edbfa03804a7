use Rattle.std.proofs.Common.{rules, ◌≡◌, ◌≤◌, ◌++◌, length, Err, refl, sym, ap, subst, ◌∙◌}
use Rattle.vcd_scan.specs.Standing.{tokens_after, told_after}
use Rattle.scope_watch.proofs.Steps.{not-refused, more-shown, seen-more, seen-fault}
use Rattle.scope_watch.specs.Stops.{stop_of}
use Rattle.scope_watch.proofs.Stopping.{was-write-fault, was-too-many}
use Rattle.scope_watch.proofs.values.take.Goals as goal

pub feed-requires : goal.feed-requires
feed-requires g c = (c.requires.4, c.requires.5, c.requires.6.stands, c.requires.7)

pub returns-in_ok-show-in-Ok-clause-seen : goal.returns-in_ok-show-in-Ok-clause-seen
returns-in_ok-show-in-Ok-clause-seen g c = λ first h m w head fed s.
    let piece = c.args.piece.now in
    let fed_now = c.in-Ok.ensures in
    let shown_now = c.in_ok-show-in-Ok.ensures in
    let none = not-refused _ _ _ refl fed_now.again in
    seen-more _ _ m w c.args.reader.now c.feed.new.self c.show.new.reader head fed piece s fed_now.keeps shown_now.keeps
    (shown_now.stands head (fed ++ piece) (fed_now.stands head fed s.stands)) shown_now.events
    (shown_now.refusal ∙ fed_now.refusal)
    (subst (λ es. g.W.EventWatcher.has_seen first c.show.new.watcher es)
    (more-shown m w c.args.reader.now c.feed.new.self head fed piece h s.rules s.wiring (s.taken none) (fed_now.told head fed s.stands none))
    (shown_now.shown first (h ++ told_after m w (tokens_after head fed)) (s.shown none)))

pub returns-in-Err-Bad-clause-seen : goal.returns-in-Err-Bad-clause-seen
returns-in-Err-Bad-clause-seen g c = λ first h m w head fed s.
    let fed_now = c.in-Err-Bad.ensures in
    seen-fault _ _ m w c.args.reader.now c.feed.new.self head fed c.args.piece.now c.in-Err-Bad.field-0-0 (Err c.in-Err-Bad.field-0) s fed_now.keeps
    (fed_now.stands head fed s.stands) fed_now.refusal (λ none. fed_now.answer head fed s.stands none)
    (ap (λ stop. Err stop) c.in-Err-Bad.field-0-is) fed_now.again

pub returns-in_err-show-in-Ok-clause-write_fault : goal.returns-in_err-show-in-Ok-clause-write_fault
returns-in_err-show-in-Ok-clause-write_fault g c = λ e first h m w head fed s.
    let same : c.from_residual.result ≡ Err (stop_of c.in_err-show-in-Ok.field-0.0) = search rules in
    let none = not-refused _ _ _ refl c.in-Ok.ensures.again in
    c.in_err-show-in-Ok.ensures.failed (ap (λ stop. Err stop) (was-write-fault _ (sym same ∙ e))) first
    (h ++ told_after m w (tokens_after head fed)) (s.shown none)

pub returns-in_err-show-in-Ok-clause-many : goal.returns-in_err-show-in-Ok-clause-many
returns-in_err-show-in-Ok-clause-many g c = λ e first h m w head fed s.
    let piece = c.args.piece.now in
    let same : c.from_residual.result ≡ Err (stop_of c.in_err-show-in-Ok.field-0.0) = search rules in
    let fed_now = c.in-Ok.ensures in
    let none = not-refused _ _ _ refl fed_now.again in
    subst (λ es. g.W.EventWatcher.most ≤ length es)
    (more-shown m w c.args.reader.now c.feed.new.self head fed piece h s.rules s.wiring (s.taken none) (fed_now.told head fed s.stands none))
    (c.in_err-show-in-Ok.ensures.many (ap (λ stop. Err stop) (was-too-many _ (sym same ∙ e))) first
    (h ++ told_after m w (tokens_after head fed)) (s.shown none))
