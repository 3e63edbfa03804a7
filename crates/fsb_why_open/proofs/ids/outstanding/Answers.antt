use Rattle.std.proofs.Common.{subst, [], ◌∷◌, ◌++◌}
use Rattle.fsb_owner_feed.specs.Begins.{SaysBegins}
use Rattle.fsb_why.specs.Explains.{Explains}
use Rattle.fsb_why_open.proofs.Taking.{begins_from, none_begun}
use Rattle.fsb_why_open.proofs.ids.outstanding.Goals as goal

pub returns-in-Some : goal.returns-in-Some
returns-in-Some c = λ m h g.
    let x : _ = c.args.sample.now in
    let p = begins_from c.rows.result.now h x c.in-Some.begun c.request.result c.args.clock c.saturating_sub.result
    (c.rows.ensures h g.stands) g.orderly g.clock c.saturating_sub.ensures
    (subst (λ o. SaysBegins o h) c.in-Some.is (c.begun_last.ensures h g.stands)) c.request.ensures in
    subst (λ n. Explains m (h ++ x ∷ []) n 18 c.begun_wrongly.result) p.1 (c.begun_wrongly.ensures m h x p.0)

pub returns-in-None : goal.returns-in-None
returns-in-None c = λ m h g.
    none_begun m h c.args.sample.now c.args.clock g.clock
    (subst (λ o. SaysBegins o h) c.in-None.is (c.begun_last.ensures h g.stands))
