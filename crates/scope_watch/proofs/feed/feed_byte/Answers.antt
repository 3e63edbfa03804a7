use Rattle.std.proofs.Common.{[], ◌∷◌, ◌++◌, take, sym, subst, ◌∙◌}
use Rattle.vcd_header.specs.Gathering.{FitsRules}
use Rattle.scope_watch.proofs.Headers.{byte-read}
use Rattle.scope_watch.proofs.feed.feed_byte.Goals as goal

pub returns : goal.returns
returns c = λ fed o.
    let now = c.in_ok-_used.ensures in
    let rules = now.rules ∙ o.holds.rules in
    let stands = now.stands fed o.holds.stands in
    byte-read c.feed.new.self fed c.args.byte c.in_ok-_used._used c.is_over.result o.early stands now.refusal rules
    now.within (λ few. c.is_over.ensures.over ∙ now.all few)
    (λ m f. c.is_over.ensures.state m (fed ++ take c.in_ok-_used._used (c.args.byte ∷ []))
    (subst (λ x. FitsRules m x) (sym rules) f) stands now.refusal)
