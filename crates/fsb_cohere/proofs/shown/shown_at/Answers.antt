use Rattle.std.proofs.Common.{◌≡◌, ◌-◌, ◌<◌, ℕ, length, subst, sym, ap, ◌∙◌, arith}
use Rattle.fsb_owner_fails.specs.Fails.{fails_at}
use Rattle.fsb_owner_rows.specs.Kept.{AreKeptAt}
use Rattle.fsb_owner_judge.specs.Sights.{asking_at, line_end_at}
use Rattle.fsb_cohere.proofs.Showing.{before_last, last, past, shows}
use Rattle.fsb_cohere.proofs.shown.shown_at.Goals as goal

pub returns-clause-shows : goal.returns-clause-shows
returns-clause-shows c = λ first h x v waits g e w.
    let at : c.saturating_sub-before.result ≡ length h - 1 = c.saturating_sub-before.ensures ∙ ap (λ k. k - 1) e in
    let here : AreKeptAt c.args.rows.now v c.args.clock = subst (AreKeptAt c.args.rows.now v) (sym e) (last g) in
    let earlier = λ (z : 0 < length h). subst (AreKeptAt c.args.rows.now v) (sym at) (before_last g z) in
    let fails = λ (line : ℕ). c.failed_at-failed.ensures v line here ∙ ap (λ n. fails_at v n line) e in
    let size = g.more.size in
    shows g c.asking_at-begun.result c.line_end_at-ended_before.result c.line_end_at-ended.result c.failed_at-failed.result
    c.is_given_again-is_given_again.result waits
    (λ z. c.asking_at-begun.ensures.traced v (earlier z) (omega (arith, at, size, z)) ∙ ap (asking_at v) at)
    (λ z. c.line_end_at-ended_before.ensures.traced v (earlier z) ∙ ap (line_end_at v) at)
    (c.line_end_at-ended.ensures.traced v here ∙ ap (line_end_at v) e)
    fails
    (λ none. c.is_given_again-is_given_again.ensures first h x v (past g c.failed_at-failed.result fails none))
    w
