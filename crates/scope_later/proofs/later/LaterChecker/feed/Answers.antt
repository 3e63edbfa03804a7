use Rattle.std.proofs.Common.{◌≡◌, ◌∙◌, ◌++◌, ◌∷◌, [], ap}
use Rattle.scope_later.specs.Findings.{found_behind, found_later, later_of}
use Rattle.scope_later.proofs.later.LaterChecker.feed.Goals as goal

pub returns-clause-found : goal.returns-clause-found
unfolding found_later
returns-clause-found c m h s =
    let v = h ++ c.args.sample.now ∷ [] in
    let one = c.feed_behind-one.result in
    let three = c.feed_behind-three.result in
    let low : c.later_of-low.result ≡ later_of (found_behind 0 m v) (found_behind 1 m v) =
    c.later_of-low.ensures ∙ ap (λ x. later_of x one) (c.feed_behind-zero.ensures.found 0 m h s.zero)
    ∙ ap (λ x. later_of (found_behind 0 m v) x) (c.feed_behind-one.ensures.found 1 m h s.one) in
    let high : c.later_of-high.result ≡ later_of (found_behind 2 m v) (found_behind 3 m v) =
    c.later_of-high.ensures ∙ ap (λ x. later_of x three) (c.feed_behind-two.ensures.found 2 m h s.two)
    ∙ ap (λ x. later_of (found_behind 2 m v) x) (c.feed_behind-three.ensures.found 3 m h s.three) in
    c.later_of.ensures ∙ ap (λ x. later_of x c.later_of-high.result) low
    ∙ ap (λ x. later_of (later_of (found_behind 0 m v) (found_behind 1 m v)) x) high
