use Rattle.std.proofs.Common.{◌++◌, ◌∷◌, [], length-append, arith, sym}
use Rattle.scope_explain.proofs.Following.{found-none, found-now, none-broken}
use Rattle.scope_explain.proofs.explaining.Explaining.judge.Goals as goal

pub returns-in-Ok-clause-stands : goal.returns-in-Ok-clause-stands
returns-in-Ok-clause-stands c = λ m w f.
    let x = c.args.sample.now in
    found-now m w x c.feed-self.result _ (sym c.if-is_some.ensures) f.unbroken (c.feed-self.ensures.verdict m w f.checker)
    (c.in-Ok.ensures m w (c.feed.ensures m w f.why) f.requests (c.unbroken_traces_are_orderly.ensures m w f.unbroken)
    f.no_reasons)

pub returns-in-Ok-feed-clause-stands : goal.returns-in-Ok-feed-clause-stands
returns-in-Ok-feed-clause-stands c = λ m w f.
    let x = c.args.sample.now in
    let unbroken = none-broken m w x c.feed-self.result (sym c.if-is_some.ensures) (c.feed-self.ensures.verdict m w f.checker) in
    let orderly = c.unbroken_traces_are_orderly.ensures in
    let more = c.feed-else-is_some.ensures.fed in
    found-none m w x c.feed-self.result _ (sym c.if-is_some.ensures)
    (record {
      unbroken = unbroken;
      checker = c.feed-self.ensures.stands m w f.checker;
      why = c.feed.ensures m w f.why;
      requests = c.in-Ok-feed.ensures.stands w f.requests (orderly m w f.unbroken) (orderly m (w ++ x ∷ []) unbroken);
      count = omega (arith, f.count, length-append w (x ∷ []));
      few = omega (arith, more, f.few);
      no_reasons = f.no_reasons;
    })
