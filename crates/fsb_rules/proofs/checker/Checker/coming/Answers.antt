use Rattle.std.proofs.Common.{refl, sym, ap, ◌∙◌, is_some}
use Rattle.std.proofs.lemmas.Bool.{both_ways}
use Rattle.fsb_count.proofs.Interface.{is_some-none}
use Rattle.fsb_laws.proofs.Interface.{one_more}
use Rattle.fsb_trace.specs.Verdict.{verdict}
use Rattle.fsb_rules.proofs.ComingChunks.{found_none, on_way, unbroken_now}
use Rattle.fsb_rules.proofs.Feeds.{as_broken-none, comes}
use Rattle.fsb_rules.proofs.LeastRule.{unbroken_in_time}
use Rattle.fsb_rules.proofs.QueueRules.{orderly_after}
use Rattle.fsb_rules.proofs.checker.Checker.coming.Goals as goal

pub returns-then-has-clause-some : goal.returns-then-has-clause-some
returns-then-has-clause-some c = λ m h s e.
    let f = found_none m c.args.self.now h c.args.sample.now s e in
    let t = unbroken_in_time (comes c.args.sample.now s f _ refl) (unbroken_now m h c.args.sample.now e) in
    c.coming.ensures.some h t (sym c.has.ensures ∙ c.if-has.true)

pub returns-then-has-clause-none : goal.returns-then-has-clause-none
returns-then-has-clause-none c = λ m h s e none i n clock.
    let f = found_none m c.args.self.now h c.args.sample.now s e in
    let t = unbroken_in_time (comes c.args.sample.now s f _ refl) (unbroken_now m h c.args.sample.now e) in
    both_ways _ (c.coming.ensures.none h t none)
    (on_way h c.args.sample.now _ i n (one_more h c.args.sample.now) (orderly_after t) clock).1

pub returns-then-has-clause-broken : goal.returns-then-has-clause-broken
returns-then-has-clause-broken c = λ m h s some.
    let none = is_some-none c.args.self.now.found c.if-is_none.ensures in
    absurd (both_ways (is_some (verdict m h)) (ap (λ o. is_some o) (as_broken-none (verdict m h) (sym s.found ∙ none)))
    some)

pub returns-then-has-clause-quiet : goal.returns-then-has-clause-quiet
returns-then-has-clause-quiet c = λ off.
    absurd (both_ways _ off (sym c.has.ensures ∙ c.if-has.true))

pub returns-else-has-clause-none : goal.returns-else-has-clause-none
returns-else-has-clause-none c = λ m h s e none i n clock.
    let f = found_none m c.args.self.now h c.args.sample.now s e in
    let t = unbroken_in_time (comes c.args.sample.now s f _ refl) (unbroken_now m h c.args.sample.now e) in
    both_ways _ (sym c.has.ensures ∙ c.if-has.false)
    (on_way h c.args.sample.now _ i n (one_more h c.args.sample.now) (orderly_after t) clock).0

pub returns-else-is_none-clause-none : goal.returns-else-is_none-clause-none
returns-else-is_none-clause-none c = λ m h s e none i n clock.
    let f = found_none m c.args.self.now h c.args.sample.now s e in
    both_ways (is_some c.args.self.now.found) (ap (λ o. is_some o) f) c.if-is_none.ensures
