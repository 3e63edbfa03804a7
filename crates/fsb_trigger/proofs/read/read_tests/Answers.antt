use Rattle.std.proofs.Common.{◌≡◌, ◌∙◌, None, sym, ap, arith, rules}
use Rattle.fsb_trigger.specs.Grammar.{parts, test_of, tests_of}
use Rattle.fsb_trigger.proofs.Cut.{parts-some, parts-none}
use Rattle.fsb_trigger.proofs.Behind.{list_behind, list_behind-begins, list_behind-none, list_behind-some}
use Rattle.fsb_trigger.proofs.Behind.{list_behind-last}
use Rattle.fsb_trigger.proofs.read.read_tests.Goals as goal

pub loop-first-init : goal.loop-first-init
unfolding tests_of
loop-first-init c = (
  ap (λ xs. list_behind test_of xs (parts 44 c.args.text.now)) c.new-tests.ensures
      ∙ list_behind-begins test_of (parts 44 c.args.text.now),
  search rules,
)

pub returns-in_err-tests : goal.returns-in_err-tests
returns-in_err-tests c =
    let l = c.loop-first in
    let gone : c.from_residual.result ≡ None = grind arith in
    let turn = parts-some 44 l.rest.now c.in-Some.first.now c.in-Some.more.now
    (rw c.in-Some.is at c.cut.ensures.value) in
    let none = list_behind-none test_of l.tests.items c.in-Some.first.now (parts 44 c.in-Some.more.now)
    (sym c.in_err-tests.ensures) in
    rw gone (sym none ∙ ap (list_behind test_of l.tests.items) (sym turn) ∙ l.invariant.0)

pub loop-first-preserved : goal.loop-first-preserved
loop-first-preserved c =
    let l = c.loop-first in
    let turn = parts-some 44 l.rest.now c.in-Some.first.now c.in-Some.more.now
    (rw c.in-Some.is at c.cut.ensures.value) in
    let some = list_behind-some test_of l.tests.items c.in_ok-tests.tests.items c.in-Some.first.now
    (parts 44 c.in-Some.more.now) (sym c.in_ok-tests.ensures) in
    (sym some ∙ ap (list_behind test_of l.tests.items) (sym turn) ∙ l.invariant.0, search rules)

pub returns : goal.returns
returns c =
    let l = c.loop-first in
    let turn = parts-none 44 l.rest.now (rw c.in_default.is at c.cut.ensures.value) in
    c.with_test-2.ensures ∙ list_behind-last test_of l.tests.items l.rest.now
    ∙ ap (list_behind test_of l.tests.items) (sym turn) ∙ l.invariant.0
