use Rattle.std.proofs.Common.{◌≡◌, ◌∙◌, None, map, sym, ap, arith, rules}
use Rattle.fsb_trigger.specs.Grammar.{parts, step_read, steps_read}
use Rattle.fsb_trigger.specs.TriggerSteps.{view_of}
use Rattle.fsb_trigger.proofs.Cut.{parts-some, parts-none}
use Rattle.fsb_trigger.proofs.Behind.{list_behind, list_behind-begins, list_behind-none, list_behind-some}
use Rattle.fsb_trigger.proofs.Behind.{list_behind-last}
use Rattle.fsb_trigger.proofs.read.read_steps.Goals as goal

pub loop-first-init : goal.loop-first-init
unfolding steps_read
loop-first-init c = (
  ap (λ xs. list_behind step_read (map view_of xs) (parts 47 c.args.word.now)) c.new-steps.ensures
      ∙ list_behind-begins step_read (parts 47 c.args.word.now),
  search rules,
)

pub returns-in_err-steps : goal.returns-in_err-steps
returns-in_err-steps c =
    let l = c.loop-first in
    let gone : c.from_residual.result ≡ None = grind arith in
    let turn = parts-some 47 l.rest.now c.in-Some.first.now c.in-Some.more.now
    (rw c.in-Some.is at c.cut.ensures.value) in
    let none = list_behind-none step_read (map view_of l.steps.items) c.in-Some.first.now
    (parts 47 c.in-Some.more.now) (sym c.in_err-steps.ensures) in
    rw gone (sym none ∙ ap (list_behind step_read (map view_of l.steps.items)) (sym turn) ∙ l.invariant.0)

pub loop-first-preserved : goal.loop-first-preserved
loop-first-preserved c =
    let l = c.loop-first in
    let turn = parts-some 47 l.rest.now c.in-Some.first.now c.in-Some.more.now
    (rw c.in-Some.is at c.cut.ensures.value) in
    let some = list_behind-some step_read (map view_of l.steps.items) (map view_of c.in_ok-steps.steps.items)
    c.in-Some.first.now (parts 47 c.in-Some.more.now) (sym c.in_ok-steps.ensures) in
    (sym some ∙ ap (list_behind step_read (map view_of l.steps.items)) (sym turn) ∙ l.invariant.0, search rules)

pub returns : goal.returns
returns c =
    let l = c.loop-first in
    let turn = parts-none 47 l.rest.now (rw c.in_default.is at c.cut.ensures.value) in
    c.with_step-2.ensures ∙ list_behind-last step_read (map view_of l.steps.items) l.rest.now
    ∙ ap (list_behind step_read (map view_of l.steps.items)) (sym turn) ∙ l.invariant.0
