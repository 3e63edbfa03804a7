use Rattle.std.proofs.Common.{rules, ◌≡◌, [], Err}
use Rattle.scope_parts.specs.Standing.{fault_of}
use Rattle.scope_watch.specs.declared.check.Judge.{Judge}
use Rattle.scope_watch.proofs.Checks.{judged-stop, judged-told, not-read}
use Rattle.scope_watch.proofs.Clocks.{fed-none}
use Rattle.scope_watch.proofs.check.judge_values.Goals as goal

pub watch_values-requires-clause-ready : goal.watch_values-requires-clause-ready
watch_values-requires-clause-ready g c =
    let judge : Judge = record { judging = c.new-judging.result; plan = c.args.plan; marks = c.args.marks; last = c.in_ok-last.last } in
    (judge, [], (c.new-judging.ensures, fed-none _ (fault_of c.new-judging.result) c.in_ok-last.ensures))

pub returns-in_err-ended-clause-judged : goal.returns-in_err-ended-clause-judged
returns-in_err-ended-clause-judged g c = λ tells choice ts text at taken.
    let judge : Judge = record { judging = c.new-judging.result; plan = c.args.plan; marks = c.args.marks; last = c.in_ok-last.last } in
    let same : c.from_residual-in_err-ended.result ≡ Err c.in_err-ended.field-0.0 = search rules in
    rw same (judged-stop _ _ c.args.plan c.args.marks _ text
    (λ e. c.in_err-ended.ensures.write_fault e judge [] (c.new-judging.ensures, fed-none _ (fault_of c.new-judging.result) c.in_ok-last.ensures))
    (c.in_err-ended.ensures.read tells judge [] choice ts text
    (c.new-judging.ensures, fed-none _ (fault_of c.new-judging.result) c.in_ok-last.ensures) at taken))

pub returns-clause-judged : goal.returns-clause-judged
returns-clause-judged g c = λ tells choice ts text at taken.
    let judge : Judge = record { judging = c.new-judging.result; plan = c.args.plan; marks = c.args.marks; last = c.in_ok-last.last } in
    let read = c.in_ok-ended.ensures.read tells judge [] choice ts text
    (c.new-judging.ensures, fed-none _ (fault_of c.new-judging.result) c.in_ok-last.ensures) at taken in
    judged-told c.told_of.result c.args.plan c.args.marks _ text c.in_ok-ended.ended read.none read.early_end read.limit
    (c.told_of.ensures.told c.args.plan c.args.marks _ read.shown.0 read.shown.1) c.told_of.ensures.stop
    (c.told_of.ensures.many c.args.plan c.args.marks _ read.shown.0)

pub returns-clause-read_fault : goal.returns-clause-read_fault
returns-clause-read_fault g c = λ e. absurd (not-read c.told_of.result c.told_of.ensures.stop e)
