use Rattle.std.proofs.Common.{◌∙◌, ◌||◌, ap}
use Rattle.fsb_owner_judge.specs.Lines.{is_waiting}
use Rattle.fsb_owner_sights.proofs.WaitLists.{names_none, names_some, ok_more}
use Rattle.fsb_owner_sights.proofs.waits.add_row.Goals as goal

pub returns-in-Some-clause-lines : goal.returns-in-Some-clause-lines
returns-in-Some-clause-lines c =
    ok_more c.add_line.result
    (λ lines other.
    lines other
    ∙ ap (λ b. is_waiting c.args.waits.now.items other || b) (names_some c.args.row.now c.in-Some.line other c.in-Some.ensures))
    c.add_line.ensures.lines

pub returns-in-None-clause-lines : goal.returns-in-None-clause-lines
returns-in-None-clause-lines c =
    λ other. names_none c.args.row.now other (is_waiting c.args.waits.now.items other) c.in-None.ensures
