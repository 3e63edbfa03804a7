use Rattle.std.proofs.Common.{subst, sym}
use Rattle.fsb_calls.specs.Calls.{held, left_of, named_as}
use Rattle.fsb_headline.proofs.Verdicts.{accepted, accepted-table, not-both, rejected, rejected-table}
use Rattle.fsb_calls.specs.FileSays.{HasTable, HasVerdict}
use Rattle.fsb_calls.specs.StatusSays.{HasRun}
use Rattle.fsb_headline.proofs.laws.verdicts_are_first_and_least.Goals as goal

pub returns-clause-accepted : goal.returns-clause-accepted
returns-clause-accepted g c call ends tells name e is =
    accepted name (held call) (left_of call) (named_as call)
    (subst (λ s. HasVerdict s name (held call) (left_of call) (named_as call)) is
    (c.files_are_read_as_told.ensures.judged call ends tells name e (subst HasRun (sym is) tt)))

pub returns-clause-rejected : goal.returns-clause-rejected
returns-clause-rejected g c call ends tells name first e is =
    rejected name (held call) (left_of call) (named_as call) first
    (subst (λ s. HasVerdict s name (held call) (left_of call) (named_as call)) is
    (c.files_are_read_as_told.ensures.judged call ends tells name e (subst HasRun (sym is) tt)))

pub returns-clause-accepted_table : goal.returns-clause-accepted_table
returns-clause-accepted_table g c call ends tells name e is =
    accepted-table name (held call) (left_of call) (named_as call)
    (subst (λ s. HasTable s name (held call) (left_of call) (named_as call)) is
    (c.files_are_read_as_told.ensures.tabled call ends tells name e (subst HasRun (sym is) tt)))

pub returns-clause-rejected_table : goal.returns-clause-rejected_table
returns-clause-rejected_table g c call ends tells name first e is =
    rejected-table name (held call) (left_of call) (named_as call) first
    (subst (λ s. HasTable s name (held call) (left_of call) (named_as call)) is
    (c.files_are_read_as_told.ensures.tabled call ends tells name e (subst HasRun (sym is) tt)))

pub returns-clause-not_both : goal.returns-clause-not_both
returns-clause-not_both g c = not-both
