use Rattle.std.proofs.Common.{subst}
use Rattle.fsb_calls.specs.Calls.{held, left_of, named_as}
use Rattle.fsb_headline.proofs.InPieces.{pieces-of}
use Rattle.fsb_headline.proofs.Refused.{bad-bench, bad-dump, bad-table}
use Rattle.fsb_calls.specs.FileSays.{FromLook, FromRun, IsBadBench, IsBadDump, IsBadTable}
use Rattle.fsb_headline.proofs.laws.refusals_name_the_first_fault.Goals as goal

pub returns-clause-bench : goal.returns-clause-bench
returns-clause-bench g c call ends tells name dump fault e is =
    bad-bench c.one_answer.ensures.one_fault c.one_answer.ensures.not_both name (held call) (left_of call)
    (named_as call) fault
    (subst (λ w. FromRun w (λ n. IsBadBench n (held call) (left_of call) (named_as call) fault)) e
    (c.statuses_have_causes.ensures.bad_bench call ends tells fault is))

pub returns-clause-dump : goal.returns-clause-dump
returns-clause-dump g c call ends tells form name fault pieces e is =
    bad-dump name (held call) (left_of call) (named_as call) fault
    (pieces-of form name (λ n. IsBadDump n (held call) (left_of call) (named_as call) fault)
    (λ n. IsBadTable n (held call) (left_of call) (named_as call) fault) pieces
    (subst (λ w. FromLook w (λ n. IsBadDump n (held call) (left_of call) (named_as call) fault)
    (λ n. IsBadTable n (held call) (left_of call) (named_as call) fault)) e
    (c.statuses_have_causes.ensures.bad_dump call ends tells fault is)))

pub returns-clause-table : goal.returns-clause-table
returns-clause-table g c call ends tells name fault e is =
    bad-table name (held call) (left_of call) (named_as call) fault
    (subst (λ w. FromLook w (λ n. IsBadDump n (held call) (left_of call) (named_as call) fault)
    (λ n. IsBadTable n (held call) (left_of call) (named_as call) fault)) e
    (c.statuses_have_causes.ensures.bad_dump call ends tells fault is))
