use Rattle.fsb_top.proofs.Answered.{never-both, never-faulty, never-long, some-answer}
use Rattle.fsb_top.proofs.laws.files_have_one_answer.Goals as goal

pub returns-clause-some : goal.returns-clause-some
returns-clause-some c = some-answer c.one_answer.ensures.either

pub returns-clause-not_faulty : goal.returns-clause-not_faulty
returns-clause-not_faulty c = never-faulty c.one_answer.ensures.not_both

pub returns-clause-not_long : goal.returns-clause-not_long
returns-clause-not_long c = never-long

pub returns-clause-not_both : goal.returns-clause-not_both
returns-clause-not_both c = never-both
