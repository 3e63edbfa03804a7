use Rattle.fsb_courses.proofs.Answers.{hit_says, hitm_says}
use Rattle.fsb_courses.proofs.laws.snoops_are_answered_by_the_others.Goals as goal

pub returns : goal.returns
returns c = record { hitm = hitm_says; hit = hit_says }
