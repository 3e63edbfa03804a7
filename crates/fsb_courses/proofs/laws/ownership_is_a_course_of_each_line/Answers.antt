use Rattle.fsb_courses.proofs.Explaining.{ownership_explained}
use Rattle.fsb_courses.proofs.laws.ownership_is_a_course_of_each_line.Goals as goal

pub returns : goal.returns
returns c = ownership_explained
