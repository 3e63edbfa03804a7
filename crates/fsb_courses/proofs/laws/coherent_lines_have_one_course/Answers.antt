use Rattle.fsb_courses.proofs.Explaining.{one_course}
use Rattle.fsb_courses.proofs.laws.coherent_lines_have_one_course.Goals as goal

pub returns : goal.returns
returns c = one_course
