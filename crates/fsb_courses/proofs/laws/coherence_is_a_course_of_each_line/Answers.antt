use Rattle.fsb_courses.proofs.Explaining.{coherence_explained}
use Rattle.fsb_courses.proofs.laws.coherence_is_a_course_of_each_line.Goals as goal

pub returns : goal.returns
returns c = coherence_explained
