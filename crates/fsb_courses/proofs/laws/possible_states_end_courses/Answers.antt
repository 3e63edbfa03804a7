use Rattle.fsb_courses.proofs.Ends.{ends_courses}
use Rattle.fsb_courses.proofs.laws.possible_states_end_courses.Goals as goal

pub returns : goal.returns
returns c = ends_courses
