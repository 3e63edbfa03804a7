use Rattle.fsb_courses.proofs.Runs.{run_course, run_unbroken}
use Rattle.fsb_courses.proofs.laws.runs_of_the_machine_are_courses.Goals as goal

pub returns : goal.returns
returns c = record { course = run_course; unbroken = run_unbroken }
