use Rattle.fsb_courses.proofs.Found.{before_explained, there_unexplained}
use Rattle.fsb_courses.proofs.laws.broken_ownership_ends_the_courses.Goals as goal

pub returns : goal.returns
returns c = record { before = before_explained; there = there_unexplained }
