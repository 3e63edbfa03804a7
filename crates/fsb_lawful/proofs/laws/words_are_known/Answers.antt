use Rattle.fsb_lawful.proofs.KnownWords.{keeps-1, keeps-17}
use Rattle.fsb_lawful.proofs.laws.words_are_known.Goals as goal

pub returns-clause-control_lines : goal.returns-clause-control_lines
returns-clause-control_lines c = keeps-1

pub returns-clause-data : goal.returns-clause-data
returns-clause-data c = keeps-17
