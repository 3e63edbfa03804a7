use Rattle.fsb_tied.proofs.WrittenAlone.{writes-back-alone}
use Rattle.fsb_tied.proofs.laws.lines_are_written_back_alone.Goals as goal

pub returns : goal.returns
returns c = writes-back-alone
