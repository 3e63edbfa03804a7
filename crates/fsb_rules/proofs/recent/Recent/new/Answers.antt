use Rattle.std.proofs.Common.{refl}
use Rattle.fsb_trace.specs.At.{line_back}
use Rattle.fsb_arbiter.specs.Arbiter.{lines_back}
use Rattle.fsb_rules.specs.Recent.{asserted_back}
use Rattle.fsb_rules.proofs.recent.Recent.new.Goals as goal

pub returns : goal.returns
unfolding asserted_back lines_back line_back
returns c = record { first = refl; second = refl; third = refl; words = λ t. absurd (let no : ⊥ = cc in no) }
