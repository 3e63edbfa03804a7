use Rattle.std.proofs.Common.{arith}
use Rattle.std.proofs.lemmas.Grind.{common_steps}
use Rattle.fsb_rules.proofs.BeginRules.{wrong_begun}
use Rattle.fsb_rules.proofs.outstanding.Outstanding.is_begun_wrongly.Goals as goal

pub returns-then-is_reply : goal.returns-then-is_reply
returns-then-is_reply c = λ h x w. let e = wrong_begun w in grind (arith, common_steps)

pub returns-then-is_taken : goal.returns-then-is_taken
returns-then-is_taken c = λ h x w. let e = wrong_begun w in grind (arith, common_steps)

pub returns-else-is_taken : goal.returns-else-is_taken
returns-else-is_taken c = λ h x w. let e = wrong_begun w in grind (arith, common_steps)
