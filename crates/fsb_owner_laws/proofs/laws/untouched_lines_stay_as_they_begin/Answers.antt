use Rattle.std.proofs.Common.{[], ◌∷◌}
use Rattle.fsb_owners.specs.Joint.{every_joint, unheld}
use Rattle.fsb_owner_laws.proofs.Untouched.{every_settled, unheld_settled, untouched}
use Rattle.fsb_owner_laws.proofs.laws.untouched_lines_stay_as_they_begin.Goals as goal

pub returns : goal.returns
returns c = record {
  empty = λ v line b o n. untouched (unheld ∷ []) v line b unheld_settled o n;
  unknown = λ v line b o n. untouched every_joint v line b every_settled o n;
}
