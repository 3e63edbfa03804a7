use Rattle.fsb_owner_laws.proofs.AgreePossible.{possible-agree}
use Rattle.fsb_owner_laws.proofs.laws.possible_states_rest_on_the_past.Goals as goal

pub returns : goal.returns
returns c =
    λ n first w v line b a left right. possible-agree n first w v line b (record { agree = a; left = left; right = right })
