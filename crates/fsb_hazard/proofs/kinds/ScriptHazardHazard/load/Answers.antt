use Rattle.fsb_hazard.proofs.kinds.ScriptHazardHazard.load.Goals as goal

pub invariant_of-self : goal.invariant_of-self
invariant_of-self c =
    rw c.in_ok-self-inside.ensures.items (record {
      choices_found = c.in_ok-choices.ensures;
      held_found = c.in_ok-held.ensures.held;
      in_order = c.in_ok-held.ensures.in_order;
    })
