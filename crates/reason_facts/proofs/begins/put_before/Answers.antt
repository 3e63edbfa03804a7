use Rattle.reason_facts.proofs.begins.put_before.Goals as goal

pub returns : goal.returns
returns c = rw c.saturating_sub.ensures at c.put_clock.ensures
