use Rattle.scope_way.proofs.Lawfulness.{way_is_lawful}
use Rattle.scope_way.proofs.laws.wired_ways_are_lawful.Goals as goal

pub returns : goal.returns
returns c = record {
  chosen = way_is_lawful;
  picked = λ ws rules fit. way_is_lawful (λ ds. ws) rules (λ ds. fit);
}
