use Rattle.reason_facts.proofs.Names.{named_on}
use Rattle.reason_facts.proofs.unknown.names_value.Goals as goal

pub loop-number-preserved : goal.loop-number-preserved
loop-number-preserved c =
    named_on c.args.lines c.loop-number.number _ _ (search) c.loop-number.invariant c.in_ok-put_name.ensures
