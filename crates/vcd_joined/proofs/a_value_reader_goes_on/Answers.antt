use Rattle.vcd_joined.proofs.Values.{known-behind, happened-behind}
use Rattle.vcd_joined.proofs.a_value_reader_goes_on.Goals as goal

pub returns-clause-known : goal.returns-clause-known
returns-clause-known c = known-behind

pub returns-clause-happened : goal.returns-clause-happened
returns-clause-happened c = happened-behind
