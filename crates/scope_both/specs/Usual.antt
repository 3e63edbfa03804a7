-- The rules by which a dump of any tool is read, where nothing else is asked for.
use Rattle.std.specs.Prelude.{Bool}
use Rattle.vcd_way.specs.Ways.{ValueRules}
use Rattle.vcd_way.specs.Wide.{wide_rules}

-- what is let pass by default, whether or not a text may end early
abbrev pub usual_rules : Bool → ValueRules
usual_rules ends_early = record wide_rules { ends_early = ends_early }
