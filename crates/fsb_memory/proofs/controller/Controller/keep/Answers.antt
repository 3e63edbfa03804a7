use Rattle.fsb_memory.proofs.LineMaps.{line_in-other, is_mapped-written}
use Rattle.fsb_memory.proofs.controller.Controller.keep.Goals as goal

pub returns-clause-others : goal.returns-clause-others
returns-clause-others c = rw (← c.self.view_is)
    (line_in-other _ c.insert.new.self.entries c.args.line c.args.bytes c.in_ok-insert.ensures.updates)

pub returns-clause-named : goal.returns-clause-named
returns-clause-named c = rw (← c.self.view_is)
    (is_mapped-written _ c.insert.new.self.entries c.args.line c.args.bytes c.in_ok-insert.ensures.updates)
