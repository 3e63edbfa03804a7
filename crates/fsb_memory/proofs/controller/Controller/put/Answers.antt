use Rattle.std.proofs.Common.{IsTrue}
use Rattle.fsb_memory.specs.Controller.{is_mapped}
use Rattle.fsb_memory.proofs.LineMaps.{line_in-written, line_in-other, is_mapped-held, held-written}
use Rattle.fsb_memory.proofs.controller.Controller.put.Goals as goal

pub returns-clause-put : goal.returns-clause-put
returns-clause-put c =
    let held : IsTrue (is_mapped c.self.inside.lines.entries c.args.line) = rw c.self.view_is c.requires in
    line_in-written c.self.inside.lines.entries c.replace.new.self.entries c.args.line c.args.bytes
    (held-written c.replace.result _ _ c.args.line c.args.bytes c.replace.ensures.updates c.replace.ensures.absent held)

pub returns-clause-others : goal.returns-clause-others
returns-clause-others c =
    let held : IsTrue (is_mapped c.self.inside.lines.entries c.args.line) = rw c.self.view_is c.requires in
    rw (← c.self.view_is) (line_in-other c.self.inside.lines.entries c.replace.new.self.entries c.args.line c.args.bytes
    (held-written c.replace.result _ _ c.args.line c.args.bytes c.replace.ensures.updates c.replace.ensures.absent held))

pub returns-clause-named : goal.returns-clause-named
returns-clause-named c =
    let held : IsTrue (is_mapped c.self.inside.lines.entries c.args.line) = rw c.self.view_is c.requires in
    rw (← c.self.view_is) (is_mapped-held c.self.inside.lines.entries c.replace.new.self.entries c.args.line c.args.bytes
    (held-written c.replace.result _ _ c.args.line c.args.bytes c.replace.ensures.updates c.replace.ensures.absent held)
    held)
