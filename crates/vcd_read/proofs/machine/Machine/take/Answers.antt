use Rattle.std.proofs.Common.{sym, ◌∙◌, ap}
use Rattle.vcd_read.specs.ReaderView.{mode_of}
use Rattle.vcd_read.specs.Taking.{taken}
use Rattle.vcd_read.proofs.Absorbing.{ok_anyway}
use Rattle.vcd_read.proofs.Quiet.{silent_variable, silent_closing}
use Rattle.vcd_read.proofs.machine.Machine.take.Goals as goal

pub returns-in-Variable-clause-samples : goal.returns-in-Variable-clause-samples
returns-in-Variable-clause-samples c =
    let m = c.args.self.now in
    ok_anyway c.variable.result
    (silent_variable (taken m) _ _ c.args.limit m.decided c.args.to.now.items (sym c.is_some.ensures
    ∙ c.if-is_some.false) (ap (λ mode. mode_of mode m.code.items m.digits.items) c.in-Variable.is))

pub returns-in-Closing-clause-samples : goal.returns-in-Closing-clause-samples
returns-in-Closing-clause-samples c =
    let m = c.args.self.now in
    silent_closing (taken m) _ _ c.args.limit m.decided c.args.to.now.items (sym c.is_some.ensures
    ∙ c.if-is_some.false) (ap (λ mode. mode_of mode m.code.items m.digits.items) c.in-Closing.is)
