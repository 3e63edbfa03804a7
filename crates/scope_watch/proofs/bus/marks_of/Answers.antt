use Rattle.std.proofs.Common.{◌∙◌}
use Rattle.scope_watch.proofs.Wiring.{lines-wired}
use Rattle.scope_watch.proofs.bus.marks_of.Goals as goal

pub returns : goal.returns
returns c = (λ i. record {
  ap = (c.is_wired.ensures ∙ lines-wired c.args.wires.now 20) i;
  rp = (c.is_wired-2.ensures ∙ lines-wired c.args.wires.now 21) i;
})
