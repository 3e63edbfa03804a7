use Rattle.std.proofs.Common.{◌∙◌, sym}
use Rattle.vcd_way.specs.Events.{Sampled}
use Rattle.scope_check.proofs.Turns.{quiet-counted, quiet-none}
use Rattle.scope_check.proofs.parting.quiet_with.Goals as goal

pub returns-then-is_quiet-clause-more : goal.returns-then-is_quiet-clause-more
returns-then-is_quiet-clause-more c t =
    quiet-counted c.args.run (Sampled c.args.sample.now t) c.one_more.result (sym (c.is_quiet.ensures t) ∙ c.if-is_quiet.true)
    c.one_more.ensures.more

pub returns-else-is_quiet-clause-more : goal.returns-else-is_quiet-clause-more
returns-else-is_quiet-clause-more c t =
    quiet-none c.args.run (Sampled c.args.sample.now t) (sym (c.is_quiet.ensures t) ∙ c.if-is_quiet.false)
