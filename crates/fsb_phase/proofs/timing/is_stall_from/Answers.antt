use Rattle.std.proofs.Common.{◌∙◌, ap, nat_lt, arith}
use Rattle.std.proofs.lemmas.Bool.{ne_eqb}
use Rattle.fsb_phase.proofs.TimingFacts.{stall-before, stall-even, stall-odd}
use Rattle.fsb_phase.proofs.timing.is_stall_from.Goals as goal

pub returns-then-c-start : goal.returns-then-c-start
returns-then-c-start c = stall-before c.args.stall c.args.c c.args.start c.if-c-start.true

pub returns-then-after-eq0 : goal.returns-then-after-eq0
returns-then-after-eq0 c =
    ap (nat_lt _) c.from.ensures ∙ stall-even c.args.stall c.args.c c.args.start (omega arith) c.if-after-eq0.true

pub returns-else-after-eq0 : goal.returns-else-after-eq0
returns-else-after-eq0 c = ne_eqb _ _ c.if-after-eq0.false
    ∙ stall-odd c.args.stall c.args.c c.args.start (omega arith) c.if-after-eq0.false
