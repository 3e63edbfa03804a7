use Rattle.std.proofs.Common.{◌+◌, ◌-◌, ◌*◌, ◌<◌, ◌≡◌, ap, ◌∙◌, arith}
use Rattle.fsb_phase.proofs.TimingFacts.{chunk-due, chunk-none}
use Rattle.fsb_phase.proofs.timing.chunk_from.Goals as goal

pub returns-then-c-r-2-clause-value : goal.returns-then-c-r-2-clause-value
returns-then-c-r-2-clause-value c =
    let far : c.args.c - c.args.r ≡ c.loop-n.n * (1 + c.args.gap) =
    c.if-c-r-2.true ∙ ap (λ m. m * (1 + c.from-step.result)) c.from.ensures
    ∙ ap (λ m. c.loop-n.n * (1 + m)) c.from-step.ensures in
    chunk-due c.args.gap c.args.c c.args.r c.loop-n.n c.loop-n-test.true (omega arith) c.loop-n.invariant

pub returns-clause-value : goal.returns-clause-value
returns-clause-value c =
    chunk-none c.args.gap c.args.c c.args.r
    (λ k l. c.loop-n.invariant k (let below : k < c.loop-n.n = omega arith in below))
