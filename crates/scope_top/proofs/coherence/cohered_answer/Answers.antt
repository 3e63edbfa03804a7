use Rattle.std.proofs.lemmas.Result.{IfOk-weaker}
use Rattle.scope_top.specs.Performing.{EndsCohered, EndsCoheredAs}
use Rattle.scope_top.proofs.coherence.cohered_answer.Goals as goal

pub returns-clause-ends : goal.returns-clause-ends
returns-clause-ends g c = λ tells. IfOk-weaker c.end_answer.result
    (λ a. EndsCoheredAs c.coherence_of-end.result a.ending)
    (λ a. EndsCohered c.args.choice.now c.args.sampling (g.S.Source.holds c.args.dump.now) c.args.part a.ending)
    (λ a ends. record {
      answer = c.coherence_of-end.result;
      is_cohered = c.coherence_of-end.ensures.cohered tells;
      ends = ends;
    })
    c.end_answer.ensures.ends
