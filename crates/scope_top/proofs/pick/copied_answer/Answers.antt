use Rattle.std.proofs.lemmas.Result.{IfOk-weaker}
use Rattle.scope_top.specs.Performing.{EndsCopied, EndsCopiedAs}
use Rattle.scope_top.proofs.pick.copied_answer.Goals as goal

pub returns-clause-ends : goal.returns-clause-ends
returns-clause-ends g c = λ tells held. IfOk-weaker c.end_answer.result
    (λ a. EndsCopiedAs c.copy_dump-end.result a.ending)
    (λ a. EndsCopied c.args.choice.now c.args.sampling (g.S.Source.holds c.args.dump.now)
    (g.O.Sink.holds c.args.out.now) (g.O.Sink.holds c.copy_dump-end.new.out) c.args.part a.ending)
    (λ a ends. record {
      answer = c.copy_dump-end.result;
      is_copied = c.copy_dump-end.ensures.copied tells held;
      ends = ends;
    })
    c.end_answer.ensures.ends
