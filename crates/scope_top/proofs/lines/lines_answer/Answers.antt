use Rattle.std.proofs.Common.{Ok, Err}
use Rattle.std.proofs.lemmas.Result.{IfOk-weaker}
use Rattle.scope_top.specs.Performing.{EndsLines, EndsStopped}
use Rattle.scope_top.proofs.lines.lines_answer.Goals as goal

pub returns-in-Err-clause-ends : goal.returns-in-Err-clause-ends
returns-in-Err-clause-ends g c = λ tells. IfOk-weaker c.stop_answer.result
    (λ a. EndsStopped c.in-Err.stop a.ending)
    (λ a. EndsLines (g.S.Source.holds c.args.dump.now) a.ending)
    (λ a ends. record {
      answer = Err c.in-Err.stop;
      left = g.S.Source.left c.read_header.new.source;
      is_headed = c.in-Err.ensures.read tells;
      ends = ends;
    })
    c.stop_answer.ensures.ends

pub returns-clause-ends : goal.returns-clause-ends
returns-clause-ends g c = λ tells. record {
  answer = Ok c.in-Ok.begun;
  left = g.S.Source.left c.read_header.new.source;
  is_headed = c.in-Ok.ensures.read tells;
  ends = c.in_ok-header_answer-in-Ok.ensures;
}
