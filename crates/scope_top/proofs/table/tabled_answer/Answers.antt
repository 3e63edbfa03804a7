use Rattle.std.proofs.lemmas.Result.{IfOk-weaker}
use Rattle.scope_top.specs.Performing.{EndsTabled, EndsTabledAs}
use Rattle.scope_top.proofs.table.tabled_answer.Goals as goal

pub returns-clause-ends : goal.returns-clause-ends
returns-clause-ends g c = λ tells held. IfOk-weaker c.end_answer.result
    (λ a. EndsTabledAs c.table_of-end.result a.ending)
    (λ a. EndsTabled c.args.choice.now c.args.form c.args.sampling (g.S.Source.holds c.args.dump.now)
    (g.O.Sink.holds c.args.out.now) (g.O.Sink.holds c.table_of-end.new.out) c.args.part a.ending)
    (λ a ends. record {
      answer = c.table_of-end.result;
      is_tabled = c.table_of-end.ensures.tabled tells held;
      ends = ends;
    })
    c.end_answer.ensures.ends
