use Rattle.std.proofs.Common.{inl, subst}
use Rattle.std.specs.Result.{is_err}
use Rattle.std.proofs.lemmas.Result.{IfOk-weaker}
use Rattle.vcd_way.specs.declared.tap.Edge.{Edge}
use Rattle.scope_watch.specs.declared.values.Sampling.{Sampling}
use Rattle.scope_top.specs.declared.listed.Listed.{Listed}
use Rattle.scope_top.specs.declared.viewed.Viewed.{Viewed}
use Rattle.scope_top.specs.Performing.{EndsCheck, EndsListed, EndsPlanned, Viewing, text_named}
use Rattle.scope_top.specs.Viewing.{Files}
use Rattle.scope_top.proofs.check.check_answer.Goals as goal

pub returns-in-Chosen-clause-ends : goal.returns-in-Chosen-clause-ends
returns-in-Chosen-clause-ends g c = λ lines_tell dump_tells save_tells cut_tells.
    let wires = c.args.wires in
    let words = c.args.words.now in
    let choice = c.in-Chosen.choice in
    let listed = g.L.Source.holds c.args.named.now in
    let dumped = g.S.Source.holds c.args.dump.now in
    let files : Files = record {
      save_old = g.V.Sink.holds c.args.save.now;
      save_new = g.V.Sink.holds c.parted_answer.new.save;
      cut_old = g.C.Sink.holds c.args.cut.now;
      cut_new = g.C.Sink.holds c.parted_answer.new.cut;
    } in
    let viewing : Viewed → Viewing = λ v.
    record { name = c.args.name.now; views = c.args.views; files = files; is_unwritten = is_err v.shown } in
    let sampled : Edge → Sampling = λ edge. record { edge = edge; takes_first = wires.is_first; late = wires.after } in
    let Chosen : Listed → Type 0 = λ l. EndsListed wires.choice (text_named wires.file listed) l in
    let says = subst Chosen c.in-Chosen.is (c.in_ok-answer.ensures.listed lines_tell) in
    IfOk-weaker c.parted_answer.result
    (λ v. EndsPlanned words (sampled c.edge_of.result) dumped (viewing v) choice v.answer.ending)
    (λ v. EndsCheck wires words listed dumped (viewing v) v.answer.ending)
    (λ v does.
    let Does : Edge → Type 0 = λ edge. EndsPlanned words (sampled edge) dumped (viewing v) choice v.answer.ending in
    inl (record { choice = choice; says = says; does = subst Does c.edge_of.ensures does }))
    (c.parted_answer.ensures.ends dump_tells save_tells cut_tells)
