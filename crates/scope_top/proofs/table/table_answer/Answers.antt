use Rattle.std.proofs.Common.{inl, subst}
use Rattle.std.proofs.lemmas.Result.{IfOk-weaker}
use Rattle.row_texts.specs.declared.line.Form.{Form}
use Rattle.vcd_way.specs.declared.tap.Edge.{Edge}
use Rattle.scope_watch.specs.declared.values.Sampling.{Sampling}
use Rattle.scope_top.specs.declared.listed.Listed.{Listed}
use Rattle.scope_top.specs.Performing.{EndsListed, EndsTable, EndsTableOf, form_of, text_named}
use Rattle.scope_top.proofs.table.table_answer.Goals as goal

pub returns-in-Chosen-clause-ends : goal.returns-in-Chosen-clause-ends
returns-in-Chosen-clause-ends g c = λ lines_tell dump_tells out_tells.
    let wires = c.args.wires in
    let words = c.args.words.now in
    let choice = c.in-Chosen.choice in
    let listed = g.L.Source.holds c.args.named.now in
    let dumped = g.S.Source.holds c.args.dump.now in
    let old = g.O.Sink.holds c.args.out.now in
    let new = g.O.Sink.holds c.parted_answer.new.out in
    let sampled : Edge → Sampling = λ edge. record { edge = edge; takes_first = wires.is_first; late = wires.after } in
    let Chosen : Listed → Type 0 = λ l. EndsListed wires.choice (text_named wires.file listed) l in
    let says = subst Chosen c.in-Chosen.is (c.in_ok-answer.ensures.listed lines_tell) in
    IfOk-weaker c.parted_answer.result
    (λ a. EndsTableOf words c.form_of-form.result (sampled c.edge_of.result) dumped old new choice a.ending)
    (λ a. EndsTable wires words c.args.form listed dumped old new a.ending)
    (λ a does.
    let Formed : Form → Type 0 = λ form. EndsTableOf words form (sampled c.edge_of.result) dumped old new choice a.ending in
    let Does : Edge → Type 0 = λ edge. EndsTableOf words (form_of c.args.form) (sampled edge) dumped old new choice a.ending in
    let formed = subst Formed c.form_of-form.ensures does in
    inl (record { choice = choice; says = says; does = subst Does c.edge_of.ensures formed }))
    (c.parted_answer.ensures.ends dump_tells out_tells)
