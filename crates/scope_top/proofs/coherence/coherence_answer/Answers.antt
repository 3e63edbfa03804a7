use Rattle.std.proofs.Common.{inl, subst}
use Rattle.std.proofs.lemmas.Result.{IfOk-weaker}
use Rattle.vcd_way.specs.declared.tap.Edge.{Edge}
use Rattle.scope_watch.specs.declared.values.Sampling.{Sampling}
use Rattle.scope_top.specs.declared.listed.Listed.{Listed}
use Rattle.scope_top.specs.Performing.{EndsListed, EndsCoherence, EndsCoherent, text_named}
use Rattle.scope_top.proofs.coherence.coherence_answer.Goals as goal

pub returns-in-Chosen-clause-ends : goal.returns-in-Chosen-clause-ends
returns-in-Chosen-clause-ends g c = λ lines_tell dump_tells.
    let wires = c.args.wires in
    let words = c.args.words.now in
    let choice = c.in-Chosen.choice in
    let listed = g.L.Source.holds c.args.named.now in
    let dumped = g.S.Source.holds c.args.dump.now in
    let sampled : Edge → Sampling = λ edge. record { edge = edge; takes_first = wires.is_first; late = wires.after } in
    let Chosen : Listed → Type 0 = λ l. EndsListed wires.choice (text_named wires.file listed) l in
    let says = subst Chosen c.in-Chosen.is (c.in_ok-answer.ensures.listed lines_tell) in
    IfOk-weaker c.parted_answer.result
    (λ a. EndsCoherent words (sampled c.edge_of.result) dumped choice a.ending)
    (λ a. EndsCoherence wires words listed dumped a.ending)
    (λ a does.
    let Does : Edge → Type 0 = λ edge. EndsCoherent words (sampled edge) dumped choice a.ending in
    inl (record { choice = choice; says = says; does = subst Does c.edge_of.ensures does }))
    (c.parted_answer.ensures.ends dump_tells)
