use Rattle.std.proofs.Common.{◌∙◌, ◌++◌, false, ap}
use Rattle.fsb_signal.specs.declared.marks.Marks.{Marks}
use Rattle.request_lines.proofs.Sounds.{head-only}
use Rattle.scope_table.proofs.answer.put_names.Goals as goal

pub returns-in-Ok-put_all-clause-text : goal.returns-in-Ok-put_all-clause-text
returns-in-Ok-put_all-clause-text g c = λ tells.
    let m : Marks = record { ap = false; rp = false } in
    c.in-Ok-put_all.ensures.whole tells
    ∙ ap (λ t. g.D.Sink.holds c.args.out.now ++ t)
    (c.deref.ensures.value ∙ c.in-Ok.ensures 0 m ∙ head-only c.args.form 0 m)
