use Rattle.std.proofs.Common.{ℕ, ◌+◌, max, Option, sym, ap, ◌∙◌}
use Rattle.std.specs.Option.{option_and_then}
use Rattle.fsb_trace.specs.Snoop.{snoop_end_from}
use Rattle.fsb_table.proofs.Snoops.{snoop_end-by}
use Rattle.fsb_table.proofs.going.Going.snoop_end.Goals as goal

pub returns-in-Some-clause-value : goal.returns-in-Some-clause-value
returns-in-Some-clause-value c i stands live =
    let ends : ℕ → Option ℕ = λ m. snoop_end_from c.args.w.now (max (c.args.q + 4) m) in
    c.snoop_end_from.ensures.value ∙ ap (snoop_end_from c.args.w.now) c.max.ensures
    ∙ sym (snoop_end-by c.args.w.now i c.args.q live ∙ ap (option_and_then ends) (sym stands.clear ∙ c.in-Some.is))

pub returns-in-None-clause-value : goal.returns-in-None-clause-value
returns-in-None-clause-value c i stands live =
    let ends : ℕ → Option ℕ = λ m. snoop_end_from c.args.w.now (max (c.args.q + 4) m) in
    sym (snoop_end-by c.args.w.now i c.args.q live ∙ ap (option_and_then ends) (sym stands.clear ∙ c.in-None.is))
