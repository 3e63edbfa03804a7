use Rattle.std.proofs.Common.{sym, ap, ◌∙◌}
use Rattle.std.specs.Option.{option_and_then}
use Rattle.fsb_table.specs.Going.{fourth_from}
use Rattle.fsb_table.proofs.Outcomes.{end-moving, end-still}
use Rattle.fsb_table.proofs.told.end_clock.Goals as goal

pub returns-then-has_data-clause-value : goal.returns-then-has_data-clause-value
returns-then-has_data-clause-value c i q live outcome response =
    c.fourth_chunk.ensures.value ∙ ap (option_and_then (λ r. fourth_from c.args.w.now r)) response
    ∙ sym (end-moving c.args.w.now i c.args.outcome outcome (sym c.has_data.ensures ∙ c.if-has_data.true))

pub returns-else-has_data-clause-value : goal.returns-else-has_data-clause-value
returns-else-has_data-clause-value c i q live outcome response =
    response ∙ sym (end-still c.args.w.now i q c.args.outcome live outcome (sym c.has_data.ensures
    ∙ c.if-has_data.false))
