use Rattle.std.proofs.Common.{sym, ap, ◌∙◌, Some, refl}
use Rattle.fsb_table.proofs.Outcomes.{outcome-told, outcome-none}
use Rattle.fsb_table.proofs.told.told_outcome.Goals as goal

pub returns-in-Some : goal.returns-in-Some
returns-in-Some c i q live snoop request response =
    ap (λ o. Some o) (rw (c.told_with.ensures, c.is_handed.ensures, c.response_code_at.ensures) refl)
    ∙ sym (outcome-told c.args.w.now i q _ c.args.snoop c.args.request live snoop request (sym response ∙ c.in-Some.is))

pub returns-in-None : goal.returns-in-None
returns-in-None c i q live snoop request response =
    sym (outcome-none c.args.w.now i q live (sym response ∙ c.in-None.is))
