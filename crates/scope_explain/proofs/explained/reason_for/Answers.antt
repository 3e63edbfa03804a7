use Rattle.std.proofs.Common.{◌∙◌, ◌++◌, ◌∷◌, [], length, length-append, sym}
use Rattle.scope_explain.proofs.Telling.{said_alone, said_queued}
use Rattle.scope_explain.proofs.explained.reason_for.Goals as goal

pub returns-then-is_line_rule : goal.returns-then-is_line_rule
returns-then-is_line_rule c = λ m h why queue orderly.
    let v = h ++ c.args.sample.now ∷ [] in
    said_alone c.reasons_name_broken_rules.ensures m v (length h) c.args.rule _
    (sym c.is_line_rule.ensures ∙ c.if-is_line_rule.true)
    (c.why.ensures m v (length h) why (length-append h (c.args.sample.now ∷ [])))

pub returns-then-is_queue_rule : goal.returns-then-is_queue_rule
returns-then-is_queue_rule c = λ m h why queue orderly.
    let v = h ++ c.args.sample.now ∷ [] in
    said_queued c.reasons_name_broken_rules.ensures m v (length h) c.args.rule _
    (sym c.is_queue_rule.ensures ∙ c.if-is_queue_rule.true)
    (c.why-then-is_queue_rule.ensures m h queue orderly)
