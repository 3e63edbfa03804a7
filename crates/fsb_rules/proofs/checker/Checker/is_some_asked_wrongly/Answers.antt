use Rattle.std.proofs.Common.{ap, ◌∙◌}
use Rattle.fsb_count.proofs.Interface.{is_some-none}
use Rattle.fsb_laws.proofs.Interface.{one_more}
use Rattle.fsb_rules.specs.RequestLines.{is_some_dropped_by}
use Rattle.fsb_rules.proofs.RequestLines.{none_begun}
use Rattle.fsb_rules.proofs.checker.Checker.is_some_asked_wrongly.Goals as goal

pub returns-then-is_none : goal.returns-then-is_none
returns-then-is_none c = λ h f.
    c.is_some_dropped.ensures
    ∙ ap (λ lines. is_some_dropped_by lines c.args.sample.now.lines) (c.first.ensures h f.recent)
    ∙ none_begun f (one_more h c.args.sample.now) (is_some-none c.args.self.now.beginner c.if-is_none.ensures)
