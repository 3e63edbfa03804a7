use Rattle.std.proofs.Common.{rules, ◌≡◌, Some, sym, ◌∙◌}
use Rattle.std.proofs.lemmas.Bool.{and_parts, not-true}
use Rattle.fsb_count.proofs.Interface.{is_none-none}
use Rattle.fsb_rules.specs.Outstanding.{left_in, kept_at}
use Rattle.fsb_rules.proofs.OpenGoes.{quiet_left}
use Rattle.fsb_rules.proofs.OpenLists.{all_stay, left_from_retain}
use Rattle.fsb_rules.proofs.outstanding.Outstanding.pass.Goals as goal

pub returns-then-not-is_quiet-clause-current : goal.returns-then-not-is_quiet-clause-current
returns-then-not-is_quiet-clause-current c = λ h x v g k.
    left_from_retain _ _ h (left_in v) c.args.self.now.current.items c.retain.new.self.items
    c.retain.ensures.filtered k (λ o b t p r e. (search rules, search (rules, g, e)))

pub returns-else-not-is_quiet-clause-current : goal.returns-else-not-is_quiet-clause-current
returns-else-not-is_quiet-clause-current c = λ h x v g k.
    let parts = and_parts _ _ (sym c.is_quiet.ensures ∙ c.if-not-is_quiet.false) in
    let still = and_parts _ _ parts.0 in
    sym (all_stay (left_in v) (λ o. kept_at h o.clock ≡ Some o) c.args.self.now.current.items
    (λ o e. quiet_left g e (is_none-none _ still.0) (is_none-none _ still.1) (not-true _ parts.1)) k)
