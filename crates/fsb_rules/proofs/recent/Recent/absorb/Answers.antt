use Rattle.std.proofs.Common.{refl, sym, ◌∙◌}
use Rattle.std.proofs.lemmas.Bool.{both_ways}
use Rattle.fsb_rules.proofs.Lines.{recent_goes}
use Rattle.fsb_rules.proofs.recent.Recent.absorb.Goals as goal

pub returns-then-has : goal.returns-then-has
returns-then-has c = λ h s. recent_goes c.args.sample.now _ s refl refl refl (λ t. c.known_pair-self.ensures)

pub returns-else-has : goal.returns-else-has
returns-else-has c = λ h s.
    recent_goes c.args.sample.now _ s refl refl refl
    (λ t. absurd (both_ways _ (sym c.has.ensures ∙ c.if-has.false) t))
