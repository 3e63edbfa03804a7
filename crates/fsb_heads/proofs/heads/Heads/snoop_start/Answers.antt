use Rattle.std.proofs.Common.{◌+◌, ◌≡◌, max, Some, sym, ap, ◌∙◌, rules}
use Rattle.fsb_heads.specs.Heads.{snooped_count, last_snoop_end}
use Rattle.fsb_heads.proofs.Counts.{snoops_to}
use Rattle.fsb_heads.proofs.Steps.{start_ended, start_unended}
use Rattle.fsb_heads.proofs.heads.Heads.snoop_start.Goals as goal

pub returns-in-Some : goal.returns-in-Some
unfolding last_snoop_end
returns-in-Some c = λ h k clock.
    let start : c.max.result ≡ max (c.args.begun + 4) (c.in-Some.end + 3) = search rules in
    start_ended h (snooped_count h) c.args.begun c.in-Some.end (sym k.snooped ∙ c.in-Some.is) clock
    ∙ ap Some (sym start)

pub returns-in-None : goal.returns-in-None
unfolding last_snoop_end
returns-in-None c = λ h k clock.
    start_unended h (snooped_count h) c.args.begun (snoops_to h) (sym k.snooped ∙ c.in-None.is) clock
    ∙ ap (λ q. Some (q + 4)) (sym c.from-earliest.ensures)
