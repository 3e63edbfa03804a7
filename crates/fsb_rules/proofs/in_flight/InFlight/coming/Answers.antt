use Rattle.fsb_rules.proofs.ComingChunks.{chunk_told, none_moving}
use Rattle.std.proofs.Common.{sym, ◌∙◌}
use Rattle.fsb_rules.proofs.in_flight.InFlight.coming.Goals as goal

pub returns-in-Some-clause-some : goal.returns-in-Some-clause-some
returns-in-Some-clause-some c = λ h t drdy.
    chunk_told t drdy
    (sym (c.is_moving.ensures h c.args.clock t (c.begins_data.ensures h t)) ∙ c.if-is_moving.true)
    (c.in-Some.ensures h t) (c.place.ensures h t.here.stands)

pub returns-in-None-clause-none : goal.returns-in-None-clause-none
returns-in-None-clause-none c = λ h t e. none_moving _ _ (c.in-None.ensures h t)
