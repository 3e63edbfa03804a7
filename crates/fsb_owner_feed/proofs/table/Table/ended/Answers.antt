use Rattle.std.proofs.Common.{[], ◌∷◌, ◌++◌, length, subst, sym, ◌∙◌, true, false}
use Rattle.fsb_trace.specs.Response.{end_of}
use Rattle.fsb_owner_feed.specs.Table.{IsReached}
use Rattle.fsb_owner_feed.proofs.Happening.{ended_answered, ended_last, ended_none}
use Rattle.fsb_owner_feed.proofs.table.Table.ended.Goals as goal

pub returns-then-moves_by : goal.returns-then-moves_by
returns-then-moves_by c = λ h g s.
    ended_answered g c.args.answered.now true (sym c.responds.ensures ∙ c.if-responds.true) s
    (sym c.moves_by.ensures ∙ c.if-moves_by.true)

pub returns-else-moves_by : goal.returns-else-moves_by
returns-else-moves_by c = λ h g s.
    subst (λ o. IsReached end_of o (h ++ c.args.sample.now ∷ []) (length h)) (sym c.clock_of.ensures)
    (ended_answered g c.args.answered.now false (sym c.responds.ensures ∙ c.if-responds.true) s
    (sym c.moves_by.ensures ∙ c.if-moves_by.false))

pub returns-then-ends_data : goal.returns-then-ends_data
returns-then-ends_data c = λ h g s.
    let quiet = sym c.responds.ensures ∙ c.if-responds.false in
    subst (λ o. IsReached end_of o (h ++ c.args.sample.now ∷ []) (length h)) (sym c.clock_of-then-ends_data.ensures)
    (ended_last g c.moving.result quiet (sym (c.ends_data.ensures h g quiet) ∙ c.if-ends_data.true)
    (c.moving.ensures h g.stands g.before))

pub returns-else-ends_data : goal.returns-else-ends_data
returns-else-ends_data c = λ h g s.
    let quiet = sym c.responds.ensures ∙ c.if-responds.false in
    ended_none g quiet (sym (c.ends_data.ensures h g quiet) ∙ c.if-ends_data.false)
