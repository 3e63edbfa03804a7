use Rattle.std.proofs.Common.{◌++◌, ◌∷◌, [], ◌∙◌, ap, arith, refl}
use Rattle.row_texts.specs.Lines.{lines_text}
use Rattle.fsb_recent.specs.Over.{newly_over}
use Rattle.request_lines.proofs.Sounds.{always-ok, more-over, taken-stands, weaker-if-ok}
use Rattle.request_lines.proofs.lines.RequestLines.take.Goals as goal

pub over-requires : goal.over-requires
over-requires c = let few = c.requires in let more = c.feed.ensures.fed in omega (arith, few, more)

pub returns-clause-stands : goal.returns-clause-stands
returns-clause-stands c =
    let few = c.requires in
    let more = c.feed.ensures.fed in
    always-ok c.over.result _ (λ form m w s.
    taken-stands c.args.self.now (record (c.args.self.now) { table = c.feed.new.self }) form m w c.args.sample.now s
    (c.in_ok-feed.ensures.stands w (record { stands = s.table; before = s.orderly; after = s.still })) refl refl refl
    (omega (arith, few, more)))

pub returns-clause-text : goal.returns-clause-text
returns-clause-text c =
    weaker-if-ok c.over.result _ _ (λ text is form m w s.
    let v = w ++ c.args.sample.now ∷ [] in
    more-over m w c.args.sample.now form c.args.before text.items s.before s.after
    (is v (c.in_ok-feed.ensures.stands w (record { stands = s.table; before = s.orderly; after = s.still }))
    ∙ ap (λ f. lines_text f c.args.before (newly_over v)) s.formed)) c.over.ensures
