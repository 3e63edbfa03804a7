use Rattle.std.proofs.Common.{◌++◌, ◌∷◌, []}
use Rattle.scope_check.specs.Standing.{later_at}
use Rattle.scope_coherence.specs.Found.{first_joints}
use Rattle.scope_coherence.proofs.Passing.{fed-answer}
use Rattle.scope_coherence.proofs.part.PartJudge.judge.Goals as goal

pub feed-requires : goal.feed-requires
feed-requires c =
    let (p, m, es, before, after, w, s, n) = c.requires in
    let r = c.begin.ensures p m es before after w s n in
    (m, first_joints (later_at p after), w, r.stands)

pub returns-clause-stands : goal.returns-clause-stands
returns-clause-stands c = λ p m es before after e w s n.
    let r = c.begin.ensures p m es before after w s n in
    fed-answer c.feed.result c.begin.new.self p m after (es ++ e ∷ []) w c.args.sample.now c.feed.new.self
    c.first_stamp-self.result r (c.feed.ensures.stands m (first_joints (later_at p after)) w r.stands)

pub returns-clause-many : goal.returns-clause-many
returns-clause-many c = λ full p m es before after w s n.
    let r = c.begin.ensures p m es before after w s n in
    c.feed.ensures.many full m (first_joints (later_at p after)) w r.stands
