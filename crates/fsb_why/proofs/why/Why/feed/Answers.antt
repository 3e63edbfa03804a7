use Rattle.std.proofs.Common.{◌∙◌, length, arith, [], ◌∷◌, ◌++◌}
use Rattle.fsb_trace.proofs.Interface.{winner_at-agree}
use Rattle.fsb_laws.proofs.Interface.{one_more}
use Rattle.fsb_why.proofs.why.Why.feed.Goals as goal

pub look_after-look-requires : goal.look_after-look-requires
look_after-look-requires c = let p = c.requires in (p.0, p.1, (p.2).last, p.3)

pub returns : goal.returns
returns c = λ m h s.
    let k = one_more h c.args.sample.now in
    let won = (c.winner-winner.ensures h s.arbiter)
    ∙ winner_at-agree (length h) h (h ++ c.args.sample.now ∷ []) (length h) k.agree (omega arith) in
    record {
      marked = s.marked;
      arbiter = c.absorb.ensures h s.arbiter;
      last = c.look_after-look.ensures m h s.marked s.last won;
    }
