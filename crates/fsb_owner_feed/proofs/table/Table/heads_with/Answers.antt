use Rattle.std.proofs.Common.{subst, sym}
use Rattle.fsb_heads.specs.Heads.{MovesWith}
use Rattle.fsb_owner_feed.proofs.Happening.{moves_with}
use Rattle.fsb_owner_feed.proofs.table.Table.heads_with.Goals as goal

pub returns : goal.returns
returns c = λ h g e snoops.
    c.after.ensures h g.stands.heads (record {
      clock_is = e;
      snoops_is = snoops;
      readies_is = c.readies.ensures h g.stands g.before e;
      moves_with = subst (λ b. MovesWith c.args.sample.now b h) (sym c.moves_by.ensures)
          (moves_with g c.answered.result (c.answered.ensures h g));
    })
