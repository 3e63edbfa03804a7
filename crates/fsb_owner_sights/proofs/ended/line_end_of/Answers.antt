use Rattle.std.proofs.Common.{refl}
use Rattle.fsb_owner_sights.proofs.EndRows.{line_end_is}
use Rattle.fsb_owner_sights.proofs.ended.line_end_of.Goals as goal

pub returns : goal.returns
returns c = record {
  asker = refl;
  traced = λ v s j q p g.
      rw (
        c.purpose.ensures,
        c.is_reply.ensures,
        c.is_hit.ensures,
        c.is_handed.ensures,
        c.is_turned.ensures,
        c.is_hit_other.ensures,
      ) (line_end_is g c.args.line c.args.agent);
}
