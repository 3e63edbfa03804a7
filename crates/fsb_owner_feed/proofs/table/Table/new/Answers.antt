use Rattle.std.proofs.Common.{refl}
use Rattle.fsb_owner_feed.proofs.Beginning.{begins_empty}
use Rattle.fsb_owner_feed.proofs.table.Table.new.Goals as goal

pub returns-clause-stands : goal.returns-clause-stands
returns-clause-stands c =
    record {
      rows = c.new.ensures;
      arbiter = c.new-2.ensures;
      heads = c.new-3.ensures;
      begins = begins_empty;
      clock = refl;
    }
