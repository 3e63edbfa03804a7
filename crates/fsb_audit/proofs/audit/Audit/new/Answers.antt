use Rattle.std.proofs.Common.{refl}
use Rattle.fsb_audit.proofs.Starts.{new_stands}
use Rattle.fsb_audit.proofs.audit.Audit.new.Goals as goal

pub returns-clause-stands : goal.returns-clause-stands
returns-clause-stands c = new_stands _ c.args.marks (record {
  checker = c.new.ensures;
  found = refl;
  clock = refl;
  first = refl;
  asked = refl;
  from_memory = refl;
  count = refl;
  moved = c.new-2.ensures;
})

pub returns-clause-room : goal.returns-clause-room
returns-clause-room c = refl
