use Rattle.std.proofs.Common.{[], refl, sym, ap}
use Rattle.fsb_count.specs.Clocks.{count_where}
use Rattle.fsb_audit.specs.MovedChunks.{moved_count}
use Rattle.fsb_audit.proofs.Interface.{nothing_yet}
use Rattle.fsb_audit_dump.specs.Audited.{audited_as}
use Rattle.fsb_audit_dump.proofs.audit.AuditorWatcher.begin.Goals as goal

pub returns-clause-begun : goal.returns-clause-begun
unfolding audited_as moved_count count_where
returns-clause-begun c = record {
  audit = c.in_ok-audit.audit;
  held = refl;
  stands = c.in_ok-audit.ensures.stands;
  room = c.in_ok-audit.ensures.room;
  found = sym (ap (λ found. audited_as found []) (nothing_yet c.args.marks));
}
