use Rattle.std.proofs.Common.{false, ap, ◌∙◌}
use Rattle.fsb_trace.specs.declared.seen.Seen.{Seen}
use Rattle.fsb_owner_feed.proofs.Beginning.{seen_new}
use Rattle.fsb_owner_feed.proofs.begins.FirstClock.seen.Goals as goal

pub returns : goal.returns
returns c = λ h l.
    ap {B = Seen} (λ r. record { clock = c.args.clock; who = c.args.self.now.who; request = r; cancelled = false })
    c.decoded_by.ensures
    ∙ seen_new c.args.second.now l
