use Rattle.std.proofs.Common.{◌∙◌, ap, sym}
use Rattle.fsb_recent.proofs.Kept.{past_empty}
use Rattle.fsb_recent.proofs.recent.Recent.new.Goals as goal

pub returns : goal.returns
returns c = record {
  past = ap (λ b. b.items) c.in_ok-past.ensures ∙ sym past_empty;
  room = ap (λ b. b.capacity) c.in_ok-past.ensures;
}
