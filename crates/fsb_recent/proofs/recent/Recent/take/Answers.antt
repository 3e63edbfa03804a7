use Rattle.std.proofs.Common.{◌≡◌, ◌∙◌, ap, refl}
use Rattle.circular_buffer.specs.Buffer.{buffer}
use Rattle.fsb_recent.specs.Over.{over_of, past_of}
use Rattle.fsb_recent.proofs.Kept.{past_more}
use Rattle.fsb_recent.proofs.recent.Recent.take.Goals as goal

pub returns : goal.returns
returns c = λ h x s t.
    let before : c.args.self.now.past ≡ buffer (past_of h) 10 = λ i. buffer (s.past i) (s.room i) in
    let after = c.keep_over.ensures (over_of h) before in
    record {
      past = ap (λ b. b.items) after ∙ past_more h x _ (c.clock-clocks.ensures ∙ t.clock) _ _ refl (c.rows.ensures _ t);
      room = ap (λ b. b.capacity) after;
    }
