use Rattle.std.proofs.Common.{◌∙◌}
use Rattle.fsb_owner_judge.specs.Lines.{is_waiting, kept_of, walked}
use Rattle.fsb_owner_judge.proofs.Walks.{shown-head, walked-more}
use Rattle.fsb_owner_judge.proofs.lines.OwnerLines.close.Goals as goal

pub loop-wait-preserved : goal.loop-wait-preserved
loop-wait-preserved c =
    let waits = c.args.waits.now in
    let i = c.loop-wait.wait-index in
    record {
      spoiled = λ line. c.walk.ensures.spoiled line ∙ c.loop-wait.invariant.spoiled line;
      shown = λ v d h.
          (walked-more v d waits i _ (kept_of c.loop-wait.self) (kept_of c.walk.new.self)
          (λ line. walked v d line (is_waiting waits line) (kept_of c.args.self.now line)) c.loop-wait-test.true
          (c.loop-wait.invariant.shown v d h)
          (c.in_ok-walk.ensures.sets v d h.begins h.ends
          (shown-head v d waits i _ c.loop-wait-test.true (c.loop-wait.invariant.shown v d h)).0
          (shown-head v d waits i _ c.loop-wait-test.true (c.loop-wait.invariant.shown v d h)).1)
          (c.loop-wait.invariant.walked v d h)).0;
      walked = λ v d h.
          (walked-more v d waits i _ (kept_of c.loop-wait.self) (kept_of c.walk.new.self)
          (λ line. walked v d line (is_waiting waits line) (kept_of c.args.self.now line)) c.loop-wait-test.true
          (c.loop-wait.invariant.shown v d h)
          (c.in_ok-walk.ensures.sets v d h.begins h.ends
          (shown-head v d waits i _ c.loop-wait-test.true (c.loop-wait.invariant.shown v d h)).0
          (shown-head v d waits i _ c.loop-wait-test.true (c.loop-wait.invariant.shown v d h)).1)
          (c.loop-wait.invariant.walked v d h)).1;
    }
