use Rattle.std.proofs.Common.{◌∙◌}
use Rattle.fsb_heads.proofs.Steps.{snooped-more, ready-more}
use Rattle.fsb_heads.proofs.heads.Heads.after.Goals.{then-next, else-next}
use Rattle.fsb_heads.proofs.heads.Heads.after.Goals as goal

pub returns : goal.returns
returns c = λ h k t.
    record {
      snooped = elim c.if-next.branch [
        | then-next w ↦ w.result-is ∙ (rw w.if-next.true at (snooped-more k c.args.clock c.args.next.now t))
        | else-next w ↦ w.result-is ∙ (rw w.if-next.false at (snooped-more k c.args.clock c.args.next.now t))
      ];
      ready = c.ready_with.ensures ∙ ready-more k c.args.clock c.args.next.now t;
      chunks = c.chunks_with.ensures h k t.moves_with;
    }
