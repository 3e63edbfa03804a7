use Rattle.fsb_heads.proofs.Steps.{chunks-more}
use Rattle.fsb_heads.proofs.heads.Heads.chunks_with.Goals as goal

pub returns : goal.returns
returns c = λ h k w.
    rw (c.chunk_step.ensures, c.has.ensures, c.chunks_before.ensures) (chunks-more k c.args.moves w)
