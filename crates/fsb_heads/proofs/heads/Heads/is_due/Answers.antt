use Rattle.std.proofs.Common.{refl}
use Rattle.fsb_count.specs.Options.{is_some_and}
use Rattle.fsb_laws.specs.Progress.{is_snoop_due}
use Rattle.fsb_heads.proofs.heads.Heads.is_due.Goals as goal

pub returns : goal.returns
unfolding is_snoop_due is_some_and
returns c = λ h k clock. rw (c.is_every_second_from.ensures, c.from.ensures, c.snoop_start.ensures h k clock) refl
