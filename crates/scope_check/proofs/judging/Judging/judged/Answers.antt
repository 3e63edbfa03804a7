use Rattle.std.proofs.Common.{refl}
use Rattle.scope_check.proofs.Told.{found-in}
use Rattle.scope_check.proofs.judging.Judging.judged.Goals as goal

pub returns : goal.returns
returns c p m es s =
    found-in c.args.self.now _ p m es s (record {
      part = refl;
      clocks = c.clocks-clocks.ensures;
      start = refl;
      judged = refl;
      is_later = c.is_later.ensures;
      says = c.verdict.ensures.says;
      stamp = c.verdict.ensures.stamp;
      answers = refl;
    })
