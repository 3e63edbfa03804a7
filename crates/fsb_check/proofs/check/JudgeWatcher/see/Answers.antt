use Rattle.fsb_check.proofs.check.JudgeWatcher.see.Goals as goal

pub feed-self-requires : goal.feed-self-requires
feed-self-requires c = (c.requires.1, c.requires.2, c.requires.3.checker, c.requires.4)

pub returns : goal.returns
returns c begun marks h seen =
    record {
      checker = c.feed-self.ensures.stands marks h seen.checker;
      broken = c.feed-self.ensures.verdict marks h seen.checker;
    }
