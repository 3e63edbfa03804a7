use Rattle.std.proofs.Common.{arith}
use Rattle.fsb_rules.proofs.Feeds.{brings_now, checker_follows, outstanding_takes}
use Rattle.fsb_rules.proofs.checker.Checker.absorb.Goals as goal

pub absorb-requires : goal.absorb-requires
absorb-requires c =
    let h = c.requires.0 in (
      h,
      c.args.sample.now,
      outstanding_takes c.requires.1 c.requires.2 _ (c.happened-happened.ensures h c.requires.1 c.requires.2),
    )

pub absorb-requires-2 : goal.absorb-requires-2
absorb-requires-2 c = (c.requires.0, brings_now c.requires.1 c.requires.2)

pub returns-clause-follows : goal.returns-clause-follows
returns-clause-follows c = λ h comes unbroken winner.
    checker_follows comes unbroken _ (record {
      clock = omega arith;
      recent = c.absorb-4.ensures h comes.follows.recent;
      arbiter = c.absorb-3.ensures h comes.follows.arbiter;
      beginner = winner;
      queue = c.absorb-2.ensures h (brings_now comes unbroken);
      outstanding = c.absorb.ensures h c.args.sample.now
          (outstanding_takes comes unbroken _ (c.happened-happened.ensures h comes unbroken)) c.has-begins.ensures;
    })
