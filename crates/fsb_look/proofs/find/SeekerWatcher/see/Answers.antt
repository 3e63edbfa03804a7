use Rattle.fsb_count.proofs.Interface.{is_some-none}
use Rattle.fsb_look.proofs.Same.{some_clocks, some_not_none, still_found}
use Rattle.fsb_look.proofs.find.SeekerWatcher.see.Goals as goal

pub feed-self-requires : goal.feed-self-requires
feed-self-requires c =
    let seen = c.requires.3 in
    let none = is_some-none c.args.self.now.found c.if-is_none.ensures in
    (seen.0, c.requires.2, seen.2.hunt none, c.requires.4)

pub returns-then-is_none : goal.returns-then-is_none
returns-then-is_none c begun marks h seen =
    let none = is_some-none c.args.self.now.found c.if-is_none.ensures in (
      seen.0,
      seen.1,
      record {
        hunt = λ unfound. c.feed-self.ensures.stands seen.0 h (seen.2.hunt none);
        found = c.feed-self.ensures.found seen.0 h (seen.2.hunt none);
      },
    )

pub returns-else-is_none : goal.returns-else-is_none
returns-else-is_none c begun marks h seen =
    let found = c.args.self.now.found in (
      seen.0,
      seen.1,
      record {
        hunt = λ none. absurd (some_not_none found c.if-is_none.ensures none);
        found = still_found seen.0 h c.args.sample.now _ (some_clocks found c.if-is_none.ensures) seen.2.found;
      },
    )
