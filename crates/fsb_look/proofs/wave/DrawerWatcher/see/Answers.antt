use Rattle.fsb_look.proofs.wave.DrawerWatcher.see.Goals as goal

pub feed-requires : goal.feed-requires
feed-requires c =
    let seen = c.requires.3 in (seen.0, seen.1, c.requires.2, seen.3, c.requires.4)

pub returns : goal.returns
returns c begun marks h seen = (seen.0, seen.1, seen.2, c.feed.ensures seen.0 seen.1 h seen.3)
