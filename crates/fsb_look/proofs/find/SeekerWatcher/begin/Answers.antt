use Rattle.fsb_look.proofs.find.SeekerWatcher.begin.Goals as goal

pub returns : goal.returns
returns c = (c.requires.0, c.requires.1, c.requires.1)
