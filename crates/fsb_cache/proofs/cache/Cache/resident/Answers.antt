use Rattle.std.proofs.Common.{◌∙◌, subst}
use Rattle.fsb_cache.proofs.SetMaps.{resident-none, resident-some, set_read}
use Rattle.fsb_cache.specs.Sets.{InTheirSets}
use Rattle.fsb_cache.proofs.cache.Cache.resident.Goals as goal

pub returns-in-Some-clause-has : goal.returns-in-Some-clause-has
returns-in-Some-clause-has c =
    resident-some c.args.self.now c.args.line c.in-Some.held (subst InTheirSets c.self.view_is c.self.invariant)
    (set_read c.self.inside.sets.items c.args.self.now c.args.line c.place.result c.index.result.now
    c.self.view_is c.place.ensures.place c.place.ensures.within c.index.ensures
    ∙ c.in-Some.is)

pub returns-in-None-clause-has : goal.returns-in-None-clause-has
returns-in-None-clause-has c =
    resident-none c.args.self.now c.args.line
    (set_read c.self.inside.sets.items c.args.self.now c.args.line c.place.result c.index.result.now
    c.self.view_is c.place.ensures.place c.place.ensures.within c.index.ensures
    ∙ c.in-None.is)
