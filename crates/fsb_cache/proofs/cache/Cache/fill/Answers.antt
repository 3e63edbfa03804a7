use Rattle.std.proofs.Common.{Option, Some, set, subst}
use Rattle.fsb_cache.specs.declared.held.Held.{Held}
use Rattle.fsb_cache.specs.Sets.{InTheirSets}
use Rattle.fsb_cache.proofs.SetMaps.{SetPut, set_put, only_this-room}
use Rattle.fsb_cache.proofs.cache.Cache.fill.Goals as goal

-- what the line's set has then
written : goal.After-self-1 → Option Held
written c = Some record { line = c.args.line; state = c.args.state; bytes = c.args.bytes }

filled : (c : goal.After-self-1)
    → SetPut c.args.self.now (set c.self.inside.sets.items c.place-place.result (written c)) c.args.line (written c)
unfolding written
filled c =
    set_put c.self.inside.sets.items c.args.self.now c.args.line c.place-place.result (written c) c.self.view_is
    c.place-place.ensures.place
    c.place-place.ensures.within
    (only_this-room c.args.self.now c.args.line (subst InTheirSets c.self.view_is c.self.invariant)
    c.requires.room) (λ held e. cc)

pub returns-clause-states : goal.returns-clause-states
unfolding written
returns-clause-states c = (filled c).states

pub returns-clause-copies : goal.returns-clause-copies
unfolding written
returns-clause-copies c = (filled c).copies
