use Rattle.std.proofs.Common.{◌≡◌, None, true, is_some, set, sym, ◌∙◌, ap}
use Rattle.fsb_cache.specs.Sets.{copies, held_at, states}
use Rattle.fsb_cache.proofs.SetMaps.{SetPut, is_some-copied, only_this-found, put-same, set_put, states-missed}
use Rattle.fsb_cache.proofs.cache.Cache.drop_line.Goals as goal

dropped : (c : goal.After-self-1)
    → SetPut c.args.self.now (set c.self.inside.sets.items c.place-place.result None) c.args.line None
dropped c =
    let found : is_some (held_at c.args.self.now c.args.line) ≡ true =
    sym (ap is_some c.held.ensures) ∙ is_some-copied c.held.result ∙ sym c.is_some.ensures ∙ c.if-is_some.true in
    set_put c.self.inside.sets.items c.args.self.now c.args.line c.place-place.result None c.self.view_is
    c.place-place.ensures.place
    c.place-place.ensures.within (only_this-found c.args.self.now c.args.line found)
    (λ held never. absurd (let h : ⊥ = cc in h))

pub returns-then-is_some-clause-states : goal.returns-then-is_some-clause-states
returns-then-is_some-clause-states c = (dropped c).states

pub returns-then-is_some-clause-copies : goal.returns-then-is_some-clause-copies
returns-then-is_some-clause-copies c = (dropped c).copies

pub returns-else-is_some-clause-states : goal.returns-else-is_some-clause-states
returns-else-is_some-clause-states c =
    put-same (states c.args.self.now) c.args.line _
    (states-missed c.args.self.now c.args.line (sym (ap is_some c.held.ensures) ∙ is_some-copied c.held.result
    ∙ sym c.is_some.ensures ∙ c.if-is_some.false)).0

pub returns-else-is_some-clause-copies : goal.returns-else-is_some-clause-copies
returns-else-is_some-clause-copies c =
    put-same (copies c.args.self.now) c.args.line _
    (states-missed c.args.self.now c.args.line (sym (ap is_some c.held.ensures) ∙ is_some-copied c.held.result
    ∙ sym c.is_some.ensures ∙ c.if-is_some.false)).1
