use Rattle.std.proofs.Common.{rules, ℕ, ◌≡◌, get_or, None, ap, ◌∙◌, replicate}
use Rattle.fsb_cache.proofs.SetMaps.{copies-empty, none-replicated, states-empty}
use Rattle.fsb_cache.proofs.cache.Cache.new.Goals as goal

none : (c : goal.In_ok-sets) (i : ℕ) → get_or c.in_ok-sets.sets.items i None ≡ None
none c i =
    let items : c.in_ok-sets.sets.items ≡ replicate c.args.lines None =
    c.in_ok-sets.ensures.items_if_clones_equal (λ y k. search rules) in
    ap (λ sets. get_or sets i None) items ∙ none-replicated c.args.lines i

pub returns-clause-states : goal.returns-clause-states
returns-clause-states c = states-empty c.in_ok-sets.sets.items (none c)

pub returns-clause-copies : goal.returns-clause-copies
returns-clause-copies c = copies-empty c.in_ok-sets.sets.items (none c)
