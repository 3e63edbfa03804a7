use Rattle.std.proofs.Common.{rules, ◌∙◌, ◌≡◌, ◌-◌, ◌%◌, ap, length, bit_and}
use Rattle.fsb_cache.proofs.Places.{and_is_mod}
use Rattle.fsb_cache.proofs.cache.Cache.place.Goals as goal

pub returns-clause-place : goal.returns-clause-place
returns-clause-place c =
    let len : c.len.result ≡ length c.self.inside.sets.items = search rules in
    ap (λ n. bit_and c.args.line (n - 1)) len
    ∙ and_is_mod c.args.line (length c.self.inside.sets.items) c.self.invariant.power
    ∙ ap (λ sets. c.args.line % length sets) c.self.view_is
