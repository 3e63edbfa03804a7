use Rattle.std.proofs.Common.{sym, ap, ◌∙◌, option_copied, arith}
use Rattle.steady_map.specs.Entries.{get}
use Rattle.steady_map.proofs.PlaceLemmas.{no_place, place_within, value_there}
use Rattle.steady_map.proofs.map.SteadyMap.get.Goals as goal

pub returns-in_err-place : goal.returns-in_err-place
returns-in_err-place g c =
    let absent = sym (c.self.invariant.same c.args.key) ∙ sym c.place.ensures ∙ c.in_err-place.was in
    ap option_copied c.from_residual.ensures
    ∙ sym (no_place c.self.inside.entries.items c.args.key absent)
    ∙ ap (λ map. get map c.args.key) c.self.view_is

pub index-requires : goal.index-requires
index-requires g c =
    let there = sym (c.self.invariant.same c.args.key) ∙ sym c.place.ensures ∙ c.in_ok-place.was in
    omega (
      arith,
      place_within c.self.inside.entries.items c.args.key c.in_ok-place.place there,
      c.self.inside.entries.ok.0,
    )

pub returns : goal.returns
returns g c =
    let there = sym (c.self.invariant.same c.args.key) ∙ sym c.place.ensures ∙ c.in_ok-place.was in
    value_there c.self.inside.entries.items c.args.key c.in_ok-place.place _ there c.index.ensures
    ∙ ap (λ map. get map c.args.key) c.self.view_is
