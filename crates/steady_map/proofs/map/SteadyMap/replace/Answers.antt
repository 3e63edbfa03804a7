use Rattle.std.proofs.Common.{Some, cond, nat_eq, sym, ap, subst, ◌∙◌, arith}
use Rattle.std.specs.Map.{lookup}
use Rattle.steady_map.specs.Entries.{get}
use Rattle.steady_map.specs.Places.{PlacesKept}
use Rattle.indexmap.specs.IndexMap.{insert_entry}
use Rattle.steady_map.proofs.PlaceLemmas.{no_place, place_within, value_there, replaced, kept_replaced, updated}
use Rattle.steady_map.proofs.map.SteadyMap.replace.Goals as goal

pub returns-in_default-clause-absent : goal.returns-in_default-clause-absent
returns-in_default-clause-absent g c =
    let absent = sym (c.self.invariant.same c.args.key) ∙ sym c.place.ensures ∙ c.in_default.is in
    sym (ap (λ map. get map c.args.key) c.self.view_is)
    ∙ no_place c.self.inside.entries.items c.args.key absent

pub index_mut-requires : goal.index_mut-requires
index_mut-requires g c =
    let there = sym (c.self.invariant.same c.args.key) ∙ sym c.place.ensures ∙ c.in-Some.is in
    omega (
      arith,
      place_within c.self.inside.entries.items c.args.key c.in-Some.place there,
      c.self.inside.entries.ok.0,
    )

pub invariant_of-self : goal.invariant_of-self
invariant_of-self g c =
    let there = sym (c.self.invariant.same c.args.key) ∙ sym c.place.ensures ∙ c.in-Some.is in
    let items = c.self.inside.entries.items in
    subst (λ es. PlacesKept c.self.inside.places es)
    (sym (replaced items c.args.key c.in-Some.place c.index_mut.result.now c.replace.new.dest c.args.value there
    c.index_mut.ensures.value c.replace.ensures.after))
    (kept_replaced c.self.inside.places items c.args.key c.in-Some.place c.args.value c.self.invariant there)

pub returns-clause-old : goal.returns-clause-old
returns-clause-old g c =
    let there = sym (c.self.invariant.same c.args.key) ∙ sym c.place.ensures ∙ c.in-Some.is in
    sym (ap Some c.replace.ensures.value
    ∙ value_there c.self.inside.entries.items c.args.key c.in-Some.place c.index_mut.result.now there
    c.index_mut.ensures.value
    ∙ ap (λ map. get map c.args.key) c.self.view_is)

pub returns-clause-updates : goal.returns-clause-updates
returns-clause-updates g c = λ other.
    let there = sym (c.self.invariant.same c.args.key) ∙ sym c.place.ensures ∙ c.in-Some.is in
    let items = c.self.inside.entries.items in
    ap (λ es. lookup (nat_eq other) es)
    (replaced items c.args.key c.in-Some.place c.index_mut.result.now c.replace.new.dest c.args.value there
    c.index_mut.ensures.value c.replace.ensures.after)
    ∙ updated items c.args.key c.args.value other
    ∙ ap (λ map. cond (nat_eq c.args.key other) (Some c.args.value) (get map other)) c.self.view_is

pub returns-clause-entries : goal.returns-clause-entries
returns-clause-entries g c =
    let there = sym (c.self.invariant.same c.args.key) ∙ sym c.place.ensures ∙ c.in-Some.is in
    replaced c.self.inside.entries.items c.args.key c.in-Some.place c.index_mut.result.now c.replace.new.dest
    c.args.value there c.index_mut.ensures.value c.replace.ensures.after
    ∙ ap (λ map. insert_entry nat_eq map.entries c.args.key c.args.value) c.self.view_is
