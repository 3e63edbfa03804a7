use Rattle.std.proofs.Common.{Some, cond, nat_eq, [], ◌∷◌, ◌++◌, sym, ap, subst, ◌∙◌}
use Rattle.std.specs.Map.{lookup}
use Rattle.indexmap.specs.IndexMap.{insert_entry}
use Rattle.steady_map.specs.Entries.{get}
use Rattle.steady_map.specs.Places.{place_by, PlacesKept}
use Rattle.steady_map.proofs.PlaceLemmas.{none_there, inserted_last, kept_added, updated}
use Rattle.steady_map.proofs.map.SteadyMap.add.Goals as goal

pub add-requires : goal.add-requires
add-requires g c =
    let absent = ap (λ map. get map c.args.key) c.self.view_is ∙ c.requires in
    c.self.invariant.same c.args.key ∙ none_there c.self.inside.entries.items c.args.key absent

pub invariant_of-self-2 : goal.invariant_of-self-2
invariant_of-self-2 g c =
    let items = c.self.inside.entries.items in
    let key = c.args.key in
    let value = c.args.value in
    let absent = ap (λ map. get map key) c.self.view_is ∙ c.requires in
    let long = c.len.ensures ∙ c.reserve.ensures.len ∙ c.self.inside.entries.ok.0 in
    let now = c.push_reserved.ensures.items ∙ ap (λ es. es ++ (key, value) ∷ []) c.reserve.ensures.items
    ∙ sym (inserted_last items key value absent) in
    subst (λ es. PlacesKept c.add.new.self es) (sym now)
    (kept_added c.self.inside.places c.add.new.self items key value c.self.invariant absent
    (λ other. c.in_ok-add.ensures.added other
    ∙ ap (λ place. cond (nat_eq key other) (Some place) (place_by c.self.inside.places other)) long))

pub returns-clause-updates : goal.returns-clause-updates
returns-clause-updates g c = λ other.
    let items = c.self.inside.entries.items in
    let key = c.args.key in
    let value = c.args.value in
    let absent = ap (λ map. get map key) c.self.view_is ∙ c.requires in
    let now = c.push_reserved.ensures.items ∙ ap (λ es. es ++ (key, value) ∷ []) c.reserve.ensures.items
    ∙ sym (inserted_last items key value absent) in
    ap (λ es. lookup (nat_eq other) es) now
    ∙ updated items key value other
    ∙ ap (λ map. cond (nat_eq key other) (Some value) (get map other)) c.self.view_is

pub returns-clause-entries : goal.returns-clause-entries
returns-clause-entries g c =
    let items = c.self.inside.entries.items in
    let key = c.args.key in
    let value = c.args.value in
    let absent = ap (λ map. get map key) c.self.view_is ∙ c.requires in
    c.push_reserved.ensures.items ∙ ap (λ es. es ++ (key, value) ∷ []) c.reserve.ensures.items
    ∙ sym (inserted_last items key value absent)
    ∙ ap (λ map. insert_entry nat_eq map.entries key value) c.self.view_is
