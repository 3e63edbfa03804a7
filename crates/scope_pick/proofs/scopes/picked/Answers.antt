use Rattle.std.proofs.Common.{◌≡◌, ◌∙◌, ◌≢◌, ℕ, List, [], Bool, true, false, nat_eq, length, ap, sym, refl}
use Rattle.std.specs.List.{find, filter}
use Rattle.scope_pick.specs.declared.wires.Named.{Named}
use Rattle.scope_pick.specs.Scopes.{qualified, is_fullest, picked, stands_alone, buses}
use Rattle.scope_pick.proofs.scopes.picked.Goals as goal

-- the fullest of the scopes that qualify is the one that is picked
along : (ns : List Named) (settled : List ℕ) (scopes : List Named) → scopes ≡ qualified ns settled
    → find (is_fullest ns settled scopes) scopes ≡ picked ns settled
unfolding picked
along ns settled scopes h = rw h refl

-- those of them that lie in no other are the buses
apart : (ns : List Named) (settled : List ℕ) (scopes : List Named) → scopes ≡ qualified ns settled
    → filter (stands_alone ns settled scopes) scopes ≡ buses ns settled
unfolding buses
apart ns settled scopes h = rw h refl

-- a list that is not empty by its length is not empty
some : (empty : Bool) (n : ℕ) (xs ys : List Named) → empty ≡ nat_eq n 0 → empty ≡ false → length xs ≡ n
    → xs ≡ ys → ys ≢ []
some empty n xs ys h full len same e =
    let z : n ≡ 0 = sym len ∙ ap length (same ∙ e) in
    let t : empty ≡ true = h ∙ ap (λ k. nat_eq k 0) z in
    cc

pub returns-in-Ok-Some : goal.returns-in-Ok-Some
returns-in-Ok-Some c =
    sym (along _ _ _ (c.deref.ensures.value ∙ c.in-Ok.ensures)) ∙ sym c.in-Ok-Some.ensures ∙ c.in-Ok-Some.field-0-is

pub returns-in-Ok-buses : goal.returns-in-Ok-buses
returns-in-Ok-buses c = (
  some _ _ _ _ c.is_empty.ensures c.if-is_empty.false c.deref.ensures.len (c.deref.ensures.value ∙ c.in-Ok.ensures),
  c.in-Ok-buses.ensures ∙ apart _ _ _ (c.deref-in-Ok-None.ensures.value ∙ c.in-Ok.ensures),
  sym (along _ _ _ (c.deref.ensures.value ∙ c.in-Ok.ensures)) ∙ sym c.in-Ok-None.ensures ∙ c.in-Ok-None.field-0-is,
)
