-- A view has a hit exactly where the run has one, and an arrival likewise.
use Rattle.fsb_agent_run.proofs.Words
use Words.{ℕ, ◌+◌, ◌≤◌, ◌≡◌, Bool, true, false, not, ◌&&◌, ◌||◌, List, [], ◌∷◌, Option, Some, refl, sym, ap, subst, ◌∙◌}
use Words.{inl, inr, arith, list_all, list_any, option_map_or, both_ways, cases_Bool, false_from_ne_true, is_some_and}
use Words.{any_where-at, any_where-off, Item, Past, is_granted, Need, is_idling, needs_of, next_item, is_hit, brings_at}
use Words.{completes_by, is_arrival, is_brought, is_there, some-and, AgentView, is_served_by, may_complete}
use Words.{are_met_with, is_arrival_by, is_brought_by, is_there_by, is_hit_by, kind_asks, OwnRequest, kind_owns}
use Words.{HasLinesOf, IsAgentOf, IsAtItem, IsComing}
use Rattle.fsb_agent_run.proofs.Places.{may-by, next-by}
use Rattle.fsb_agent_run.proofs.StatesTold.{served-by, there-by}

never : (b : Bool) → (b && false) ≡ false
never b = grind arith

-- the same of the next item, where there is one
of-next : (may free : Bool) (next : Option Item) (f g : Item → Bool) → ((item : Item) → next ≡ Some item → may ≡ free)
    → ((item : Item) → f item ≡ g item) → (may && option_map_or f next false) ≡ (free && is_some_and next g)
unfolding is_some_and
of-next may free next f g h1 h2 = grind arith

pub hit-by : (p : Past) (a c : ℕ) (dirty : ℕ → Bool) (v : AgentView) → IsAgentOf p a v → IsAtItem p a c false v
    → HasLinesOf p a c c dirty v → is_hit_by v c ≡ is_hit p a c
unfolding is_hit
hit-by p a c dirty v is at lines = grind (arith, next-by, served-by, of-next, may-by)

-- the line that comes brings what it brings in the run
brings-there : (p : Past) (a c line : ℕ) (owns : Bool) (need : Need) → (k : IsComing p a c line owns)
    → is_brought_by line owns need ≡ true → brings_at p a c need k.at ≡ true
unfolding brings_at is_granted is_some_and
brings-there p a c line owns need k e = grind arith

brings-here : (p : Past) (a c line : ℕ) (owns : Bool) (need : Need) (t : ℕ) → IsComing p a c line owns → t ≤ c
    → brings_at p a c need t ≡ true → is_brought_by line owns need ≡ true
unfolding brings_at is_granted
brings-here p a c line owns need t k l e = grind (arith, some-and)

pub brought-by : (p : Past) (a c line : ℕ) (owns : Bool) (need : Need) → IsComing p a c line owns
    → is_brought p a c need ≡ is_brought_by line owns need
unfolding is_brought
brought-by p a c line owns need k = elim (cases_Bool (is_brought_by line owns need)) [
  | inl brings ↦
      let below = k.before in
      any_where-at (brings_at p a c need) (c + 1) k.at (omega arith) (brings-there p a c line owns need k brings)
      ∙ sym brings
  | inr lacks ↦
      any_where-off (brings_at p a c need) (c + 1) (λ t l.
      false_from_ne_true (brings_at p a c need t) (λ e.
      both_ways (is_brought_by line owns need) lacks (brings-here p a c line owns need t k (omega arith) e)))
      ∙ sym lacks
]

-- what is the same of each need is a condition of the whole
any-both : (f : Need → Bool) (k : Bool) (needs : List Need)
    → list_any (λ need. f need && k) needs ≡ (list_any f needs && k)
any-both f k [] = refl
any-both f k (need ∷ needs) =
    let rest = any-both f k needs in
    (λ i. (f need && k) || rest i) ∙ join (f need) (list_any f needs) k
  where
    join : (x y k : Bool) → ((x && k) || (y && k)) ≡ ((x || y) && k)
    join x y k = grind arith

-- where a need is brought, the others have to be there
with-others : (p : Past) (a c line : ℕ) (owns : Bool) (v : AgentView) (needs : List Need) (need : Need)
    → IsComing p a c line owns → ((other : Need) → is_served_by v other ≡ is_there p a c other)
    → completes_by p a c needs need ≡ (is_brought_by line owns need && list_all (is_there_by v line) needs)
unfolding completes_by
with-others p a c line owns v needs need k there = grind (arith, brought-by)

arrives : (p : Past) (a c line : ℕ) (owns : Bool) (v : AgentView) (needs : List Need) → IsComing p a c line owns
    → ((other : Need) → is_served_by v other ≡ is_there p a c other)
    → are_met_with v line owns needs ≡ list_any (completes_by p a c needs) needs
arrives p a c line owns v needs k there =
    let each : (need : Need)
    → (is_brought_by line owns need && list_all (is_there_by v line) needs) ≡ completes_by p a c needs need =
    λ need. sym (with-others p a c line owns v needs need k there) in
    sym (any-both (is_brought_by line owns) (list_all (is_there_by v line) needs) needs)
    ∙ (λ i. list_any (λ need. each need i) needs)

pub arrival-by : (p : Past) (a c : ℕ) (dirty : ℕ → Bool) (v : AgentView) (out : OwnRequest) → IsAgentOf p a v
    → IsAtItem p a c (is_hit p a c) v → HasLinesOf p a (c + 1) c dirty v
    → IsComing p a c out.request.line (kind_owns (kind_asks out.request.kind))
    → is_arrival_by v c out ≡ is_arrival p a c
unfolding is_arrival
arrival-by p a c dirty v out is at lines k = elim (cases_Bool (is_hit p a c)) [
  | inl hit ↦
      let done : IsAtItem p a c true v = subst (λ b. IsAtItem p a c b v) hit at in
      rw (done.finished, hit, never (not (is_idling p a c))) refl
  | inr none ↦
      let open_item : IsAtItem p a c false v = subst (λ b. IsAtItem p a c b v) none at in
      let line = out.request.line in
      let owns = kind_owns (kind_asks out.request.kind) in
      let next = next-by p a c v is open_item in
      let there : (other : Need) → is_served_by v other ≡ is_there p a c other = grind (arith, there-by) in
      (λ i. may_complete v c && option_map_or (λ item. are_met_with v line owns (needs_of item)) (next i) false)
      ∙ of-next (may_complete v c) (not (is_idling p a c)) (next_item p a c)
      (λ item. are_met_with v line owns (needs_of item))
      (λ item. list_any (completes_by p a c (needs_of item)) (needs_of item))
      (λ item e. may-by p a c v item open_item e) (λ item. arrives p a c line owns v (needs_of item) k there)
      ∙ sym (ap
      (λ b. b && is_some_and (next_item p a c) (λ item. list_any (completes_by p a c (needs_of item)) (needs_of item)))
      (ap (λ b. not (is_idling p a c) && not b) none ∙ whole (not (is_idling p a c))))
]
  where
    whole : (b : Bool) → (b && not false) ≡ b
    whole b = grind arith
