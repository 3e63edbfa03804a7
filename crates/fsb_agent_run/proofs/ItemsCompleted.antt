-- An agent that has a hit or an arrival completes its next item: its entries of the clock are the item's accesses.
use Rattle.fsb_agent_run.proofs.Words
use Words.{ℕ, ◌+◌, ◌<◌, ◌≡◌, ◌⊎◌, Bool, true, false, not, ◌&&◌, ◌||◌, List, [], ◌∷◌, map, Some, length, nat_eq, refl}
use Words.{ap, ◌∙◌, inl, inr, arith, list_all, list_any, and_parts, cases_Bool, eqb-true, Access, Item, Done}
use Words.{accessed_line, Step, steps_from, steps_of, steps_of_item, is_arrival, is_hit, is_store_on, Past, Run}
use Words.{past_of, Need, completes_at, is_load, locked_need, needs_after, needs_of, next_item, plain_need, at}
use Words.{logged-next, logs-item, not-behind, steps-completed, some-and, Reaches, completes-exactly, last-of}
use Words.{CompletesItem, LogsItem}
use Rattle.fsb_agent_run.proofs.HandSteps.{stores_into}

pub completes-there : (r : Run) (a c : ℕ) → Reaches r (c + 1) → a < 4
    → (is_hit (past_of r) a c ≡ true) ⊎ (is_arrival (past_of r) a c ≡ true) → completes_at (past_of r) a c ≡ true
completes-there r a c h few which = grind (arith, completes-exactly)

pub completes-not : (r : Run) (a c : ℕ) → Reaches r (c + 1) → a < 4 → is_hit (past_of r) a c ≡ false
    → is_arrival (past_of r) a c ≡ false → completes_at (past_of r) a c ≡ false
completes-not r a c h few none off = completes-exactly r a c h few ∙ rw (none, off) refl

pub completes-item : (r : Run) (a c : ℕ) → Reaches r (c + 1) → a < 4
    → (is_hit (past_of r) a c ≡ true) ⊎ (is_arrival (past_of r) a c ≡ true)
    → (number : ℕ) × CompletesItem (past_of r) a c number
completes-item r a c h few which =
    let p = past_of r in
    let long = h.long in
    let l : c < length r.trace = omega arith in
    let completes = completes-there r a c h few which in
    let m = logs-item p a c completes in
    let next = (logged-next r a c m.0 h.timely l m.1).0 in
    let last = last-of r a c m.0 h.timely l next completes in (
      m.0,
      record {
        next = next;
        logged = m.1;
        alone = λ other e. (let there = (logged-next r a c other h.timely l e).0 in
            let same : other ≡ m.0 = cc in same);
        behind = λ other k. not-behind r a c m.0 other h.timely (omega arith) next k;
        last = last.last;
        is_last = last.there;
        last_clock = last.clock;
        last_item = last.item;
      },
    )

-- there is such an item
pub item-there : (p : Past) (a c : ℕ) → (is_hit p a c ≡ true) ⊎ (is_arrival p a c ≡ true)
    → (item : Item) × (next_item p a c ≡ Some item)
unfolding is_hit is_arrival
item-there p a c h1 = grind (arith, some-and)

-- in a timely run it is logged
pub logged-there : (r : Run) (a c : ℕ) → Reaches r (c + 1) → a < 4
    → (is_hit (past_of r) a c ≡ true) ⊎ (is_arrival (past_of r) a c ≡ true) → LogsItem (past_of r) a c
unfolding past_of
logged-there r a c h few which =
    let p = past_of r in
    let long = h.long in
    let k = completes-item r a c h few which in
    let item = item-there p a c which in
    record {
      number = k.0;
      item = item.0;
      completes = k.1;
      next = item.1;
      steps = steps-completed r a c k.0 item.0 h.timely (omega arith) few k.1.next item.1 which;
    }

-- whether an agent's entries of a clock store into a line, by their accesses
pub stores-by-steps : (a line c : ℕ) (log : List Done)
    → list_any (λ done. is_store_on a line done && nat_eq done.clock c) log
    ≡ list_any (λ (step : Step). stores_into line step.access) (steps_of a (at c log))
unfolding is_store_on stores_into
stores-by-steps a line c [] = refl
stores-by-steps a line c (done ∷ log) =
    let rest = stores-by-steps a line c log in
    let here = not (is_load done.access) && nat_eq (accessed_line done.access) line in
    elim (cases_Bool (nat_eq done.clock c)) [
      | inr off ↦ rw off (ap (λ b. b || list_any (λ d. is_store_on a line d && nat_eq d.clock c) log)
          (no-clock (nat_eq done.agent a && not (is_load done.access)) (nat_eq (accessed_line done.access) line))
          ∙ rest)
      | inl on ↦ elim (cases_Bool (nat_eq done.agent a)) [
        | inr other ↦ rw (on, other) rest
        | inl own ↦
            rw (on, own)
            ((λ i. whole (not (is_load done.access)) (nat_eq (accessed_line done.access) line) i || rest i))
      ]
    ]
  where
    no-clock : (x y : Bool) → ((x && y) && false) ≡ false
    no-clock x y = grind arith

    whole : (x y : Bool) → (((true && x) && y) && true) ≡ (x && y)
    whole x y = grind arith

-- the needs of an item are those of its accesses: what holds of each need holds of each access's line
group-needs : (f : Need → Bool) (g : Access → Bool) (group accesses : List Access) (n part : ℕ)
    → ((access : Access) → f (locked_need [] group access) ≡ true → g access ≡ true)
    → list_all f (map (locked_need [] group) accesses) ≡ true
    → list_all (λ (step : Step). g step.access) (steps_from n part accesses) ≡ true
group-needs f g group [] n part each all = refl
group-needs f g group (access ∷ accesses) n part each all =
    grind (arith, group-needs f g group accesses n (part + 1) each)

-- what is needed for an access: its line, and alone for a store
pub record IsNeedOf (need : Need) (access : Access) : Type 0 where
  pub line : need.line ≡ accessed_line access
  pub alone : is_load access ≡ false → need.alone ≡ true

pub steps-need : (f : Need → Bool) (g : Access → Bool) (n : ℕ) (item : Item)
    → ((need : Need) (access : Access) → IsNeedOf need access → f need ≡ true → g access ≡ true)
    → list_all f (needs_of item) ≡ true → list_all (λ (step : Step). g step.access) (steps_of_item n item) ≡ true
unfolding needs_of needs_after plain_need locked_need
steps-need f g n item h1 h2 = grind (arith, group-needs)

-- what passes in each access passes in one that stores into a line
pub any-stores : (g : Access → Bool) (line : ℕ) (steps : List Step)
    → list_all (λ (step : Step). g step.access) steps ≡ true
    → list_any (λ (step : Step). stores_into line step.access) steps ≡ true
    → (access : Access) × (is_load access ≡ false) × (accessed_line access ≡ line) × (g access ≡ true)
unfolding stores_into
any-stores g line [] all any = absurd (let no : ⊥ = cc in no)
any-stores g line (step ∷ steps) all any =
    let parts = and_parts (g step.access) (list_all (λ (s : Step). g s.access) steps) all in
    elim (cases_Bool (stores_into line step.access)) [
      | inl on ↦
          let two = and_parts (not (is_load step.access)) (nat_eq (accessed_line step.access) line) on in
          (step.access, not-load (is_load step.access) two.0, eqb-true (accessed_line step.access) line two.1, parts.0)
      | inr off ↦ any-stores g line steps parts.1 (let any' = rw off at any in any')
    ]
  where
    not-load : (b : Bool) → not b ≡ true → b ≡ false
    not-load b h1 = grind arith
