-- An agent has an entry at a clock exactly where it has a hit or an arrival.
use Rattle.fsb_run_laws.proofs.Words
use Words.{ℕ, ◌+◌, ◌<◌, ◌≡◌, ◌⊎◌, true, false, ◌||◌, List, [], ◌∷◌, Option, Some, slice_get, refl, ◌∙◌, arith, list_all}
use Words.{list_any, is_some_and, first_where-found, Item, Done, script_of, steps_of, is_lawful_item, is_lawful_script}
use Words.{is_arrival, is_hit, Past, past_of, Run, completes_at, is_done_at, is_idle, is_to_do, items_of, next_item}
use Words.{next_number, at, logged-next, logs-item, steps-completed, all-at, Reaches}
use Rattle.fsb_run_laws.proofs.NextItems.{first-step}

-- an agent without an entry at a clock has no steps there
no-steps : (a n : ℕ) (log : List Done) → list_any (is_done_at a n) log ≡ false → steps_of a (at n log) ≡ []
unfolding is_done_at
no-steps a n [] e = refl
no-steps a n (done ∷ log) e = grind (arith, no-steps a n log)

script-lawful : (scripts : List (List Item)) (cache a : ℕ) (o : Option (List Item)) → slice_get scripts a ≡ o
    → list_all (is_lawful_script cache) scripts ≡ true
    → list_all (is_lawful_item cache) (script_of scripts a) ≡ true
unfolding is_lawful_script
script-lawful scripts cache a o h1 h2 = grind (arith, all-at)

-- the next item of an agent, with its number
record IsNextItem (p : Past) (a n : ℕ) : Type 0 where
  pub number : ℕ
  pub next : next_number p a n ≡ Some number
  pub item : Item
  pub there : slice_get (items_of p a) number ≡ Some item
  pub is_item : next_item p a n ≡ Some item
  pub active : is_idle item ≡ false

has-next : (p : Past) (a n : ℕ) → (is_hit p a n ≡ true) ⊎ (is_arrival p a n ≡ true) → IsNextItem p a n
unfolding is_hit is_arrival next_item next_number is_to_do is_some_and
has-next p a n h1 = grind (arith, first_where-found)

completes-then : (r : Run) (a n : ℕ) → Reaches r (n + 1) → a < 4
    → (is_hit (past_of r) a n ≡ true) ⊎ (is_arrival (past_of r) a n ≡ true) → completes_at (past_of r) a n ≡ true
unfolding completes_at past_of items_of
completes-then r a n h few which =
    let p = past_of r in
    let k = has-next p a n which in
    let scripts = p.plan.scripts in
    let lawful = script-lawful scripts p.plan.cache a (slice_get scripts a) refl h.bounds.lawful_scripts in
    let item = all-at (is_lawful_item p.plan.cache) (items_of p a) k.number k.item lawful k.there in
    let first = first-step p.plan.cache k.number k.item item k.active in
    let steps = steps-completed r a n k.number k.item h.timely (omega arith) few k.next k.is_item which ∙ first.2 in
    grind (arith, no-steps)

pub completes-exactly : (r : Run) (a n : ℕ) → Reaches r (n + 1) → a < 4
    → completes_at (past_of r) a n ≡ (is_hit (past_of r) a n || is_arrival (past_of r) a n)
completes-exactly r a n h few = grind (arith, logs-item, logged-next, completes-then)
