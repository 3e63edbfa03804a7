-- Where an agent is in its script behind a completion, and at which clocks it has one.
use Rattle.fsb_run_laws.proofs.Words
use Words.{ℕ, ◌+◌, ◌<◌, ◌≡◌, Bool, true, false, ◌&&◌, nat_lt, List, [], ◌∷◌, Option, Some, length, refl, ap, arith}
use Words.{option_map_or, lt-ltb, is_some_and, first_where-found, first_where-same, Item, Step, steps_from}
use Words.{steps_of_item, is_lawful_item, is_lock_size, Done, Past, past_of, Run, completes_at, idle_clocks, idle_start}
use Words.{is_idle, is_idling, is_logged, is_to_do, items_of, next_number, number_after, done-before, done-now}
use Words.{is_logged-more, logged-next, logs-item, next_number-same, not-behind, Reaches, is_behind, next_behind}
use Rattle.fsb_access.specs.declared.item.Item.TheVariants.{Idle, Locked, One}
use Rattle.fsb_run_laws.proofs.LastEntries.{last-of, last-stays}

-- which items are to do one clock on
above-same : (p : Past) (a c m k : ℕ) → is_logged p a c k ≡ false → m < k
    → is_to_do p a c k ≡ is_behind (items_of p a) m k
unfolding is_to_do is_behind
above-same p a c m k none above = rw (none, lt-ltb m k above) refl

nothing : (b : Bool) → false ≡ (b && false)
nothing b = grind arith

-- the next item behind a completion is the first one behind the item that is completed
pub next-behind : (r : Run) (a n m : ℕ) → Reaches r (n + 1) → next_number (past_of r) a n ≡ Some m
    → completes_at (past_of r) a n ≡ true
    → next_number (past_of r) a (n + 1)
    ≡ next_behind (items_of (past_of r) a) m (length (items_of (past_of r) a))
unfolding next_number next_behind is_behind
next-behind r a n m h next e =
    grind (
      arith,
      first_where-found,
      logs-item,
      logged-next,
      first_where-same,
      above-same,
      not-behind,
      is_logged-more,
      done-before,
      done-now,
    )

-- from the clock behind a completion an agent idles, over the items from the one behind the item completed
pub idles-from : (r : Run) (a n m : ℕ) → Reaches r (n + 1) → next_number (past_of r) a n ≡ Some m
    → completes_at (past_of r) a n ≡ true
    → (idle_start (past_of r) a (n + 1) ≡ n + 1) × (number_after (past_of r) a (n + 1) ≡ m + 1)
unfolding idle_start number_after
idles-from r a n m h next e =
    let k = last-of r a n m h.timely (omega arith) next e in
    grind arith

pub idle_start-stays : (p : Past) (a n : ℕ) → completes_at p a n ≡ false → idle_start p a (n + 1) ≡ idle_start p a n
unfolding idle_start
idle_start-stays p a n e = ap (λ (o : Option Done). option_map_or (λ done. done.clock + 1) o 0) (last-stays p a n e)

pub number_after-stays : (p : Past) (a n : ℕ) → completes_at p a n ≡ false
    → number_after p a (n + 1) ≡ number_after p a n
unfolding number_after
number_after-stays p a n e = ap (λ (o : Option Done). option_map_or (λ done. done.item + 1) o 0) (last-stays p a n e)

-- whether an agent idles one clock on, behind a completion and without one
pub idling-behind : (r : Run) (a n m : ℕ) → Reaches r (n + 1) → next_number (past_of r) a n ≡ Some m
    → completes_at (past_of r) a n ≡ true
    → is_idling (past_of r) a (n + 1)
    ≡ is_some_and (next_behind (items_of (past_of r) a) m (length (items_of (past_of r) a)))
    (λ k. nat_lt (n + 1) (n + 1 + idle_clocks (items_of (past_of r) a) (m + 1) k))
unfolding is_idling
idling-behind r a n m h next e =
    let items = items_of (past_of r) a in
    let from = idles-from r a n m h next e in
    let item = next-behind r a n m h next e in
    λ i. is_some_and (item i) (λ k. nat_lt (n + 1) (from.0 i + idle_clocks items (from.1 i) k))

pub idling-stays : (p : Past) (a n : ℕ) → completes_at p a n ≡ false → is_idling p a (n + 1)
    ≡ is_some_and (next_number p a n)
    (λ k. nat_lt (n + 1) (idle_start p a n + idle_clocks (items_of p a) (number_after p a n) k))
unfolding is_idling
idling-stays p a n e = grind (arith, next_number-same, idle_start-stays, number_after-stays)

-- an item that is to do has an access, where the script is lawful
pub first-step : (cache n : ℕ) (item : Item) → is_lawful_item cache item ≡ true → is_idle item ≡ false
    → (step : Step) × (steps : List Step) × (steps_of_item n item ≡ step ∷ steps)
unfolding is_lock_size is_idle
first-step cache n (One access) lawful e = (record { item = n; part = 0; access = access }, [], refl)
first-step cache n (Locked []) lawful e = absurd (let no : ⊥ = cc in no)
first-step cache n (Locked (access ∷ group)) lawful e =
    (record { item = n; part = 0; access = access }, steps_from n 1 group, refl)
first-step cache n (Idle clocks) lawful e = absurd (let no : ⊥ = cc in no)
