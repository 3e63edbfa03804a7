-- The log of a timely run follows its scripts: at each clock it goes on by the next items of agents, one after the
-- other.
use Rattle.fsb_bench_values.proofs.Words
use Words.{ℕ, zero, suc, ◌+◌, ◌<◌, ◌≤◌, ◌≡◌, Bool, true, false, List, [], ◌∷◌, ◌++◌, Option, Some, None, length, map}
use Words.{refl, sym, ap, subst, ◌∙◌, arith, append_assoc, append-nil, add-one, ◌==◌, list_all, slice_get}
use Words.{option_map_or, le-ltb, Item, Done, InOrder, Step, accesses_of, script_of, step_of, steps_of, steps_of_item}
use Words.{InOrder-empty, InOrder-next, steps_of-append, steps_of-other, Completed, completed_at, completed_if}
use Words.{completed_of_item, entries_at, is_arrival, is_in_time, next_accesses, of_all_agents, is_hit, Past, Run}
use Words.{past_of, items_of, next_item, next_number, Timely, at, below, below-more, follows-script, same-list}
use Words.{whole-completions, arrival-unhit}
use Rattle.std.specs.Prelude.{take}

-- an entry without its clock and its value
abbrev entry_of : Done → Completed
entry_of done = record { agent = done.agent; step = step_of done }

-- an agent's entries so far are the accesses of the items before its next one
abbrev HasDone : Past → ℕ → List Done → ℕ → Type 0
HasDone p n log a = (k : ℕ) → next_number p a n ≡ Some k → steps_of a log ≡ accesses_of (take k (items_of p a))

own-steps : (a : ℕ) (more : List Done) (steps : List Step)
    → map entry_of more ≡ map (λ (step : Step). record { agent = a; step = step }) steps
    → (list_all (λ (done : Done). done.agent == a) more ≡ true) × (map step_of more ≡ steps)
own-steps a [] [] e = (refl, refl)
own-steps a [] (step ∷ steps) e = absurd (let no : ⊥ = cc in no)
own-steps a (done ∷ more) [] e = absurd (let no : ⊥ = cc in no)
own-steps a (done ∷ more) (step ∷ steps) e = grind (arith, own-steps a more steps)

no-entries : (more : List Done) → map entry_of more ≡ [] → more ≡ []
no-entries [] e = refl
no-entries (done ∷ more) e = absurd (let no : ⊥ = cc in no)

-- what an agent completes at a clock: nothing, or its next item
record Completes (p : Past) (n a : ℕ) (completes : Bool) (more : List Done) : Type 0 where
  own : list_all (λ (done : Done). done.agent == a) more ≡ true
  none : completes ≡ false → more ≡ []
  goes : (log : List Done) → InOrder p.plan.scripts log → (completes ≡ true → HasDone p n log a)
      → InOrder p.plan.scripts (log ++ more)

nothing : (p : Past) (n a : ℕ) (completes : Bool) (more : List Done) → more ≡ [] → Completes p n a completes more
nothing p n a completes more e = grind (arith, append-nil)

completes-item : (p : Past) (n a k : ℕ) (item : Item) (more : List Done) → next_number p a n ≡ Some k
    → next_item p a n ≡ Some item → map entry_of more ≡ completed_of_item a k item → Completes p n a true more
unfolding completed_of_item next_item items_of
completes-item p n a k item more number next e =
    let own = own-steps a more (steps_of_item k item) e in
    let stands : slice_get (script_of p.plan.scripts a) k ≡ Some item = grind arith in
    record {
      own = own.0;
      none = λ f. absurd (let no : ⊥ = cc in no);
      goes = λ log order has. InOrder-next p.plan.scripts a k log more order (record {
        item = item;
        stands = stands;
        before = has refl k number;
        own = own.0;
        steps = own.1;
      });
    }

completes-if : (p : Past) (n a : ℕ) (completes : Bool) (more : List Done)
    → map entry_of more ≡ completed_if p n completes a → Completes p n a completes more
unfolding completed_if next_accesses
completes-if p n a false more e = nothing p n a false more (no-entries more e)
completes-if p n a true more e = by (next_number p a n) (next_item p a n) refl refl e
  where
    by : (number : Option ℕ) (item : Option Item) → next_number p a n ≡ number → next_item p a n ≡ item
        → map entry_of more ≡ option_map_or (λ k. option_map_or (completed_of_item a k) item []) number []
        → Completes p n a true more
    by None item f g h = nothing p n a true more (no-entries more h)
    by (Some k) None f g h = nothing p n a true more (no-entries more h)
    by (Some k) (Some x) f g h = completes-item p n a k x more f g h

-- other agents' entries are none of an agent's
others-stay : (a b : ℕ) (log more : List Done) → list_all (λ (done : Done). done.agent == b) more ≡ true → (a ≡ b → ⊥)
    → steps_of a (log ++ more) ≡ steps_of a log
others-stay a b log more own apart = grind (arith, steps_of-append, steps_of-other, append-nil)

-- a log in order, behind what the agents below m complete at n: what those from m on complete may come, and these
-- agents have none of it
record Stage (p : Past) (n m : ℕ) (completes keeps : ℕ → Bool) (log : List Done) : Type 0 where
  in_order : InOrder p.plan.scripts log
  ready : (a : ℕ) → a < 4 → completes a ≡ true → m ≤ a → HasDone p n log a
  rest : (a : ℕ) → a < 4 → keeps a ≡ true → HasDone p n log a

step : (p : Past) (n m : ℕ) (completes keeps : ℕ → Bool) (log more : List Done) → m < 4
    → (keeps m ≡ true → completes m ≡ false)
    → map entry_of more ≡ completed_if p n (completes m) m → Stage p n m completes keeps log
    → Stage p n (m + 1) completes keeps (log ++ more)
step p n m completes keeps log more few apart e s =
    let k = completes-if p n m (completes m) more e in
    grind (arith, others-stay, append-nil)

-- a list whose images are two lists is two lists
record Split {X Y : Type 0} (f : X → Y) (xs : List X) (ys zs : List Y) : Type 0 where
  first : List X
  second : List X
  both : xs ≡ first ++ second
  one : map f first ≡ ys
  two : map f second ≡ zs

split : {X Y : Type 0} (f : X → Y) (xs : List X) (ys zs : List Y) → map f xs ≡ ys ++ zs → Split f xs ys zs
split f xs [] zs e = record { first = []; second = xs; both = refl; one = refl; two = e }
split f [] (y ∷ ys) zs e = absurd (let no : ⊥ = cc in no)
split f (x ∷ xs) (y ∷ ys) zs e =
    let same : f x ≡ y = cc in
    let tail : map f xs ≡ ys ++ zs = cc in
    let k = split f xs ys zs tail in
    record {
      first = x ∷ k.first;
      second = k.second;
      both = ap (λ us. x ∷ us) k.both;
      one = λ i. same i ∷ k.one i;
      two = k.two;
    }

four-lists : (log u v w x : List Done) → log ++ (((u ++ v) ++ w) ++ x) ≡ (((log ++ u) ++ v) ++ w) ++ x
four-lists log u v w x = simp append_assoc

-- what all four agents complete
four-steps : (p : Past) (n : ℕ) (completes keeps : ℕ → Bool) (log more : List Done)
    → ((a : ℕ) → keeps a ≡ true → completes a ≡ false)
    → map entry_of more ≡ of_all_agents (λ a. completed_if p n (completes a) a) → Stage p n 0 completes keeps log
    → Stage p n 4 completes keeps (log ++ more)
unfolding of_all_agents
four-steps p n completes keeps log more apart e s =
    let list : ℕ → List Completed = λ a. completed_if p n (completes a) a in
    let k3 = split entry_of more ((list 0 ++ list 1) ++ list 2) (list 3) e in
    let k2 = split entry_of k3.first (list 0 ++ list 1) (list 2) k3.one in
    let k1 = split entry_of k2.first (list 0) (list 1) k2.one in
    let whole : more ≡ ((k1.first ++ k1.second) ++ k2.second) ++ k3.second = grind arith in
    let s0 = step p n 0 completes keeps log k1.first (omega arith) (apart 0) k1.one s in
    let s1 = step p n 1 completes keeps (log ++ k1.first) k1.second (omega arith) (apart 1) k1.two s0 in
    let s2 = step p n 2 completes keeps ((log ++ k1.first) ++ k1.second) k2.second (omega arith) (apart 2) k2.two s1 in
    let s3 = step p n 3 completes keeps (((log ++ k1.first) ++ k1.second) ++ k2.second) k3.second (omega arith)
    (apart 3)
    k3.two s2 in
    subst (Stage p n 4 completes keeps)
    (sym (ap (λ xs. log ++ xs) whole ∙ four-lists log k1.first k1.second k2.second k3.second)) s3

-- one clock
clock-in-order : (r : Run) (n : ℕ) → Timely r → n < length r.trace → InOrder r.plan.scripts (below n r.log)
    → InOrder r.plan.scripts (below n r.log ++ at n r.log)
unfolding entries_at completed_at past_of
clock-in-order r n h l order =
    let p : Past = past_of r in
    let log = below n r.log in
    let hits : ℕ → Bool = λ a. is_hit p a n in
    let arrivals : ℕ → Bool = λ a. is_arrival p a n in
    let same = same-list (entries_at p n) (completed_at p n) (whole-completions r n h l) in
    let k = split entry_of (at n r.log) (of_all_agents (λ a. completed_if p n (hits a) a))
    (of_all_agents (λ a. completed_if p n (arrivals a) a)) same in
    let has : (a : ℕ) → a < 4 → HasDone p n log a = λ a few i f. follows-script r a n i h few (omega arith) f in
    let first : Stage p n 0 hits arrivals log = record {
      in_order = order;
      ready = λ a few t from. has a few;
      rest = λ a few t. has a few;
    } in
    let middle = four-steps p n hits arrivals log k.first (λ a t. arrival-unhit p a n t) k.one first in
    let second : Stage p n 0 arrivals (λ a. false) (log ++ k.first) = record {
      in_order = middle.in_order;
      ready = λ a few t from. middle.rest a few t;
      rest = λ a few t. absurd (let no : ⊥ = cc in no);
    } in
    let last = four-steps p n arrivals (λ a. false) (log ++ k.first) k.second
    (λ a t. absurd (let no : ⊥ = cc in no)) k.two second in
    subst (InOrder r.plan.scripts) (append_assoc log k.first k.second ∙ ap (λ xs. log ++ xs) (sym k.both)) last.in_order

none-below : (log : List Done) → below 0 log ≡ []
none-below [] = refl
none-below (done ∷ log) = rw (le-ltb done.clock 0 (omega arith)) (none-below log)

in-order-below : (r : Run) (n : ℕ) → Timely r → n ≤ length r.trace → InOrder r.plan.scripts (below n r.log)
in-order-below r zero h l = subst (InOrder r.plan.scripts) (sym (none-below r.log)) (InOrder-empty r.plan.scripts)
in-order-below r (suc n) h l =
    let before = in-order-below r n h (omega arith) in
    let more = below-more 0 (length r.trace) n r.log h.in_time in
    subst (InOrder r.plan.scripts) (sym more ∙ ap (λ k. below k r.log) (add-one n))
    (clock-in-order r n h (omega arith) before)

all-below : (first end : ℕ) (log : List Done) → is_in_time first end log ≡ true → below end log ≡ log
unfolding is_in_time
all-below first end [] e = refl
all-below first end (done ∷ log) e = grind (arith, all-below done.clock end log)

-- the whole log
pub log-in-order : (r : Run) → Timely r → InOrder r.plan.scripts r.log
log-in-order r h =
    subst (InOrder r.plan.scripts) (all-below 0 (length r.trace) r.log h.in_time)
    (in-order-below r (length r.trace) h (omega arith))
