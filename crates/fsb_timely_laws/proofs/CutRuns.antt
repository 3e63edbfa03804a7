-- A run, and the run up to one of its clocks.
use Rattle.fsb_timely_laws.proofs.Words
use Words.{ℕ, zero, suc, ◌+◌, ◌<◌, ◌≤◌, ◌≡◌, Bool, true, false, cond, ◌&&◌, ◌||◌, nat_le, nat_lt, List, [], ◌∷◌, ◌++◌}
use Words.{length, take, slice_get, refl, sym, ap, ◌∙◌, inl, inr, arith, filter, list_all, list_any, option_map_or}
use Words.{and_parts, cases_Bool, cases_lt, false_from_ne_true, le-leb, leb-true, lt-leb, count_where}
use Words.{count_where-above, count_where-mono, count_where-same, ADS, has_line, line_at, Trace, is_in_time, GoesOn}
use Words.{choice_at, Past, Run, entries_to, moments_below, past_of, past_to, requests_below, run_to}
use Rattle.fsb_access.specs.declared.log.Done.{Done}
use Rattle.fsb_hazard.specs.Choice.{quiet_choice}
use Rattle.fsb_timely_laws.proofs.Numbers.{get-take}

-- what passes among those that pass a weaker test
pub filter-within : {X : Type 0} (f g : X → Bool) (xs : List X) → ((x : X) → f x ≡ true → g x ≡ true)
    → filter f (filter g xs) ≡ filter f xs
filter-within f g [] h = refl
filter-within f g (x ∷ xs) h =
    elim (cases_Bool (g x)) [
      | inl t ↦ rw t (ap (λ ys. cond (f x) (x ∷ ys) ys) (filter-within f g xs h))
      | inr failed ↦
          let none : f x ≡ false =
          false_from_ne_true (f x) (λ e. let both : false ≡ true = sym failed ∙ h x e in cc both) in
          rw (failed, none) (filter-within f g xs h)
    ]

pub any-within : {X : Type 0} (f g : X → Bool) (xs : List X) → ((x : X) → f x ≡ true → g x ≡ true)
    → list_any f (filter g xs) ≡ list_any f xs
any-within f g [] h = refl
any-within f g (x ∷ xs) h =
    elim (cases_Bool (g x)) [
      | inl t ↦ rw t (ap (λ b. f x || b) (any-within f g xs h))
      | inr failed ↦
          let none : f x ≡ false =
          false_from_ne_true (f x) (λ e. let both : false ≡ true = sym failed ∙ h x e in cc both) in
          rw (failed, none) (any-within f g xs h)
    ]

take-twice : {X : Type 0} (m n : ℕ) (xs : List X) → m ≤ n → take m (take n xs) ≡ take m xs
take-twice zero n xs l = refl
take-twice (suc m) zero xs l = absurd (omega arith)
take-twice (suc m) (suc n) [] l = refl
take-twice (suc m) (suc n) (x ∷ xs) l = ap (λ ys. x ∷ ys) (take-twice m n xs (omega arith))

entries-twice : (t c : ℕ) (log : List Done) → t ≤ c → entries_to t (entries_to c log) ≡ entries_to t log
unfolding entries_to
entries-twice t c log l =
    filter-within (λ done. nat_le done.clock t) (λ done. nat_le done.clock c) log
    (λ done e. le-leb done.clock c (let low = leb-true done.clock t e in omega arith))

-- the past up to t of the past up to c
pub past-twice : (p : Past) (t c : ℕ) → t ≤ c → past_to (past_to p c) t ≡ past_to p t
unfolding past_to
past-twice p t c l =
    let moments = take-twice (t + 1) (c + 1) p.moments (omega arith) in
    let log = entries-twice t c p.log l in
    λ i. record { plan = p.plan; moments = moments i; log = log i }

ads-kept : (w : Trace) (n c : ℕ) → c < n → line_at ADS (take n w) c ≡ line_at ADS w c
unfolding line_at
ads-kept w n c l = ap (λ o. option_map_or (λ s. has_line s ADS) o false) (get-take n w c l)

requests-kept : (w : Trace) (n m : ℕ) → m ≤ n → requests_below (take n w) m ≡ requests_below w m
unfolding requests_below
requests-kept w n m l =
    count_where-same (line_at ADS (take n w)) (line_at ADS w) m
    (record { same = λ d k. ads-kept w n d (omega arith) })

requests-more : (w : Trace) (n m : ℕ) → n ≤ m → requests_below w n ≤ requests_below w m
unfolding requests_below
requests-more w n m k = count_where-mono (line_at ADS w) n m k

-- the run up to t of the run up to c
pub run-twice : (r : Run) (t c : ℕ) → t ≤ c → run_to (run_to r c) t ≡ run_to r t
unfolding run_to
run-twice r t c l =
    let choices = ap (λ n. take n (take (requests_below r.trace (c + 1)) r.choices))
    (requests-kept r.trace (c + 1) (t + 1) (omega arith))
    ∙ take-twice (requests_below r.trace (t + 1)) (requests_below r.trace (c + 1)) r.choices
    (requests-more r.trace (t + 1) (c + 1) (omega arith)) in
    let holds = take-twice (t + 1) (c + 1) r.holds (omega arith) in
    let trace = take-twice (t + 1) (c + 1) r.trace (omega arith) in
    let log = entries-twice t c r.log l in
    λ i. record { plan = r.plan; choices = choices i; holds = holds i; trace = trace i; log = log i }

-- the choice for a request that begins up to the cut
pub choice-kept : (r : Run) (c q : ℕ) → q ≤ c → line_at ADS r.trace q ≡ true
    → choice_at (run_to r c).choices (run_to r c).trace q ≡ choice_at r.choices r.trace q
unfolding choice_at run_to requests_below
choice-kept r c q l t =
    let before = count_where-same (line_at ADS (take (c + 1) r.trace)) (line_at ADS r.trace) q
    (record { same = λ d m. ads-kept r.trace (c + 1) d (omega arith) }) in
    let above = count_where-above (line_at ADS r.trace) q (c + 1) (omega arith) t in
    ap (λ n. option_map_or (λ choice. choice)
    (slice_get (take (count_where (line_at ADS r.trace) (c + 1)) r.choices) n) quiet_choice) before
    ∙ ap (λ o. option_map_or (λ choice. choice) o quiet_choice)
    (get-take (count_where (line_at ADS r.trace) (c + 1)) r.choices
    (count_where (line_at ADS r.trace) q) above)

-- entries behind a clock
later-than : (c first end : ℕ) (log : List Done) → c < first → is_in_time first end log ≡ true
    → (entries_to c log ≡ []) × (list_all (λ done. nat_le (c + 1) done.clock) log ≡ true)
unfolding is_in_time entries_to
later-than c first end [] l e = (refl, refl)
later-than c first end (done ∷ log) l e =
    let parts = and_parts (nat_le first done.clock) (nat_lt done.clock end && is_in_time done.clock end log) e in
    let rest = and_parts (nat_lt done.clock end) (is_in_time done.clock end log) parts.1 in
    let above : first ≤ done.clock = leb-true first done.clock parts.0 in
    let more = later-than c done.clock end log (omega arith) rest.1 in
    (rw (lt-leb done.clock c (omega arith)) more.0, rw (le-leb (c + 1) done.clock (omega arith)) more.1)

-- a log in time is its entries up to a clock, and then later ones
split-at : (c first end : ℕ) (log : List Done) → is_in_time first end log ≡ true
    → (later : List Done) × (log ≡ entries_to c log ++ later)
    × (list_all (λ done. nat_le (c + 1) done.clock) later ≡ true)
unfolding is_in_time entries_to
split-at c first end [] e = ([], refl, refl)
split-at c first end (done ∷ log) e =
    let parts = and_parts (nat_le first done.clock) (nat_lt done.clock end && is_in_time done.clock end log) e in
    let rest = and_parts (nat_lt done.clock end) (is_in_time done.clock end log) parts.1 in
    elim (cases_lt c done.clock) [
      | inl l ↦
          let more = later-than c done.clock end log l rest.1 in (
            done ∷ log,
            rw (lt-leb done.clock c l) (ap (λ xs. xs ++ done ∷ log) (sym more.0)),
            rw (le-leb (c + 1) done.clock (omega arith)) more.1,
          )
      | inr l ↦
          let more = split-at c done.clock end log rest.1 in
          (more.0, rw (le-leb done.clock c l) (ap (λ xs. done ∷ xs) more.1), more.2)
    ]

-- the past of a run whose log is in time goes on from its past up to each clock
pub past-on : (r : Run) (c : ℕ) → is_in_time 0 (length r.trace) r.log ≡ true → GoesOn (c + 1) (past_to (past_of r) c) (past_of r)
unfolding past_to past_of
past-on r c h =
    let split = split-at c 0 (length r.trace) r.log h in
    record {
      same_plan = refl;
      same_moments = λ t m. get-take (c + 1) (moments_below r (length r.trace)) t m;
      entries = split.0;
      more_log = split.1;
      at_end = split.2;
    }
