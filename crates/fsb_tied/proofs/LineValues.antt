-- The bytes of a line in the machine are those of the one byte memory that serves the log.
use Rattle.fsb_tied.proofs.Words
use Words.{◌≡◌, ℕ, zero, suc, ◌<◌, ◌≤◌, true, ◌&&◌, nat_eq, nat_le, nat_lt, List, [], ◌∷◌, ◌++◌, length, refl, sym, ap}
use Words.{subst, ◌∙◌, inl, inr, arith, and_parts, cases_lt, le-ltb, leb-true, lt-ltb, filter-append, filter, list_all}
use Words.{accessed_line, Done, start_memory, Served, start_of, Served-front, Bytes, MemoryLine, unheld, run}
use Words.{stored_by_all, run-now, memory_below, is_in_time, line_bytes, Past, Run, past_of, at, below, below-more}
use Words.{IsTiedTo, KeepsTie, changes_of, entries_on, events_at, events_below, may-below, run-append, line_of_plan}
use Words.{stores_of}
use Rattle.fsb_tied.proofs.LineBytes.{is_placed, replay-line, stores_into}
use Rattle.fsb_tied.proofs.StoredClocks.{changes-append}

-- the events of n make the stores of the entries of n on the line, in their order
abbrev pub KeepsStores : Past → ℕ → ℕ → Type 0
KeepsStores p line n = (x : MemoryLine) (bytes : Bytes) → IsTiedTo p line n x
    → stored_by_all x (events_at p line n) bytes ≡ changes_of (stores_of (entries_on p line n)) bytes

-- the stores on the line among the entries of a clock
stores-there : (line n : ℕ) (log : List Done)
    → stores_of (filter (λ done. nat_eq done.clock n && nat_eq (accessed_line done.access) line) log)
    ≡ filter (stores_into line) (at n log)
unfolding stores_into
stores-there line n [] = refl
stores-there line n (done ∷ log) = grind (arith, stores-there line n log)

-- all stores on the line below n, in the order of the log
pub now-below : (p : Past) (line n end : ℕ) (bytes : Bytes) → is_in_time 0 end p.log ≡ true
    → ((c : ℕ) → c < n → KeepsTie p line c) → ((c : ℕ) → c < n → KeepsStores p line c)
    → (run (unheld bytes) (events_below p line n)).now ≡ changes_of (filter (stores_into line) (below n p.log)) bytes
unfolding events_below entries_on changes_of
now-below p line zero end bytes in_time keeps stores =
    ap (λ ds. changes_of (filter (stores_into line) ds) bytes) (sym (none-below p.log))
  where
    none-below : (log : List Done) → below 0 log ≡ []
    none-below [] = refl
    none-below (done ∷ log) = rw (le-ltb done.clock 0 (omega arith)) (none-below log)
now-below p line (suc n) end bytes in_time keeps stores =
    let x : MemoryLine = run (unheld bytes) (events_below p line n) in
    let tied = (may-below p line n bytes (λ c l. keeps c (omega arith))).1 in
    let before = now-below p line n end bytes in_time (λ c l. keeps c (omega arith)) (λ c l. stores c (omega arith)) in
    let here = stores n (omega arith) x x.now tied in
    let more = below-more 0 end n p.log in_time in
    let split : filter (stores_into line) (below (suc n) p.log) ≡ filter (stores_into line) (below n p.log) ++ filter
    (stores_into line) (at n p.log) = grind (arith, filter-append) in
    ap (λ y. y.now) (run-append (unheld bytes) (events_below p line n) (events_at p line n))
    ∙ run-now x (events_at p line n)
    ∙ here
    ∙ ap (λ ds. changes_of ds x.now) (stores-there line n p.log)
    ∙ ap (changes_of (filter (stores_into line) (at n p.log))) before
    ∙ sym (changes-append (filter (stores_into line) (below n p.log)) (filter (stores_into line) (at n p.log)) bytes)
    ∙ ap (λ ds. changes_of ds bytes) (sym split)

-- what is logged from n on comes behind what is logged below n
below-first : (first end n : ℕ) (log : List Done) → is_in_time first end log ≡ true
    → (rest : List Done) × (log ≡ below n log ++ rest)
unfolding is_in_time
below-first first end n [] e = ([], refl)
below-first first end n (done ∷ log) e =
    let parts = and_parts (nat_le first done.clock) (nat_lt done.clock end && is_in_time done.clock end log) e in
    let rest = and_parts (nat_lt done.clock end) (is_in_time done.clock end log) parts.1 in
    elim (cases_lt done.clock n) [
      | inl early ↦
          let later = below-first done.clock end n log rest.1 in
          (later.0, rw (lt-ltb done.clock n early) (ap (λ ds. done ∷ ds) later.1))
      | inr late ↦ (done ∷ log, rw (le-ltb done.clock n late, none-below done.clock end n log late rest.1) refl)
    ]
  where
    none-below : (first end n : ℕ) (log : List Done) → n ≤ first → is_in_time first end log ≡ true → below n log ≡ []
    none-below first end n [] l e = refl
    none-below first end n (done ∷ log) l e =
        let parts = and_parts (nat_le first done.clock) (nat_lt done.clock end && is_in_time done.clock end log) e in
        let rest = and_parts (nat_lt done.clock end) (is_in_time done.clock end log) parts.1 in
        let late : first ≤ done.clock = leb-true first done.clock parts.0 in
        rw (le-ltb done.clock n (omega arith)) (none-below done.clock end n log (omega arith) rest.1)

placed-below : (n : ℕ) (log : List Done) → list_all is_placed log ≡ true → list_all is_placed (below n log) ≡ true
placed-below n [] h = refl
placed-below n (done ∷ log) h = grind (arith, placed-below n log)

-- in a run whose log is served the machine's line has the bytes that the one byte memory has below each clock
pub now-served : (r : Run) (line n : ℕ) → is_in_time 0 (length r.trace) r.log ≡ true → Served r.plan.mem r.log
    → list_all is_placed r.log ≡ true → ((c : ℕ) → c < n → KeepsTie (past_of r) line c)
    → ((c : ℕ) → c < n → KeepsStores (past_of r) line c)
    → (run (line_of_plan r line) (events_below (past_of r) line n)).now ≡ line_bytes (memory_below r n) line
unfolding memory_below past_of
now-served r line n in_time served placed keeps stores =
    let bytes = line_bytes (start_memory r.plan.mem) line in
    let first = below-first 0 (length r.trace) n r.log in_time in
    let front = Served-front r.plan.mem (below n r.log) first.0 (subst (Served r.plan.mem) first.1 served) in
    now-below (past_of r) line n (length r.trace) bytes in_time keeps stores
    ∙ sym (replay-line (start_of r.plan.mem) line (below n r.log) (placed-below n r.log placed) front)
