-- A want stays until its request begins.
use Rattle.fsb_lawful.proofs.Words
use Words.{ℕ, suc, ◌+◌, ◌<◌, ◌≡◌, true, false, ◌&&◌, List, [], ◌∷◌, ◌++◌, is_some, length, nat_le, nat_lt, refl, sym}
use Words.{ap, ◌∙◌, arith, inl, inr, add-one, list_all, and_from, and_parts, cases_Bool, le-leb, leb-false, leb-true}
use Words.{lt-leb, Done, Symmetric, begins_at, is_in_time, Run, entries_to, past_of, past_to, run_to, Timely, want_of}
use Words.{below_le, done_below, timely-want-stays, want_of-alike}
use Rattle.fsb_timely.specs.Growth.{GoesOn}
use Rattle.fsb_timely.specs.Staying.{OwesNoMore}
use Rattle.fsb_lawful.proofs.Cuts.{moments-to}
use Rattle.fsb_lawful.proofs.GrantsOwed.{grants-are-owed}
use Rattle.fsb_lawful.proofs.OwesLess.{owes-less}

-- the entries behind a clock
record IsCut (c : ℕ) (log : List Done) : Type 0 where
  pub later : List Done
  pub whole : log ≡ entries_to c log ++ later
  pub behind : list_all (λ done. nat_le (c + 1) done.clock) later ≡ true

all-later : (c first n : ℕ) (log : List Done) → c < first → is_in_time first n log ≡ true
    → (entries_to c log ≡ []) × (list_all (λ done. nat_le (c + 1) done.clock) log ≡ true)
unfolding is_in_time entries_to
all-later c first n [] l e = (refl, refl)
all-later c first n (done ∷ log) l e =
    let a = and_parts (nat_le first done.clock) (nat_lt done.clock n && is_in_time done.clock n log) e in
    let b = and_parts (nat_lt done.clock n) (is_in_time done.clock n log) a.1 in
    let low = leb-true first done.clock a.0 in
    let rest = all-later c done.clock n log (omega arith) b.1 in
    (rw (lt-leb done.clock c (omega arith)) rest.0, and_from _ _ (le-leb (c + 1) done.clock (omega arith)) rest.1)

-- a log in time is what it has up to a clock, and then the entries behind it
cut : (c first n : ℕ) (log : List Done) → is_in_time first n log ≡ true → IsCut c log
unfolding is_in_time entries_to
cut c first n [] e = record { later = []; whole = refl; behind = refl }
cut c first n (done ∷ log) e =
    let a = and_parts (nat_le first done.clock) (nat_lt done.clock n && is_in_time done.clock n log) e in
    let b = and_parts (nat_lt done.clock n) (is_in_time done.clock n log) a.1 in
    elim (cases_Bool (nat_le done.clock c)) [
      | inl early ↦ let rest = cut c done.clock n log b.1 in
          record { later = rest.later; whole = rw early (ap (λ xs. done ∷ xs) rest.whole); behind = rest.behind }
      | inr late ↦
          let more = leb-false done.clock c late in
          let rest = all-later c done.clock n log more b.1 in
          record {
            later = done ∷ log;
            whole = rw (late, rest.0) refl;
            behind = and_from _ _ (le-leb (c + 1) done.clock (omega arith)) rest.1;
          }
    ]

-- the whole past goes on from the past up to a clock
goes-on : (r : Run) (c : ℕ) → Timely r → GoesOn (c + 1) (past_to (past_of r) c) (past_of r)
unfolding past_of past_to
goes-on r c h =
    let k = cut c 0 (length r.trace) r.log h.in_time in
    record {
      same_plan = refl;
      same_moments = λ t l. moments-to (past_of r) c t (omega arith);
      entries = k.later;
      more_log = k.whole;
      at_end = k.behind;
    }

want-same : (r : Run) (a c : ℕ) → Timely r → want_of (past_to (past_of r) c) a c ≡ want_of (past_of r) a c
want-same r a c h =
    let g = goes-on r c h in
    want_of-alike (c + 1) (past_to (past_of r) c) (past_of r) a c g (below_le c (c + 1) (omega arith))
    (done_below (c + 1) (past_to (past_of r) c) a c g.entries (omega arith) g.at_end)

-- who begins nothing owes no more
owes-no-more : (r : Run) (a c : ℕ) → Timely r → c < length r.trace
    → begins_at (run_to r c).trace c (Symmetric a) ≡ false → OwesNoMore (past_of r) a c
owes-no-more r a c h l begins =
    let grants = grants-are-owed r h in
    let less = owes-less r a c h l begins in
    record {
      among = less.among;
      fewer = less.fewer;
      granted = λ line e. grants.granted a c line l e;
      brought = λ need e. grants.brought a c need l e;
    }

-- a want stays
pub wants-last : (r : Run) (a c : ℕ) → Timely r → c < length r.trace → is_some (want_of (past_of r) a c) ≡ true
    → begins_at (run_to r c).trace c (Symmetric a) ≡ false → is_some (want_of (past_of r) a (c + 1)) ≡ true
wants-last r a c h l some begins = grind (arith, timely-want-stays, owes-no-more)

-- also by the past up to the clock
pub wants-go-on : (r : Run) (a c : ℕ) → Timely r → suc c < length r.trace
    → is_some (want_of (past_to (past_of r) c) a c) ≡ true → begins_at (run_to r c).trace c (Symmetric a) ≡ false
    → is_some (want_of (past_to (past_of r) (suc c)) a (suc c)) ≡ true
wants-go-on r a c h l some begins =
    let now = ap (λ o. is_some o) (sym (want-same r a c h)) ∙ some in
    ap (λ o. is_some o) (want-same r a (suc c) h ∙ ap (want_of (past_of r) a) (sym (add-one c)))
    ∙ wants-last r a c h (omega arith) now begins
