-- A timely run that is cut at a clock is a timely run.
use Rattle.std.proofs.Common.{ℕ, zero, suc, ◌+◌, ◌<◌, ◌≤◌, ◌≡◌, Bool, true, ◌&&◌, nat_le, nat_lt, List, [], ◌∷◌}
use Rattle.std.proofs.Common.{length, take, refl, sym, subst, ◌∙◌, arith, inl, inr}
use Rattle.std.specs.List.{list_all}
use Rattle.std.proofs.lemmas.Bool.{and_from, and_parts, cases_lt, le-leb, leb-true, lt-leb, lt-ltb}
use Rattle.fsb_access.specs.declared.log.Done.{Done}
use Rattle.fsb_signal.specs.Samples.{is_known_trace}
use Rattle.fsb_timely.specs.Completions.{is_in_time}
use Rattle.fsb_timely.specs.Runs.{Run, entries_to, run_to}
use Rattle.fsb_timely.specs.Timely.{AtEachClock, Part, Timely}
use Rattle.fsb_timely.proofs.Beginnings.{holds_at-kept}
use Rattle.fsb_timely.proofs.RunsUpTo.{run_to-begins, run_to-whole}
use Rattle.fsb_lawful.proofs.Interface.{length-cut}

all-cut : {X : Type 0} (f : X → Bool) (n : ℕ) (xs : List X) → list_all f xs ≡ true → list_all f (take n xs) ≡ true
all-cut f zero xs e = refl
all-cut f (suc n) [] e = refl
all-cut f (suc n) (x ∷ xs) e =
    let p = and_parts (f x) (list_all f xs) e in and_from _ _ p.0 (all-cut f n xs p.1)

in-time-from : (a b end : ℕ) (log : List Done) → a ≤ b → is_in_time b end log ≡ true → is_in_time a end log ≡ true
unfolding is_in_time
in-time-from a b end [] l e = refl
in-time-from a b end (done ∷ log) l e =
    let p = and_parts (nat_le b done.clock) (nat_lt done.clock end && is_in_time done.clock end log) e in
    let low : b ≤ done.clock = leb-true b done.clock p.0 in
    and_from _ _ (le-leb a done.clock (omega arith)) p.1

in-time-cut : (c first end : ℕ) (log : List Done) → is_in_time first end log ≡ true
    → is_in_time first (c + 1) (entries_to c log) ≡ true
unfolding is_in_time entries_to
in-time-cut c first end [] e = refl
in-time-cut c first end (done ∷ log) e =
    let p = and_parts (nat_le first done.clock) (nat_lt done.clock end && is_in_time done.clock end log) e in
    let q = and_parts (nat_lt done.clock end) (is_in_time done.clock end log) p.1 in
    let above : first ≤ done.clock = leb-true first done.clock p.0 in
    let rest = in-time-cut c done.clock end log q.1 in
    elim (cases_lt c done.clock) [
      | inl l ↦
          rw (lt-leb done.clock c l) (in-time-from first done.clock (c + 1) (entries_to c log) above rest)
      | inr l ↦
          rw (le-leb done.clock c l) (and_from _ _ p.0 (and_from _ _ (lt-ltb done.clock (c + 1) (omega arith)) rest))
    ]

-- a part that holds at each clock holds at each one up to the cut
part-cut : (part : Part) (r : Run) (c : ℕ) → Timely r → c < length r.trace → AtEachClock part r
    → AtEachClock part (run_to r c)
part-cut part r c h l k = record {
  at = λ d m.
      let size = length-cut r c l in
      sym (holds_at-kept part (run_to r c) r d (run_to-begins r c h l) (run_to-whole r c h l) m) ∙ k.at d (omega arith);
}

known-cut : (r : Run) (c : ℕ) → is_known_trace r.trace ≡ true → is_known_trace (run_to r c).trace ≡ true
unfolding run_to
known-cut r c e = all-cut _ (c + 1) r.trace e

time-cut : (r : Run) (c : ℕ) → c < length r.trace → is_in_time 0 (length r.trace) r.log ≡ true
    → is_in_time 0 (length (run_to r c).trace) (run_to r c).log ≡ true
unfolding run_to
time-cut r c l e =
    let size = length-cut r c l in
    subst (λ n. is_in_time 0 n (entries_to c r.log) ≡ true) (sym size) (in-time-cut c 0 (length r.trace) r.log e)

pub cut-timely : (r : Run) (c : ℕ) → Timely r → c < length r.trace → Timely (run_to r c)
cut-timely r c h l = record {
  known = known-cut r c h.known;
  one_hold = (run_to-whole r c h l).one_hold;
  one_choice = (run_to-whole r c h l).one_choice;
  in_time = time-cut r c l h.in_time;
  request_starts = part-cut _ r c h l h.request_starts;
  request_lines = part-cut _ r c h l h.request_lines;
  hazard_lines = part-cut _ r c h l h.hazard_lines;
  snoop_results = part-cut _ r c h l h.snoop_results;
  responses_and_data = part-cut _ r c h l h.responses_and_data;
  completions = part-cut _ r c h l h.completions;
  bus_lock = part-cut _ r c h l h.bus_lock;
  parity = part-cut _ r c h l h.parity;
}
