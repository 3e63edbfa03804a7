-- A run and the run up to a clock: the plan, the holds, the past and the memory that are the same, and what agents want.
use Rattle.fsb_timely_laws.proofs.Words
use Words.{ℕ, ◌+◌, ◌<◌, ◌≤◌, ◌≡◌, true, length, nat_le, nat_lt, slice_get, sym, ap, subst, ◌∙◌, arith, le-leb, ltb-true}
use Words.{memory_below, is_in_time, GoesOn, is_dirty, Past, Run, entries_to, past_of, past_to, run_to, Part, holds_at}
use Words.{holds_in, done_below, is_dirty-alike, is_held_back-alike, want_of-alike, past-cut, IsSaidOfTheWhole}
use Words.{holds_in_whole}
use Rattle.fsb_access.specs.Replay.{replay, start_of}
use Rattle.fsb_timely.specs.Wants.{is_held_back, want_of}
use Rattle.fsb_timely_laws.proofs.Numbers.{get-take}
use Rattle.fsb_timely_laws.proofs.CutRuns.{filter-within, past-on, past-twice, run-twice}
use Rattle.fsb_timely_laws.proofs.Pairs.{Paired, paired-cut}

-- the second run has the first up to clock c
pub record SameUpTo (c : ℕ) (r s : Run) : Type 0 where
  pub paired : Paired c r s
  pub runs : (t : ℕ) → t ≤ c → run_to s t ≡ run_to r t
  pub pasts : (t : ℕ) → t ≤ c → past_to (past_of s) t ≡ past_to (past_of r) t
  pub holds : slice_get s.holds c ≡ slice_get r.holds c
  pub bytes : (t : ℕ) → t ≤ c → memory_below s t ≡ memory_below r t

bytes-kept : (r : Run) (c t : ℕ) → t ≤ c → memory_below (run_to r c) t ≡ memory_below r t
unfolding memory_below run_to entries_to
bytes-kept r c t l =
    ap (λ log. (replay (start_of r.plan.mem) log).memory)
    (filter-within (λ done. nat_lt done.clock t) (λ done. nat_le done.clock c) r.log
    (λ done e. le-leb done.clock c (let low = ltb-true done.clock t e in omega arith)))

holds-kept : (r : Run) (c : ℕ) → slice_get (run_to r c).holds c ≡ slice_get r.holds c
unfolding run_to
holds-kept r c = get-take (c + 1) r.holds c (omega arith)

pub same-up-to : (r : Run) (c : ℕ) → c < length r.trace → SameUpTo c r (run_to r c)
same-up-to r c l = record {
  paired = paired-cut r c l;
  runs = λ t m. run-twice r t c m;
  pasts = λ t m. ap (λ p. past_to p t) (past-cut r c l) ∙ past-twice (past_of r) t c m;
  holds = holds-kept r c;
  bytes = λ t m. bytes-kept r c t m;
}

-- the past of the whole run goes on from that of the run up to a clock, where the log is in time
pub goes-on : (r : Run) (c : ℕ) → is_in_time 0 (length r.trace) r.log ≡ true → c < length r.trace
    → GoesOn (c + 1) (past_of (run_to r c)) (past_of r)
goes-on r c h l = subst (λ p. GoesOn (c + 1) p (past_of r)) (sym (past-cut r c l)) (past-on r c h)

-- a part that is the same of the run and of the run up to a clock is said of the whole
pub said : (part : Part) (r : Run) (c : ℕ) → c < length r.trace
    → part r (past_of r) c ≡ part (run_to r c) (past_of (run_to r c)) c → IsSaidOfTheWhole part r c
unfolding holds_in_whole holds_at holds_in
said part r c l e = e ∙ ap (λ p. part (run_to r c) p c) (past-cut r c l)

-- what an agent wants, whether it is held back, and on which lines it is dirty
pub want-on : (c : ℕ) (p q : Past) (a : ℕ) → GoesOn (c + 1) p q → want_of p a c ≡ want_of q a c
want-on c p q a h = want_of-alike (c + 1) p q a c h (omega arith) (done_below (c + 1) p a c h.entries (omega arith) h.at_end)

pub held_back-on : (c : ℕ) (p q : Past) (a : ℕ) → GoesOn (c + 1) p q → is_held_back p a c ≡ is_held_back q a c
held_back-on c p q a h =
    is_held_back-alike (c + 1) p q a c h (omega arith) (done_below (c + 1) p a c h.entries (omega arith) h.at_end)

pub dirty-on : (c : ℕ) (p q : Past) (a line : ℕ) → GoesOn (c + 1) p q → is_dirty p a line c ≡ is_dirty q a line c
dirty-on c p q a line h =
    is_dirty-alike (c + 1) p q a line c h (omega arith) (done_below (c + 1) p a c h.entries (omega arith) h.at_end)
