-- The memory has of a line, at each clock, the bytes that were put there last; at the end copies and memory are kept.
use Rattle.fsb_tied.proofs.Words
use Words.{ℕ, zero, suc, ◌+◌, ◌<◌, ◌≤◌, ◌≡◌, true, false, nat_lt, List, [], ◌∷◌, Option, Some, None, is_some, length}
use Words.{refl, sym, ap, subst, ◌∙◌, arith, inl, inr, cond, unwrap_or, list_all, option_and_then, both_ways}
use Words.{cases_Bool, le-ltb, lt-ltb, is_before, is_some_and, Done, start_memory, replay, start_of, Link, Bytes}
use Words.{MemoryLine, brought, carries, feeds_memory, does_take, response_clock_of, end_of, end_of-response}
use Words.{live_below_count, memory_below, is_in_time, holds_line, is_ready, bytes_now, bytes_put, is_put, line_bytes}
use Words.{number_put, put_clock, Past, Run, past_of, does_respond_on, events_below, is_moved_below, HasValues}
use Words.{bytes_below, bytes_put_below, is_put_below, machine_line, number_put_below, put_clock_below}
use Rattle.fsb_tied.proofs.ClocksOfRuns.{clock-facts}
use Rattle.fsb_tied.proofs.EndingLines.{EndsLine, ending-takes-none, ends-line, taken-ends}
use Rattle.fsb_tied.proofs.HitsFirst.{all-kept}
use Rattle.fsb_tied.proofs.InTurn.{not-so}
use Rattle.fsb_tied.proofs.MemoryBytes.{PutsLine, end-memory, ending_link, line_before_end, no-end-memory, puts-line}
use Rattle.fsb_tied.proofs.MovedBytes.{moved-below-run}
use Rattle.fsb_tied.proofs.Moving.{ends-on, moved-from}
use Rattle.fsb_tied.proofs.PutLines.{none-put, number-put, number-stays, takes_line}
use Rattle.fsb_tied.proofs.RunValues.{copies-below-run}
use Rattle.fsb_tied.proofs.StillEvents.{between-data, no-response}
use Rattle.fsb_tied.proofs.TakingSnoops.{ungiven}
use Rattle.fsb_tied.proofs.WholeOrder.{ended-before, one-ends, orderly-whole}

-- what an end puts into memory: what it brings, if its link has a giver
fed : (y : MemoryLine) (link : Link) (bytes before : Bytes) → is_some link.giver ≡ true → carries link ≡ true
    → y.moved ≡ Some bytes → cond (feeds_memory link) (unwrap_or (brought y link) []) before ≡ bytes
fed y link bytes before gives carried moved = grind arith

unfed : (y : MemoryLine) (link : Link) (before : Bytes) → link.giver ≡ None
    → cond (feeds_memory link) (unwrap_or (brought y link) []) before ≡ before
unfed y link before none = ap (λ o. cond (is_some o) (unwrap_or (brought y link) []) before) none

-- the request that ends puts into memory what its response put on the bus
put-memory : (r : Run) (line n : ℕ) (k : EndsLine r line n) (put : PutsLine r line n k) → HasValues r
    → n < length r.trace → (machine_line r line (suc n)).memory ≡ bytes_below r line put.response
put-memory r line n k put h l =
    let p : Past = past_of r in
    let x : MemoryLine = machine_line r line n in
    let y : MemoryLine = line_before_end r line n in
    let facts = clock-facts r line n h.timely h.bounds l in
    let none = not-so (does_respond_on p line n)
    (λ t. both_ways (is_moved_below p line n) (facts.responds.unmoved t) (moved-from p line n put.moved)) in
    let moved : y.moved ≡ Some (bytes_below r line put.response) =
    (between-data x p line n).moved ∙ ap (λ (z : MemoryLine). z.moved) (no-response x p line n none)
    ∙ moved-below-run r line n h (omega arith) put.moved ∙ ap (λ c. Some (bytes_below r line c)) put.same in
    end-memory r line n k h l
    ∙ fed y (ending_link r line n k) (bytes_below r line put.response) x.memory put.gives put.carried moved

-- later requests have not ended
later-unended : (r : Run) (line n i j : ℕ) → HasValues r → n < length r.trace → end_of r.trace i ≡ Some n → i < j
    → (o : Option ℕ) → end_of r.trace j ≡ o → is_before o (n + 1) ≡ false
unfolding is_before is_some_and
later-unended r line n i j h l e less None f = refl
later-unended r line n i j h l e less (Some c) f =
    let u = end_of-response r.trace j c f in
    let low : u.0 ≤ c = u.2 in
    let k = ended-before r.trace i j u.0 (orderly-whole r n h.timely l) less u.1 in
    let both : Some k.0 ≡ Some n = sym k.1 ∙ e in
    let same : k.0 ≡ n = cc in
    let early : k.0 < u.0 = k.2 in
    le-ltb c (n + 1) (omega arith)

put-number : (r : Run) (line n : ℕ) (k : EndsLine r line n) (put : PutsLine r line n k) → HasValues r
    → n < length r.trace → number_put_below r line (n + 1) ≡ Some k.number
put-number r line n k put h l =
    number-put r line (n + 1) k.number (live_below_count r.trace k.number k.end.first k.tied.first) put.takes
    (ap (λ o. is_before o (n + 1)) k.ends ∙ at-end n)
    (λ j less. later-unended r line n k.number j h l k.ends less (end_of r.trace j) refl)
  where
    at-end : (n : ℕ) → is_before (Some n) (n + 1) ≡ true
    at-end n = unfold is_before is_some_and in lt-ltb n (n + 1) (omega arith)

-- the bytes of the line below the response of what was put last
abbrev put_of : Run → ℕ → Option ℕ → List ℕ
put_of r line response =
    elim response [
      | Some clock ↦ line_bytes (memory_below r clock) line
      | None ↦ line_bytes (start_memory r.plan.mem) line
    ]

put-bytes : (r : Run) (line n : ℕ) (number : Option ℕ) → number_put_below r line n ≡ number
    → bytes_put_below r line n ≡ put_of r line (option_and_then (response_clock_of r.trace) number)
unfolding bytes_put_below put_clock_below
put-bytes r line n number e = ap (λ o. put_of r line (option_and_then (response_clock_of r.trace) o)) e

same-bytes : (r : Run) (line n m : ℕ) → number_put_below r line n ≡ number_put_below r line m
    → bytes_put_below r line n ≡ bytes_put_below r line m
same-bytes r line n m e =
    put-bytes r line n (number_put_below r line m) e ∙ sym (put-bytes r line m (number_put_below r line m) refl)

-- the memory one clock on, where an end is awaited on the line
end-put : (r : Run) (line n : ℕ) (k : EndsLine r line n) → HasValues r → n < length r.trace
    → (machine_line r line n).memory ≡ bytes_put_below r line n
    → (machine_line r line (suc n)).memory ≡ bytes_put_below r line (n + 1)
end-put r line n k h l before =
    elim (cases_Bool (does_take k.end.outcome)) [
      | inl takes ↦
          let put = puts-line r line n k h l takes in
          put-memory r line n k put h l
          ∙ sym (put-bytes r line (n + 1) (Some k.number) (put-number r line n k put h l)
          ∙ ap (put_of r line) put.responds)
      | inr none ↦
          let giver = ungiven (past_of r) line k.at k.awaited.agent k.end none in
          let stays = number-stays r line n (λ i e takes.
          let same = one-ends r.trace i k.number n (orderly-whole r n h.timely l) e k.ends in
          ending-takes-none r line n k none (subst (λ j. takes_line r line j ≡ true) same takes)) in
          end-memory r line n k h l
          ∙ unfed (line_before_end r line n) (ending_link r line n k) (machine_line r line n).memory giver ∙ before
          ∙ sym (same-bytes r line (n + 1) n stays)
    ]

-- at each clock the memory has of the line the bytes that were put there last
pub memory-below-run : (r : Run) (line n : ℕ) → HasValues r → n ≤ length r.trace
    → (machine_line r line n).memory ≡ bytes_put_below r line n
unfolding events_below
memory-below-run r line zero h l = sym (put-bytes r line 0 None (none-put r line))
memory-below-run r line (suc n) h l =
    grind (
      arith,
      end-put,
      ends-line,
      ends-on,
      number-stays,
      taken-ends,
      no-end-memory,
      same-bytes,
      memory-below-run r line n h (omega arith),
    )

-- at the end of the trace these are the bytes that are kept
pub memory-kept : (r : Run) (line : ℕ) → HasValues r → (machine_line r line (length r.trace)).memory ≡ bytes_put r line
unfolding bytes_put put_clock number_put is_put bytes_put_below put_clock_below number_put_below is_put_below
memory-kept r line h = memory-below-run r line (length r.trace) h (omega arith)

all-below : (first end : ℕ) (log : List Done) → is_in_time first end log ≡ true
    → list_all (λ done. nat_lt done.clock end) log ≡ true
unfolding is_in_time
all-below first end [] e = refl
all-below first end (done ∷ log) e = grind (arith, all-below done.clock end log)

-- below the end of the trace lies the whole log
pub bytes-at-end : (r : Run) (line : ℕ) → HasValues r → bytes_below r line (length r.trace) ≡ bytes_now r line
unfolding memory_below bytes_now
bytes-at-end r line h =
    let whole = all-kept (λ (done : Done). nat_lt done.clock (length r.trace)) r.log
    (all-below 0 (length r.trace) r.log h.timely.in_time) in
    ap (λ log. line_bytes (replay (start_of r.plan.mem) log).memory line) whole

-- and each ready copy has the bytes that the log gives the line
pub copies-kept : (r : Run) (a line : ℕ) → HasValues r → holds_line (past_of r) a line (length r.trace) ≡ true
    → is_ready (past_of r) a line (length r.trace) ≡ true
    → (machine_line r line (length r.trace)).copy a ≡ bytes_now r line
copies-kept r a line h holds ready =
    copies-below-run r line (length r.trace) a h (omega arith) holds ready ∙ bytes-at-end r line h
