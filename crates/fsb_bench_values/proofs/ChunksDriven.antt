-- The chunk that a bench drives at a data clock: that of the oldest request, which the clock is due of.
use Rattle.fsb_bench_values.proofs.Words
use Words.{ℕ, zero, suc, ◌<◌, ◌≤◌, ◌≡◌, Bool, true, List, Some, length, refl, sym, ap, ◌∙◌, arith, slice_get}
use Words.{slice_get_within, IsBenchOf, IsServed, clock-there, code-now, grows-to, head-settled, orderly-run}
use Words.{rank-rises, reaches-step, sample-grown, step_drive, step_entries, step_run, BenchView, next_clock_of, Served}
use Words.{is_before, is_some_and, nth_where-found, Choice, get-there, is_in_flight-end, due_chunk, is_moving, rank_of}
use Words.{response_to_now, drive_of, numbered_chunk, find-place, HoldsRequests, agree-back, chunk-way, code-shown}
use Words.{live-same, settled-same, shown, shown-now, way-entry, Entry, response_of, answered, ended-before, GrowsTo}
use Words.{SnoopEnd, Run, past_of, run_to, live_choice, Timely, has_data_at, settled_of, settles_to_move, run-ends}
use Words.{snoop-tied, is_in_flight, does_move, response_clock_of, data_clock_of, end_of, chunk_from, end_of-response}
use Words.{end_of-stays, snoop_end_of-clock}
use Rattle.fsb_bench_values.proofs.ChunksDue.{data-clock}
use Rattle.fsb_bench_values.proofs.RunsValues.{within}
use Rattle.fsb_bench_values.proofs.ServesLine.{HasSnoopEnd, ServesLine, serves-line}

one-of : {X : Type 0} (a b : X) → Some a ≡ Some b → a ≡ b
one-of a b e = cc

-- a request in flight has not ended
pub flying : (r : Run) (queue : List Entry) (k : ℕ) (e : Entry) (end : ℕ) → HoldsRequests queue r
    → slice_get queue k ≡ Some e → end_of r.trace (rank_of r.trace e) ≡ Some end → end < length r.trace → ⊥
unfolding is_before is_some_and
flying r queue k e end f at ended low =
    let n = length r.trace in
    let there = nth_where-found (is_in_flight r.trace n) k n e.clock (clock-there r queue k e f at) in
    grind (arith, is_in_flight-end)

-- the entry whose request has responded is the first one
answered-first : (r s : Run) (queue : List Entry) (k : ℕ) (e : Entry) (i t : ℕ) → GrowsTo r s → Timely s
    → HoldsRequests queue r → slice_get queue k ≡ Some e → rank_of r.trace e ≡ i → response_clock_of s.trace i ≡ Some t
    → t ≤ length r.trace → k ≡ 0
answered-first r s queue zero e i t grows timely f at rank response upto = refl
answered-first r s queue (suc k) e i t grows timely f at rank response upto =
    let orderly = orderly-run s timely in
    let inside = slice_get_within queue (suc k) e at in
    let first = get-there queue 0 (omega arith) in
    let y : Entry = first.0 in
    let less : rank_of r.trace y < rank_of r.trace e = grind (arith, rank-rises) in
    let ended = ended-before s.trace (rank_of r.trace y) i t orderly (omega (arith, rank, less)) response in
    let answer = end_of-response s.trace (rank_of r.trace y) ended.0 ended.1 in
    let early = answer.2 in
    let b = answered s.trace (rank_of r.trace y) answer.0 orderly answer.1 in
    let soon = b.before in
    let under : ended.0 < t = ended.2 in
    let low : ended.0 < length r.trace = omega (arith, under, upto) in
    let back = end_of-stays (length r.trace) s.trace r.trace (rank_of r.trace y) b.snoop ended.0 (agree-back r s grows)
    (omega arith) b.is_snoop low ended.1 in
    absurd (flying r queue 0 y ended.0 f first.1 back low)

-- the oldest request has its k-th chunk due at the clock
pub record HasDue (v : BenchView) (hold : Bool) (choice : Choice) (i k : ℕ) : Type 0 where
  pub entry : Entry
  pub oldest : slice_get v.bus.queue 0 ≡ Some entry
  pub response : ℕ
  pub is_response : response_clock_of (step_run v hold choice).trace i ≡ Some response
  pub upto : response ≤ next_clock_of v
  pub end : SnoopEnd
  pub d : HasSnoopEnd v.run entry end
  pub number : d.number ≡ i
  pub served : Served
  pub first : slice_get v.bus.served 0 ≡ Some served
  pub is : IsServed v.run entry served
  pub serves : ServesLine entry served end
  pub moves : does_move end.outcome ≡ true
  pub chunk : (step_drive v).chunk ≡ Some (entry.number, k)

-- the chunk that is due of an entry that moves
due-of : (r : Run) (e : Entry) (gap response k : ℕ) → is_moving e ≡ true → e.choice.gap ≡ gap
    → response_to_now r.trace e ≡ Some response → chunk_from gap (length r.trace) response ≡ Some k
    → due_chunk r.trace e ≡ Some k
unfolding due_chunk
due-of r e gap response k moves same now due = grind arith

-- so it is driven
driven-of : (r : Run) (queue : List Entry) (e : Entry) (k : ℕ) → slice_get queue 0 ≡ Some e → due_chunk r.trace e
    ≡ Some k
    → (drive_of r.trace queue).chunk ≡ Some (e.number, k)
unfolding drive_of numbered_chunk
driven-of r queue e k head due = grind (arith, find-place)

pub due-at : (v : BenchView) (hold : Bool) (choice : Choice) (i k : ℕ) → IsBenchOf v
    → data_clock_of (step_run v hold choice).trace i k ≡ Some (next_clock_of v) → HasDue v hold choice i k
unfolding settled_of settles_to_move is_some_and
due-at v hold choice i k b e =
    let r = v.run in
    let s = step_run v hold choice in
    let n = next_clock_of v in
    let queue = v.bus.queue in
    let f = b.requests in
    let grows = grows-to v hold choice b in
    let h = reaches-step v hold choice b in
    let size = within v hold choice b in
    let shows = ap response_of (sample-grown v hold choice (step_entries v hold) grows) ∙ code-now v hold in
    let code = code-shown r s queue grows f shows in
    let ends : run_to s n ≡ s = run-ends r s grows in
    let x = data-clock s n i k h.timely (omega (arith, size)) (ap (λ (u : Run). data_clock_of u.trace i k) ends ∙ e) in
    let response : response_clock_of s.trace i ≡ Some x.response = grind arith in
    let has : has_data_at s (past_of s) n i ≡ true = grind arith in
    let way = chunk-way r s i (response_clock_of s.trace i) refl has in
    let y = way-entry r s queue i way grows f code in
    let a = shown r s i x.response grows code response in
    let c = snoop_end_of-clock r.trace i a.snoop a.is_snoop in
    let tied = snoop-tied r i a.snoop a.is_snoop in
    let end : SnoopEnd = tied.0 in
    let told : y.entry.outcome ≡ Some end.outcome = grind arith in
    let place = answered-first r s queue y.place y.entry i x.response grows h.timely f y.at y.rank response x.upto in
    let head : slice_get queue 0 ≡ Some y.entry = ap (slice_get queue) (sym place) ∙ y.at in
    let settled = head-settled queue y.entry end.outcome head told in
    let low = settled.1 in
    let count = b.served.count in
    let z = get-there v.bus.served 0 (omega (arith, low, count)) in
    let is = b.served.each 0 y.entry z.0 settled.0 z.1 in
    let clock : c.clock ≡ y.entry.clock = one-of c.clock y.entry.clock (sym c.is_clock ∙ y.clock) in
    let above = c.above in
    let d : HasSnoopEnd r y.entry end = record {
      number = i;
      rank = y.rank;
      old = y.clock;
      snoop = a.snoop;
      near = c.within;
      above = omega (arith, clock, above);
      tied = tied.1;
      first = one-of end.first y.entry.clock (sym tied.1.first ∙ y.clock);
    } in
    let moves : does_move end.outcome ≡ true =
    ap (λ o. is_some_and o does_move) (sym tied.1.outcome ∙ settled-same r s i a.snoop grows a.is_snoop) ∙ way.moves in
    let choice_same = y.choice ∙ live-same r s i a.snoop grows a.is_snoop in
    let due = due-of r y.entry (live_choice s i).gap x.response k
    (ap (λ o. is_some_and o does_move) told ∙ moves) (ap (λ (w : Choice). w.gap) choice_same)
    (shown-now r s queue i y grows code ∙ response) x.due in
    record {
      entry = y.entry;
      oldest = head;
      response = x.response;
      is_response = response;
      upto = x.upto;
      end = end;
      d = d;
      number = refl;
      served = z.0;
      first = z.1;
      is = is;
      serves = serves-line r y.entry z.0 end b.timely b.bounds d (b.entries.begun 0 y.entry head) is;
      moves = moves;
      chunk = driven-of r queue y.entry k head due;
    }
