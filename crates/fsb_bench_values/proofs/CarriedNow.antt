-- At each clock of a bench the data lines have the chunk that is due.
use Rattle.fsb_bench_values.proofs.Words
use Words.{ℕ, ◌<◌, ◌≡◌, Bool, true, false, List, Some, length, nat_eq, slice_index, refl, sym, ap, ◌∙◌, inl, inr, arith}
use Words.{slice_get, option_map_or, cases_lt, eq-eqb, or_left, or_right, Done, IsBenchOf, before-growth, grows-to}
use Words.{holds-now, one-number, orderly-run, reaches-step, run_with, timely-now, step_drive, step_entries}
use Words.{step_fetched, step_performed, step_run, step_sample, BenchView, BusView, next_clock_of, chunk_in}
use Words.{chunk_moved, data_driven, Served, does_respond_on, is_moved_below, each_where, is_at, is_some_and}
use Words.{each_where-all, is_at-some, burst_order, Request, Choice, one_more, MemoryLine, Drive, agree-back}
use Words.{agree-grown, snooped-same, data_at, known_word, bytes_below, machine_line, IsMoved, answers-in-order}
use Words.{awaited-there, bytes-at-end, ended-number, ended-parts, moved-below-run, moved-from, moves-from, not-so}
use Words.{number-responded, Carried, carried_value, carries_chunk, carries_data, carries_from, carries_if_due}
use Words.{memory_below, served_request, is_ended, snooped_at, GrowsTo, bytes_now, line_bytes, Run, past_of}
use Words.{each_clock-more, response_clock_of, live_clock_of, live_count, data_clock_of, end_of, live_clock_of-stays}
use Words.{response_clock_of-stays, HasBytesOf}
use Rattle.fsb_signal.specs.declared.sample.Sample.{Sample}
use Rattle.fsb_bench_values.proofs.ChunksDriven.{HasDue, due-at, flying}
use Rattle.fsb_bench_values.proofs.LineChunks.{burst-chunk, chunk-of-line, memory-grown}
use Rattle.fsb_bench_values.proofs.NextBytes.{awaits-data, moves-fetched}
use Rattle.fsb_bench_values.proofs.RunsValues.{line-now, moved-old, old-tied, same-line, values-now, within}
use Rattle.fsb_bench_values.proofs.ServedStill.{served-still}

-- ---- the bytes that move

-- they are those that the one byte memory has of the line below the response
pub due-bytes : (v : BenchView) (hold : Bool) (choice : Choice) (i k : ℕ) → IsBenchOf v → HasBytesOf v
    → (x : HasDue v hold choice i k)
    → (step_fetched v).moved ≡ line_bytes (memory_below (step_run v hold choice) x.response) x.served.request.line
due-bytes v hold choice i k b h x =
    elim (cases_lt x.response n) [
      | inl less ↦
          let far = earlier less in
          far ∙ ap (λ m. line_bytes m line) (sym (memory-grown r s x.response grows.next refl x.upto))
      | inr more ↦
          let upto = x.upto in
          let same : x.response ≡ n = omega (arith, more, upto) in
          now same ∙ ap (λ m. line_bytes m line) (sym (memory-grown r s x.response grows.next refl x.upto))
    ]
  where
    r : Run
    r = v.run

    s : Run
    s = step_run v hold choice

    n : ℕ
    n = next_clock_of v

    line : ℕ
    line = x.served.request.line

    grows : GrowsTo v.run (step_run v hold choice)
    grows = grows-to v hold choice b

    earlier : x.response < n → (step_fetched v).moved ≡ bytes_below r line x.response
    earlier less =
        let end = x.end in
        let near = x.d.near in
        let w = awaits-data r x.d.snoop end b.timely b.bounds near x.d.tied.there x.moves x.serves.reply in
        let names = x.serves.awaits w.awaited w.awaits in
        let back = response_clock_of-stays n s.trace r.trace i x.response (agree-back r s grows) less x.is_response in
        let answer : response_clock_of r.trace x.d.number ≡ Some x.response = grind arith in
        let responds = number-responded r x.d.number x.response end.first less (orderly-run r b.timely)
        (record { response = answer; first = x.d.tied.first }) in
        let unended : is_ended (past_of r) n end.first ≡ false = not-so (is_ended (past_of r) n end.first) (λ ended.
        let e = ended-parts (past_of r) n end.first ended in
        let low : e.0 < n = e.1 in
        let y = ended-number r e.0 end.first b.timely low e.2 in
        let same : y.0 ≡ x.d.number = one-number r.trace y.0 x.d.number end.first y.1.first x.d.tied.first in
        flying r v.bus.queue 0 x.entry e.0 b.requests x.oldest
        (ap (end_of r.trace) (x.d.rank ∙ sym same) ∙ y.1.end) low) in
        let moved : IsMoved (past_of r) line n = record {
          at = x.d.snoop;
          end = end;
          there = x.d.tied.there;
          below = near;
          awaited = w.awaited;
          awaits = w.awaits;
          names = names;
          carried = w.carried;
          response = x.response;
          responds = responds;
          before = less;
          unended = unended;
        } in
        let there : is_moved_below (past_of s) line n ≡ true = moved-old v hold choice line b
        ∙ moved-from (past_of r) line n moved in
        let bus = moved-below-run r line n (values-now v b h) (omega arith) moved in
        let value = (old-tied v line b).valued.carried (bytes_below r line x.response) bus in
        let is : (machine_line r line n).now ≡ bytes_now r line =
        ap (λ (y : MemoryLine). y.now) (sym (same-line v hold choice line b)) ∙ line-now v hold choice line b h in
        moves-fetched v hold choice line b h
        (or_left (is_moved_below (past_of s) line n) (does_respond_on (past_of s) line n) there)
        ∙ sym (value ∙ is)

    now : x.response ≡ n → (step_fetched v).moved ≡ bytes_below r line x.response
    now same =
        let p = past_of s in
        let end = x.end in
        let near = x.d.near in
        let above = x.d.above in
        let timely = timely-now v hold choice b in
        let size = within v hold choice b in
        let w = awaits-data r x.d.snoop end b.timely b.bounds near x.d.tied.there x.moves x.serves.reply in
        let names = x.serves.awaits w.awaited w.awaits in
        let there : snooped_at p x.d.snoop ≡ Some end = sym (snooped-same r s x.d.snoop grows near) ∙ x.d.tied.there in
        let first : live_clock_of s.trace i ≡ Some x.entry.clock =
        ap (live_clock_of s.trace) (sym x.number)
        ∙ live_clock_of-stays n r.trace s.trace x.d.number x.entry.clock (agree-grown r s grows)
        (omega (arith, above, near)) x.d.old in
        let responds = number-responded s i n end.first (omega (arith, size)) (orderly-run s timely)
        (record { response = x.is_response ∙ ap Some same; first = first ∙ ap Some (sym x.d.first) }) in
        let does = moves-from p line n end.first w.awaited responds
        (awaited-there p (length s.trace) n x.d.snoop end (answers-in-order s timely) (omega (arith, near)) there
        ∙ w.awaits)
        names w.carried in
        moves-fetched v hold choice line b h
        (or_right (is_moved_below (past_of s) line n) (does_respond_on (past_of s) line n) does)
        ∙ sym (ap (bytes_below r line) same ∙ bytes-at-end r line (values-now v b h))

-- ---- the data of the clock

data-new : (v : BenchView) (hold : Bool) (choice : Choice) (entries : List Done)
    → (data_at (run_with v hold choice entries).trace (next_clock_of v)).bits
    ≡ data_driven (step_performed v) (step_drive v)
data-new v hold choice entries =
    let more = one_more v.run.trace (step_sample v hold) in
    ap (λ o. (option_map_or (λ (s : Sample). s.dbus) o (known_word 0)).bits) more.last

driven-is : (bus : BusView) (drive : Drive) (number k : ℕ) (served : Served) → drive.chunk ≡ Some (number, k)
    → slice_get bus.served 0 ≡ Some served → data_driven bus drive ≡ chunk_moved bus.moved k served
driven-is bus drive number k served chunk first = grind arith

-- the data are the chunk that is due
value-now : (v : BenchView) (hold : Bool) (choice : Choice) (i k : ℕ) → IsBenchOf v → HasBytesOf v
    → (x : HasDue v hold choice i k)
    → (data_at (step_run v hold choice).trace (next_clock_of v)).bits
    ≡ carried_value (step_run v hold choice) k x.response x.served.request
unfolding carried_value
value-now v hold choice i k b h x =
    let chunk : ℕ = slice_index (burst_order x.served.request.chunk) k in
    let first : slice_get (step_performed v).served 0 ≡ Some x.served = grind arith in
    data-new v hold choice (step_entries v hold)
    ∙ driven-is (step_performed v) (step_drive v) x.entry.number k x.served x.chunk first
    ∙ ap (λ bytes. chunk_in bytes chunk) (due-bytes v hold choice i k b h x)
    ∙ chunk-of-line (memory_below (step_run v hold choice) x.response) x.served.request.line chunk
    (burst-chunk x.served.request.chunk k)

-- the k-th chunk of live request i
carries-one : (v : BenchView) (hold : Bool) (choice : Choice) (i k : ℕ) → IsBenchOf v → HasBytesOf v
    → carries_if_due (step_run v hold choice) (past_of (step_run v hold choice)) (next_clock_of v) i k ≡ true
unfolding carries_if_due carries_chunk carries_from is_some_and
carries-one v hold choice i k b h = by (is_at (data_clock_of (step_run v hold choice).trace i k) (next_clock_of v)) refl
  where
    by : (due : Bool) → is_at (data_clock_of (step_run v hold choice).trace i k) (next_clock_of v) ≡ due
        → ◌≡◌ {A = Bool}
        (elim due [
          | true ↦ carries_chunk (step_run v hold choice) (past_of (step_run v hold choice)) (next_clock_of v) i k
          | false ↦ true
        ]) true
    by false e = refl
    by true e =
        let s = step_run v hold choice in
        let p = past_of s in
        let n = next_clock_of v in
        let x = due-at v hold choice i k b (is_at-some (data_clock_of s.trace i k) n e) in
        let request : served_request s p i ≡ Some x.served.request =
        ap (served_request s p) (sym x.number)
        ∙ served-still v.run s x.entry x.served x.end (grows-to v hold choice b)
        (reaches-step v hold choice b) b.bounds x.d
        (b.entries.begun 0 x.entry x.oldest) x.is in
        ap (λ o. is_some_and o (carries_from s p n i k)) x.is_response
        ∙ ap (λ o. is_some_and o (λ (q : Request). nat_eq (data_at s.trace n).bits (carried_value s k x.response q)))
        request
        ∙ eq-eqb (data_at s.trace n).bits (carried_value s k x.response x.served.request)
        (value-now v hold choice i k b h x)

-- ---- the run with the clock

pub carried-next : (v : BenchView) (hold : Bool) (choice : Choice) → IsBenchOf v → HasBytesOf v → Carried v.run
    → Carried (step_run v hold choice)
unfolding carries_data
carried-next v hold choice b h old =
    let r = v.run in
    let s = step_run v hold choice in
    let n = next_clock_of v in
    let grows = grows-to v hold choice b in
    each_clock-more carries_data r s grows.next (before-growth r s grows) old
    (holds-now carries_data r s grows
    (each_where-all
    (λ i. each_where (carries_if_due s (past_of s) n i) 4)
    (live_count s.trace)
    (λ i l. each_where-all (carries_if_due s (past_of s) n i) 4 (λ k m. carries-one v hold choice i k b h))))
