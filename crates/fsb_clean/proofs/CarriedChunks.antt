-- D# at a data clock is the chunk that comes there, as it stands in the replay of the entries below the response.
use Rattle.std.proofs.Common.{ℕ, ◌+◌, ◌*◌, ◌<◌, ◌≤◌, ◌≡◌, true, List, [], ◌∷◌, Some, length, nat_lt, slice_index, refl}
use Rattle.std.proofs.Common.{sym, ap, ◌∙◌, arith, inl, inr, subst}
use Rattle.std.proofs.lemmas.Bool.{cases_lt, eqb-true, le-leb, le-ltb, lt-leb, lt-ltb}
use Rattle.std.proofs.lemmas.Option.{same_Some}
use Rattle.std.specs.List.{filter}
use Rattle.std.specs.Option.{option_and_then}
use Rattle.fsb_count.specs.Clocks.{each_where}
use Rattle.fsb_count.specs.Options.{is_some_and}
use Rattle.fsb_count.proofs.Interface.{each_where-at, is_at-from}
use Rattle.fsb_access.specs.declared.log.Done.{Done}
use Rattle.fsb_access.specs.Replay.{replay, start_of}
use Rattle.fsb_encode.specs.Burst.{burst_order}
use Rattle.fsb_signal.specs.Samples.{data_at}
use Rattle.fsb_encode.specs.declared.request.Request.{Request}
use Rattle.fsb_trace.specs.Agree.{AgreeTo}
use Rattle.fsb_trace.specs.At.{Trace}
use Rattle.fsb_trace.specs.Outcome.{response_clock_of}
use Rattle.fsb_trace.specs.Requests.{live_count, live_request_of}
use Rattle.fsb_trace.specs.Response.{data_clock_of}
use Rattle.fsb_trace.proofs.Interface.{AgreeTo-sym}
use Rattle.fsb_rules.proofs.Interface.{data_clock-parts}
use Rattle.fsb_timely.specs.Carried.{Carried, carried_value, carries_chunk, carries_data, carries_from, carries_if_due}
use Rattle.fsb_timely.specs.Carried.{chunk_value, memory_below, served_request}
use Rattle.fsb_timely.specs.Runs.{Run, entries_to, past_of, run_to}
use Rattle.fsb_timely.specs.Timely.{Timely, holds_at, holds_in}
use Rattle.fsb_lawful.proofs.Interface.{length-cut, orderly-at, past-cut, run_to-agrees}
use Rattle.fsb_audit.specs.MovedChunks.{moved_at, namer_of, nth_chunk}
use Rattle.fsb_audit.proofs.Interface.{GoesOnFrom, Responded, after_response, data_forth, live_below, responded}
use Rattle.fsb_audit.proofs.Interface.{same_data, same_moved, same_namer, same_request, still_responded}
use Rattle.fsb_clean.proofs.Follows.{line_moved_by}
use Rattle.fsb_clean.proofs.LineChunks.{chunk-few}
use Rattle.fsb_clean.proofs.Moved.{moved-parts, namer-responded}
use Rattle.fsb_clean.proofs.Named.{serves-namer}

-- the entries below a clock of a run are those below it of the run up to a clock that is not before
below-cut : (c t : ℕ) (log : List Done) → t ≤ c + 1
    → filter (λ done. nat_lt done.clock t) (entries_to c log) ≡ filter (λ done. nat_lt done.clock t) log
unfolding entries_to
below-cut c t [] l = refl
below-cut c t (done ∷ log) l =
    let rest = below-cut c t log l in
    elim (cases_lt done.clock t) [
      | inl early ↦
          rw (le-leb done.clock c (omega arith), lt-ltb done.clock t early) (ap (λ ds. done ∷ ds) rest)
      | inr late ↦ elim (cases_lt c done.clock) [
        | inl beyond ↦ rw (lt-leb done.clock c beyond, le-ltb done.clock t late) rest
        | inr within ↦ rw (le-leb done.clock c within, le-ltb done.clock t late) rest
      ]
    ]

memory-cut : (r : Run) (c t : ℕ) → t ≤ c + 1 → memory_below (run_to r c) t ≡ memory_below r t
unfolding memory_below run_to
memory-cut r c t l = ap (λ log. (replay (start_of r.plan.mem) log).memory) (below-cut c t r.log l)

goes-on : (r : Run) (c : ℕ) → Timely r → c < length r.trace → GoesOnFrom (run_to r c).trace r.trace
goes-on r c h l = record {
  agree = subst (λ n. AgreesTo n) (sym (length-cut r c l))
      (AgreeTo-sym (c + 1) r.trace (run_to r c).trace (run_to-agrees r c l));
  orderly = orderly-at r c h l;
}
  where
    AgreesTo : ℕ → Type 0
    AgreesTo n = AgreeTo n (run_to r c).trace r.trace

-- the chunk that is due at a data clock is there
due-there : (v : Run) (c j n t : ℕ) (request : Request) → carries_data v (past_of v) c ≡ true → j < live_count v.trace
    → n < 4 → data_clock_of v.trace j n ≡ Some c → response_clock_of v.trace j ≡ Some t
    → served_request v (past_of v) j ≡ Some request
    → (data_at v.trace c).bits ≡ carried_value v n t request
unfolding carries_data carries_if_due carries_chunk carries_from is_some_and
due-there v c j n t request e l few clock response served =
    let one = each_where-at (λ i. each_where (carries_if_due v (past_of v) c i) 4) (live_count v.trace) e j l in
    let two = each_where-at (carries_if_due v (past_of v) c j) 4 one n few in
    let clock-is = is_at-from (data_clock_of v.trace j n) c clock in
    let three = rw (clock-is, carries_if_due, response, carries_chunk, served, carries_from)
    at two in
    eqb-true (data_at v.trace c).bits (carried_value v n t request) three

-- chunk x that is moved at c is a chunk of a line, which comes as data of a live request, and D# is that chunk as it
-- stands in the replay of the entries below the response
pub record CarriedChunk (r : Run) (c x : ℕ) : Type 0 where
  pub number : ℕ
  pub place : ℕ
  pub is_clock : data_clock_of r.trace number place ≡ Some c
  pub response : ℕ
  pub is_response : response_clock_of r.trace number ≡ Some response
  pub line : ℕ
  pub names : line_moved_by r.trace number ≡ Some line
  pub chunk : ℕ
  pub few : chunk < 4
  pub is_chunk : 4 * line + chunk ≡ x
  pub bits : (data_at r.trace c).bits ≡ chunk_value (memory_below r response) line chunk

served-asked : (r : Run) (c j i : ℕ) (request : Request) → Timely r → c < length r.trace
    → Responded (run_to r c).trace j → namer_of (run_to r c).trace j ≡ Some i
    → live_request_of (run_to r c).trace i ≡ Some request
    → served_request (run_to r c) (past_of (run_to r c)) j ≡ Some request
unfolding served_request
served-asked r c j i request h l k names asked =
    ap (option_and_then (live_request_of (run_to r c).trace)) (serves-namer r c j h l k ∙ names) ∙ asked

line-asked : (w : Trace) (j i : ℕ) (request : Request) → namer_of w j ≡ Some i → live_request_of w i ≡ Some request
    → line_moved_by w j ≡ Some request.line
unfolding line_moved_by
line-asked w j i request names asked = rw (names, asked) refl

pub carried-chunk : (r : Run) (c x : ℕ) → Timely r → Carried r → c < length r.trace → moved_at r.trace c ≡ Some x
    → CarriedChunk r c x
unfolding holds_at holds_in carried_value nth_chunk
carried-chunk r c x h carried l e =
    let v = run_to r c in
    let w = r.trace in
    let size = length-cut r c l in
    let g = goes-on r c h l in
    let below : c < length v.trace = omega arith in
    let k = moved-parts v.trace c x (sym (same_moved v.trace w c g below) ∙ e) in
    let j = k.number in
    let d = data_clock-parts v.trace j k.place c k.is_clock in
    let low = (after_response v.trace j k.place c d).0 in
    let answer = responded v.trace j d.response g.orderly d.is_response in
    let there : response_clock_of w j ≡ Some d.response =
    still_responded v.trace w j g answer ∙ ap Some (same_Some _ _ (sym answer.is_response ∙ d.is_response)) in
    let namer = namer-responded v.trace j k.namer g.orderly answer k.names in
    let names = same_namer v.trace w j g answer ∙ k.names in
    let asked = same_request v.trace w k.namer g namer ∙ k.asked in
    let holds : carries_data v (past_of v) c ≡ true =
    ap (λ p. carries_data v p c) (past-cut r c l) ∙ carried.at c l in
    let due = due-there v c j k.place d.response k.request holds (live_below v.trace j answer) d.few k.is_clock
    d.is_response (served-asked r c j k.namer k.request h l answer k.names k.asked) in
    record {
      number = j;
      place = k.place;
      is_clock = data_forth v.trace w j k.place c g below k.is_clock;
      response = d.response;
      is_response = there;
      line = k.request.line;
      names = line-asked w j k.namer k.request names asked;
      chunk = slice_index (burst_order k.request.chunk) k.place;
      few = chunk-few k.request.chunk k.place d.few;
      is_chunk = k.chunk;
      bits = ap (λ s. s.bits) (same_data v.trace w c g below) ∙ due
          ∙ ap (λ memory. chunk_value memory k.request.line (slice_index (burst_order k.request.chunk) k.place))
          (memory-cut r c d.response (omega (arith, low)));
    }
