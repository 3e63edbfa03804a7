-- What the snoop end of a clock makes of the deferrals of a bench.
use Rattle.fsb_bench_run.proofs.Words
use Words.{ℕ, ◌+◌, ◌<◌, ◌≡◌, Bool, true, false, Some, None, List, [], ◌∷◌, ◌++◌, length, if◌then◌else◌, refl, sym, ap}
use Words.{subst, ◌∙◌, arith, inl, inr, option_map_or, Done, new_waiting, waiting_without, Waiting, after_snoop_end}
use Words.{after_snoop_end_of, deferral_made, count_where-same, Request, Choice, Defer, agree-grown, Entry, Reaches}
use Words.{HIT, line_at, snooped_at, GrowsTo, number_of_turn, SnoopEnd, Run, past_of, requests_below, Trace, request_at}
use Words.{later_of, is_deferral, outcome_by_kind, is_reply_kind, Who, Symmetric, Priority, line_at-agree, SnoopSettled}
use Words.{step_cancelled, step_decided, step_performed, step_snooped, bus_snooped, waiting_snooped, snooped_entry}
use Words.{snooping_of, BenchView, BusView, next_clock_of, IsBegunAt}
use Rattle.fsb_bench_run.proofs.RunWith.{run_with}
use Rattle.fsb_bench_run.proofs.SnoopCases.{SnoopsHere, snoop-cases}
use Rattle.fsb_bench_run.proofs.SnoopEntry.{held-here}
use Rattle.fsb_bench_run.proofs.SnoopHeard.{IsSnoopHeard, hears-snoop}
use Rattle.fsb_bench_run.proofs.SnoopResult.{begun-reply-kind, claimed-by}
use Rattle.fsb_bench_run.proofs.StepWith.{IsStepWith}

-- the deferrals after a snoop end, by the kind of its request, its outcome and its turn
abbrev pub waiting_by : SnoopSettled → List Waiting → List Waiting
waiting_by x list =
    if is_reply_kind x.entry.request.kind then waiting_without x.entry.request.did list
    else (if is_deferral x.outcome
    then list ++ new_waiting x.entry.number x.entry.request x.hit (later_of (number_of_turn x.turn)) ∷ [] else list)

later-there : (later : ℕ) → later ≡ later_of (number_of_turn (Defer later))
unfolding later_of number_of_turn
later-there later = omega arith

-- the snoop end that is decided of an entry, and what it makes of the deferrals
pub record IsToldOf (x : SnoopSettled) (y : Entry) (list : List Waiting) : Type 0 where
  pub entry : x.entry ≡ y
  pub told : waiting_snooped x x.outcome list ≡ waiting_by x list

told-own : (bus : BusView) (agent : ℕ) (y : Entry) (list : List Waiting) → is_reply_kind y.request.kind ≡ false
    → IsToldOf (snooping_of bus agent y) y list
unfolding is_deferral outcome_by_kind is_reply_kind
told-own bus agent y list plain = grind (arith, later-there)

told-reply : (bus : BusView) (y : Entry) (x : SnoopSettled) (list : List Waiting) → is_reply_kind y.request.kind ≡ true
    → snooped_entry bus y Priority ≡ Some x → IsToldOf x y list
told-reply bus y x list reply e = grind arith

pub told-of : (v : BenchView) (hold : Bool) (choice : Choice) (entries : List Done) → IsStepWith v hold choice entries
    → (c : SnoopsHere v hold choice entries) (x : SnoopSettled) (list : List Waiting) (who : Who)
    → c.now.entry.who ≡ who
    → (step_decided v hold).snooped ≡ Some x → IsToldOf x c.now.entry list
told-of v hold choice entries k c x list (Symmetric agent) e is =
    let y = c.now.entry in
    let decided = c.decided ∙ ap (snooped_entry (step_performed v) y) e in
    subst (λ x. IsToldOf x y list) (one (snooping_of (step_performed v) agent y) x (sym decided ∙ is))
    (told-own (step_performed v) agent y list (claimed-by v hold choice entries k.bench k.grows c agent e).no_reply)
  where
    one : (a b : SnoopSettled) → Some a ≡ Some b → a ≡ b
    one a b e = cc
told-of v hold choice entries k c x list Priority e is =
    let y = c.now.entry in
    let decided = c.decided ∙ ap (snooped_entry (step_performed v) y) e in
    let begun = subst (λ w. IsBegunAt v.run y.clock w y.request) e (k.bench.entries.begun c.now.place y c.now.at) in
    told-reply (step_performed v) y x list (begun-reply-kind v.run y.clock y.request begun) (sym decided ∙ is)

-- the number of a request that began before the clock stays
pub number-stays : (r s : Run) (q : ℕ) → GrowsTo r s → q < length r.trace
    → requests_below r.trace q ≡ requests_below s.trace q
unfolding requests_below
number-stays r s q grows l = grind (arith, count_where-same, line_at-agree, agree-grown)

-- what the run makes of them at this snoop end
run-by : (w : Trace) (n : ℕ) (end : SnoopEnd) (x : SnoopSettled) (list : List Waiting) → end.outcome ≡ x.outcome
    → end.turn ≡ x.turn → line_at HIT w n ≡ x.hit → x.entry.number ≡ requests_below w end.first
    → waiting_by x list ≡ after_snoop_end_of w n end x.entry.request list
unfolding after_snoop_end_of deferral_made
run-by w n end x list outcome turn hit number = grind arith

after-some : (s : Run) (n : ℕ) (end : SnoopEnd) (request : Request) (list : List Waiting)
    → snooped_at (past_of s) n ≡ Some end
    → request_at s.trace end.first ≡ Some request
    → after_snoop_end s n list ≡ after_snoop_end_of s.trace n end request list
unfolding after_snoop_end
after-some s n end request list there decoded = grind arith

after-none : (s : Run) (n : ℕ) (list : List Waiting) → snooped_at (past_of s) n ≡ None → after_snoop_end s n list ≡ list
unfolding after_snoop_end
after-none s n list quiet = grind arith

-- the deferrals after the snoop end of the clock
pub waiting-snooped : (v : BenchView) (hold : Bool) (choice : Choice) (entries : List Done)
    → IsStepWith v hold choice entries → Reaches (run_with v hold choice entries) (next_clock_of v + 1)
    → (step_snooped v hold).bridge.waiting
    ≡ after_snoop_end (run_with v hold choice entries) (next_clock_of v) (step_cancelled v hold).bridge.waiting
waiting-snooped v hold choice entries k h =
    let r = v.run in
    let s = run_with v hold choice entries in
    let n = next_clock_of v in
    let before = step_cancelled v hold in
    let list = before.bridge.waiting in
    elim (snoop-cases v hold choice entries k.grows k.bench.requests) [
      | inr g ↦
          ap (λ o. (option_map_or (bus_snooped before) o before).bridge.waiting) g.none
          ∙ sym (after-none s n list g.quiet)
      | inl c ↦
          let y = c.now.entry in
          let d = hears-snoop v hold choice entries k h c in
          let x : SnoopSettled = d.snooped in
          let heard : IsSnoopHeard s n x = d.heard in
          let t = told-of v hold choice entries k c x list c.now.entry.who refl d.decided in
          let here = held-here r v.bus.queue c.now.place y k.bench.requests c.now.at in
          let number : x.entry.number ≡ requests_below s.trace heard.end.first =
          ap (λ (e : Entry). e.number) t.entry ∙ k.bench.requests.entries.numbered c.now.place y c.now.at
          ∙ number-stays r s y.clock k.grows here.within
          ∙ ap (requests_below s.trace) (sym (heard.entry ∙ ap (λ (e : Entry). e.clock) t.entry)) in
          ap (λ o. (option_map_or (bus_snooped before) o before).bridge.waiting) d.decided
          ∙ t.told ∙ run-by s.trace n heard.end x list heard.outcome heard.turn heard.hit number
          ∙ sym (after-some s n heard.end x.entry.request list heard.there
          (ap (request_at s.trace) heard.entry ∙ heard.decoded))
    ]
