-- Whose bytes a bench fetches for a response: those of the request that responds, where an agent may give them; and
-- where it fetches none of an agent, none gives any.
use Rattle.fsb_bench_run.proofs.Words
use Words.{ℕ, ◌+◌, ◌≡◌, ◌≢◌, ◌⊎◌, Bool, false, Some, None, refl, sym, ap, subst, ◌∙◌, arith, inl, inr, slice_get}
use Words.{option_and_then, option_map, option_map_or, giver_after_snoop, giver_of, is_given_below, given-named}
use Words.{HandedOn, responded_in, snoop_end_below, giver_at, is_at, is_some_and, Choice, get-there, has_response}
use Words.{drive_of, settled_code, Drive, find-cases, find-off, find-place, code-shown, responded-now, Entry, Reaches}
use Words.{response_of, Past, SnoopEnd, Run, past_of, response_code_of, Outcome, Granted, Handed, Retried, Deferred}
use Words.{Written, Replied, Failed, Upgraded, Served, step_drive, step_entries, step_fetched, step_run, BenchView}
use Words.{BusView, next_clock_of, bus_fetched, bytes_source, from_for, head_outcome, agents_told, for_all, IsBenchOf}
use Rattle.fsb_bench_run.proofs.EndCases.{head-settled}
use Rattle.fsb_bench_run.proofs.LogsNow.{reaches-step}
use Rattle.fsb_bench_run.proofs.NextRun.{grows-to}
use Rattle.fsb_bench_run.proofs.RespondingNow.{IsResponding, responding-of, responding-settled, serves-itself}
use Rattle.fsb_bench_run.proofs.RespondsFirst.{responds-first}
use Rattle.fsb_bench_run.proofs.ResponsesDriven.{code-now, sample-grown}

-- the agents hear that the bytes of the request of this number are handed on, and it is the one that responds
pub record FetchesFor (v : BenchView) (s : Run) : Type 0 where
  pub number : ℕ
  pub agents : (step_fetched v).agents ≡ agents_told (for_all (HandedOn number)) 0 v.bus.agents
  pub responds : responded_in (past_of s) (next_clock_of v) ≡ Some number

-- they hear nothing, and none of them gives bytes to a request that responds
pub record FetchesNone (v : BenchView) (s : Run) : Type 0 where
  pub agents : (step_fetched v).agents ≡ v.bus.agents
  pub nobody : (a q : ℕ) → responded_in (past_of s) (next_clock_of v) ≡ Some q
      → is_given_below (past_of s) a (next_clock_of v) q ≡ false

-- where nobody gives bytes by the snoop end of a request, none is named as the giver
giver-none : (p : Past) (n q : ℕ) (end : SnoopEnd) → snoop_end_below p (n + 1) q ≡ Some end
    → ((line t a : ℕ) → giver_at p line t a end ≡ None) → giver_of p n q ≡ None
unfolding snoop_end_below giver_of giver_after_snoop
giver-none p n q end below none = grind arith

-- so no agent gives bytes to it where it responds
none-gives : (s : Run) (a n q : ℕ) (end : SnoopEnd) → Reaches s (n + 1) → responded_in (past_of s) n ≡ Some q
    → snoop_end_below (past_of s) (n + 1) q ≡ Some end
    → ((line t b : ℕ) → giver_at (past_of s) line t b end ≡ None) → is_given_below (past_of s) a n q ≡ false
unfolding is_at is_some_and
none-gives s a n q end h responds below none =
    let long = h.long in
    given-named s a n q h.timely h.bounds (omega arith) responds
    ∙ ap (λ o. is_at o a) (giver-none (past_of s) n q end below none)

-- where the bytes come from, by the outcome of the oldest request
source-by : (bus : BusView) (drive : Drive) (served : Served) (o : Outcome) → drive.rs ≡ response_code_of o
    → slice_get bus.served 0 ≡ Some served → head_outcome bus ≡ Some o → bytes_source bus drive ≡ from_for served o
unfolding response_code_of
source-by bus drive served o h1 h2 h3 = grind arith

-- where no code is driven nothing is fetched
source-none : (bus : BusView) (drive : Drive) → drive.rs ≡ 0 → bytes_source bus drive ≡ None
source-none bus drive code = rw code refl

one-of : (a b : ℕ) → Some a ≡ Some b → a ≡ b
one-of a b e = cc

-- what is fetched where this request responds
fetches-by : (v : BenchView) (hold : Bool) (choice : Choice) (e : Entry) (served : Served) → IsBenchOf v
    → (d : IsResponding v.run (step_run v hold choice) e)
    → responded_in (past_of (step_run v hold choice)) (next_clock_of v) ≡ Some e.clock
    → bytes_source v.bus (step_drive v) ≡ from_for served d.end.outcome
    → (d.end.outcome ≢ Replied → served.first ≡ e.clock)
    → FetchesFor v (step_run v hold choice) ⊎ FetchesNone v (step_run v hold choice)
unfolding giver_at
fetches-by v hold choice e served b d responds source own = by d.end.outcome refl
  where
    s : Run
    s = step_run v hold choice

    n : ℕ
    n = next_clock_of v

    quiet : (o : Outcome) → d.end.outcome ≡ o → (bus_fetched v.bus (from_for served o)).agents ≡ v.bus.agents
        → ((line t a : ℕ) → giver_at (past_of s) line t a d.end ≡ None) → FetchesFor v s ⊎ FetchesNone v s
    quiet o f same none = inr (record {
      agents = ap (λ x. (bus_fetched v.bus x).agents) (source ∙ ap (from_for served) f) ∙ same;
      nobody = λ a q is.
          subst (λ x. is_given_below (past_of s) a n x ≡ false) (one-of e.clock q (sym responds ∙ is))
          (none-gives s a n e.clock d.end (reaches-step v hold choice b) responds d.snooped none);
    })

    given : (o : Outcome) → d.end.outcome ≡ o
        → (bus_fetched v.bus (from_for served o)).agents ≡ agents_told (for_all (HandedOn served.first)) 0 v.bus.agents
        → served.first ≡ e.clock → FetchesFor v s ⊎ FetchesNone v s
    given o f told first = inl (record {
      number = served.first;
      agents = ap (λ x. (bus_fetched v.bus x).agents) (source ∙ ap (from_for served) f) ∙ told;
      responds = responds ∙ ap (λ x. Some x) (sym first);
    })

    by : (o : Outcome) → d.end.outcome ≡ o → FetchesFor v s ⊎ FetchesNone v s
    by Granted f = quiet Granted f refl (λ line t a. rw f refl)
    by Handed f = given Handed f refl (own (λ g. let no : Handed ≡ Replied = sym f ∙ g in cc))
    by Retried f = quiet Retried f refl (λ line t a. rw f refl)
    by Deferred f = quiet Deferred f refl (λ line t a. rw f refl)
    by Written f = given Written f refl (own (λ g. let no : Written ≡ Replied = sym f ∙ g in cc))
    by Replied f = quiet Replied f refl (λ line t a. rw f refl)
    by Failed f = quiet Failed f refl (λ line t a. rw f refl)
    by Upgraded f = quiet Upgraded f refl (λ line t a. rw f refl)

pub fetch-cases : (v : BenchView) (hold : Bool) (choice : Choice) → IsBenchOf v
    → FetchesFor v (step_run v hold choice) ⊎ FetchesNone v (step_run v hold choice)
unfolding drive_of settled_code
fetch-cases v hold choice b =
    let r = v.run in
    let s = step_run v hold choice in
    let n = next_clock_of v in
    let queue = v.bus.queue in
    let f = b.requests in
    let grows = grows-to v hold choice b in
    let h = reaches-step v hold choice b in
    let shown = ap response_of (sample-grown v hold choice (step_entries v hold) grows) ∙ code-now v hold in
    let responds = responded-now r s queue grows f (code-shown r s queue grows f shown) in
    elim (find-cases (has_response r.trace) queue) [
      | inr g ↦
          let none = find-off (has_response r.trace) queue g in
          let source = source-none v.bus (step_drive v) (ap (λ o. option_map_or settled_code o 0) none) in
          inr (record {
            agents = ap (λ o. (bus_fetched v.bus o).agents) source;
            nobody = λ a q is.
                absurd (let no : None ≡ Some q = sym (responds ∙ ap (option_map (λ (x : Entry). x.clock)) none) ∙ is in
                cc);
          })
      | inl k ↦
          let e = k.item in
          let found = find-place (has_response r.trace) queue k.place e k.at k.passes k.before in
          let there = responds ∙ ap (option_map (λ (x : Entry). x.clock)) found in
          let first = responds-first r s queue k.place e grows h.timely f k.at there in
          let head = ap (slice_get queue) (sym first) ∙ k.at in
          let d = responding-of r s e grows h there in
          let told = responding-settled r s queue 0 e f head d in
          let settled = head-settled queue e d.end.outcome head told in
          let low = settled.1 in
          let count = b.served.count in
          let x = get-there v.bus.served 0 (omega (arith, low, count)) in
          let is = b.served.each 0 e x.0 settled.0 x.1 in
          let source = source-by v.bus (step_drive v) x.0 d.end.outcome
          (ap (λ o. option_map_or settled_code o 0) found ∙ ap (λ o. option_map_or response_code_of o 0) told)
          x.1 (ap (option_and_then (λ (y : Entry). y.outcome)) head ∙ told) in
          fetches-by v hold choice e x.0 b d there source
          (serves-itself r s e x.0 e.who grows b.bounds d (b.entries.begun 0 e head) is)
    ]
