-- The result of the snoop end of a clock is right.
use Rattle.fsb_bench_run.proofs.Words
use Words.{ℕ, ◌/◌, ◌<◌, ◌≤◌, ◌≡◌, ◌&&◌, Bool, true, false, not, Option, Some, None, List, length, if◌then◌else◌, refl}
use Words.{sym, ap, ◌∙◌, arith, inl, inr, subst, slice_get, option_and_then, option_map, option_map_or, slice_get-map}
use Words.{slice_get_cases, Done, Bridged, deferral_of_id, IsDeferralOf, IsThatOf, request_number_of, Deferral}
use Words.{count_where, nth_where, is_some_and, count_where-same, first_where-found, nth_where-at, nth_where-found}
use Words.{Request, Choice, is_live-ads, rank_of, Entry, ADS, HIT, HITM, line_at, Sample, Trace, request_at, winner_at}
use Words.{is_live, is_reply_kind, line_of, live_clock_of, Who, Symmetric, Priority, line_at-agree, live_clock_of-rises}
use Words.{snoop_end_of-clock, snooped_at, GrowsTo, agent_at, claim_at, served_number, turns_in, Claim, Past, SnoopEnd}
use Words.{reply_to, would_begin, Run, past_of, has_right_result, has_snoop_result, is_dirty_elsewhere, is_dirty_for}
use Words.{is_held_elsewhere, is_held_for, is_reply_end, number_served_at, was_hit_before, holds_at, begun-told}
use Words.{claim_at-agree, number-found, begun-want, agree-grown, Started, step_decided, step_performed, snooped_entry}
use Words.{snooped_for, BenchView, BusView, next_clock_of, IsBegunAt, IsBenchOf}
use Rattle.fsb_bench_run.proofs.BegunRequests.{begun-is}
use Rattle.fsb_bench_run.proofs.DeferralsTold.{DeferralsTold}
use Rattle.fsb_bench_run.proofs.DrivenLines.{hit-driven, hit_driven, hitm-driven, hitm_driven, line-with}
use Rattle.fsb_bench_run.proofs.HazardsDriven.{decoded-now}
use Rattle.fsb_bench_run.proofs.RunWith.{run_with}
use Rattle.fsb_bench_run.proofs.SameBus.{same-performed}
use Rattle.fsb_bench_run.proofs.SnoopAnswers.{AgentsAnswer, besides-told}
use Rattle.fsb_bench_run.proofs.SnoopCases.{SnoopsHere, snoop-cases}
use Rattle.fsb_bench_run.proofs.SnoopEntry.{held-here}
use Rattle.fsb_bench_run.proofs.ThisClock.{holds-now}

-- the claim of a request of a symmetric agent whose snoop end is the clock
pub record IsClaimedBy (s : Run) (e : Entry) (agent : ℕ) : Type 0 where
  pub claim : Claim
  pub is_claim : claim_at s.trace e.clock ≡ Some claim
  pub of_agent : claim.agent ≡ agent
  pub of_line : claim.line ≡ e.request.line
  pub no_reply : is_reply_kind e.request.kind ≡ false

pub claim-there : (w : Trace) (q a : ℕ) (x : Sample) → winner_at w q ≡ Some (Symmetric a) → slice_get w q ≡ Some x
    → claim_at w q ≡ Some (record { first = q; agent = a; line = x.addr.bits / 4 })
unfolding claim_at agent_at line_of
claim-there w q a x e there = rw (claim_at, agent_at, e, line_of, there) refl

pub claimed-by : (v : BenchView) (hold : Bool) (choice : Choice) (entries : List Done) → IsBenchOf v
    → (grows : GrowsTo v.run (run_with v hold choice entries)) → (k : SnoopsHere v hold choice entries) (agent : ℕ)
    → k.now.entry.who ≡ Symmetric agent → IsClaimedBy (run_with v hold choice entries) k.now.entry agent
claimed-by v hold choice entries b grows k agent e =
    let r = v.run in
    let s = run_with v hold choice entries in
    let y = k.now.entry in
    let q : ℕ = y.clock in
    let here = held-here r v.bus.queue k.now.place y b.requests k.now.at in
    let within : q < length r.trace = here.within in
    let begun = b.entries.begun k.now.place y k.now.at in
    let won : winner_at r.trace q ≡ Some (Symmetric agent) = begun.winner ∙ ap (λ w. Some w) e in
    let x = some-at r.trace q within in
    let claim : Claim = record { first = q; agent = agent; line = x.0.addr.bits / 4 } in
    let claims = claim-there r.trace q agent x.0 won x.1 in
    let told = begun-told r q within ∙ ap (λ b. if b then claim_at r.trace q else None) begun.begins ∙ claims in
    let want = begun-want r q claim b.timely b.bounds within told in
    let same : want.request ≡ y.request = same-request want.request y.request
    (sym want.begins ∙ begun-is r q y.who y.request within begun) in
    record {
      claim = claim;
      is_claim = sym (claim_at-agree (length r.trace) r.trace s.trace q (agree-grown r s grows) within) ∙ claims;
      of_agent = refl;
      of_line = sym want.line ∙ ap (λ (z : Request). z.line) same;
      no_reply = ap (λ (z : Request). is_reply_kind z.kind) (sym same) ∙ want.no_reply;
    }
  where
    same-request : (x y : Request) → Some x ≡ Some y → x ≡ y
    same-request x y e = cc

    some-at : (w : Trace) (c : ℕ) → c < length w → (x : Sample) × (slice_get w c ≡ Some x)
    some-at w c l = elim ((slice_get_cases w c).1) [
      | inr past ↦ absurd (let q : length w ≤ c = past.0 in omega arith)
      | inl there ↦ (there.0, there.2)
    ]

-- the requests that have begun, by their numbers
started-by : (o : Option Started) (q : ℕ) → option_map (λ (x : Started). x.clock) o ≡ Some q
    → (begun : Started) × (o ≡ Some begun) × (begun.clock ≡ q)
started-by o q h1 = grind arith

pub started-there : (v : BenchView) (q : ℕ) → IsBenchOf v → line_at ADS v.run.trace q ≡ true → q < length v.run.trace
    → (begun : Started) × (slice_get v.bus.started (count_where (line_at ADS v.run.trace) q) ≡ Some begun)
    × (begun.clock ≡ q)
unfolding nth_where
started-there v q b ads l =
    let n = next_clock_of v in
    let p = line_at ADS v.run.trace in
    let k : ℕ = count_where p q in
    started-by (slice_get v.bus.started k) q
    (sym (slice_get-map (λ (x : Started). x.clock) v.bus.started k) ∙ ap (λ qs. slice_get qs k) b.started.clocks
    ∙ nth_where-at p n q l ads)

-- the request that is served at a snoop end began before the clock
served-le : (w : Trace) (turns : List ℕ) (k i : ℕ) → served_number w turns k ≡ Some i → i ≤ k
unfolding served_number
served-le w turns k i e = grind (arith, first_where-found)

number-first : (w : Trace) (i m : ℕ) (o : Option ℕ) → live_clock_of w i ≡ o
    → option_map (count_where (line_at ADS w)) o ≡ Some m
    → (q : ℕ) × (live_clock_of w i ≡ Some q) × (count_where (line_at ADS w) q ≡ m)
number-first w i m o h1 h2 = grind arith

clock-found : (w : Trace) (i q : ℕ) → live_clock_of w i ≡ Some q → nth_where (is_live w) i (length w) ≡ Some q
unfolding live_clock_of
clock-found w i q e = e

clock-le : (w : Trace) (i k q c : ℕ) → i ≤ k → live_clock_of w i ≡ Some q → live_clock_of w k ≡ Some c → q ≤ c
clock-le w i k q c l e f = grind (arith, live_clock_of-rises)

pub deferral-started : (v : BenchView) (hold : Bool) (choice : Choice) (entries : List Done) → IsBenchOf v
    → (grows : GrowsTo v.run (run_with v hold choice entries))
    → (k : SnoopsHere v hold choice entries) (d : Deferral) (i : ℕ)
    → number_served_at (run_with v hold choice entries) (past_of (run_with v hold choice entries))
    (next_clock_of v) ≡ Some i
    → IsDeferralOf (run_with v hold choice entries).trace d i
    → (begun : Started) × (slice_get v.bus.started d.number ≡ Some begun)
    × (live_clock_of (run_with v hold choice entries).trace i ≡ Some begun.clock)
unfolding number_served_at request_number_of
deferral-started v hold choice entries b grows k d i e that =
    let r = v.run in
    let s = run_with v hold choice entries in
    let n = next_clock_of v in
    let m = rank_of s.trace k.now.entry in
    let turns = turns_in (past_of s).moments in
    let number = number-found s.trace m n k.told.is_end.reached in
    let served : served_number s.trace turns m ≡ Some i = grind arith in
    let low = served-le s.trace turns m i served in
    let p = number-first s.trace i d.number (live_clock_of s.trace i) refl that.number in
    let c = snoop_end_of-clock s.trace m n k.told.is_end.reached in
    let above = c.above in
    let q : ℕ = p.0 in
    let below = clock-le s.trace i m q c.clock low p.1 c.is_clock in
    let agree = agree-grown r s grows in
    let found = nth_where-found (is_live s.trace) i (length s.trace) q (clock-found s.trace i q p.1) in
    let ads = line_at-agree ADS n r.trace s.trace q agree (omega arith) ∙ is_live-ads s.trace q found.1 in
    let count : count_where (line_at ADS r.trace) q ≡ d.number =
    count_where-same (line_at ADS r.trace) (line_at ADS s.trace) q
    (record { same = λ t l. line_at-agree ADS n r.trace s.trace t agree (omega arith) }) ∙ p.2 in
    let there = started-there v q b ads (omega arith) in
    (there.0, ap (slice_get v.bus.started) (sym count) ∙ there.1, p.1 ∙ ap (λ t. Some t) (sym there.2))

-- HIT# at the snoop end of a reply is that of its deferral
reply-hit : (bus : BusView) (e : Entry) (o : Option Deferral)
    → ((d : Deferral) → o ≡ Some d → (begun : Started) × (slice_get bus.started d.number ≡ Some begun))
    → hit_driven (option_and_then (snooped_for bus e) o) false ≡ option_map_or (λ (d : Deferral). d.shared) o false
reply-hit bus e o h1 = grind arith

reply-hitm : (bus : BusView) (e : Entry) (o : Option Deferral)
    → hitm_driven (option_and_then (snooped_for bus e) o) false ≡ false
reply-hitm bus e o = grind arith

-- what makes a result right
right-reply : (r : Run) (p : Past) (c : ℕ) (s : SnoopEnd) → is_reply_end s ≡ true
    → line_at HIT r.trace c ≡ was_hit_before r p c → line_at HITM r.trace c ≡ false → has_right_result r p c s ≡ true
unfolding has_right_result
right-reply r p c s e hit hitm = grind arith

right-other : (r : Run) (p : Past) (c : ℕ) (s : SnoopEnd) → is_reply_end s ≡ false
    → line_at HITM r.trace c ≡ is_dirty_for p c s
    → line_at HIT r.trace c ≡ (not (is_dirty_for p c s) && is_held_for p c s)
    → has_right_result r p c s ≡ true
unfolding has_right_result
right-other r p c s e hitm hit = grind arith

result-none : (r : Run) (p : Past) (c : ℕ) → snooped_at p c ≡ None → has_snoop_result r p c ≡ true
unfolding has_snoop_result
result-none r p c e = rw (has_snoop_result, e) refl

result-some : (r : Run) (p : Past) (c : ℕ) (s : SnoopEnd) → snooped_at p c ≡ Some s → has_right_result r p c s ≡ true
    → has_snoop_result r p c ≡ true
unfolding has_snoop_result
result-some r p c s e f = rw (has_snoop_result, e) f

-- the kind of the request whose snoop end it is
end-kind : (v : BenchView) (hold : Bool) (choice : Choice) (entries : List Done) → IsBenchOf v
    → (grows : GrowsTo v.run (run_with v hold choice entries)) → (k : SnoopsHere v hold choice entries)
    → is_reply_end k.told.end ≡ is_reply_kind k.now.entry.request.kind
unfolding is_reply_end is_some_and
end-kind v hold choice entries b grows k =
    let s = run_with v hold choice entries in
    ap (λ o. is_some_and o is_reply_kind) (k.told.is_end.kind
    ∙ ap (λ q. option_map (λ (z : Request). z.kind) (request_at s.trace q)) k.told.first
    ∙ ap (option_map (λ (z : Request). z.kind)) (decoded-now v hold choice entries b grows k))

-- HIT# and HITM# at the snoop end
pub hit-now : (v : BenchView) (hold : Bool) (choice : Choice) (entries : List Done)
    (k : SnoopsHere v hold choice entries)
    (who : Who) → k.now.entry.who ≡ who → line_at HIT (run_with v hold choice entries).trace (next_clock_of v)
    ≡ hit_driven (snooped_entry (step_performed v) k.now.entry who) false
hit-now v hold choice entries k who e =
    line-with v hold choice entries HIT
    ∙ hit-driven (step_performed v) (next_clock_of v) v.run.plan.profile (step_decided v hold)
    ∙ (λ i. hit_driven ((k.decided ∙ ap (snooped_entry (step_performed v) k.now.entry) e) i) (k.calm i))

pub hitm-now : (v : BenchView) (hold : Bool) (choice : Choice) (entries : List Done)
    (k : SnoopsHere v hold choice entries)
    (who : Who) → k.now.entry.who ≡ who → line_at HITM (run_with v hold choice entries).trace (next_clock_of v)
    ≡ hitm_driven (snooped_entry (step_performed v) k.now.entry who) false
hitm-now v hold choice entries k who e =
    line-with v hold choice entries HITM
    ∙ hitm-driven (step_performed v) (next_clock_of v) v.run.plan.profile (step_decided v hold)
    ∙ (λ i. hitm_driven ((k.decided ∙ ap (snooped_entry (step_performed v) k.now.entry) e) i) (k.calm i))

dirty-by : (p : Past) (c : ℕ) (s : SnoopEnd) (claim : Claim) → s.claim ≡ Some claim
    → is_dirty_for p c s ≡ is_dirty_elsewhere p claim.agent claim.line c
unfolding is_dirty_for is_some_and
dirty-by p c s claim e = rw (is_dirty_for, e) refl

held-by : (p : Past) (c : ℕ) (s : SnoopEnd) (claim : Claim) → s.claim ≡ Some claim
    → is_held_for p c s ≡ is_held_elsewhere p claim.agent claim.line c
unfolding is_held_for is_some_and
held-by p c s claim e = rw (is_held_for, e) refl

reply-begun : (o : Option Request) (request : Request) → option_map reply_to o ≡ Some request
    → is_reply_kind request.kind ≡ true
unfolding reply_to is_reply_kind
reply-begun o request h1 = grind arith

pub begun-reply-kind : (r : Run) (q : ℕ) (request : Request) → IsBegunAt r q Priority request
    → is_reply_kind request.kind ≡ true
unfolding would_begin
begun-reply-kind r q request k = reply-begun _ request k.wanted

result-by : (v : BenchView) (hold : Bool) (choice : Choice) (entries : List Done) → IsBenchOf v
    → DeferralsTold v (run_with v hold choice entries) → AgentsAnswer v (run_with v hold choice entries)
    → (grows : GrowsTo v.run (run_with v hold choice entries)) → (k : SnoopsHere v hold choice entries) (who : Who)
    → k.now.entry.who ≡ who
    → has_right_result (run_with v hold choice entries) (past_of (run_with v hold choice entries))
    (next_clock_of v) k.told.end ≡ true
result-by v hold choice entries b told answer grows k (Symmetric agent) e =
    let s = run_with v hold choice entries in
    let p = past_of s in
    let n = next_clock_of v in
    let y = k.now.entry in
    let c = claimed-by v hold choice entries b grows k agent e in
    let claim = k.told.is_end.claim ∙ ap (claim_at s.trace) k.told.first ∙ c.is_claim in
    let all = besides-told v s agent y.request.line answer in
    let dirty = dirty-by p n k.told.end c.claim claim
    ∙ (λ i. is_dirty_elsewhere p (c.of_agent i) (c.of_line i) n) in
    let held = held-by p n k.told.end c.claim claim
    ∙ (λ i. is_held_elsewhere p (c.of_agent i) (c.of_line i) n) in
    right-other s p n k.told.end (end-kind v hold choice entries b grows k ∙ c.no_reply)
    (hitm-now v hold choice entries k (Symmetric agent) e ∙ all.modified ∙ sym dirty)
    (hit-now v hold choice entries k (Symmetric agent) e ∙ all.hit ∙ sym (λ i. not (dirty i) && held i))
result-by v hold choice entries b told answer grows k Priority e =
    let r = v.run in
    let s = run_with v hold choice entries in
    let p = past_of s in
    let n = next_clock_of v in
    let y = k.now.entry in
    let bus = step_performed v in
    let did = y.request.did in
    let same = same-performed v in
    let begun = subst (λ w. IsBegunAt r y.clock w y.request) e (b.entries.begun k.now.place y k.now.at) in
    let kind = begun-reply-kind r y.clock y.request begun in
    let decoded = ap (request_at s.trace) k.told.first ∙ decoded-now v hold choice entries b grows k in
    let there = k.told.is_end.there in
    let that = told.deferral k.told.end y.request there decoded kind in
    let was = told.hit k.told.end y.request there decoded kind in
    let list : deferral_of_id did bus.bridge.waiting ≡ deferral_of_id did v.bus.bridge.waiting =
    ap (λ (x : Bridged). deferral_of_id did x.waiting) same.bridge in
    let started : (d : Deferral) → deferral_of_id did bus.bridge.waiting ≡ Some d
    → (begun : Started) × (slice_get bus.started d.number ≡ Some begun) = λ d f.
    let one = subst (λ o. IsThatOf s.trace o (number_served_at s p n)) (sym list ∙ f) that in
    let at = deferral-started v hold choice entries b grows k d one.0 one.1 one.2 in
    (at.0, ap (λ xs. slice_get xs d.number) same.started ∙ at.1) in
    right-reply s p n k.told.end (end-kind v hold choice entries b grows k ∙ kind)
    (hit-now v hold choice entries k Priority e ∙ reply-hit bus y (deferral_of_id did bus.bridge.waiting) started
    ∙ ap (λ o. option_map_or (λ (d : Deferral). d.shared) o false) list ∙ sym was)
    (hitm-now v hold choice entries k Priority e ∙ reply-hitm bus y (deferral_of_id did bus.bridge.waiting))

pub result-now : (v : BenchView) (hold : Bool) (choice : Choice) (entries : List Done) → IsBenchOf v
    → DeferralsTold v (run_with v hold choice entries) → AgentsAnswer v (run_with v hold choice entries)
    → GrowsTo v.run (run_with v hold choice entries)
    → has_snoop_result (run_with v hold choice entries) (past_of (run_with v hold choice entries))
    (next_clock_of v) ≡ true
result-now v hold choice entries b told answer grows =
    let s = run_with v hold choice entries in
    let n = next_clock_of v in
    elim (snoop-cases v hold choice entries grows b.requests) [
      | inr g ↦ result-none s (past_of s) n g.quiet
      | inl k ↦
          result-some s (past_of s) n k.told.end k.told.is_end.there
          (result-by v hold choice entries b told answer grows k k.now.entry.who refl)
    ]

-- the snoop result at the clock
pub snoop-result : (v : BenchView) (hold : Bool) (choice : Choice) (entries : List Done) → IsBenchOf v
    → DeferralsTold v (run_with v hold choice entries) → AgentsAnswer v (run_with v hold choice entries)
    → GrowsTo v.run (run_with v hold choice entries)
    → holds_at has_snoop_result (run_with v hold choice entries) (next_clock_of v) ≡ true
snoop-result v hold choice entries b told answer grows =
    holds-now has_snoop_result v.run (run_with v hold choice entries) grows
    (result-now v hold choice entries b told answer grows)
