-- Rules 30 and 31: a reply repeats HIT#, and a line that is deferred is given to nobody else.
use Rattle.std.proofs.Common.{ℕ, ◌+◌, ◌<◌, ◌≡◌, Bool, true, false, ◌&&◌, not, nat_lt, length, List, Option, Some}
use Rattle.std.proofs.Common.{refl, sym, ap, subst, ◌∙◌, arith, inl, inr, if◌then◌else◌}
use Rattle.std.specs.Option.{option_and_then}
use Rattle.std.proofs.lemmas.Bool.{and_parts, both_ways, false_from_ne_true, ltb-true, not-true}
use Rattle.fsb_count.specs.Clocks.{any_where}
use Rattle.fsb_count.specs.Options.{is_before, is_some_and}
use Rattle.fsb_count.proofs.Interface.{any_where-found, is_before-from}
use Rattle.fsb_encode.specs.declared.request.Kind.{Kind}
use Rattle.fsb_encode.specs.declared.request.Request.{Request}
use Rattle.fsb_hazard.specs.Choice.{is_never_held_up}
use Rattle.fsb_hazard.specs.declared.choice.Turn.{Turn}
use Rattle.fsb_hazard.specs.declared.choice.Turn.TheVariants.{Retry}
use Rattle.fsb_line.specs.declared.purpose.Purpose.{Purpose}
use Rattle.fsb_line.specs.States.{asks_line}
use Rattle.fsb_signal.specs.declared.lines.TheConstants.Lines.{DEFER, HIT, HITM}
use Rattle.fsb_signal.specs.Samples.{line_at}
use Rattle.fsb_trace.specs.At.{Trace, request_at}
use Rattle.fsb_trace.specs.Flight.{reply_number_of}
use Rattle.fsb_trace.specs.Outcome.{is_deferral, is_deferred}
use Rattle.fsb_trace.specs.Requests.{is_reply, live_clock_of, live_count, live_request_of}
use Rattle.fsb_trace.specs.Snoop.{line_at_snoop_end, snoop_end_of}
use Rattle.fsb_trace.proofs.Interface.{snoop_end_of-clock}
use Rattle.fsb_timely.specs.Past.{Claim, Grant, SnoopEnd}
use Rattle.fsb_timely.specs.Moments.{number_snooped_at, served_number, turns_in}
use Rattle.fsb_timely.specs.Runs.{Run, past_of, past_to, run_to}
use Rattle.fsb_timely.specs.Snoops.{is_keep, number_served_at, was_hit_before}
use Rattle.fsb_timely.proofs.Interface.{snoop-tied}
use Rattle.fsb_lawful.proofs.Interface.{past-cut, some-and}
use Rattle.fsb_coherent.specs.Awaits as awaits
use Rattle.fsb_coherent.specs.Settled.{outcome_by_turn, outcome_under}
use Rattle.fsb_tied.proofs.Interface.{IsSnooped, begun-shown, begun-want, live-request, outcome-shown, reply-end-at, snooped-by, told-again}
use Rattle.fsb_tied.proofs.PendingLines.{pending-retried}
use Rattle.fsb_tied.proofs.ReplyEnds.{IsReplyEnd}
use Rattle.fsb_tied.proofs.SnoopClaims.{kind-shown}
use Rattle.fsb_run_laws.specs.Reaches.{Reaches}
use Rattle.fsb_owners.specs.Joint.{Joint}
use Rattle.fsb_owners.specs.Rules.{has_other_hit, is_answered_below, is_given_again, is_given_again_to, is_hit_of_reply_wrong}
use Rattle.fsb_owners.specs.Rules.{is_served_or_deferred, of_request}
use Rattle.fsb_owners.specs.Shown.{agent_at, names, origin_clock_of, origin_of, purpose_at, snooped_at}
use Rattle.fsb_owner_laws.proofs.AgreeEnders.{ender_from, for_line-from, origin_parts, snooped_found, snooped_from}
use Rattle.fsb_owner_laws.proofs.AgreeWords as words
use Rattle.fsb_owner_laws.proofs.BrokenRules.{named}
use Rattle.fsb_owner_laws.proofs.Emptied.{Ender, ender, ender_four}
use Rattle.fsb_owner_run.proofs.AskedOnce.{IsDecoded, request-parts}
use Rattle.fsb_owner_run.proofs.Begun.{purpose-there}
use Rattle.fsb_owner_run.proofs.Claims.{asks-purpose, shown-begun}
use Rattle.fsb_owner_run.proofs.Coming.{defer-shown, line-at-end}
use Rattle.fsb_owner_run.proofs.HeldBack.{agent-there}
use Rattle.fsb_owner_run.proofs.Replied.{decoded-reply, put-off-told, replied-end, reply-origin, told-same}
use Rattle.fsb_owner_run.proofs.Snooped.{the-asker, the-orderly}

-- the reply whose snoop end is the last clock of the run, as the run has it
record IsHeard (r : Run) (c j : ℕ) : Type 0 where
  pub line : ℕ
  pub end : SnoopEnd
  pub snooped : IsSnooped r c j end
  pub grant : Grant
  pub reply_end : IsReplyEnd r line c end grant
  pub origin : origin_of r.trace j ≡ Some reply_end.served
  pub serves : served_number r.trace (turns_in (past_of r).moments) j ≡ Some reply_end.served

same-number : (r : Run) (c : ℕ) (i j : ℕ) (s : SnoopEnd) → IsSnooped r c i s → snooped_at r.trace c ≡ Some j → i ≡ j
same-number r c i j s k e = words.some_same i j (sym (snooped_from r.trace c i k.tied.reached) ∙ e)

heard : (r : Run) (c j q : ℕ) → Reaches r (c + 1) → snooped_at r.trace c ≡ Some j
    → is_reply (live_request_of r.trace j) ≡ true → origin_clock_of r.trace j ≡ Some q
    → IsDecoded r.trace q (λ line a. true) → IsHeard r c j
heard r c j q h shown reply origin d =
    let w = r.trace in
    let long = h.long in
    let snoop = snooped_found w c j shown in
    let before = (origin_parts (length w) w w j c q (words.itself w (the-orderly r c h)) snoop (omega arith) origin).0 in
    let short : Reaches r (q + 2) = record { timely = h.timely; bounds = h.bounds; long = omega arith } in
    let purpose = purpose-there r d.line d.agent q short d.names_line d.is_agent in
    let e : Ender = (j, (d.agent, purpose.0)) in
    let ends : ender w d.line c ≡ Some e = ender_from w d.line c e (record {
      number = shown;
      for_line = for_line-from w d.line j q origin ∙ d.names_line;
      clock = q;
      begins = origin;
      agent = d.is_agent;
      kind = purpose.1;
    }) in
    let k = the-asker r d.line c e h ends in
    elim k.way [
      | inl way ↦ absurd (both_ways (is_reply (live_request_of w j)) way.request reply)
      | inr way ↦
          let x = replied-end r d.line c e h k way (ender_four w d.line c e ends) in
          let y = reply-end-at r d.line c x.end x.grant x.snooped.tied.there x.unclaimed x.grants x.names in
          let same = same-number r c y.number j x.end y.snooped shown in
          record {
            line = d.line;
            end = x.end;
            snooped = x.snooped;
            grant = x.grant;
            reply_end = y;
            origin = ap (origin_of w) (sym same) ∙ reply-origin r d.line c x.end x.grant h y;
            serves = ap (served_number w (turns_in (past_of r).moments)) (sym same) ∙ y.serves;
          }
    ]

same-snooped : (w : Trace) (c : ℕ) → number_snooped_at w c ≡ snooped_at w c
unfolding number_snooped_at snooped_at
same-snooped w c = refl

-- what was told at the snoop end that is answered, in a run that ends with the clock
told-before : (r : Run) (c j i : ℕ) → run_to r c ≡ r → past_to (past_of r) c ≡ past_of r → snooped_at r.trace c ≡ Some j
    → served_number r.trace (turns_in (past_of r).moments) j ≡ Some i
    → was_hit_before (run_to r c) (past_to (past_of r) c) c ≡ line_at_snoop_end HIT r.trace i
unfolding was_hit_before number_served_at is_some_and
told-before r c j i run past shown serves =
    (λ k. is_some_and (number_served_at (run k) (past k) c) (line_at_snoop_end HIT (run k).trace))
    ∙ ap (λ o. is_some_and (option_and_then (served_number r.trace (turns_in (past_of r).moments)) o)
    (line_at_snoop_end HIT r.trace)) (same-snooped r.trace c ∙ shown)
    ∙ ap (λ o. is_some_and o (line_at_snoop_end HIT r.trace)) serves

repeated : (w : Trace) (c i : ℕ) → line_at HIT w c ≡ line_at_snoop_end HIT w i → has_other_hit w c i ≡ false
unfolding has_other_hit
repeated w c i e = by-hit (line_at_snoop_end HIT w i) (line_at HIT w c) e
  where
    by-hit : (a b : Bool) → b ≡ a → (if a then not b else b) ≡ false
    by-hit true true h = refl
    by-hit false false h = refl
    by-hit true false h = absurd (let no : ⊥ = cc in no)
    by-hit false true h = absurd (let no : ⊥ = cc in no)

pub hits-repeated : (first : List Joint) (r : Run) (c : ℕ) → Reaches r (c + 1) → run_to r c ≡ r
    → is_hit_of_reply_wrong first r.trace c ≡ false
unfolding is_hit_of_reply_wrong
hits-repeated first r c h run =
    let w = r.trace in
    let long = h.long in
    let past : past_to (past_of r) c ≡ past_of r = sym (past-cut r c (omega arith)) ∙ ap past_of run in
    false_from_ne_true _ (λ t.
    let j = some-and (snooped_at w c) (λ j. is_reply (live_request_of w j)
    && is_some_and (origin_of w j) (λ i. has_other_hit w c i)
    && is_some_and (origin_clock_of w j) (λ q. of_request w q (λ line a. true))) t in
    let p = and_parts _ (is_some_and (origin_clock_of w j.0) (λ q. of_request w q (λ line a. true))) j.2 in
    let o = and_parts (is_reply (live_request_of w j.0)) (is_some_and (origin_of w j.0) (λ i. has_other_hit w c i)) p.0 in
    let i = some-and (origin_of w j.0) (λ i. has_other_hit w c i) o.1 in
    let q = some-and (origin_clock_of w j.0) (λ q. of_request w q (λ line a. true)) p.1 in
    let d = request-parts w q.0 (λ line a. true) q.2 in
    let k = heard r c j.0 q.0 h j.1 o.0 q.1 d in
    let same : i.0 ≡ k.reply_end.served = words.some_same i.0 k.reply_end.served (sym i.1 ∙ k.origin) in
    let there = decoded-reply (live_request_of w j.0) o.0 in
    let first-at = sym (live-request w j.0 k.end.first k.snooped.tied.first) ∙ there.1 in
    let again = told-again r c k.end there.0.kind h.timely k.snooped.within k.snooped.tied.there
    (kind-shown r c j.0 k.end there.0 k.snooped first-at) there.2 in
    let hit = again.hit ∙ told-before r c j.0 k.reply_end.served run past j.1 k.serves in
    both_ways (has_other_hit w c i.0) (ap (has_other_hit w c) same ∙ repeated w c k.reply_end.served hit) i.2)

-- what asks for its line may be put off
asks-held : (kind : Kind) (purpose : Purpose) → awaits.purpose_of kind ≡ Some purpose → asks_line purpose ≡ true
    → is_never_held_up kind ≡ false
unfolding awaits.purpose_of
asks-held kind purpose h1 h2 = grind arith

retried-plain : (hitm : Bool) (turn : Turn) (o : Option Request) → turn ≡ Retry
    → is_deferral (outcome_under hitm turn o) ≡ false
unfolding outcome_under outcome_by_turn is_deferral
retried-plain hitm turn o h1 = grind arith

turned-off : (turn : Turn) → turn ≡ Retry → not (is_keep turn) ≡ true
unfolding is_keep
turned-off turn h1 = grind arith

-- a request for a pending line is neither served nor put off
put-back : (r : Run) (line i j t s q p a : ℕ) (kind : Purpose) → Reaches r (s + 1) → snoop_end_of r.trace i ≡ Some t
    → snoop_end_of r.trace j ≡ Some s → t < s → is_deferred r.trace i ≡ true
    → live_clock_of r.trace i ≡ Some q → names r.trace line q ≡ true → agent_at r.trace q ≡ Some a
    → live_clock_of r.trace j ≡ Some p → names r.trace line p ≡ true → purpose_at r.trace p ≡ Some kind
    → asks_line kind ≡ true → is_answered_below r.trace i s ≡ false → is_served_or_deferred r.trace j ≡ false
unfolding is_served_or_deferred is_answered_below
put-back r line i j t s q p a kind h snoop later less deferred clock shown agent begins named_too purpose asks unanswered =
    let w = r.trace in
    let long = h.long in
    let put = words.put_off w i (the-orderly r s h) deferred in
    let off = put-off-told r line i q t a h.timely snoop clock (named w line q shown).1 agent deferred put.response put.is_response in
    let tied = snoop-tied r j s later in
    let x = tied.0 in
    let k = snooped-by r s j x tied.1 in
    let above = k.above in
    let one = tied.1.first in
    let same : x.first ≡ p = cc in
    let b = agent-there w p line named_too in
    let claim : Claim = record { first = p; agent = b.0; line = line } in
    let begun = shown-begun r line b.0 p named_too b.1 in
    let want = begun-want r p claim h.timely h.bounds begun.0 begun.1 in
    let decoded = begun-shown r p claim h.timely h.bounds (omega arith) want in
    let here = subst (λ c. request_at w c ≡ Some want.request) (sym same) decoded in
    let held = asks-held want.request.kind kind (sym (asks-purpose w p want.request decoded) ∙ purpose) asks in
    let turn = pending-retried r s j x want.request line t i h.timely k here want.line held off.0 less
    (λ n y reply end below. both_ways
    (is_before (option_and_then (snoop_end_of w) (reply_number_of w i)) s) unanswered
    (is_before-from (option_and_then (snoop_end_of w) (reply_number_of w i)) y s
    (ap (option_and_then (snoop_end_of w)) reply ∙ end) below)) in
    let defer = line-at-end DEFER w j s later ∙ defer-shown r s j x h.timely k ∙ turned-off x.turn turn in
    let told : is_deferred w j ≡ false = false_from_ne_true _ (λ e.
    let again = words.put_off w j (the-orderly r s h) e in
    let settled = sym (told-same r j s again.response x h.timely k again.is_response) ∙ e in
    both_ways (is_deferral x.outcome)
    (ap is_deferral (outcome-shown r s j x want.request k here)
    ∙ retried-plain (line_at HITM w s) x.turn (Some want.request) turn) settled) in
    rw (defer, told) refl

pub never-given-again : (first : List Joint) (r : Run) (c n : ℕ) → Reaches r n → n ≡ length r.trace
    → is_given_again first r.trace c ≡ false
unfolding is_given_again is_given_again_to
never-given-again first r c n h size =
    let w = r.trace in
    false_from_ne_true _ (λ e.
    let i = any_where-found (λ i. is_deferred w i && any_where (is_given_again_to w i) (live_count w)) (live_count w) e in
    let di = and_parts (is_deferred w i.0) (any_where (is_given_again_to w i.0) (live_count w)) i.2 in
    let j = any_where-found (is_given_again_to w i.0) (live_count w) di.1 in
    let one = and_parts _ (is_served_or_deferred w j.0) j.2 in
    let two = and_parts _ (is_some_and (option_and_then (purpose_at w) (live_clock_of w j.0)) asks_line) one.0 in
    let three = and_parts (is_some_and (snoop_end_of w i.0) (λ t. is_some_and (snoop_end_of w j.0)
    (λ s. nat_lt t s && not (is_answered_below w i.0 s))))
    (is_some_and (live_clock_of w i.0) (λ q. of_request w q (λ line a. is_some_and (live_clock_of w j.0) (names w line))))
    two.0 in
    let t = some-and (snoop_end_of w i.0) (λ t. is_some_and (snoop_end_of w j.0)
    (λ s. nat_lt t s && not (is_answered_below w i.0 s))) three.0 in
    let s = some-and (snoop_end_of w j.0) (λ s. nat_lt t.0 s && not (is_answered_below w i.0 s)) t.2 in
    let order = and_parts (nat_lt t.0 s.0) (not (is_answered_below w i.0 s.0)) s.2 in
    let q = some-and (live_clock_of w i.0)
    (λ q. of_request w q (λ line a. is_some_and (live_clock_of w j.0) (names w line))) three.1 in
    let d = request-parts w q.0 (λ line a. is_some_and (live_clock_of w j.0) (names w line)) q.2 in
    let p = some-and (live_clock_of w j.0) (names w d.line) d.passes in
    let asked = some-and (option_and_then (purpose_at w) (live_clock_of w j.0)) asks_line two.1 in
    let purpose = sym (ap (option_and_then (purpose_at w)) p.1) ∙ asked.1 in
    let within = (snoop_end_of-clock w j.0 s.0 s.1).within in
    let reaches : Reaches r (s.0 + 1) = record { timely = h.timely; bounds = h.bounds; long = omega arith } in
    both_ways (is_served_or_deferred w j.0)
    (put-back r d.line i.0 j.0 t.0 s.0 q.0 p.0 d.agent asked.0 reaches t.1 s.1 (ltb-true t.0 s.0 order.0) di.0 q.1
    d.names_line d.is_agent p.1 p.2 purpose asked.2 (not-true _ order.1)) one.1)
