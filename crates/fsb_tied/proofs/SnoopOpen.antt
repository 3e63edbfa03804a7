-- At the snoop end of a symmetric agent's request that request is open, and no open one is older.
use Rattle.fsb_tied.proofs.Words
use Words.{ℕ, ◌+◌, ◌-◌, ◌<◌, ◌≤◌, ◌≡◌, Bool, true, false, not, ◌&&◌, Some, length, nat_le, refl, sym, ap, subst, ◌∙◌}
use Words.{inl, inr, arith, option_and_then, option_map, and_from, and_parts, both_ways, cases_Bool, cases_lt}
use Words.{false_from_ne_true, not-true, is_at, is_some_and, any_where-off, count_where-above, is_at-some}
use Words.{nth_where-found, Kind, Purpose, OpenRequest, ADS, AERR, line_at, Trace, is_cancelled, is_live, live_clock_of}
use Words.{live_number_of, snoop_end_of, line_at-agree, live_clock_of-number, snoop_end_of-clock, snoop_end_of-rises}
use Words.{is_evicted, snooped_at, cancelled_at, is_snoop_of, Claim, SnoopEnd, Run, past_of, past_to, run_to, Timely}
use Words.{cancelled-told, tied-snoop, KeepsBounds, orderly-at, run_to-agrees, some-and, cancelled_in, purpose_of}
use Words.{purpose_wanted, IsOpen, is_cancelled_below, is_snooped_below}
use Rattle.fsb_tied.proofs.Beginnings.{IsBegunWant, begun-from, begun-shown, begun-there, begun-want}
use Rattle.fsb_tied.proofs.Ended.{snooped-below}
use Rattle.fsb_tied.proofs.WholeOrder.{one-begins}
use Rattle.fsb_tied.proofs.Owing.{cancelled-below, open-owed}
use Rattle.fsb_tied.proofs.Slots.{asked-unevicted}
use Rattle.fsb_tied.proofs.Wanted.{want-is}

-- what AERR# cancels at t began three clocks before
cancels-by : (w : Trace) (t q : ℕ) (b : Bool) → (nat_le 3 t && line_at AERR w t && line_at ADS w (t - 3)) ≡ b
    → cancelled_at w t ≡ Some q → (t ≡ q + 3) × (line_at AERR w t ≡ true)
unfolding cancelled_at
cancels-by w t q b h1 h2 = grind arith

pub cancels : (r : Run) (t q : ℕ) → t < length r.trace → cancelled_in (past_of r) t ≡ Some q
    → (t ≡ q + 3) × (line_at AERR r.trace t ≡ true)
unfolding cancelled_in
cancels r t q l e = cancels-by r.trace t q _ refl (sym (cancelled-told r t l) ∙ e)

-- a live request, its clock and number
pub record IsLiveAt (w : Trace) (i q : ℕ) : Type 0 where
  pub within : q < length w
  pub asks : line_at ADS w q ≡ true
  pub kept : line_at AERR w (q + 3) ≡ false
  pub number : live_number_of w q ≡ i

pub live-at : (w : Trace) (i q : ℕ) → live_clock_of w i ≡ Some q → IsLiveAt w i q
unfolding live_clock_of live_number_of is_live is_cancelled
live-at w i q e =
    let p = nth_where-found (is_live w) i (length w) q e in
    let parts = and_parts (line_at ADS w q) (not (line_at AERR w (q + 3))) p.1 in
    record { within = p.0; asks = parts.0; kept = not-true _ parts.1; number = p.2 }

-- it is cancelled at no clock
pub live-uncancelled : (r : Run) (i q t : ℕ) → t < length r.trace → live_clock_of r.trace i ≡ Some q
    → is_at (cancelled_in (past_of r) t) q ≡ false
live-uncancelled r i q t l clock = false_from_ne_true _ (λ e.
    let k = live-at r.trace i q clock in
    let c = cancels r t q l (is_at-some (cancelled_in (past_of r) t) q e) in
    both_ways (line_at AERR r.trace (q + 3)) k.kept (subst (λ n. line_at AERR r.trace n ≡ true) c.0 c.1))

-- its snoop end is one alone
pub snooped-once : (r : Run) (i q t n : ℕ) → live_clock_of r.trace i ≡ Some q → snoop_end_of r.trace i ≡ Some n
    → is_some_and (snooped_at (past_of r) t) (is_snoop_of q) ≡ true → t ≡ n
unfolding is_snoop_of
snooped-once r i q t n clock snoop e = grind (arith, some-and, tied-snoop, one-begins)

-- a claim with its first clock
pub claim-with : (claim : Claim) (q : ℕ) → claim.first ≡ q
    → Some claim ≡ Some (record { first = q; agent = claim.agent; line = claim.line })
claim-with claim q e = ap (λ f. Some (record { first = f; agent = claim.agent; line = claim.line })) e

-- the snoop end at n of agent a's request for the line: it is open, as what its kind asks, and not cancelled there
pub record HasOpen (r : Run) (line n : ℕ) (s : SnoopEnd) (a : ℕ) : Type 0 where
  pub kind : Kind
  pub known : s.kind ≡ Some kind
  pub purpose : Purpose
  pub asks : purpose_of kind ≡ Some purpose
  pub opened : IsOpen (past_of r) a line n (record { kind = purpose; number = s.first })
  pub uncancelled : is_at (cancelled_in (past_of r) n) s.first ≡ false

-- what its agent wanted at its first clock
pub wanted-then : (r : Run) (q : ℕ) (claim : Claim) (k : IsBegunWant r q claim)
    → (purpose : Purpose) × (purpose_of k.request.kind ≡ Some purpose)
    × (purpose_wanted (past_to (past_of r) q) claim.agent q ≡ Some purpose)
unfolding purpose_wanted
wanted-then r q claim k =
    let w = want-is (past_of r) claim.agent q k.request k.want in
    (w.purpose, w.asks, ap (option_and_then (λ request. purpose_of request.kind)) k.wanted ∙ w.asks)

pub open-at-snoop-end : (r : Run) (n : ℕ) (s : SnoopEnd) (claim : Claim) → Timely r → KeepsBounds r.plan
    → n < length r.trace → snooped_at (past_of r) n ≡ Some s → s.claim ≡ Some claim
    → HasOpen r claim.line n s claim.agent
unfolding is_cancelled_below is_snooped_below
open-at-snoop-end r n s claim h bounds l there claims =
    let p = past_of r in
    let tied = tied-snoop r n s there in
    let i : ℕ = tied.0 in
    let q : ℕ = s.first in
    let clock = tied.1.first in
    let c = snoop_end_of-clock r.trace i n tied.1.reached in
    let above = c.above in
    let is = c.is_clock in
    let same : c.clock ≡ q = cc in
    let live = live-at r.trace i q clock in
    let begun = begun-from r q claim live.within live.asks (sym tied.1.claim ∙ claims) in
    let k = begun-want r q claim h bounds live.within begun in
    let shown = begun-shown r q claim h bounds (omega arith) k in
    let wanted = wanted-then r q claim k in
    record {
      kind = k.request.kind;
      known = tied.1.kind ∙ ap (option_map (λ request. request.kind)) shown;
      purpose = wanted.0;
      asks = wanted.1;
      opened = record {
        before = omega arith;
        begun = begun ∙ claim-with claim q k.first;
        wanted = wanted.2;
        uncancelled = any_where-off (λ t. is_at (cancelled_in p t) q) n
            (λ t m. live-uncancelled r i q t (omega arith) clock);
        unsnooped = any_where-off (λ t. is_some_and (snooped_at p t) (is_snoop_of q)) n
            (λ t m. false_from_ne_true _ (λ e. let at = snooped-once r i q t n clock tied.1.reached e in omega arith));
      };
      uncancelled = live-uncancelled r i q n l clock;
    }

-- a request that began before a live one, and was not cancelled, had its snoop end before it
older-snooped : (r : Run) (n i q older : ℕ) → live_clock_of r.trace i ≡ Some q → snoop_end_of r.trace i ≡ Some n
    → older < q → line_at ADS r.trace older ≡ true → line_at AERR r.trace (older + 3) ≡ false
    → is_snooped_below (past_of r) n older ≡ true
unfolding live_number_of is_live is_cancelled
older-snooped r n i q older clock snoop less asks kept =
    let w = r.trace in
    let k = live-at w i q clock in
    let within = k.within in
    let live : is_live w older ≡ true = and_from _ _ asks (ap not kept) in
    let first = live_clock_of-number w older (omega arith) live in
    let number = k.number in
    let below : live_number_of w older < live_number_of w q = count_where-above (is_live w) older q less live in
    let before = snoop_end_of-rises w (live_number_of w older) i n (omega arith) snoop in
    let gap = before.2 in
    snooped-below r n (live_number_of w older) before.0 older (omega arith) before.1 first

-- an open request is no older than the one whose snoop end it is
pub oldest-at-snoop-end : (r : Run) (n : ℕ) (s : SnoopEnd) → Timely r → n < length r.trace
    → snooped_at (past_of r) n ≡ Some s → (b line : ℕ) (request : OpenRequest) → IsOpen (past_of r) b line n request
    → s.first ≤ request.number
oldest-at-snoop-end r n s h l there b line request k =
    let w = r.trace in
    let q : ℕ = request.number in
    let tied = tied-snoop r n s there in
    let c = snoop_end_of-clock w tied.0 n tied.1.reached in
    let above = c.above in
    let is = c.is_clock in
    let clock = tied.1.first in
    let same : c.clock ≡ s.first = cc in
    let live = live-at w tied.0 s.first clock in
    let before = k.before in
    elim (cases_lt q s.first) [
      | inr late ↦ late
      | inl early ↦
          let asks = (begun-there r q (record { first = q; agent = b; line = line }) (omega arith) k.begun).0 in
          let agree = run_to-agrees r n l in
          let u = (run_to r n).trace in
          let one = sym (line_at-agree ADS (n + 1) w u q agree (omega arith)) ∙ asks in
          let two = sym (line_at-agree ADS (n + 1) w u s.first agree (omega arith)) ∙ live.asks in
          let apart = (orderly-at r n h l).spaced.apart q s.first early one two in
          elim (cases_Bool (line_at AERR w (q + 3))) [
            | inl error ↦
                absurd (both_ways _ k.uncancelled (cancelled-below r n q (omega arith) (omega arith) asks error))
            | inr kept ↦
                let snooped = older-snooped r n tied.0 s.first q clock tied.1.reached early asks kept in
                absurd (both_ways _ k.unsnooped snooped)
          ]
    ]

-- its agent begins no request for a rival line there
pub unevicted-at-snoop-end : (r : Run) (n : ℕ) (s : SnoopEnd) (claim : Claim) → Timely r → KeepsBounds r.plan
    → n < length r.trace → snooped_at (past_of r) n ≡ Some s → s.claim ≡ Some claim
    → is_evicted (past_of r) claim.agent claim.line n ≡ false
unevicted-at-snoop-end r n s claim h bounds l there claims =
    let k = open-at-snoop-end r n s claim h bounds l there claims in
    let request : OpenRequest = record { kind = k.purpose; number = s.first } in
    let asked = open-owed r claim.agent claim.line n request h bounds (omega arith) k.opened in
    asked-unevicted r claim.agent claim.line n h bounds l asked
