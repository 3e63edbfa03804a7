-- The joint state of a line in a timely run is, clock by clock, one of those that the wires leave.
use Rattle.std.proofs.Common.{ℕ, zero, suc, ◌+◌, ◌≡◌, Bool, true, false, ◌&&◌, not, nat_eq}
use Rattle.std.proofs.Common.{List, Option, Some, None, refl, sym, ap, subst, ◌∙◌, add-one, arith, inl, inr}
use Rattle.std.specs.List.{Contains}
use Rattle.std.specs.Option.{option_and_then}
use Rattle.std.proofs.lemmas.Bool.{eqb-true, false_from_ne_true}
use Rattle.fsb_count.specs.Options.{is_some_and}
use Rattle.fsb_line.specs.declared.purpose.Settled.TheVariants.{Replied}
use Rattle.fsb_line.specs.declared.state.Mesi.{Mesi}
use Rattle.fsb_signal.specs.declared.lines.TheConstants.Lines.{HIT, HITM}
use Rattle.fsb_signal.specs.Samples.{line_at}
use Rattle.fsb_trace.specs.Requests.{is_reply, is_reply_kind, live_clock_of, live_request_of}
use Rattle.fsb_timely.specs.Past.{Claim, Grant, Past, SnoopEnd}
use Rattle.fsb_timely.specs.Grants.{grant_at, is_claim_of, is_claim_of_other, is_granted, is_named_by_other, is_snooped}
use Rattle.fsb_timely.specs.Grants.{is_taken_away, is_written_back, snooped_at}
use Rattle.fsb_timely.specs.Hits.{line_state_of}
use Rattle.fsb_timely.specs.Runs.{Run, past_of}
use Rattle.fsb_timely.proofs.Interface.{tied-snoop}
use Rattle.fsb_tied.proofs.Interface.{claimed-at, clock-facts, live-request, reply-end-at, snooped-by}
use Rattle.fsb_tied.proofs.ReplyEnds.{IsReplyEnd}
use Rattle.fsb_run_laws.specs.Reaches.{Reaches}
use Rattle.fsb_owners.specs.Joint.{Joint, every_joint, is_after_snoop_end, unheld}
use Rattle.fsb_owners.specs.Possible.{after_answer, after_begin, after_clock, after_snoop_end, made_by}
use Rattle.fsb_owners.specs.Possible.{possible, possible_begun, possible_shown, replied_to}
use Rattle.fsb_owners.specs.Shown.{is_turned, names, origin_clock_of, origin_of}
use Rattle.fsb_owner_laws.proofs.AgreeEnders.{ender_from, for_line-from, snooped_from}
use Rattle.fsb_owner_laws.proofs.Emptied.{Ender, at_ender, ender, ender_four, step_by}
use Rattle.fsb_owner_run.proofs.Begun.{begin-leaves, purpose-there}
use Rattle.fsb_owner_run.proofs.Claims.{begun-shows}
use Rattle.fsb_owner_run.proofs.Moves.{hits-moved}
use Rattle.fsb_owner_run.proofs.Replied.{IsRepliedEnd, replied-end, replied-fits, reply-origin}
use Rattle.fsb_owner_run.proofs.Sets.{joint_of, reached_in, reply_turns, request_turns, turn_step, turned}
use Rattle.fsb_owner_run.proofs.Snooped.{IsAskedEnd, answer-leaves, asked-end, asked-fits, the-asker}
use Rattle.fsb_owner_run.proofs.States.{first-joint, joint_at, run-coherent}
use Rattle.fsb_owner_run.proofs.Turned.{Effects, Leads, asked-leads, granted-value, leads-quiet, no-end-effects}
use Rattle.fsb_owner_run.proofs.Turned.{replied-leads, settled_of, unclaimed-effects}
use Rattle.fsb_owner_run.proofs.Unseen.{unseen-reaches}

some-not : (o : Option Ender) (e : Ender) → o ≡ None → o ≡ Some e → ⊥
some-not o e f g = cc

-- the snoop end of a request with a claim on the line is seen
ender-claimed : (r : Run) (line n : ℕ) (s : SnoopEnd) (claim : Claim) → Reaches r (n + 1)
    → snooped_at (past_of r) n ≡ Some s → s.claim ≡ Some claim → claim.line ≡ line
    → (e : Ender) × (ender r.trace line n ≡ Some e)
unfolding origin_clock_of origin_of is_reply is_reply_kind is_some_and
ender-claimed r line n s claim h there claims names_line =
    let p = past_of r in
    let w = r.trace in
    let long = h.long in
    let tied = tied-snoop r n s there in
    let i : ℕ = tied.0 in
    let k = snooped-by r n i s tied.1 in
    let above = k.above in
    let begun = sym ((clock-facts r line n h.timely h.bounds (omega arith)).settles.claimed s there) ∙ claims in
    let shown = begun-shows r s.first claim h.timely h.bounds (omega arith) begun in
    let named = subst (λ x. names w x s.first ≡ true) names_line shown.0 in
    let short : Reaches r (s.first + 2) = record { timely = h.timely; bounds = h.bounds; long = omega arith } in
    let purpose = purpose-there r line claim.agent s.first short named shown.1 in
    let c = claimed-at r n i s claim h.timely h.bounds k claims in
    let plain : is_reply (live_request_of w i) ≡ false =
    ap is_reply (live-request w i s.first k.tied.first ∙ c.decoded) ∙ c.plain in
    let origin : origin_clock_of w i ≡ Some s.first = rw plain k.tied.first in
    let e : Ender = (i, (claim.agent, purpose.0)) in (
      e,
      ender_from w line n e (record {
        number = snooped_from w n i k.tied.reached;
        for_line = for_line-from w line i s.first origin ∙ named;
        clock = s.first;
        begins = origin;
        agent = shown.1;
        kind = purpose.1;
      }),
    )

-- and so is that of a reply that grants the line
ender-replied : (r : Run) (line n : ℕ) (s : SnoopEnd) (grant : Grant) → Reaches r (n + 1)
    → IsReplyEnd r line n s grant → (e : Ender) × (ender r.trace line n ≡ Some e)
unfolding origin_clock_of
ender-replied r line n s grant h k =
    let w = r.trace in
    let long = h.long in
    let d = k.put_off in
    let before = k.before in
    let above = d.snooped.above in
    let begun = sym ((clock-facts r line k.clock h.timely h.bounds (omega arith)).settles.claimed d.end d.snooped.tied.there)
    ∙ d.claims in
    let shown = begun-shows r d.end.first d.claim h.timely h.bounds (omega arith) begun in
    let named = subst (λ x. names w x d.end.first ≡ true) d.names shown.0 in
    let short : Reaches r (d.end.first + 2) = record { timely = h.timely; bounds = h.bounds; long = omega arith } in
    let purpose = purpose-there r line d.claim.agent d.end.first short named shown.1 in
    let origin : origin_clock_of w k.number ≡ Some d.end.first =
    ap (option_and_then (live_clock_of w)) (reply-origin r line n s grant h k) ∙ d.snooped.tied.first in
    let e : Ender = (k.number, (d.claim.agent, purpose.0)) in (
      e,
      ender_from w line n e (record {
        number = snooped_from w n k.number k.snooped.tied.reached;
        for_line = for_line-from w line k.number d.end.first origin ∙ named;
        clock = d.end.first;
        begins = origin;
        agent = shown.1;
        kind = purpose.1;
      }),
    )

-- where no snoop end of the line is seen, there is none that does anything to it
off-line : (o : Option Grant) (a line : ℕ) → ((grant : Grant) → o ≡ Some grant → grant.line ≡ line → ⊥)
    → is_some_and o (λ grant. nat_eq grant.agent a && nat_eq grant.line line) ≡ false
unfolding is_some_and
off-line None a line h = refl
off-line (Some grant) a line h =
    let none : nat_eq grant.line line ≡ false = false_from_ne_true _ (λ t. h grant refl (eqb-true grant.line line t)) in
    rw none (by-and (nat_eq grant.agent a))
  where
    by-and : (b : Bool) → (b && false) ≡ false
    by-and true = refl
    by-and false = refl

pub record IsUntouched (r : Run) (line n a : ℕ) : Type 0 where
  pub ungranted : is_granted (past_of r) a line n ≡ false
  pub effects : Effects (past_of r) a line n false false false

ungranted-none : (p : Past) (a line n : ℕ) → snooped_at p n ≡ None → is_granted p a line n ≡ false
unfolding is_granted grant_at is_some_and
ungranted-none p a line n e = rw e refl

other-line-effects : (p : Past) (a line n : ℕ) (s : SnoopEnd) (claim : Claim) → snooped_at p n ≡ Some s
    → s.claim ≡ Some claim → (claim.line ≡ line → ⊥) → Effects p a line n false false false
unfolding is_written_back is_taken_away is_named_by_other is_snooped is_claim_of is_claim_of_other is_some_and
other-line-effects p a line n s claim there claims other =
    let none : nat_eq claim.line line ≡ false = false_from_ne_true _ (λ t. other (eqb-true claim.line line t)) in
    record {
      is_written = rw (there, claims, none) (by-three (nat_eq claim.agent a) _);
      is_taken = rw (there, claims, none) (by-three (not (nat_eq claim.agent a)) _);
      is_named = rw (there, claims, none) (by-two (not (nat_eq claim.agent a)));
    }
  where
    by-two : (b : Bool) → (b && false) ≡ false
    by-two true = refl
    by-two false = refl

    by-three : (b x : Bool) → ((b && false) && x) ≡ false
    by-three true x = refl
    by-three false x = refl

untouched-claim : (r : Run) (line n a : ℕ) (s : SnoopEnd) (o : Option Claim) → Reaches r (n + 1)
    → snooped_at (past_of r) n ≡ Some s → s.claim ≡ o → ender r.trace line n ≡ None → IsUntouched r line n a
untouched-claim r line n a s None h there claims none =
    let p = past_of r in
    record {
      ungranted = granted-value p a line n s there ∙ off-line s.grant a line (λ grant grants names.
          let k = reply-end-at r line n s grant there claims grants names in
          let e = ender-replied r line n s grant h k in
          some-not (ender r.trace line n) e.0 none e.1);
      effects = unclaimed-effects p a line n s there claims;
    }
untouched-claim r line n a s (Some claim) h there claims none =
    let p = past_of r in
    let long = h.long in
    let settles = (clock-facts r line n h.timely h.bounds (omega arith)).settles in
    let other : claim.line ≡ line → ⊥ = λ same.
    let e = ender-claimed r line n s claim h there claims same in some-not (ender r.trace line n) e.0 none e.1 in
    record {
      ungranted = granted-value p a line n s there ∙ off-line s.grant a line (λ grant grants names.
          other (sym (settles.elsewhere s claim grant there claims grants) ∙ names));
      effects = other-line-effects p a line n s claim there claims other;
    }

untouched-by : (r : Run) (line n a : ℕ) (o : Option SnoopEnd) → Reaches r (n + 1) → snooped_at (past_of r) n ≡ o
    → ender r.trace line n ≡ None → IsUntouched r line n a
untouched-by r line n a None h there none = record {
  ungranted = ungranted-none (past_of r) a line n there;
  effects = no-end-effects (past_of r) a line n there;
}
untouched-by r line n a (Some s) h there none = untouched-claim r line n a s s.claim h there refl none

pub untouched : (r : Run) (line n a : ℕ) → Reaches r (n + 1) → ender r.trace line n ≡ None → IsUntouched r line n a
untouched r line n a h none = untouched-by r line n a (snooped_at (past_of r) n) h refl none

-- the states behind the snoop end of a clock: they are those of a coherent line, are left by the rules of ownership, and lead
-- to the run's states of the next clock
pub record IsEnded (r : Run) (line n : ℕ) (f : ℕ → Mesi) : Type 0 where
  pub coherent : Contains every_joint (joint_of f)
  pub leads : (a : ℕ) → Leads r line n a (f a)
  pub left : (set : List Joint) → Contains set (joint_at (past_of r) line n)
      → Contains (after_snoop_end r.trace line n (after_answer r.trace line n set)) (joint_of f)

in-steps : (r : Run) (line n : ℕ) (set : List Joint) (x : Joint)
    → Contains (step_by (made_by r.trace n) (ender r.trace line n) (after_answer r.trace line n set)) x
    → Contains (after_snoop_end r.trace line n (after_answer r.trace line n set)) x
unfolding after_snoop_end
in-steps r line n set x c =
    subst (λ s. Contains s x)
    (sym (at_ender r.trace line n (made_by r.trace n) (after_answer r.trace line n set))) c

ended-none : (r : Run) (line n : ℕ) → Reaches r (n + 1) → ender r.trace line n ≡ None
    → IsEnded r line n (λ a. line_state_of (past_of r) a line n)
ended-none r line n h none =
    let long = h.long in
    let p = past_of r in
    let w = r.trace in
    record {
      coherent = run-coherent r line n h.timely h.bounds (omega arith);
      leads = λ a. let k = untouched r line n a h none in leads-quiet r line n a h k.ungranted k.effects;
      left = λ set c. in-steps r line n set (joint_at p line n)
          (subst (λ o. Contains (step_by (made_by w n) o (after_answer w line n set)) (joint_at p line n)) (sym none)
          (answer-leaves r line n set h c));
    }

made-asked : (r : Run) (line n : ℕ) (e : Ender) (set : List Joint) → IsAskedEnd r line n e
    → Contains every_joint (joint_of (turned e.1.0 e.1.1 (settled_of r n e) (line_at HIT r.trace n)
    (λ b. line_state_of (past_of r) b line n)))
    → Contains set (joint_at (past_of r) line n)
    → Contains (made_by r.trace n e.0 e.1.0 e.1.1 set) (joint_of (turned e.1.0 e.1.1 (settled_of r n e)
    (line_at HIT r.trace n) (λ b. line_state_of (past_of r) b line n)))
unfolding made_by
made-asked r line n e set k coherent c =
    let hit = line_at HIT r.trace n in
    let f = λ (b : ℕ). line_state_of (past_of r) b line n in
    rw k.plain (reached_in (is_after_snoop_end e.1.0 e.1.1 (settled_of r n e) hit) set (joint_of f)
    (joint_of (turned e.1.0 e.1.1 (settled_of r n e) hit f)) coherent c
    (turn_step e.1.0 e.1.1 (settled_of r n e) hit f coherent))

ended-asked : (r : Run) (line n : ℕ) (e : Ender) → Reaches r (n + 1) → ender r.trace line n ≡ Some e
    → IsAskedEnd r line n e
    → IsEnded r line n (turned e.1.0 e.1.1 (settled_of r n e) (line_at HIT r.trace n)
    (λ b. line_state_of (past_of r) b line n))
ended-asked r line n e h shown k =
    let long = h.long in
    let p = past_of r in
    let w = r.trace in
    let f = λ (b : ℕ). line_state_of p b line n in
    let x = joint_of (turned e.1.0 e.1.1 (settled_of r n e) (line_at HIT w n) f) in
    let coherent = request_turns (line_at HIT w n) (line_at HITM w n) (is_turned w e.0) e.1.0 e.1.1 f k.four
    (run-coherent r line n h.timely h.bounds (omega arith)) (asked-fits r line n e h k) in
    record {
      coherent = coherent;
      leads = λ a. asked-leads r line n a e h k;
      left = λ set c. in-steps r line n set x
          (subst (λ o. Contains (step_by (made_by w n) o (after_answer w line n set)) x) (sym shown)
          (made-asked r line n e (after_answer w line n set) k coherent (answer-leaves r line n set h c)));
    }

made-replied : (r : Run) (line n : ℕ) (e : Ender) (set : List Joint) → IsRepliedEnd r line n e
    → Contains every_joint (joint_of (turned e.1.0 e.1.1 Replied (line_at HIT r.trace n)
    (λ b. line_state_of (past_of r) b line n)))
    → Contains set (joint_at (past_of r) line n)
    → Contains (made_by r.trace n e.0 e.1.0 e.1.1 set) (joint_of (turned e.1.0 e.1.1 Replied
    (line_at HIT r.trace n) (λ b. line_state_of (past_of r) b line n)))
unfolding made_by replied_to
made-replied r line n e set k coherent c =
    let hit = line_at HIT r.trace n in
    let f = λ (b : ℕ). line_state_of (past_of r) b line n in
    rw k.reply (reached_in (is_after_snoop_end e.1.0 e.1.1 Replied hit) set (joint_of f)
    (joint_of (turned e.1.0 e.1.1 Replied hit f)) coherent c (turn_step e.1.0 e.1.1 Replied hit f coherent))

ended-replied : (r : Run) (line n : ℕ) (e : Ender) → Reaches r (n + 1) → ender r.trace line n ≡ Some e
    → IsRepliedEnd r line n e
    → IsEnded r line n (turned e.1.0 e.1.1 Replied (line_at HIT r.trace n) (λ b. line_state_of (past_of r) b line n))
ended-replied r line n e h shown k =
    let long = h.long in
    let p = past_of r in
    let w = r.trace in
    let f = λ (b : ℕ). line_state_of p b line n in
    let x = joint_of (turned e.1.0 e.1.1 Replied (line_at HIT w n) f) in
    let coherent = reply_turns (line_at HIT w n) e.1.0 e.1.1 f k.four
    (run-coherent r line n h.timely h.bounds (omega arith)) (replied-fits r line n e h k) in
    record {
      coherent = coherent;
      leads = λ a. replied-leads r line n a e h k;
      left = λ set c. in-steps r line n set x
          (subst (λ o. Contains (step_by (made_by w n) o (after_answer w line n set)) x) (sym shown)
          (made-replied r line n e (after_answer w line n set) k coherent (answer-leaves r line n set h c)));
    }

ended-by : (r : Run) (line n : ℕ) (o : Option Ender) → Reaches r (n + 1) → ender r.trace line n ≡ o
    → (f : ℕ → Mesi) × IsEnded r line n f
ended-by r line n None h shown = (λ a. line_state_of (past_of r) a line n, ended-none r line n h shown)
ended-by r line n (Some e) h shown =
    let k = the-asker r line n e h shown in
    let four = ender_four r.trace line n e shown in
    let f = λ (b : ℕ). line_state_of (past_of r) b line n in
    elim k.way [
      | inl way ↦ (
        turned e.1.0 e.1.1 (settled_of r n e) (line_at HIT r.trace n) f,
        ended-asked r line n e h shown (asked-end r line n e h k way four),
      )
      | inr way ↦ (
        turned e.1.0 e.1.1 Replied (line_at HIT r.trace n) f,
        ended-replied r line n e h shown (replied-end r line n e h k way four),
      )
    ]

-- a clock leads from the joint state of the run to the next one
clock-leads : (r : Run) (line n : ℕ) (set : List Joint) → Reaches r (n + 2)
    → Contains set (joint_at (past_of r) line n)
    → Contains (after_clock r.trace line n set) (joint_at (past_of r) line (n + 1))
unfolding after_clock
clock-leads r line n set h c =
    let long = h.long in
    let p = past_of r in
    let w = r.trace in
    let now : Reaches r (n + 1) = record { timely = h.timely; bounds = h.bounds; long = omega arith } in
    let begun = after_begin w line n set in
    let k = ended-by r line n (ender w line n) now refl in
    unseen-reaches w line n (after_snoop_end w line n (after_answer w line n begun)) k.0
    (λ a. line_state_of p a line (n + 1)) k.1.coherent
    (run-coherent r line (n + 1) h.timely h.bounds (omega arith))
    (λ a l. hits-moved r a line n (k.0 a) h (k.1.leads a))
    (k.1.left begun (begin-leaves r line n set now c))

-- so it is possible at each clock, where empty caches are possible at first
pub contained : (first : List Joint) (r : Run) (line n : ℕ) → Contains first unheld → Reaches r (n + 1)
    → Contains (possible first r.trace line n) (joint_at (past_of r) line n)
unfolding possible
contained first r line zero empty h = subst (λ x. Contains first x) (sym (first-joint (past_of r) line)) empty
contained first r line (suc n) empty h =
    let long = h.long in
    let before : Reaches r (n + 1) = record { timely = h.timely; bounds = h.bounds; long = omega arith } in
    let now : Reaches r (n + 2) = record { timely = h.timely; bounds = h.bounds; long = omega arith } in
    let next : n + 1 ≡ suc n = add-one n in
    subst (λ m. Contains (after_clock r.trace line n (possible first r.trace line n)) (joint_at (past_of r) line m)) next
    (clock-leads r line n (possible first r.trace line n) now (contained first r line n empty before))

pub contained-begun : (first : List Joint) (r : Run) (line n : ℕ) → Contains first unheld → Reaches r (n + 1)
    → Contains (possible_begun first r.trace line n) (joint_at (past_of r) line n)
unfolding possible_begun
contained-begun first r line n empty h =
    begin-leaves r line n (possible first r.trace line n) h (contained first r line n empty h)

pub contained-shown : (first : List Joint) (r : Run) (line n : ℕ) → Contains first unheld → Reaches r (n + 1)
    → Contains (possible_shown first r.trace line n) (joint_at (past_of r) line n)
unfolding possible_shown
contained-shown first r line n empty h =
    answer-leaves r line n (possible_begun first r.trace line n) h (contained-begun first r line n empty h)
