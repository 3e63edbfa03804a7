-- The snoop end of a request for a line, as the rules of ownership see it and as the run has it.
use Rattle.std.proofs.Common.{ℕ, ◌+◌, ◌<◌, ◌≡◌, Bool, true, false, ◌&&◌, ◌||◌, not, nat_eq}
use Rattle.std.proofs.Common.{List, [], Option, Some, None, refl, sym, ap, subst, ◌∙◌, arith, inl, inr, if◌then◌else◌}
use Rattle.std.specs.List.{Contains, list_any}
use Rattle.std.proofs.lemmas.Bool.{and_parts, both_ways}
use Rattle.fsb_count.specs.Clocks.{any_where}
use Rattle.fsb_line.specs.declared.purpose.Purpose.{Purpose}
use Rattle.fsb_line.specs.declared.purpose.Purpose.TheVariants.{Own, Read, Upgrade, WriteBack}
use Rattle.fsb_line.specs.Line.{OpenRequest}
use Rattle.fsb_line.specs.States.{is_held, is_modified, suits}
use Rattle.fsb_line.specs.declared.state.Mesi.{Mesi}
use Rattle.fsb_line.specs.declared.state.Mesi.TheVariants.{Modified}
use Rattle.fsb_signal.specs.declared.lines.TheConstants.Lines.{HIT, HITM}
use Rattle.fsb_signal.specs.Samples.{line_at}
use Rattle.fsb_trace.specs.Requests.{is_reply, line_of, live_clock_of, live_request_of}
use Rattle.fsb_laws.specs.Orderly.{Orderly}
use Rattle.fsb_timely.specs.Past.{Claim, Past, SnoopEnd}
use Rattle.fsb_timely.specs.Grants.{holds_line, is_exclusive}
use Rattle.fsb_timely.specs.Hits.{is_dirty, is_hit, line_state_of}
use Rattle.fsb_timely.specs.Runs.{Run, past_of, past_to}
use Rattle.fsb_timely.specs.Snoops.{is_dirty_elsewhere, is_held_elsewhere}
use Rattle.fsb_timely.proofs.Interface.{snoop-tied}
use Rattle.fsb_coherent.specs.Awaits as awaits
use Rattle.fsb_coherent.specs.Facts.{IsSettledOn}
use Rattle.fsb_coherent.specs.Relation.{is_dirty_below}
use Rattle.fsb_tied.proofs.Interface.{IsSnooped, claimed-at, clock-facts, events-may-happen, orderly-whole, snooped-by}
use Rattle.fsb_tied.proofs.SnoopClaims.{IsClaimed}
use Rattle.fsb_tied.proofs.SnoopTold.{dirty-whole, held-whole}
use Rattle.fsb_trace.specs.declared.outcome.Outcome.{Outcome}
use Rattle.fsb_trace.specs.declared.outcome.Outcome.TheVariants.{Granted, Handed}
use Rattle.fsb_tied.proofs.SnoopOutcomes.{told-of, unhanded-told}
use Rattle.fsb_run_laws.specs.Reaches.{Reaches}
use Rattle.fsb_run_laws.specs.RunStates.{state_below, state_of_tests, state_stored, state_through, stores_at}
use Rattle.fsb_run_laws.proofs.Interface.{state-by-stores}
use Rattle.fsb_run_laws.proofs.LineStates.{state-by-hits}
use Rattle.fsb_owners.specs.Joint.{Joint, agents, has_other_holder, has_other_owner, state_at}
use Rattle.fsb_owners.specs.Possible.{after_answer, fits_answer, left_by, showing}
use Rattle.fsb_owners.specs.Shown.{agent_at, purpose_at}
use Rattle.fsb_owner_laws.proofs.AskedOnce.{IsAsker, IsPlain, asker}
use Rattle.fsb_owner_laws.proofs.BrokenRules.{ender_parts, named}
use Rattle.fsb_owner_laws.proofs.Emptied.{Ender, at_ender, ender, ender_four, step_by}
use Rattle.fsb_owner_laws.proofs.StepLosses.{fits_end, showing_fits}
use Rattle.fsb_owner_run.proofs.Claims.{asks-purpose, claim-of}
use Rattle.fsb_owner_run.proofs.Sets.{at_agent, if_in, kept_in}
use Rattle.fsb_owner_run.proofs.States.{exclusive-held, joint_at, run-coherent, state-held, state-modified}
use Rattle.fsb_owner_laws.proofs.AgreeWords.{some_same}

pub the-orderly : (r : Run) (n : ℕ) → Reaches r (n + 1) → Orderly r.trace
the-orderly r n h = let long = h.long in orderly-whole r n h.timely (omega arith)

pub the-asker : (r : Run) (line n : ℕ) (e : Ender) → Reaches r (n + 1) → ender r.trace line n ≡ Some e
    → IsAsker r.trace line n e
the-asker r line n e h shown = asker r.trace line n e (the-orderly r n h) (ender_parts r.trace line n e shown)

-- the snoop end of a request of a symmetric agent for the line: the agent, what it asks, and the moment of the clock
pub record IsAskedEnd (r : Run) (line n : ℕ) (e : Ender) : Type 0 where
  pub end : SnoopEnd
  pub snooped : IsSnooped r n e.0 end
  pub claims : end.claim ≡ Some (record { first = end.first; agent = e.1.0; line = line })
  pub claimed : IsClaimed r end (record { first = end.first; agent = e.1.0; line = line })
  pub settled : IsSettledOn (past_of r) line n end
  pub asker : settled.fits.agent ≡ e.1.0
  pub purpose : settled.purpose ≡ e.1.1
  pub same_kind : settled.fits.kind ≡ claimed.request.kind
  pub kind : awaits.purpose_of claimed.request.kind ≡ Some e.1.1
  pub plain : is_reply (live_request_of r.trace e.0) ≡ false
  pub four : e.1.0 < 4

claim-agent : (one other : Claim) → Some one ≡ Some other → one.agent ≡ other.agent
claim-agent one other e = ap (λ c. c.agent) (some_same one other e)

pub asked-end : (r : Run) (line n : ℕ) (e : Ender) → Reaches r (n + 1) → (k : IsAsker r.trace line n e)
    → IsPlain r.trace e.0 k.number → e.1.0 < 4 → IsAskedEnd r line n e
asked-end r line n e h k plain four =
    let w = r.trace in
    let i = e.0 in
    let a = e.1.0 in
    let long = h.long in
    let tied = snoop-tied r i n k.snoop in
    let s = tied.0 in
    let sn = snooped-by r n i s tied.1 in
    let one = tied.1.first in
    let two = subst (λ j. live_clock_of w j ≡ Some k.clock) (sym plain.same) k.begins in
    let same : s.first ≡ k.clock = cc in
    let agent = subst (λ q. agent_at w q ≡ Some a) (sym same) k.agent in
    let names_line = subst (λ q. line_of w q ≡ Some line) (sym same) (named w line k.clock k.names_line).1 in
    let asks = subst (λ q. purpose_at w q ≡ Some e.1.1) (sym same) k.kind in
    let claim : Claim = record { first = s.first; agent = a; line = line } in
    let claims : s.claim ≡ Some claim = tied.1.claim ∙ claim-of w s.first a line agent names_line in
    let claimed = claimed-at r n i s claim h.timely h.bounds sn claims in
    let settled = (clock-facts r line n h.timely h.bounds (omega arith)).settles.settled s claim tied.1.there claims refl in
    let kind : awaits.purpose_of claimed.request.kind ≡ Some e.1.1 =
    sym (asks-purpose w s.first claimed.request claimed.decoded) ∙ asks in
    let kinds : Some settled.fits.kind ≡ Some claimed.request.kind = sym settled.fits.known ∙ claimed.kind in
    let purposes : Some settled.purpose ≡ Some e.1.1 =
    sym settled.known ∙ ap awaits.purpose_of (some_same settled.fits.kind claimed.request.kind kinds) ∙ kind in
    record {
      end = s;
      snooped = sn;
      claims = claims;
      claimed = claimed;
      settled = settled;
      asker = claim-agent (record { first = s.first; agent = settled.fits.agent; line = line }) claim
          (sym settled.fits.claimed ∙ claims);
      purpose = some_same settled.purpose e.1.1 purposes;
      same_kind = some_same settled.fits.kind claimed.request.kind kinds;
      kind = kind;
      plain = plain.request;
      four = four;
    }

-- one of four agents passes
abbrev or-then : Bool → Bool → Bool
or-then before now = elim before [ true ↦ true | false ↦ now ]

by-four : (a b c d : Bool) → or-then (or-then (or-then (or-then false a) b) c) d ≡ (a || (b || (c || (d || false))))
by-four true b c d = refl
by-four false true c d = refl
by-four false false true d = refl
by-four false false false true = refl
by-four false false false false = refl

pub any-of-four : (f g : ℕ → Bool) → ((b : ℕ) → b < 4 → f b ≡ g b) → any_where f 4 ≡ list_any g agents
unfolding any_where
any-of-four f g h =
    (λ i. or-then (or-then (or-then (or-then false (h 0 (omega arith) i)) (h 1 (omega arith) i)) (h 2 (omega arith) i))
    (h 3 (omega arith) i))
    ∙ by-four (g 0) (g 1) (g 2) (g 3)

pub none-of-four : (g : ℕ → Bool) → ((b : ℕ) → b < 4 → g b ≡ false) → list_any g agents ≡ false
none-of-four g h = rw (h 0 (omega arith), h 1 (omega arith), h 2 (omega arith), h 3 (omega arith)) refl

answer-right : (owner holder hit hitm : Bool) → hitm ≡ owner → hit ≡ (not owner && holder)
    → (if owner then hitm && not hit else (if holder then hit && not hitm else not hit && not hitm)) ≡ true
answer-right owner holder hit hitm h1 h2 = grind arith

-- what HITM# and HIT# say of the joint state of the run
owner-shown : (r : Run) (line n a : ℕ) → Reaches r (n + 1)
    → is_dirty_elsewhere (past_to (past_of r) n) a line n ≡ has_other_owner a (joint_at (past_of r) line n)
unfolding is_dirty_elsewhere has_other_owner
owner-shown r line n a h =
    let p = past_of r in
    let long = h.long in
    any-of-four (λ b. not (nat_eq b a) && is_dirty (past_to p n) b line n)
    (λ b. not (nat_eq b a) && is_modified (state_at (joint_at p line n) b)) (λ b l.
    ap (λ x. not (nat_eq b a) && x)
    (dirty-whole r n b line h.timely (omega arith) ∙ sym (state-modified p b line n)
    ∙ ap is_modified (sym (at_agent (λ c. line_state_of p c line n) b l))))

held-here : (r : Run) (line n a : ℕ) → is_held_elsewhere (past_of r) a line n
    ≡ has_other_holder a (joint_at (past_of r) line n)
unfolding is_held_elsewhere has_other_holder
held-here r line n a =
    let p = past_of r in
    any-of-four (λ b. not (nat_eq b a) && holds_line p b line n)
    (λ b. not (nat_eq b a) && is_held (state_at (joint_at p line n) b)) (λ b l.
    ap (λ x. not (nat_eq b a) && x)
    (sym (state-held p b line n) ∙ ap is_held (sym (at_agent (λ c. line_state_of p c line n) b l))))

holder-shown : (r : Run) (line n a : ℕ) → Reaches r (n + 1)
    → is_held_elsewhere (past_to (past_of r) n) a line n ≡ has_other_holder a (joint_at (past_of r) line n)
holder-shown r line n a h =
    let long = h.long in held-whole r n a line h.timely (omega arith) ∙ held-here r line n a

pub answer-fits : (r : Run) (line n : ℕ) (e : Ender) → Reaches r (n + 1) → IsAskedEnd r line n e
    → fits_answer (line_at HIT r.trace n) (line_at HITM r.trace n) e.1.0 (joint_at (past_of r) line n) ≡ true
unfolding fits_answer
answer-fits r line n e h k =
    let p = past_of r in
    let a = e.1.0 in
    let told = told-of r n e.0 k.end (record { first = k.end.first; agent = a; line = line }) h.timely k.snooped k.claimed in
    let owner = owner-shown r line n a h in
    let holder = holder-shown r line n a h in
    answer-right (has_other_owner a (joint_at p line n)) (has_other_holder a (joint_at p line n))
    (line_at HIT r.trace n) (line_at HITM r.trace n) (told.dirty ∙ owner) (told.held ∙ (λ i. not (owner i) && holder i))

-- where the memory gives the line, HIT# says whether another agent holds it
pub hit-seen : (r : Run) (line n : ℕ) (e : Ender) → Reaches r (n + 1) → (k : IsAskedEnd r line n e)
    → k.end.outcome ≡ Granted → line_at HIT r.trace n ≡ is_held_elsewhere (past_of r) e.1.0 line n
hit-seen r line n e h k granted =
    let p = past_of r in
    let a = e.1.0 in
    let long = h.long in
    let told = told-of r n e.0 k.end (record { first = k.end.first; agent = a; line = line }) h.timely k.snooped k.claimed in
    let unhanded = unhanded-told r n e.0 k.end k.snooped (λ handed. not-handed k.end.outcome granted handed) in
    let clean = sym told.dirty ∙ unhanded in
    told.held ∙ ap (λ b. not b && is_held_elsewhere (past_to p n) a line n) clean
    ∙ held-whole r n a line h.timely (omega arith)
  where
    not-handed : (o : Outcome) → o ≡ Granted → o ≡ Handed → ⊥
    not-handed o f g = cc

-- who is dirty before the hits of a clock is so behind them
dirty-exclusive : (p : Past) (a line n : ℕ) → is_dirty_below p a line n ≡ true → is_exclusive p a line n ≡ true
unfolding is_dirty_below
dirty-exclusive p a line n e = (and_parts (is_exclusive p a line n) _ e).0

below-modified : (p : Past) (a line n : ℕ) → is_dirty_below p a line n ≡ true → state_below p a line n ≡ Modified
unfolding state_below state_of_tests
below-modified p a line n e =
    let own = dirty-exclusive p a line n e in
    let held = exclusive-held p a line n own in rw (held, own, e) refl

pick : (b : Bool) (x y s : Mesi) → x ≡ s → y ≡ s → (if b then x else y) ≡ s
pick true x y s e f = e
pick false x y s e f = f

pub stays-modified : (p : Past) (a line n : ℕ) → is_dirty_below p a line n ≡ true → line_state_of p a line n ≡ Modified
unfolding state_stored
stays-modified p a line n e =
    let below = below-modified p a line n e in
    let through = state-by-stores p a line n
    ∙ pick (stores_at p a line n) (state_stored (state_below p a line n)) (state_below p a line n) Modified
    (ap state_stored below) below in
    state-by-hits p a line n
    ∙ pick (is_hit p a n) (state_through p a line n) (state_below p a line n) Modified through below

-- an agent that writes a line back has it Modified up to its snoop end
pub written-modified : (r : Run) (line n : ℕ) (e : Ender) → Reaches r (n + 1) → (k : IsAskedEnd r line n e)
    → e.1.1 ≡ WriteBack → is_modified (line_state_of (past_of r) e.1.0 line n) ≡ true
written-modified r line n e h k write =
    let p = past_of r in
    let long = h.long in
    let tie = (events-may-happen r line n [] h.timely h.bounds (omega arith)).1 in
    let request : OpenRequest = record { kind = k.settled.purpose; number = k.end.first } in
    let b = k.settled.fits.agent in
    let asked = tie.tied.opened b request k.settled.opened in
    let suited = tie.ordered.suited b request asked in
    let dirty : is_dirty_below p b line n ≡ true =
    sym (tie.tied.modified b) ∙ as-written k.settled.purpose _ (k.purpose ∙ write) suited in
    ap is_modified (stays-modified p e.1.0 line n (subst (λ c. is_dirty_below p c line n ≡ true) k.asker dirty))
  where
    as-written : (kind : Purpose) (s : Mesi) → kind ≡ WriteBack → suits kind s ≡ true → is_modified s ≡ true
    as-written WriteBack s e f = f
    as-written Read s e f = absurd (let no : ⊥ = cc in no)
    as-written Own s e f = absurd (let no : ⊥ = cc in no)
    as-written Upgrade s e f = absurd (let no : ⊥ = cc in no)

fits-by : (r : Run) (line n : ℕ) (e : Ender) (kind : Purpose) → Reaches r (n + 1) → (k : IsAskedEnd r line n e)
    → e.1.1 ≡ kind
    → fits_end (line_at HIT r.trace n) (line_at HITM r.trace n) e.1.0 kind (joint_at (past_of r) line n) ≡ true
unfolding fits_end
fits-by r line n e Read h k same = answer-fits r line n e h k
fits-by r line n e Own h k same = answer-fits r line n e h k
fits-by r line n e Upgrade h k same = answer-fits r line n e h k
fits-by r line n e WriteBack h k same =
    ap is_modified (at_agent (λ c. line_state_of (past_of r) c line n) e.1.0 k.four)
    ∙ written-modified r line n e h k same

pub asked-fits : (r : Run) (line n : ℕ) (e : Ender) → Reaches r (n + 1) → IsAskedEnd r line n e
    → fits_end (line_at HIT r.trace n) (line_at HITM r.trace n) e.1.0 e.1.1 (joint_at (past_of r) line n) ≡ true
asked-fits r line n e h k = fits-by r line n e e.1.1 h k refl

-- the joint state of the run is left by each snoop end
left-in : (r : Run) (line n : ℕ) (set : List Joint) (e : Ender) → Reaches r (n + 1) → ender r.trace line n ≡ Some e
    → Contains set (joint_at (past_of r) line n)
    → Contains (left_by r.trace n e.0 e.1.0 e.1.1 set) (joint_at (past_of r) line n)
unfolding left_by
left-in r line n set e h shown c =
    let w = r.trace in
    let p = past_of r in
    let long = h.long in
    let x = joint_at p line n in
    let hit = line_at HIT w n in
    let hitm = line_at HITM w n in
    let k = the-asker r line n e h shown in
    if_in (is_reply (live_request_of w e.0)) set (showing hit hitm e.1.0 e.1.1 set) x (λ reply. c) (λ plain.
    subst (λ s. Contains s x) (sym (showing_fits hit hitm e.1.0 e.1.1 set))
    (kept_in (fits_end hit hitm e.1.0 e.1.1) set x (run-coherent r line n h.timely h.bounds (omega arith)) c
    (asked-fits r line n e h (elim k.way [
      | inl way ↦ asked-end r line n e h k way (ender_four w line n e shown)
      | inr way ↦ absurd (both_ways (is_reply (live_request_of w e.0)) plain way.reply)
    ]))))

step-in : (r : Run) (line n : ℕ) (set : List Joint) (o : Option Ender) → Reaches r (n + 1) → ender r.trace line n ≡ o
    → Contains set (joint_at (past_of r) line n)
    → Contains (step_by (left_by r.trace n) o set) (joint_at (past_of r) line n)
step-in r line n set None h shown c = c
step-in r line n set (Some e) h shown c = left-in r line n set e h shown c

pub answer-leaves : (r : Run) (line n : ℕ) (set : List Joint) → Reaches r (n + 1)
    → Contains set (joint_at (past_of r) line n) → Contains (after_answer r.trace line n set) (joint_at (past_of r) line n)
unfolding after_answer
answer-leaves r line n set h c =
    subst (λ s. Contains s (joint_at (past_of r) line n)) (sym (at_ender r.trace line n (left_by r.trace n) set))
    (step-in r line n set (ender r.trace line n) h refl c)
