-- From behind the snoop end of a clock to the next clock, where a line comes to the agent.
use Rattle.fsb_agent_run.proofs.Words
use Words.{ℕ, ◌+◌, ◌<◌, ◌≡◌, ◌≢◌, ◌%◌, Bool, true, false, not, ◌&&◌, ◌||◌, List, length, Some, nat_eq, refl, sym, ap}
use Words.{subst, ◌∙◌, inl, inr, arith, ⊎_elim, if◌then◌else◌, ◌==◌, list_all, list_any, and_from, and_parts}
use Words.{cases_Bool, cases_eq, eq-eqb, eqb-true, false_from_ne_true, ne_eqb, or_right, Access, Item, accessed_line}
use Words.{Step, steps_of_item, CacheSets, states, is_some_and, Buffered, fills_without, Mesi, Modified, is_held}
use Words.{kind_owns, Grant, Owing, Past, SnoopEnd, completes_by, is_arrival, is_brought, is_there, has_arrived}
use Words.{holds_line, is_end_at, is_ended, is_exclusive, is_granted, is_lost, is_rival, latest_grant, set_of}
use Words.{snooped_at, is_hit, is_met, Run, past_of, Need, is_idling, is_load, needs_of, next_item, is_asked_for, owed}
use Words.{holds_line-more, is_ended-more, snoop_end_below, is_dirty_below, grants-are-owed, one-slot, Reaches}
use Words.{OwnRequest, AgentView, line_state_by, arrived_for, is_arrival_by, landed, met_by, sets_settled, with_bytes}
use Words.{completed_by, hand_of, next_steps, requests_without, hand_after_steps, kind_asks, length-with_slot, EndsFor}
use Words.{IsAgentOf, IsComing, IsPlacedIn, LogsItem, is_awaited, one_if, owing_by, state_told, IsViewAfterSnoop}
use Words.{IsViewOf, is_dirty_snooped}
use Rattle.fsb_agent_run.proofs.Among.{among-any, any-among}
use Rattle.fsb_agent_run.proofs.EndFacts.{IsEnded, below-says, ended-comes, ended-grant, first-of-grant, one-ended}
use Rattle.fsb_agent_run.proofs.EndViews.{awaited-still, end-lines, end-placed, latest-snooped, left-requests}
use Rattle.fsb_agent_run.proofs.FillCounts.{count_on, count-without_other, count-without_this}
use Rattle.fsb_agent_run.proofs.GrantsAwaited.{latest-ends, not-ended}
use Rattle.fsb_agent_run.proofs.HandSteps.{in_sets-after, length-after, may_store, state-after, stores_into}
use Rattle.fsb_agent_run.proofs.HitsMade.{arrival-by, brought-by}
use Rattle.fsb_agent_run.proofs.HitViews.{never-with, next-steps, nothing, sole-told}
use Rattle.fsb_agent_run.proofs.ItemsCompleted.{IsNeedOf, any-stores, logged-there, steps-need, stores-by-steps}
use Rattle.fsb_agent_run.proofs.OwnSnoops.{grant-of-snoop}
use Rattle.fsb_agent_run.proofs.PlaceSteps.{place-completed}
use Rattle.fsb_agent_run.proofs.SlotStates.{InSets, in_sets-filled, in_sets-without, kept-line, resident-at}
use Rattle.fsb_agent_run.proofs.SlotStates.{some-sets, state-filled, state-without}
use Rattle.fsb_agent_run.proofs.SnoopSteps.{granted-is, rival-unheld}
use Rattle.fsb_agent_run.proofs.StatesTold.{held-by}
use Rattle.fsb_agent_run.proofs.StoresTold.{any_stored, end-state, end-state_hit, state_with}
use Rattle.fsb_agent_run.proofs.ToldStates.{state_snooped_at}

-- a line that is settled is as it is to be, and each other one stays
state-settled : (sets : CacheSets) (line other : ℕ) (state : Mesi) → is_held (states sets line) ≡ true
    → states (sets_settled sets line state) other ≡ (if other == line then state else states sets other)
state-settled sets line other state held = grind (arith, resident-at, kept-line, some-sets, state-without)

in_sets-settled : (sets : CacheSets) (line : ℕ) (state : Mesi) → 0 < length sets → InSets sets
    → InSets (sets_settled sets line state)
in_sets-settled sets line state some in_sets = grind (arith, in_sets-filled, in_sets-without)

length-settled : (sets : CacheSets) (line : ℕ) (state : Mesi) → length (sets_settled sets line state) ≡ length sets
length-settled sets line state = grind (arith, length-with_slot)

-- a view with a line that comes, after what that completes
record HasMet (p : Past) (a c line : ℕ) (v met : AgentView) : Type 0 where
  agent : IsAgentOf p a met
  placed : IsPlacedIn p a (c + 1) met
  here : is_held (states met.lines line) ≡ true
  others : (other : ℕ) → other ≢ line → states met.lines other
      ≡ state_told (holds_line p a other (c + 1)) (is_exclusive p a other (c + 1)) (is_dirty_below p a other (c + 1))
  in_sets : InSets met.lines
  buffers : met.buffers ≡ v.buffers
  outs : met.outs ≡ v.outs

-- what is known of a line that comes by the end of a grant
record IsGrantEnding (r : Run) (a c line : ℕ) : Type 0 where
  latest : Grant
  is_latest : latest_grant (past_of r) a line (c + 1) ≡ Some latest
  ends : is_end_at (past_of r) c latest.first ≡ true
  unended : is_ended (past_of r) c latest.first ≡ false
  asked : is_asked_for (owed (past_of r) a c) line ≡ true
  elsewhere : (other : ℕ) (grant : Grant) → other ≢ line → latest_grant (past_of r) a other (c + 1) ≡ Some grant
      → is_end_at (past_of r) c grant.first ≡ false

ending-there : (r : Run) (a c number : ℕ) (s : SnoopEnd) (grant : Grant) (v : AgentView) → Reaches r (c + 1)
    → EndsFor (past_of r) a c number s → s.grant ≡ Some grant → IsViewAfterSnoop (past_of r) a c v
    → (k : IsEnded r a c number v) → IsGrantEnding r a c k.out.request.line
unfolding is_asked_for
ending-there r a c number s grant v h ends makes view k =
    let p = past_of r in
    let long = h.long in
    let line : ℕ = k.out.request.line in
    let below = below-says p (c + 1) ends.first s ends.snooped in
    let low = below.1 in
    let own = ended-grant r a c number s grant v h ends makes view.requests k in
    let comes = ended-comes r a c number s grant v h ends makes view.requests k in
    let first = first-of-grant r below.0 s grant (omega arith) below.2 makes in
    let at : is_end_at p c s.first ≡ true = ap (is_end_at p c) below.3 ∙ ends.ends in
    let granted : is_granted p a line below.0 ≡ true =
    granted-so p a line below.0 s grant below.2 makes own.agent own.line in
    record {
      latest = grant;
      is_latest = latest-ends r a line below.0 c s grant h (omega arith) below.2 makes granted at;
      ends = ap (is_end_at p c) first ∙ at;
      unended = ap (is_ended p c) first ∙ not-ended r c c s.first h (omega arith) at;
      asked = among-any (λ (o : Owing). nat_eq o.claim.line line) (owing_by a k.out) (owed p a c) k.owing
          (eq-eqb line line refl);
      elsewhere = λ other other_grant apart latest. false_from_ne_true (is_end_at p c other_grant.first) (λ t.
          let l = latest-snooped r a other c other_grant h latest in
          let one = one-ended r c other_grant.first ends.first h t ends.ends in
          let there = subst (λ q. snoop_end_below p (c + 1) q ≡ Some l.0) one l.1 in
          let here = ends.snooped in
          let same : l.0 ≡ s = cc in
          let gives = l.2 in
          let two : other_grant ≡ grant = grind arith in
          apart (sym l.4 ∙ ap (λ (g : Grant). g.line) two ∙ own.line));
    }
  where
    granted-so : (p : Past) (a line t : ℕ) (s : SnoopEnd) (grant : Grant) → snooped_at p t ≡ Some s
        → s.grant ≡ Some grant
        → grant.agent ≡ a → grant.line ≡ line → is_granted p a line t ≡ true
    granted-so p a line t s grant there makes mine on =
        granted-is p a line t grant (grant-of-snoop p t s there ∙ makes) mine ∙ eq-eqb grant.line line on

-- the state of the line that comes stays
line-stays : (r : Run) (a c line : ℕ) → Reaches r (c + 1) → IsGrantEnding r a c line
    → state_told (holds_line (past_of r) a line (c + 1)) (is_exclusive (past_of r) a line (c + 1))
    (is_dirty_below (past_of r) a line (c + 1))
    ≡ state_snooped_at (past_of r) a line c
unfolding has_arrived is_some_and
line-stays r a c line h k = grind (arith, end-state_hit, end-state)

-- the other lines of its set are not held
rival-gone : (r : Run) (a line other c : ℕ) → Reaches r (c + 1) → is_asked_for (owed (past_of r) a c) line ≡ true
    → other ≢ line → other % r.plan.cache ≡ line % r.plan.cache → holds_line (past_of r) a other (c + 1) ≡ false
unfolding is_rival set_of past_of
rival-gone r a line other c h asked apart same =
    let p = past_of r in
    let long = h.long in
    let unheld = rival-unheld r a line other c h asked apart same in
    let ungranted : is_granted p a other c ≡ false = false_from_ne_true (is_granted p a other c) (λ t.
    let also = (grants-are-owed r h.timely).granted a c other (omega arith) t in
    one-slot r a other line c h.timely h.bounds (omega arith)
    (and_from (nat_eq (other % r.plan.cache) (line % r.plan.cache)) (not (nat_eq other line))
    (eq-eqb (other % r.plan.cache) (line % r.plan.cache) same) (ap not (ne_eqb other line apart)))
    (inr also) (inr asked)) in
    holds_line-more p a other c ∙ (λ i. ungranted i || (unheld i && not (is_lost p a other c)))

-- the view with the bytes of the line, as long as the item may be performed on it
filled-states : (r : Run) (a c line other : ℕ) (bytes : List ℕ) (v : AgentView) → Reaches r (c + 1) → 0 < r.plan.cache
    → IsViewAfterSnoop (past_of r) a c v → is_asked_for (owed (past_of r) a c) line ≡ true
    → states (with_bytes v line bytes).lines other ≡ (if other == line then Modified else line_state_by v other)
unfolding past_of
filled-states r a c line other bytes v h some view asked = grind (arith, state-filled, rival-gone)

filled-agent : (p : Past) (a c line : ℕ) (bytes : List ℕ) (v : AgentView) → IsAgentOf p a v
    → IsAgentOf p a (with_bytes v line bytes)
filled-agent p a c line bytes v is = grind (arith, length-with_slot)

at-line : (line : ℕ) (state : Mesi) → is_held (if line == line then Modified else state) ≡ true
at-line line state = rw (eq-eqb line line refl) refl

-- where the line completes nothing
met-none : (r : Run) (a c line : ℕ) (bytes : List ℕ) (v : AgentView) → Reaches r (c + 1) → 0 < r.plan.cache → a < 4
    → IsViewAfterSnoop (past_of r) a c v → IsGrantEnding r a c line → is_arrival (past_of r) a c ≡ false
    → HasMet (past_of r) a c line v (with_bytes v line bytes)
unfolding past_of
met-none r a c line bytes v h some few view k off =
    grind (arith, filled-states, end-placed, filled-agent, end-lines, in_sets-filled)

-- what an arrival has of the lines of its item: each but the one that comes is held and ready
abbrev there_at : Past → ℕ → ℕ → ℕ → Need → Bool
there_at p a c line need = nat_eq need.line line || is_there p a c need

arrival-needs : (p : Past) (a c line : ℕ) (owns : Bool) (item : Item) → is_arrival p a c ≡ true
    → next_item p a c ≡ Some item → IsComing p a c line owns → list_all (there_at p a c line) (needs_of item) ≡ true
unfolding is_arrival completes_by is_some_and
arrival-needs p a c line owns item e next k =
    let parts = and_parts (not (is_idling p a c) && not (is_hit p a c))
    (is_some_and (next_item p a c) (λ item. list_any (completes_by p a c (needs_of item)) (needs_of item))) e in
    let any : list_any (completes_by p a c (needs_of item)) (needs_of item) ≡ true = rw next at parts.1 in
    let need = any-among (completes_by p a c (needs_of item)) (needs_of item) any in
    let two = and_parts (is_brought p a c need.0)
    (list_all (λ other. nat_eq other.line need.0.line || is_there p a c other) (needs_of item)) need.2 in
    let brings = sym (brought-by p a c line owns need.0 k) ∙ two.0 in
    let on : need.0.line ≡ line = eqb-true need.0.line line (and_parts (nat_eq need.0.line line) _ brings).0 in
    subst (λ l. list_all (λ other. nat_eq other.line l || is_there p a c other) (needs_of item) ≡ true) on two.1

there-parts : (p : Past) (a c : ℕ) (need : Need) → is_there p a c need ≡ true
    → (holds_line p a need.line (c + 1) ≡ true) × (need.alone ≡ true → is_exclusive p a need.line (c + 1) ≡ true)
    × (has_arrived p a need.line (c + 1) c ≡ true)
unfolding is_there is_met
there-parts p a c need e = grind arith

-- what is stored into is the line that comes, or is held alone and ready
abbrev alone_behind : Past → ℕ → ℕ → ℕ → Access → Bool
alone_behind p a c line access =
    is_load access
    || (nat_eq (accessed_line access) line
    || (holds_line p a (accessed_line access) (c + 1) && is_exclusive p a (accessed_line access) (c + 1)
    && has_arrived p a (accessed_line access) (c + 1) c))

alone-there : (p : Past) (a c line : ℕ) (need : Need) (access : Access) → IsNeedOf need access
    → there_at p a c line need ≡ true → alone_behind p a c line access ≡ true
alone-there p a c line need access of e = grind (arith, there-parts)

alone-parts : (p : Past) (a c line : ℕ) (access : Access) → is_load access ≡ false → accessed_line access ≢ line
    → alone_behind p a c line access ≡ true
    → (holds_line p a (accessed_line access) (c + 1) ≡ true) × (is_exclusive p a (accessed_line access) (c + 1) ≡ true)
    × (has_arrived p a (accessed_line access) (c + 1) c ≡ true)
alone-parts p a c line access load apart e = grind arith

held-either : (b : Bool) (state : Mesi) → is_held state ≡ true → is_held (if b then Modified else state) ≡ true
held-either b state h1 = grind arith

may-there : (lines : CacheSets) (access : Access) → is_held (states lines (accessed_line access)) ≡ true
    → may_store lines access ≡ true
unfolding may_store
may-there lines access e = or_right (is_load access) (is_held (states lines (accessed_line access))) e

-- an arrival is no hit
pub arrival-unhit : (p : Past) (a c : ℕ) → is_arrival p a c ≡ true → is_hit p a c ≡ false
unfolding is_arrival
arrival-unhit p a c e = grind arith

-- where it completes the next item
met-arrival : (r : Run) (a c line : ℕ) (owns : Bool) (bytes : List ℕ) (v : AgentView) → Reaches r (c + 1)
    → 0 < r.plan.cache → a < 4 → IsViewAfterSnoop (past_of r) a c v → IsGrantEnding r a c line
    → IsComing (past_of r) a c line owns → is_arrival (past_of r) a c ≡ true
    → HasMet (past_of r) a c line v (completed_by (with_bytes v line bytes) c)
unfolding past_of
met-arrival r a c line owns bytes v h some few view k comes arrival =
    let p = past_of r in
    let there : AgentView = with_bytes v line bytes in
    let told = λ (other : ℕ). filled-states r a c line other bytes v h some view k.asked in
    let logged = logged-there r a c h few (inr arrival) in
    let none = arrival-unhit p a c arrival in
    let before = view.placed.before none in
    let agent = filled-agent p a c line bytes v view.agent in
    let placed : IsPlacedIn p a c there =
    record { place = before.place; idle_to = before.idle_to; finished = before.finished } in
    let steps = next-steps p a c logged.number logged.item there agent placed logged.completes.next logged.next in
    let needs = arrival-needs p a c line owns logged.item arrival logged.next comes in
    let may : list_all (λ (step : Step). may_store there.lines step.access)
    (steps_of_item logged.number logged.item) ≡ true =
    steps-need (there_at p a c line) (may_store there.lines) logged.number logged.item (λ need access of met.
    may-there there.lines access (subst (λ l. is_held (states there.lines l) ≡ true) of.line
    (held-there p need told (view-held p need view) met))) needs in
    let stored = λ (other : ℕ).
    ap (λ s. states (hand_after_steps (hand_of there) s).lines other) steps
    ∙ state-after (hand_of there) (steps_of_item logged.number logged.item) other may in
    record {
      agent = record {
        number = agent.number;
        items = agent.items;
        ahead = agent.ahead;
        profile = agent.profile;
        cache = length-after (hand_of there) (next_steps there) ∙ agent.cache;
      };
      placed = place-completed p a c logged.number there logged.completes agent placed;
      here = ap is_held (stored line)
          ∙ held-either (list_any (λ (step : Step). stores_into line step.access)
          (steps_of_item logged.number logged.item)) (states there.lines line)
          (ap is_held (told line) ∙ at-line line (line_state_by v line));
      others = λ other apart. stored other ∙ other-state p view logged needs told none other apart;
      in_sets = in_sets-after (hand_of there) (next_steps there)
          (in_sets-filled v.lines line Modified bytes (subst (λ n. 0 < n) (sym view.agent.cache) some)
          view.lines.in_sets);
      buffers = refl;
      outs = refl;
    }
  where
    Told : Type 0
    Told = (other : ℕ)
        → states (with_bytes v line bytes).lines other ≡ (if other == line then Modified else line_state_by v other)

    view-held : (p : Past) (need : Need) → IsViewAfterSnoop p a c v
        → is_held (line_state_by v need.line) ≡ holds_line p a need.line (c + 1)
    view-held p need w = held-by p a (c + 1) c (λ l. is_dirty_snooped p a l c) v need.line w.lines

    held-there : (p : Past) (need : Need) → Told
        → is_held (line_state_by v need.line) ≡ holds_line p a need.line (c + 1)
        → there_at p a c line need ≡ true → is_held (states (with_bytes v line bytes).lines need.line) ≡ true
    held-there p need told same met = grind (arith, there-parts)

    other-state : (p : Past) → IsViewAfterSnoop p a c v → (logged : LogsItem p a c)
        → list_all (there_at p a c line) (needs_of logged.item) ≡ true → Told → is_hit p a c ≡ false → (other : ℕ)
        → other ≢ line
        → (if list_any (λ (step : Step). stores_into other step.access) (steps_of_item logged.number logged.item)
        then Modified else states (with_bytes v line bytes).lines other)
        ≡ state_told (holds_line p a other (c + 1)) (is_exclusive p a other (c + 1)) (is_dirty_below p a other (c + 1))
    other-state p w logged needs told none other apart =
        let steps = steps_of_item logged.number logged.item in
        let any = list_any (λ (step : Step). stores_into other step.access) steps in
        let stored : any_stored p a other c ≡ any = grind (arith, stores-by-steps) in
        (elim (cases_Bool any) [
          | inr off ↦
              rw off
              (told other ∙ ap (λ b. if b then Modified else line_state_by v other) (ne_eqb other line apart)
              ∙ w.lines.states other
              ∙ never-with (has_arrived p a other (c + 1) c && any_stored p a other c) (state_snooped_at p a other c)
              (ap (λ b. has_arrived p a other (c + 1) c && b) (stored ∙ off)
              ∙ nothing (has_arrived p a other (c + 1) c)))
          | inl on ↦
              let k = any-stores (alone_behind p a c line) other steps
              (steps-need (there_at p a c line) (alone_behind p a c line) logged.number logged.item
              (λ need access of met. alone-there p a c line need access of met) needs) on in
              let names : accessed_line k.0 ≡ other = k.2 in
              let parts = alone-parts p a c line k.0 k.1 (λ e. apart (sym names ∙ e)) k.3 in
              let come : has_arrived p a other (c + 1) c ≡ true = grind arith in
              let both : (has_arrived p a other (c + 1) c && any_stored p a other c) ≡ true = grind arith in
              rw on
              (sole-told (holds_line p a other (c + 1)) (is_exclusive p a other (c + 1)) (is_dirty_snooped p a other c)
              (subst (λ l. holds_line p a l (c + 1) ≡ true) names parts.0)
              (subst (λ l. is_exclusive p a l (c + 1) ≡ true) names parts.1)
              ∙ ap (λ b. state_with b (state_snooped_at p a other c)) (sym both))
        ]) ∙ sym (end-state p a other c none)

-- the view after the line has come
landed-view : (r : Run) (a c number : ℕ) (s : SnoopEnd) (out : OwnRequest) (v met : AgentView) → Reaches r (c + 1)
    → EndsFor (past_of r) a c number s → out.number ≡ number → IsViewAfterSnoop (past_of r) a c v
    → IsGrantEnding r a c out.request.line → HasMet (past_of r) a c out.request.line v met
    → IsViewOf (past_of r) a (c + 1) (landed met out (line_state_by v out.request.line))
unfolding is_awaited is_some_and
landed-view r a c number s out v met h ends numbered view k has =
    let p = past_of r in
    let line : ℕ = out.request.line in
    let st = line_state_by v line in
    let w : AgentView = landed met out st in
    let fills = ap (λ (b : Buffered). b.fills) has.buffers in
    record {
      agent = record {
        number = has.agent.number;
        items = has.agent.items;
        ahead = has.agent.ahead;
        profile = has.agent.profile;
        cache = length-settled met.lines line st ∙ has.agent.cache;
      };
      placed = record { place = has.placed.place; idle_to = has.placed.idle_to; finished = has.placed.finished };
      lines = record {
        states = λ other.
            state-settled met.lines line other st has.here
            ∙ ⊎_elim
            (λ (same : other ≡ line).
            rw (eq-eqb other line same)
            (view.lines.states line ∙ sym (line-stays r a c line h k)
            ∙ ap (λ l. state_told (holds_line p a l (c + 1)) (is_exclusive p a l (c + 1))
            (is_dirty_below p a l (c + 1)))
            (sym same)))
            (λ (apart : other ≢ line). rw (ne_eqb other line apart) (has.others other apart))
            (cases_eq other line);
        fills = λ other.
            ap (λ fs. count_on other (fills_without line fs)) fills
            ∙ ⊎_elim
            (λ (same : other ≡ line).
            let before : count_on line v.buffers.fills ≡ 1 = grind arith in
            let after : is_awaited p a line (c + 1) (c + 1) ≡ false = grind (arith, is_ended-more) in
            ap (λ l. count_on l (fills_without line v.buffers.fills)) same
            ∙ count-without_this line v.buffers.fills before
            ∙ sym (ap one_if (ap (λ l. is_awaited p a l (c + 1) (c + 1)) same ∙ after)))
            (λ (apart : other ≢ line).
            count-without_other other line v.buffers.fills apart ∙ view.lines.fills other
            ∙ ap one_if (sym (awaited-still p a other c (λ grant e. k.elsewhere other grant apart e))))
            (cases_eq other line);
        in_sets = in_sets-settled met.lines line st (some-sets met.lines line has.here) has.in_sets;
      };
      requests = left-requests r a c number s v w h ends
          (ap (requests_without out.number) has.outs ∙ ap (λ n. requests_without n v.outs) numbered) view.requests;
    }

met-as : (v : AgentView) (c : ℕ) (out : OwnRequest) (bytes : List ℕ) (b : Bool) → is_arrival_by v c out ≡ b
    → met_by v c out bytes
    ≡ (elim b [
      | true ↦ completed_by (with_bytes v out.request.line bytes) c
      | false ↦ with_bytes v out.request.line bytes
    ])
met-as v c out bytes b e = grind arith

-- a line comes for a request that was granted
pub arrived-view : (r : Run) (a c number : ℕ) (s : SnoopEnd) (grant : Grant) (bytes : List ℕ) (v : AgentView)
    → Reaches r (c + 1) → 0 < r.plan.cache → a < 4 → EndsFor (past_of r) a c number s → s.grant ≡ Some grant
    → IsViewAfterSnoop (past_of r) a c v → (k : IsEnded r a c number v)
    → IsViewOf (past_of r) a (c + 1) (arrived_for v c k.out bytes)
arrived-view r a c number s grant bytes v h some few ends makes view k =
    let p = past_of r in
    let line : ℕ = k.out.request.line in
    let owns = kind_owns (kind_asks k.out.request.kind) in
    let ending = ending-there r a c number s grant v h ends makes view k in
    let comes = ended-comes r a c number s grant v h ends makes view.requests k in
    let same = arrival-by p a c (λ l. is_dirty_snooped p a l c) v k.out view.agent view.placed.item view.lines comes in
    landed-view r a c number s k.out v (met_by v c k.out bytes) h ends k.numbered view ending
    (elim (cases_Bool (is_arrival p a c)) [
      | inr off ↦
          subst (HasMet p a c line v) (sym (met-as v c k.out bytes false (same ∙ off)))
          (met-none r a c line bytes v h some few view ending off)
      | inl on ↦
          subst (HasMet p a c line v) (sym (met-as v c k.out bytes true (same ∙ on)))
          (met-arrival r a c line owns bytes v h some few view ending comes on)
    ])
