-- From before the snoop end of a clock to behind it: where the agent is granted a line, and where it is granted none.
use Rattle.fsb_agent_run.proofs.Words
use Words.{ℕ, ◌+◌, ◌<◌, ◌≡◌, ◌≢◌, ◌%◌, true, false, not, ◌&&◌, ◌||◌, List, map, length, Option, Some, None, is_some}
use Words.{nat_eq, refl, sym, ap, subst, ◌∙◌, inl, inr, arith, ⊎_elim, if◌then◌else◌, and_from, cases_eq, eq-eqb}
use Words.{false_from_ne_true, ne_eqb, sets_filled, is_some_and, Mesi, Invalid, Claim, Grant, Past, SnoopEnd, begun_at}
use Words.{grant_at, holds_line, is_ended, is_evicted, is_exclusive, is_granted, is_named_by_other, is_rival}
use Words.{is_taken_away, is_written_back, latest_grant, set_of, snooped_at, is_dirty, is_stored_since, Run, past_of}
use Words.{is_asked_for, owed, want_of, latest_grant-more, is_stored_below, ended-later, granted-now, grants-are-owed}
use Words.{clock-facts, one-slot, Reaches, state_granted, state_read, none-stored, OwnRequest, AgentView, line_state_by}
use Words.{requests_granted, with_fill, length-with_slot, are_owings_apart, HasRequestsOf, fill_count, is_awaited}
use Words.{is_won_below, one_if, owing_by, state_told, IsViewAfterSnoop, IsViewBeforeSnoop, is_uncancelled, owed_sent}
use Words.{owed_through}
use Rattle.fsb_agent_run.proofs.Among.{Among, among-filter}
use Rattle.fsb_agent_run.proofs.FillCounts.{count-push}
use Rattle.fsb_agent_run.proofs.GrantsAwaited.{granted-unawaited}
use Rattle.fsb_agent_run.proofs.OutLists.{among-granted, kept-of, map-granted, owing-there, requests-from, wanted-of}
use Rattle.fsb_agent_run.proofs.OwedApart.{apart-filter, sent-apart}
use Rattle.fsb_agent_run.proofs.OwedSteps.{sent-is}
use Rattle.fsb_agent_run.proofs.SentViews.{same-place}
use Rattle.fsb_agent_run.proofs.SlotStates.{InSets, in_sets-filled, state-filled}
use Rattle.fsb_agent_run.proofs.StoresTold.{since-hit, since-none, stored-more}
use Rattle.fsb_agent_run.proofs.ToldStates.{snooped-granted, snooped-kept, state_kept, state_snooped_at}

-- the requests of a view before the snoop end are apart
pub through-apart : (r : Run) (a c : ℕ) → Reaches r (c + 1)
    → are_owings_apart (past_of r) (owed_through (past_of r) a c) ≡ true
unfolding owed_through
through-apart r a c h = grind (arith, apart-filter, sent-apart)

pub outs-apart : (r : Run) (a c n : ℕ) (v : AgentView) → Reaches r (c + 1)
    → HasRequestsOf (past_of r) a n (owed_through (past_of r) a c) v
    → are_owings_apart (past_of r) (map (owing_by a) v.outs) ≡ true
outs-apart r a c n v h requests = grind (arith, through-apart)

-- each of them began as a request of the agent
pub out-begun : (r : Run) (a c n : ℕ) (v : AgentView) (out : OwnRequest) → Reaches r (c + 1)
    → HasRequestsOf (past_of r) a n (owed_through (past_of r) a c) v → Among out v.outs
    → (claim : Claim) × (begun_at (past_of r) out.number ≡ Some claim) × (claim.agent ≡ a)
unfolding owed_through
out-begun r a c n v out h requests there =
    let p = past_of r in
    let owing = owing-there p a n (owed_through p a c) v out requests there in
    let sent = (among-filter (is_uncancelled p c) (owing_by a out) (owed_sent p a c) owing).0 in
    let k = sent-is r a c (owing_by a out) h sent in
    ((owing_by a out).claim, k.claimed, k.agent)

-- a snoop end that is not the agent's own is of none of them
pub number-other : (r : Run) (a c n : ℕ) (s : SnoopEnd) (v : AgentView) (out : OwnRequest) → Reaches r (c + 1)
    → snooped_at (past_of r) c ≡ Some s → ((claim : Claim) → s.claim ≡ Some claim → claim.agent ≢ a)
    → HasRequestsOf (past_of r) a n (owed_through (past_of r) a c) v → Among out v.outs → s.first ≢ out.number
number-other r a c n s v out h there other requests among same =
    let p = past_of r in
    let long = h.long in
    let k = out-begun r a c n v out h requests among in
    let settles = (clock-facts r 0 c h.timely h.bounds (omega arith)).settles in
    let claims : s.claim ≡ Some k.0 = settles.claimed s there ∙ ap (begun_at p) same ∙ k.1 in
    other k.0 claims k.2

-- the requests stay, where nothing is won at the clock
pub requests-still : (r : Run) (a c : ℕ) (v w : AgentView) → w.outs ≡ v.outs
    → ((out : OwnRequest) → Among out v.outs
    → is_won_below (past_of r) (c + 1) out.number ≡ is_won_below (past_of r) c out.number)
    → HasRequestsOf (past_of r) a c (owed_through (past_of r) a c) v
    → HasRequestsOf (past_of r) a (c + 1) (owed_through (past_of r) a c) w
requests-still r a c v w same won requests =
    let p = past_of r in
    requests-from p a (c + 1) (owed_through p a c) w (ap (map (owing_by a)) same ∙ requests.owed)
    (λ out there. wanted-of p a c (owed_through p a c) v out requests (subst (Among out) same there))
    (λ out there.
    let before = subst (Among out) same there in
    kept-of p a c (owed_through p a c) v out requests before ∙ sym (won out before))

-- no line is granted to the agent: what its lines become
pub record LowersLines (p : Past) (a c : ℕ) (v w : AgentView) : Type 0 where
  pub states : (line : ℕ) → line_state_by w line
      ≡ (if is_written_back p a line c || is_taken_away p a line c then Invalid
      else (if is_named_by_other p a line c then state_read (line_state_by v line) else line_state_by v line))
  pub fills : (line : ℕ) → fill_count w line ≡ fill_count v line
  pub in_sets : InSets w.lines
  pub size : length w.lines ≡ length v.lines

awaited-kept : (p : Past) (a line c : ℕ) → is_granted p a line c ≡ false
    → is_awaited p a line (c + 1) c ≡ is_awaited p a line c c
unfolding is_awaited
awaited-kept p a line c none = grind (arith, latest_grant-more)

-- where the agent is granted no line
pub lowered-view : (r : Run) (a c : ℕ) (v w : AgentView) → ((line : ℕ) → is_granted (past_of r) a line c ≡ false)
    → LowersLines (past_of r) a c v w
    → w ≡ record v { lines = w.lines; buffers = w.buffers }
    → HasRequestsOf (past_of r) a (c + 1) (owed_through (past_of r) a c) w
    → IsViewBeforeSnoop (past_of r) a c v → IsViewAfterSnoop (past_of r) a c w
lowered-view r a c v w none lowers same requests view =
    let p = past_of r in
    record {
      agent = record {
        number = ap (λ (x : AgentView). x.number) same ∙ view.agent.number;
        items = ap (λ (x : AgentView). x.items) same ∙ view.agent.items;
        ahead = ap (λ (x : AgentView). x.ahead) same ∙ view.agent.ahead;
        profile = ap (λ (x : AgentView). x.profile) same ∙ view.agent.profile;
        cache = lowers.size ∙ view.agent.cache;
      };
      placed = same-place p a c v w (ap (λ (x : AgentView). x.place) same) (ap (λ (x : AgentView). x.idle_to) same)
          (ap (λ (x : AgentView). x.finished) same) view.placed;
      lines = record {
        states = λ line.
            lowers.states line
            ∙ (λ i. if is_written_back p a line c || is_taken_away p a line c then Invalid
            else (if is_named_by_other p a line c then state_read (view.lines.states line i)
            else view.lines.states line i))
            ∙ sym (snooped-kept p a line c (none line));
        fills = λ line. lowers.fills line ∙ view.lines.fills line
            ∙ ap one_if (sym (awaited-kept p a line c (none line)));
        in_sets = lowers.in_sets;
      };
      requests = requests;
    }

-- no store counts above the end of a new grant
new-unstored : (p : Past) (a line c q : ℕ) → is_stored_below p a line (c + 1) q ≡ false
    → is_stored_since p a line c q ≡ false
new-unstored p a line c q none = grind (arith, since-hit, since-none, stored-more)

-- the line of the grant
pub granted-is : (p : Past) (a line c : ℕ) (grant : Grant) → grant_at p c ≡ Some grant → grant.agent ≡ a
    → is_granted p a line c ≡ nat_eq grant.line line
unfolding is_granted is_some_and
granted-is p a line c grant there mine = rw (there, eq-eqb grant.agent a mine) refl

pub granted-to-other : (p : Past) (a line c : ℕ) → ((grant : Grant) → grant_at p c ≡ Some grant → grant.agent ≢ a)
    → is_granted p a line c ≡ false
unfolding is_granted is_some_and
granted-to-other p a line c other = grind arith

-- the rivals of a line that is granted are not held
pub rival-unheld : (r : Run) (a line other c : ℕ) → Reaches r (c + 1) → is_asked_for (owed (past_of r) a c) line ≡ true
    → other ≢ line → other % r.plan.cache ≡ line % r.plan.cache → holds_line (past_of r) a other c ≡ false
unfolding is_rival set_of past_of
rival-unheld r a line other c h asked apart same = false_from_ne_true (holds_line (past_of r) a other c) (λ held.
    let long = h.long in
    one-slot r a other line c h.timely h.bounds (omega arith)
    (and_from (nat_eq (other % r.plan.cache) (line % r.plan.cache)) (not (nat_eq other line))
    (eq-eqb (other % r.plan.cache) (line % r.plan.cache) same) (ap not (ne_eqb other line apart)))
    (inl held) (inr asked))

-- where the agent is granted a line, on which nothing else happens at the snoop end
pub granted-view : (r : Run) (a c number : ℕ) (grant : Grant) (state : Mesi) (bytes : List ℕ) (kept : Option (List ℕ))
    (v : AgentView) → Reaches r (c + 1) → 0 < r.plan.cache → grant_at (past_of r) c ≡ Some grant → grant.agent ≡ a
    → state ≡ state_granted grant
    → ((line : ℕ) → line ≢ grant.line
    → (is_written_back (past_of r) a line c || is_taken_away (past_of r) a line c) ≡ false)
    → ((line : ℕ) → is_named_by_other (past_of r) a line c ≡ false)
    → ((out : OwnRequest) → Among out (requests_granted number kept v.outs)
    → is_some out.kept ≡ is_won_below (past_of r) (c + 1) out.number)
    → IsViewBeforeSnoop (past_of r) a c v
    → IsViewAfterSnoop (past_of r) a c (record v {
      lines = sets_filled v.lines grant.line state bytes;
      buffers = with_fill v.buffers grant.line number;
      outs = requests_granted number kept v.outs;
    })
unfolding past_of is_awaited is_some_and
granted-view r a c number grant state bytes kept v h some there mine is lost named won view =
    let p = past_of r in
    let long = h.long in
    let line : ℕ = grant.line in
    let w : AgentView = record v {
      lines = sets_filled v.lines line state bytes;
      buffers = with_fill v.buffers line number;
      outs = requests_granted number kept v.outs;
    } in
    let sets : 0 < length v.lines = subst (λ n. 0 < n) (sym view.agent.cache) some in
    let here : is_granted p a line c ≡ true = granted-is p a line c grant there mine ∙ eq-eqb line line refl in
    let facts = clock-facts r line c h.timely h.bounds (omega arith) in
    let unstored = new-unstored p a line c grant.first (none-stored p a line c grant facts here there) in
    let asked = (grants-are-owed r h.timely).granted a c line (omega arith) here in
    let now = granted-now p a line c facts here in
    let first : now.grant ≡ grant = (let e = now.there in cc) in
    let unended : is_ended p c grant.first ≡ false = grind (arith, ended-later) in
    let elsewhere : (other : ℕ) → other ≢ line → is_granted p a other c ≡ false =
    λ other apart. granted-is p a other c grant there mine ∙ ne_eqb line other (λ e. apart (sym e)) in
    let empty : (other : ℕ) → other ≢ line → other % length v.lines ≡ line % length v.lines
    → line_state_by v other ≡ Invalid =
    λ other apart same.
    let unheld = rival-unheld r a line other c h asked apart
    (ap (λ n. other % n) (sym view.agent.cache) ∙ same ∙ ap (λ n. line % n) view.agent.cache) in
    view.lines.states other
    ∙ (λ i. state_told (unheld i && not (is_evicted p a other c))
    (is_exclusive p a other c && not (is_evicted p a other c)) (is_dirty p a other c)) in
    record {
      agent = record {
        number = view.agent.number;
        items = view.agent.items;
        ahead = view.agent.ahead;
        profile = view.agent.profile;
        cache = length-with_slot v.lines line _ ∙ view.agent.cache;
      };
      placed = same-place p a c v w refl refl refl view.placed;
      lines = record {
        states = λ other.
            state-filled v.lines line other state bytes sets (empty other)
            ∙ ⊎_elim
            (λ (same : other ≡ line).
            rw (eq-eqb other line same)
            (is ∙ sym (snooped-granted p a line c grant here there unstored)
            ∙ ap (λ l. state_snooped_at p a l c) (sym same)))
            (λ (apart : other ≢ line).
            rw (ne_eqb other line apart)
            (view.lines.states other
            ∙ (λ i. if sym (lost other apart) i then Invalid
            else (if sym (named other) i then state_read (state_kept p a other c) else state_kept p a other c))
            ∙ sym (snooped-kept p a other c (elsewhere other apart))))
            (cases_eq other line);
        fills = λ other.
            count-push other (record { line = line; number = number; promise = None }) v.buffers.fills
            ∙ ⊎_elim
            (λ (same : other ≡ line).
            let before : fill_count v other ≡ 0 = view.lines.fills other ∙ ap (λ l. one_if (is_awaited p a l c c)) same
            ∙ ap one_if (granted-unawaited r a line c h here) in
            let latest : latest_grant p a other (c + 1) ≡ Some grant = grind (arith, latest_grant-more) in
            rw (eq-eqb line other (sym same), latest, unended) (omega (arith, before)))
            (λ (apart : other ≢ line).
            let before = view.lines.fills other ∙ ap one_if (sym (awaited-kept p a other c (elsewhere other apart))) in
            rw (ne_eqb line other (λ e. apart (sym e))) (omega (arith, before)))
            (cases_eq other line);
        in_sets = in_sets-filled v.lines line state bytes sets view.lines.in_sets;
      };
      requests = requests-from p a (c + 1) (owed_through p a c) w
          (map-granted a number kept v.outs ∙ view.requests.owed)
          (λ out among.
          let k = among-granted number kept out v.outs among in
          ap (want_of p a) k.2.number_same ∙ wanted-of p a c (owed_through p a c) v k.0 view.requests k.1
          ∙ ap Some (sym k.2.request_same))
          (λ out among. won out among);
    }
