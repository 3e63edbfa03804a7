-- What an agent begins at a clock, and what is cancelled there, in its view.
use Rattle.fsb_agent_run.proofs.Words
use Words.{ℕ, ◌+◌, ◌≡◌, ◌≢◌, ◌⊎◌, ◌%◌, Bool, true, false, not, ◌&&◌, [], ◌∷◌, ◌++◌, map, length, Option, Some, None}
use Words.{is_some, nat_eq, refl, sym, ap, subst, ◌∙◌, inl, inr, append-nil, arith, if◌then◌else◌, ◌==◌, filter}
use Words.{option_map, eq-eqb, eqb-true, ne_eqb, map-append, CacheSets, states, is_at, is_some_and, is_at-some}
use Words.{nat_eq-sym, Invalid, Claim, Owing, Past, begun_at, holds_line, is_evicted, is_exclusive, is_rival, set_of}
use Words.{is_dirty, Run, past_of, owed, want_of, cancelled_in, cancels, Reaches, listed, owing_begun, begun-wanted}
use Words.{OwnRequest, Want, AgentView, given_up, new_request, sent, sets_cleared_for, want_by, is_won_below, owing_by}
use Words.{state_told, are_owings_apart, IsPlacedThrough, IsViewAfterHit, IsViewAfterSent, IsViewBeforeSnoop}
use Words.{owings_begun, is_uncancelled, owed_sent, owed_through}
use Rattle.fsb_agent_run.proofs.Among.{Among, among-either, filter-all, filter-same}
use Rattle.fsb_agent_run.proofs.OutLists.{among-without, kept-of, map-without, requests-from, wanted-of}
use Rattle.fsb_agent_run.proofs.OwedApart.{sent-apart}
use Rattle.fsb_agent_run.proofs.OwedSteps.{begun-parts, is_own, sent-is}
use Rattle.fsb_agent_run.proofs.SlotStates.{InSets, in_sets-without, length-without, state-absent, state-empty}
use Rattle.fsb_agent_run.proofs.SlotStates.{state-without}
use Rattle.fsb_agent_run.proofs.WantsMade.{want-by}
use Rattle.fsb_agent_run.proofs.WonSteps.{won-fresh}

-- the place stays where the script's part of the record does
pub same-place : (p : Past) (a c : ℕ) (v w : AgentView) → w.place ≡ v.place → w.idle_to ≡ v.idle_to
    → w.finished ≡ v.finished → IsPlacedThrough p a c v → IsPlacedThrough p a c w
same-place p a c v w place idle finished h = grind arith

-- the sets without what stands in the way of a line
pub state-cleared : (sets : CacheSets) (line other : ℕ) → InSets sets → states (sets_cleared_for sets line) other
    ≡ (if (line % length sets == other % length sets) && not (line == other) then Invalid else states sets other)
state-cleared sets line other in_sets = grind (arith, eqb-true, state-empty, state-absent, state-without)

pub in_sets-cleared : (sets : CacheSets) (line : ℕ) → InSets sets → InSets (sets_cleared_for sets line)
in_sets-cleared sets line in_sets = grind (arith, in_sets-without)

pub length-cleared : (sets : CacheSets) (line : ℕ) → length (sets_cleared_for sets line) ≡ length sets
length-cleared sets line = grind (arith, length-without)

-- which lines are dropped
evicted-by : (p : Past) (a c line : ℕ) (claim : Claim) → begun_at p c ≡ Some claim → claim.agent ≡ a
    → is_evicted p a line c ≡ is_rival p claim.line line
unfolding is_evicted is_some_and
evicted-by p a c line claim begun mine = rw (begun, eq-eqb claim.agent a mine) refl

unevicted : (p : Past) (a c line : ℕ) → ((claim : Claim) → begun_at p c ≡ Some claim → claim.agent ≢ a)
    → is_evicted p a line c ≡ false
unfolding is_evicted is_some_and
unevicted p a c line other = by (begun_at p c) refl
  where
    by : (o : Option Claim) → begun_at p c ≡ o
        → is_some_and o (λ claim. nat_eq claim.agent a && is_rival p claim.line line) ≡ false
    by None e = refl
    by (Some claim) e = rw (ne_eqb claim.agent a (other claim e)) refl

dropped-told : (held own dirty gone : Bool)
    → (if gone then Invalid else state_told held own dirty) ≡ state_told (held && not gone) (own && not gone) dirty
dropped-told held own dirty gone = grind arith

-- what begins, as a list
begun-one : (p : Past) (a c : ℕ) (owing : Owing) → owing_begun p c ≡ Some owing → owing.claim.agent ≡ a
    → owings_begun p a c ≡ owing ∷ []
unfolding owings_begun listed
begun-one p a c owing e mine = rw (e, eq-eqb owing.claim.agent a mine) refl

begun-none : (p : Past) (a c : ℕ) → ((claim : Claim) → begun_at p c ≡ Some claim → claim.agent ≢ a)
    → owings_begun p a c ≡ []
unfolding owings_begun listed begun_at owing_begun
begun-none p a c other = by (owing_begun p c) refl
  where
    by : (o : Option Owing) → owing_begun p c ≡ o → filter (is_own a) (listed o) ≡ []
    by None e = refl
    by (Some owing) e =
        rw (ne_eqb owing.claim.agent a (other owing.claim (ap (option_map (λ owing. owing.claim)) e))) refl

-- the want of a view that begins
pub wanted-there : (r : Run) (a c : ℕ) (claim : Claim) (v : AgentView) → Reaches r (c + 1)
    → begun_at (past_of r) c ≡ Some claim → claim.agent ≡ a → IsViewAfterHit (past_of r) a c v
    → (want : Want) × (want_by v c ≡ Some want) × (want_of (past_of r) a c ≡ Some want.request)
    × (owing : Owing) × (owing_begun (past_of r) c ≡ Some owing) × (owing.claim ≡ claim)
    × (owing_by a (new_request c want.request) ≡ owing)
wanted-there r a c claim v h begun mine view = grind (arith, begun-parts, begun-wanted, want-by)

sent-as : (v : AgentView) (c number : ℕ) (want : Want) → want_by v c ≡ Some want
    → sent v c number ≡ record v {
      lines = sets_cleared_for v.lines want.request.line;
      outs = v.outs ++ new_request number want.request ∷ [];
    }
sent-as v c number want e = rw (e, sent) refl

pub sent-view : (r : Run) (a c : ℕ) (claim : Claim) (v : AgentView) → Reaches r (c + 1)
    → begun_at (past_of r) c ≡ Some claim → claim.agent ≡ a → IsViewAfterHit (past_of r) a c v
    → IsViewAfterSent (past_of r) a c (sent v c c)
unfolding owed_sent is_rival set_of
sent-view r a c claim v h begun mine view =
    let p = past_of r in
    let k = wanted-there r a c claim v h begun mine view in
    let want : Want = k.0 in
    let line : want.request.line ≡ claim.line = grind arith in
    let fresh : OwnRequest = new_request c want.request in
    let own : owing_begun p c ≡ Some (owing_by a fresh) = k.4 ∙ ap Some (sym k.6) in
    let w : AgentView = record v {
      lines = sets_cleared_for v.lines want.request.line;
      outs = v.outs ++ fresh ∷ [];
    } in
    let sets : CacheSets = v.lines in
    let size = view.agent.cache in
    let either : (out : OwnRequest) → Among out (v.outs ++ fresh ∷ []) → Among out v.outs ⊎ (fresh ≡ out) =
    λ out there. elim (among-either out v.outs (fresh ∷ []) there) [
      | inl before ↦ inl before
      | inr now ↦ inr (only out now)
    ] in
    subst (IsViewAfterSent p a c) (sym (sent-as v c c want k.1)) (record {
      agent = record {
        number = view.agent.number;
        items = view.agent.items;
        ahead = view.agent.ahead;
        profile = view.agent.profile;
        cache = length-cleared sets want.request.line ∙ size;
      };
      placed = same-place p a c v w refl refl refl view.placed;
      lines = record {
        states = λ other.
            state-cleared sets want.request.line other view.lines.in_sets
            ∙ (λ i. if ((line i % size i) == (other % size i)) && not (line i == other)
            then Invalid else view.lines.states other i)
            ∙ (λ i. if sym (evicted-by p a c other claim begun mine) i then Invalid
            else state_told (holds_line p a other c) (is_exclusive p a other c) (is_dirty p a other c))
            ∙ dropped-told (holds_line p a other c) (is_exclusive p a other c) (is_dirty p a other c)
            (is_evicted p a other c);
        fills = view.lines.fills;
        in_sets = in_sets-cleared sets want.request.line view.lines.in_sets;
      };
      requests = requests-from p a c (owed p a c ++ owings_begun p a c) w
          (map-append (owing_by a) v.outs (fresh ∷ [])
          ∙ (λ i. view.requests.owed i
          ++ (sym (begun-one p a c (owing_by a fresh) own refl) i)))
          (λ out there. elim (either out there) [
            | inl before ↦ wanted-of p a c (owed p a c) v out view.requests before
            | inr now ↦ subst (λ (o : OwnRequest). want_of p a o.number ≡ Some o.request) now k.2
          ])
          (λ out there. elim (either out there) [
            | inl before ↦ kept-of p a c (owed p a c) v out view.requests before
            | inr now ↦
                subst (λ (o : OwnRequest). is_some o.kept ≡ is_won_below p c o.number) now
                (sym (won-fresh r c c (omega arith)))
          ]);
    })
  where
    only : (out : OwnRequest) → {x : OwnRequest} → Among out (x ∷ []) → x ≡ out
    only out h1 = grind arith

pub unsent-view : (p : Past) (a c : ℕ) (v : AgentView)
    → ((claim : Claim) → begun_at p c ≡ Some claim → claim.agent ≢ a) → IsViewAfterHit p a c v → IsViewAfterSent p a c v
unfolding owed_sent
unsent-view p a c v other view = grind (arith, begun-none, append-nil, unevicted)

-- the request that is cancelled has gone
pub cancelled-view : (r : Run) (a c q : ℕ) (v : AgentView) → Reaches r (c + 1) → cancelled_in (past_of r) c ≡ Some q
    → IsViewAfterSent (past_of r) a c v → IsViewBeforeSnoop (past_of r) a c (given_up v q)
unfolding owed_through is_uncancelled is_at is_some_and
cancelled-view r a c q v h cancels view =
    let p = past_of r in
    let apart : are_owings_apart p (map (owing_by a) v.outs) ≡ true = grind (arith, sent-apart) in
    let list = map-without p a q v.outs apart
    ∙ ap (filter (λ owing. not (nat_eq owing.claim.first q))) view.requests.owed
    ∙ filter-same (λ owing. not (nat_eq owing.claim.first q))
    (λ owing. not (is_some_and (cancelled_in p c) (λ m. nat_eq m owing.claim.first))) (owed_sent p a c)
    (λ owing _. ap not (nat_eq-sym owing.claim.first q
    ∙ sym (ap (λ o. is_some_and o (λ m. nat_eq m owing.claim.first)) cancels))) in
    record {
      agent = record {
        number = view.agent.number;
        items = view.agent.items;
        ahead = view.agent.ahead;
        profile = view.agent.profile;
        cache = view.agent.cache;
      };
      placed = same-place p a c v (given_up v q) refl refl refl view.placed;
      lines = record { states = view.lines.states; fills = view.lines.fills; in_sets = view.lines.in_sets };
      requests = requests-from p a c (owed_through p a c) (given_up v q) list
          (λ out there. wanted-of p a c (owed_sent p a c) v out view.requests (among-without q out v.outs there))
          (λ out there. kept-of p a c (owed_sent p a c) v out view.requests (among-without q out v.outs there));
    }

pub uncancelled-view : (r : Run) (a c : ℕ) (v : AgentView) → Reaches r (c + 1)
    → ((q : ℕ) (claim : Claim) → cancelled_in (past_of r) c ≡ Some q → begun_at (past_of r) q ≡ Some claim
    → claim.agent ≢ a)
    → IsViewAfterSent (past_of r) a c v → IsViewBeforeSnoop (past_of r) a c v
unfolding owed_through is_uncancelled
uncancelled-view r a c v h other view = grind (arith, filter-all, sent-is, is_at-some)
