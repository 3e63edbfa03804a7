-- The entries of a view's hit and arrival log the accesses that the run completes for its agent.
use Rattle.fsb_agent_run.proofs.Words
use Words.{ℕ, ◌+◌, ◌≡◌, Bool, true, false, List, [], ◌∷◌, map, Option, Some, None, is_some, nat_eq, refl, sym, ap}
use Words.{subst, ◌∙◌, arith, list_all, option_map_or, Item, Done, Step, steps_of_item, Completed, completed_if}
use Words.{completed_of_item, is_arrival, next_accesses, is_hit, Grant, Past, SnoopEnd, Run, past_of, items_of}
use Words.{next_item, next_number, Upgraded, Reaches, OwnRequest, AgentView, arrived_entries, ended_entries_for}
use Words.{is_arrival_by, met_entries, upgrade_entries, with_bytes, completed_entries, is_hit_by, performed_entries}
use Words.{steps_at, AtHand, entries_at_hand, hand_after, EndsFor, LogsAccesses, logged_access, place_of}
use Words.{IsViewAfterSnoop, IsViewOf}
use Rattle.fsb_agent_run.proofs.ArrivedViews.{arrival-unhit}
use Rattle.fsb_agent_run.proofs.EndEvents.{arrives-by, ended-here, kept-made}
use Rattle.fsb_agent_run.proofs.EndViews.{ungranted-arrival}
use Rattle.fsb_agent_run.proofs.HitsMade.{hit-by}
use Rattle.fsb_agent_run.proofs.Places.{item-at, placed-at}

-- an access of an agent
abbrev of_agent : ℕ → Step → Completed
of_agent a step = record { agent = a; step = step }

-- entries made at a clock by an agent's accesses are of the clock, and log them
clocks-made : (a c : ℕ) (hand : AtHand) (steps : List Step)
    → list_all (λ (done : Done). nat_eq done.clock c) (entries_at_hand a c hand steps) ≡ true
clocks-made a c hand [] = refl
clocks-made a c hand (step ∷ steps) = grind (arith, clocks-made a c (hand_after hand step.access) steps)

accesses-made : (a c : ℕ) (hand : AtHand) (steps : List Step)
    → map logged_access (entries_at_hand a c hand steps) ≡ map (of_agent a) steps
accesses-made a c hand [] = refl
accesses-made a c hand (step ∷ steps) = grind (arith, accesses-made a c (hand_after hand step.access) steps)

-- the accesses at the place of the next item are those that the run completes next
steps-of : (a n : ℕ) (o : Option Item)
    → map (of_agent a) (option_map_or (steps_of_item n) o []) ≡ option_map_or (completed_of_item a n) o []
unfolding completed_of_item
steps-of a n o = grind arith

steps-next : (p : Past) (a c : ℕ)
    → map (of_agent a) (steps_at (items_of p a) (place_of (items_of p a) (next_number p a c))) ≡ next_accesses p a c
unfolding next_accesses next_item
steps-next p a c = grind (arith, item-at, steps-of)

-- so the entries of a record's next item log them
item-entries : (p : Past) (a c : ℕ) (v : AgentView) → v.number ≡ a → v.items ≡ items_of p a
    → v.place ≡ place_of (items_of p a) (next_number p a c)
    → LogsAccesses c (next_accesses p a c) (completed_entries v c)
item-entries p a c v number items place = grind (arith, clocks-made, accesses-made, steps-next)

-- and where a test says whether the item is completed, so does the run
entries-if : (p : Past) (a c : ℕ) (b : Bool) (entries : List Done)
    → (b ≡ true → LogsAccesses c (next_accesses p a c) entries)
    → LogsAccesses c (completed_if p c b a) (elim b [ true ↦ entries | false ↦ [] ])
unfolding completed_if
entries-if p a c b entries h1 = grind arith

-- the entries of a hit
pub performed-entries : (p : Past) (a c : ℕ) (v : AgentView) → IsViewOf p a c v
    → LogsAccesses c (completed_if p c (is_hit p a c) a) (performed_entries v c)
performed-entries p a c v view =
    let same : is_hit_by v c ≡ is_hit p a c = grind (arith, hit-by, placed-at) in
    subst (λ b. LogsAccesses c (completed_if p c b a) (performed_entries v c)) same
    (entries-if p a c (is_hit_by v c) (completed_entries v c)
    (λ t. item-entries p a c v view.agent.number view.agent.items view.placed.place))

-- those of an arrival
met-entries : (p : Past) (a c : ℕ) (v : AgentView) (out : OwnRequest) (bytes : List ℕ) → IsViewAfterSnoop p a c v
    → is_arrival_by v c out ≡ is_arrival p a c
    → LogsAccesses c (completed_if p c (is_arrival p a c) a) (met_entries v c out bytes)
met-entries p a c v out bytes view same =
    subst (λ b. LogsAccesses c (completed_if p c b a) (met_entries v c out bytes)) same
    (entries-if p a c (is_arrival_by v c out) (completed_entries (with_bytes v out.request.line bytes) c)
    (λ t.
    let at = view.placed.before (arrival-unhit p a c (sym same ∙ t)) in
    item-entries p a c (with_bytes v out.request.line bytes) view.agent.number view.agent.items at.place))

pub arrived-entries : (r : Run) (a c number : ℕ) (s : SnoopEnd) (grant : Grant) (bytes : List ℕ) (v : AgentView)
    → Reaches r (c + 1) → EndsFor (past_of r) a c number s → s.grant ≡ Some grant
    → IsViewAfterSnoop (past_of r) a c v
    → LogsAccesses c (completed_if (past_of r) c (is_arrival (past_of r) a c) a) (arrived_entries v c number bytes)
arrived-entries r a c number s grant bytes v h ends makes view =
    let p = past_of r in
    let k = ended-here r a c number s v h ends view in
    subst (LogsAccesses c (completed_if p c (is_arrival p a c) a))
    (sym (ap (λ o. option_map_or (λ out. met_entries v c out bytes) o []) k.found))
    (met-entries p a c v k.out bytes view (arrives-by r a c number s grant k.out v h ends makes view k.found))

-- those of an upgrade that ends: none where it was lost
ended-entries : (r : Run) (a c : ℕ) (s : SnoopEnd) (v : AgentView) (out : OwnRequest) → (kept : Option (List ℕ))
    → out.kept ≡ kept → (made : Option Grant) → s.grant ≡ made → is_some kept ≡ is_some made
    → ((bytes : List ℕ) (grant : Grant) → s.grant ≡ Some grant
    → LogsAccesses c (completed_if (past_of r) c (is_arrival (past_of r) a c) a) (met_entries v c out bytes))
    → (s.grant ≡ None → is_arrival (past_of r) a c ≡ false)
    → LogsAccesses c (completed_if (past_of r) c (is_arrival (past_of r) a c) a) (ended_entries_for v c out)
unfolding completed_if
ended-entries r a c s v out None e None f same come gone = grind arith
ended-entries r a c s v out None e (Some grant) f same come gone = absurd (let no : ⊥ = cc in no)
ended-entries r a c s v out (Some bytes) e None f same come gone = absurd (let no : ⊥ = cc in no)
ended-entries r a c s v out (Some bytes) e (Some grant) f same come gone = rw e (come bytes grant f)

pub upgrade-entries : (r : Run) (a c number : ℕ) (s : SnoopEnd) (v : AgentView) → Reaches r (c + 1)
    → EndsFor (past_of r) a c number s → s.outcome ≡ Upgraded → IsViewAfterSnoop (past_of r) a c v
    → LogsAccesses c (completed_if (past_of r) c (is_arrival (past_of r) a c) a) (upgrade_entries v c number)
upgrade-entries r a c number s v h ends upgraded view =
    let p = past_of r in
    let k = ended-here r a c number s v h ends view in
    subst (LogsAccesses c (completed_if p c (is_arrival p a c) a))
    (sym (ap (λ o. option_map_or (ended_entries_for v c) o []) k.found))
    (ended-entries r a c s v k.out k.out.kept refl s.grant refl (kept-made r a c number s v h ends upgraded view k)
    (λ bytes grant makes.
    met-entries p a c v k.out bytes view (arrives-by r a c number s grant k.out v h ends makes view k.found))
    (λ none. ungranted-arrival r a c number s h ends none))
