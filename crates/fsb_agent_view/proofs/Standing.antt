-- An agent stands for its events: what it begins with stays, whatever happens to it.
use Rattle.std.proofs.Common.{ℕ, ◌≡◌, Bool, true, false, Option, Some, None, List, [], ◌∷◌, ◌++◌, length, refl, sym, ap}
use Rattle.std.proofs.Common.{◌∙◌, inl, inr}
use Rattle.std.specs.Prelude.{◌==◌, fold, is_some}
use Rattle.std.proofs.lemmas.Bool.{cases_Bool}
use Rattle.std.proofs.lemmas.List.{length-replicate}
use Rattle.fsb_access.specs.declared.access.Access.TheVariants.{Load, Store}
use Rattle.fsb_access.specs.declared.item.Item.{Item}
use Rattle.fsb_access.specs.ScriptOrder.{Step}
use Rattle.fsb_cache.specs.declared.held.Held.{Held}
use Rattle.fsb_cache.specs.Sets.{CacheSets, held_at, sets_without, slot_of}
use Rattle.fsb_encode.specs.declared.request.Request.{Request}
use Rattle.fsb_line.specs.declared.state.Mesi.{Mesi}
use Rattle.fsb_line.specs.declared.state.Mesi.TheVariants.{Exclusive, Invalid, Modified, Shared}
use Rattle.fsb_line.specs.States.{asks_line, is_held}
use Rattle.fsb_trace.specs.declared.outcome.Outcome.{Outcome}
use Rattle.fsb_trace.specs.declared.outcome.Outcome.TheVariants.{Granted, Handed, Retried, Deferred, Written, Replied}
use Rattle.fsb_trace.specs.declared.outcome.Outcome.TheVariants.{Failed, Upgraded}
use Rattle.fsb_agent_view.specs.declared.want.OwnRequest.{OwnRequest}
use Rattle.fsb_agent_view.specs.declared.want.Want.{Want}
use Rattle.fsb_agent_view.specs.AgentEvents.{AgentEvent, Arrived, Committed, GivenUp, HandedOn, Performed, Sent, Stands}
use Rattle.fsb_agent_view.specs.AgentEvents.{UpgradeEnded, agent_after, first_like, first_view}
use Rattle.fsb_agent_view.specs.AgentViews.{AgentView, line_state_by}
use Rattle.fsb_agent_view.specs.Arriving.{arrived_for, ended_for, is_arrival_by, line_arrived, met_by, sets_settled}
use Rattle.fsb_agent_view.specs.Arriving.{upgrade_ended, with_bytes}
use Rattle.fsb_agent_view.specs.Completing.{completed_by, hand_of, is_hit_by, next_steps, performed}
use Rattle.fsb_agent_view.specs.OwnRequests.{request_numbered}
use Rattle.fsb_agent_view.specs.Serving.{AtHand, hand_after, hand_after_steps}
use Rattle.fsb_agent_view.specs.Snooping.{committed, granted_by, kind_asks, own_committed, own_settled, sets_lowered}
use Rattle.fsb_agent_view.specs.Snooping.{upgraded_by}
use Rattle.fsb_agent_view.specs.Wanting.{sent, sets_cleared_for, want_by}
use Rattle.fsb_agent_view.proofs.Slots.{length-with_slot}

length-without_line : (sets : CacheSets) (line : ℕ) → length (sets_without sets line) ≡ length sets
length-without_line sets line =
    elim (cases_Bool (is_some (held_at sets line))) [
      | inl on ↦ rw on (length-with_slot sets line None)
      | inr off ↦ rw off refl
    ]

length-cleared : (sets : CacheSets) (line : ℕ) → length (sets_cleared_for sets line) ≡ length sets
length-cleared sets line = go (slot_of sets line) refl
  where
    go : (slot : Option Held) → slot_of sets line ≡ slot → length (sets_cleared_for sets line) ≡ length sets
    go None e = rw (e, sets_cleared_for) refl
    go (Some held) e =
        elim (cases_Bool (held.line == line)) [
          | inl on ↦ rw (e, on, sets_cleared_for) refl
          | inr off ↦ rw (e, off, sets_cleared_for) (length-without_line sets held.line)
        ]

length-lowered : (sets : CacheSets) (line : ℕ) (state : Mesi) → length (sets_lowered sets line state) ≡ length sets
length-lowered sets line Invalid = length-without_line sets line
length-lowered sets line Shared = length-with_slot sets line _
length-lowered sets line Exclusive = refl
length-lowered sets line Modified = refl

length-settled : (sets : CacheSets) (line : ℕ) (state : Mesi) → length (sets_settled sets line state) ≡ length sets
length-settled sets line state =
    elim (cases_Bool (is_held state)) [
      | inl on ↦ rw (on, sets_settled) (length-with_slot sets line _)
      | inr off ↦ rw (off, sets_settled) (length-without_line sets line)
    ]

length-served : (hand : AtHand) (steps : List Step) → length (hand_after_steps hand steps).lines ≡ length hand.lines
length-served hand [] = refl
length-served hand (step ∷ steps) = length-served (hand_after hand step.access) steps ∙ one step.access
  where
    one : (access : Rattle.fsb_access.specs.declared.access.Access.Access)
        → length (hand_after hand access).lines ≡ length hand.lines
    one (Load size addr) = refl
    one (Store size addr value) = length-with_slot hand.lines _ _

-- an agent with so many lines begins as one with as many
begins_with : (v w : AgentView) → w.number ≡ v.number → w.items ≡ v.items → length w.lines ≡ length v.lines
    → w.ahead ≡ v.ahead → w.profile ≡ v.profile → first_like w ≡ first_like v
begins_with v w number items lines ahead profile = rw (number, items, lines, ahead, profile) refl

like_performed : (v : AgentView) (clock : ℕ) → first_like (performed v clock) ≡ first_like v
like_performed v clock =
    elim (cases_Bool (is_hit_by v clock)) [
      | inl on ↦ rw (on, performed)
          (begins_with v (completed_by v clock) refl refl (length-served (hand_of v) (next_steps v)) refl refl)
      | inr off ↦ rw (off, performed) refl
    ]

like_sent : (v : AgentView) (clock number : ℕ) → first_like (sent v clock number) ≡ first_like v
like_sent v clock number = go (want_by v clock) refl
  where
    go : (want : Option Want) → want_by v clock ≡ want → first_like (sent v clock number) ≡ first_like v
    go None e = rw (e, sent) refl
    go (Some want) e = rw (e, sent, length-cleared v.lines want.request.line) refl

like_granted : (v : AgentView) (out : OwnRequest) (shared : Bool) → first_like (granted_by v out shared) ≡ first_like v
like_granted v out shared =
    elim (cases_Bool (asks_line (kind_asks out.request.kind))) [
      | inl on ↦ rw (on, granted_by, length-with_slot v.lines out.request.line _) refl
      | inr off ↦ rw (off, granted_by) refl
    ]

like_upgraded : (v : AgentView) (out : OwnRequest) → first_like (upgraded_by v out) ≡ first_like v
like_upgraded v out =
    elim (cases_Bool (is_held (line_state_by v out.request.line))) [
      | inl on ↦ rw (on, upgraded_by, length-with_slot v.lines out.request.line _) refl
      | inr off ↦ rw (off, upgraded_by) refl
    ]

like_settled : (v : AgentView) (out : OwnRequest) (shared : Bool) (outcome : Outcome)
    → first_like (own_settled v out shared outcome) ≡ first_like v
like_settled v out shared Granted = like_granted v out shared
like_settled v out shared Handed = like_granted v out true
like_settled v out shared Retried = refl
like_settled v out shared Deferred = refl
like_settled v out shared Written =
    ap (λ n. first_view v.number v.items n v.ahead v.profile) (length-without_line v.lines out.request.line)
like_settled v out shared Replied = like_granted v out shared
like_settled v out shared Failed = refl
like_settled v out shared Upgraded = like_upgraded v out

like_committed : (v : AgentView) (number : ℕ) (mine : Bool) (request : Request) (shared : Bool)
    (outcome : Outcome) → first_like (committed v number mine request shared outcome) ≡ first_like v
like_committed v number false request shared outcome =
    ap (λ n. first_view v.number v.items n v.ahead v.profile) (length-lowered v.lines request.line _)
like_committed v number true request shared outcome = go (request_numbered number v.outs) refl
  where
    go : (found : Option OwnRequest) → request_numbered number v.outs ≡ found
        → first_like (own_committed v number shared outcome) ≡ first_like v
    go None e = rw e refl
    go (Some out) e = rw e (like_settled v out shared outcome)

like_met : (v : AgentView) (clock : ℕ) (out : OwnRequest) (bytes : List ℕ)
    → first_like (met_by v clock out bytes) ≡ first_like v
like_met v clock out bytes =
    let there = with_bytes v out.request.line bytes in
    let filled : first_like there ≡ first_like v =
    ap (λ n. first_view v.number v.items n v.ahead v.profile) (length-with_slot v.lines out.request.line _) in
    elim (cases_Bool (is_arrival_by v clock out)) [
      | inl on ↦ rw (on, met_by)
          (begins_with there (completed_by there clock) refl refl
          (length-served (hand_of there) (next_steps there)) refl refl ∙ filled)
      | inr off ↦ rw (off, met_by) filled
    ]

like_arrived : (v : AgentView) (clock : ℕ) (out : OwnRequest) (bytes : List ℕ)
    → first_like (arrived_for v clock out bytes) ≡ first_like v
like_arrived v clock out bytes =
    let met = met_by v clock out bytes in
    ap (λ n. first_view met.number met.items n met.ahead met.profile)
    (length-settled met.lines out.request.line _) ∙ like_met v clock out bytes

like_ended : (v : AgentView) (clock : ℕ) (out : OwnRequest) → first_like (ended_for v clock out) ≡ first_like v
like_ended v clock out = go out.kept refl
  where
    go : (kept : Option (List ℕ)) → out.kept ≡ kept → first_like (ended_for v clock out) ≡ first_like v
    go None e = rw e refl
    go (Some bytes) e = rw e (like_arrived v clock out bytes)

pub like_after : (v : AgentView) (event : AgentEvent) → first_like (agent_after v event) ≡ first_like v
like_after v (Performed clock) = like_performed v clock
like_after v (Sent clock number) = like_sent v clock number
like_after v (Committed number mine request shared outcome) = like_committed v number mine request shared outcome
like_after v (HandedOn number) = refl
like_after v (Arrived clock number bytes) = go (request_numbered number v.outs) refl
  where
    go : (found : Option OwnRequest) → request_numbered number v.outs ≡ found
        → first_like (line_arrived v clock number bytes) ≡ first_like v
    go None e = rw e refl
    go (Some out) e = rw e (like_arrived v clock out bytes)
like_after v (UpgradeEnded clock number) = go (request_numbered number v.outs) refl
  where
    go : (found : Option OwnRequest) → request_numbered number v.outs ≡ found
        → first_like (upgrade_ended v clock number) ≡ first_like v
    go None e = rw e refl
    go (Some out) e = rw e (like_ended v clock out)
like_after v (GivenUp number) = refl

-- an agent before any event stands for none
pub stands-first : (number : ℕ) (items : List Item) (lines ahead profile : ℕ)
    → Stands (first_view number items lines ahead profile) []
stands-first number items lines ahead profile =
    sym (ap (λ n. first_view number items n ahead profile) (length-replicate {A = Option Held} lines None))

fold-next : (v : AgentView) (events : List AgentEvent) (event : AgentEvent)
    → fold agent_after v (events ++ event ∷ []) ≡ agent_after (fold agent_after v events) event
fold-next v [] event = refl
fold-next v (first ∷ events) event = fold-next (agent_after v first) events event

-- and after one more event for its events and that
pub stands-next : (v : AgentView) (events : List AgentEvent) (event : AgentEvent) → Stands v events
    → Stands (agent_after v event) (events ++ event ∷ [])
stands-next v events event stands =
    ap (λ w. agent_after w event) stands ∙ sym (fold-next (first_like v) events event)
    ∙ ap (λ w. fold agent_after w (events ++ event ∷ [])) (sym (like_after v event))
