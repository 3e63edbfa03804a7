-- What the pieces of an arrival and of a hit ask of each other.
use Rattle.std.proofs.Common.{ℕ, ◌<◌, ◌≡◌, zero, suc, true, cond, Option, Some, None, List, [], ◌∷◌, length, get_or}
use Rattle.std.proofs.Common.{refl, sym, ap, subst, ◌∙◌, inl, inr, arith}
use Rattle.std.specs.Prelude.{IfSome, IsSome, is_some, slice_get}
use Rattle.std.proofs.lemmas.Bool.{cases_Bool}
use Rattle.std.proofs.lemmas.Option.{slice_get-get_or}
use Rattle.fsb_access.specs.declared.item.Item.{Item}
use Rattle.fsb_cache.specs.Sets.{CacheSets, states}
use Rattle.fsb_line.specs.declared.state.Mesi.TheVariants.{Modified}
use Rattle.fsb_line.specs.States.{is_held}
use Rattle.fsb_linebuf.specs.Buffers.{fill_on, promise_on}
use Rattle.fsb_script.specs.Bounds.{is_lawful_script}
use Rattle.fsb_agent_view.specs.declared.want.OwnRequest.{OwnRequest}
use Rattle.fsb_agent_view.specs.AgentViews.{AgentView, next_item_by}
use Rattle.fsb_agent_view.specs.Arriving.{is_arrival_by, met_by, with_bytes}
use Rattle.fsb_agent_view.specs.Completing.{completed_by}
use Rattle.fsb_agent_view.specs.OwnRequests.{request_numbered}
use Rattle.fsb_agent_view.specs.Sound.{IsSound}
use Rattle.fsb_agent_view.proofs.Interface.{length-with_slot}
use Rattle.fsb_agent.specs.Parts.{IsPerformable}
use Rattle.fsb_agent.proofs.Fills.{promised_count-without}
use Rattle.fsb_agent.proofs.Performing.{performable}
use Rattle.fsb_agent.proofs.Settled.{state-filled}
use Rattle.fsb_agent.proofs.SoundArriving.{met-arrival}
use Rattle.fsb_agent.proofs.SoundPerforming.{IsMetOn, alike-next}
use Rattle.fsb_agent.proofs.SoundWinning.{fill_out}

-- an item that is read stands within the list, and what is read there is the item
pub at_index : {X : Type 0} (items xs : List X) (n m : ℕ) (x : X) → xs ≡ items → m ≡ n → m < length xs
    → x ≡ get_or xs m x → slice_get items n ≡ Some x
at_index items xs n m x same place within is = rw (← same, ← place) (slice_get-get_or xs m x within ∙ ap Some (sym is))

pub within_items : {X : Type 0} (xs : List X) (i : ℕ) (x : X) → slice_get xs i ≡ Some x → i < length xs
within_items [] i x got = absurd (let h : ⊥ = cc in h)
within_items (y ∷ ys) zero x got = omega arith
within_items (y ∷ ys) (suc i) x got = omega (arith, within_items ys i x got)

-- an item whose needs these lines meet may be performed on them
pub met-ready : (v : AgentView) (lines : CacheSets) (sets : ℕ) → is_lawful_script sets v.items ≡ true
    → IsMetOn v lines → IfSome (next_item_by v) (IsPerformable lines)
met-ready v lines sets lawful next =
    subst (λ (o : Option Item). IfSome o (IsPerformable lines)) (sym next.there)
    (performable lines sets v.items v.place next.item lawful next.there next.met)

-- the line that came is held still
pub met-holds : (v : AgentView) (clock : ℕ) (out : OwnRequest) (bytes : List ℕ) → IsSound v
    → request_numbered out.number v.outs ≡ Some out
    → is_held (states (met_by v clock out bytes).lines out.request.line) ≡ true
met-holds v clock out bytes s found =
    let line = out.request.line in
    let there = with_bytes v line bytes in
    let came : is_held (states there.lines line) ≡ true =
    ap is_held (state-filled v.lines line Modified bytes s.some_lines) in
    elim (cases_Bool (is_arrival_by v clock out)) [
      | inl on ↦
          let met : met_by v clock out bytes ≡ completed_by there clock = rw (on, met_by) refl in
          let some : 0 < length there.lines =
          rw (length-with_slot v.lines line (Some record { line = line; state = Modified; bytes = bytes }))
          s.some_lines in
          ap (λ w. is_held (states w.lines line)) met
          ∙ (alike-next there some (met-arrival v clock out bytes s found on)).held line ∙ came
      | inr off ↦
          let met : met_by v clock out bytes ≡ there = rw (off, met_by) refl in
          ap (λ w. is_held (states w.lines line)) met ∙ came
    ]

-- and the buffers are as before
pub met-buffers : (v : AgentView) (clock : ℕ) (out : OwnRequest) (bytes : List ℕ)
    → (met_by v clock out bytes).buffers ≡ v.buffers
met-buffers v clock out bytes =
    elim (cases_Bool (is_arrival_by v clock out)) [ inl on ↦ rw (on, met_by) refl | inr off ↦ rw (off, met_by) refl ]

some_is : {X : Type 0} (o : Option X) → is_some o ≡ true → IsSome o
some_is None never = absurd (let h : ⊥ = cc in h)
some_is (Some x) is = search

is_some-from : {X : Type 0} (o : Option X) → IsSome o → is_some o ≡ true
is_some-from None never = search
is_some-from (Some x) is = refl

-- there is the fill of its line, and room for what was promised
pub landing-fill : (v : AgentView) (out : OwnRequest) → IsSound v
    → request_numbered out.number v.outs ≡ Some out → out.granted ≡ true
    → IsSome (fill_on out.request.line v.buffers.fills)
landing-fill v out s found granted = some_is (fill_on out.request.line v.buffers.fills) (fill_out v out s found
    ∙ granted)

pub landing-room : (v : AgentView) (line : ℕ) → IsSound v → IsSome (promise_on line v.buffers.fills)
    → length v.buffers.pushes < 8
landing-room v line s promised =
    let one : cond {A = ℕ} (is_some (promise_on line v.buffers.fills)) 1 0 ≡ 1 =
    rw (is_some-from (promise_on line v.buffers.fills) promised) refl in
    omega (arith, promised_count-without line v.buffers.fills, one, s.few_owed)
