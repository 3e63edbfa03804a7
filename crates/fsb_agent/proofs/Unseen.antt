-- The snoop end of another agent's request for a line that this agent does not have.
use Rattle.std.proofs.Common.{ℕ, ◌≡◌, Bool, true, false, Option, Some, None, refl, ap, ◌∙◌}
use Rattle.std.specs.Prelude.{◌==◌, if◌then◌else◌, is_some}
use Rattle.std.specs.Option.{option_map}
use Rattle.fsb_cache.specs.declared.held.Held.{Held}
use Rattle.fsb_cache.specs.Sets.{CacheSets, held_at, only_line, resident_of, sets_without, slot_of, state_of_held}
use Rattle.fsb_cache.specs.Sets.{states}
use Rattle.fsb_encode.specs.declared.request.Kind.{Kind}
use Rattle.fsb_encode.specs.declared.request.Request.{Request}
use Rattle.fsb_line.specs.declared.purpose.Purpose.{Purpose}
use Rattle.fsb_line.specs.declared.purpose.Purpose.TheVariants.{Own, Read, Upgrade, WriteBack}
use Rattle.fsb_line.specs.declared.state.Mesi.TheVariants.{Invalid}
use Rattle.fsb_line.specs.States.{after_snoop}
use Rattle.fsb_trace.specs.declared.outcome.Outcome.{Outcome}
use Rattle.fsb_trace.specs.declared.outcome.Outcome.TheVariants.{Granted, Handed, Retried, Deferred, Written, Replied}
use Rattle.fsb_trace.specs.declared.outcome.Outcome.TheVariants.{Failed, Upgraded}
use Rattle.fsb_agent_view.specs.AgentViews.{AgentView, line_state_by}
use Rattle.fsb_agent_view.specs.Snooping.{kind_asks, other_settled, state_snooped}

-- the line that a set has is the one that is looked for, or not
found : (slot : Option Held) (line other : ℕ) → Some other ≡ option_map (λ held. held.line) slot
    → (other == line) ≡ is_some (only_line line slot)
found None line other is = absurd (let h : ⊥ = cc in h)
found (Some held) line other is =
    let same : other ≡ held.line = cc in
    rw same (kept (held.line == line) held)
  where
    kept : (b : Bool) (held : Held) → b ≡ is_some (if b then Some held else None)
    kept true held = refl
    kept false held = refl

pub resident_found : (sets : CacheSets) (line other : ℕ) → Some other ≡ resident_of sets line
    → (other == line) ≡ is_some (held_at sets line)
unfolding held_at
resident_found sets line other is = found (slot_of sets line) line other is

missed : (slot : Option Held) (line : ℕ) → None ≡ option_map (λ held. held.line) slot
    → false ≡ is_some (only_line line slot)
missed None line is = refl
missed (Some held) line is = absurd (let h : ⊥ = cc in h)

pub resident_missed : (sets : CacheSets) (line : ℕ) → None ≡ resident_of sets line
    → false ≡ is_some (held_at sets line)
unfolding held_at
resident_missed sets line is = missed (slot_of sets line) line is

-- a line that it does not have is Invalid
state_absent : (held : Option Held) → is_some held ≡ false → state_of_held held ≡ Invalid
state_absent None absent = refl
state_absent (Some held) absent = let h : ⊥ = cc in absurd h

states_absent : (sets : CacheSets) (line : ℕ) → is_some (held_at sets line) ≡ false → states sets line ≡ Invalid
unfolding states
states_absent sets line absent = state_absent (held_at sets line) absent

-- and stays so
after_absent : (purpose : Purpose) → after_snoop Invalid purpose ≡ Invalid
after_absent Own = refl
after_absent Read = refl
after_absent Upgrade = refl
after_absent WriteBack = refl

snooped_absent : (kind : Kind) (outcome : Outcome) → state_snooped Invalid kind outcome ≡ Invalid
snooped_absent kind Granted = after_absent (kind_asks kind)
snooped_absent kind Handed = after_absent (kind_asks kind)
snooped_absent kind Retried = after_absent (kind_asks kind)
snooped_absent kind Deferred = after_absent (kind_asks kind)
snooped_absent kind Written = after_absent (kind_asks kind)
snooped_absent kind Replied = refl
snooped_absent kind Failed = after_absent (kind_asks kind)
snooped_absent kind Upgraded = after_absent (kind_asks kind)

-- so nothing changes
pub settled_absent : (v : AgentView) (number : ℕ) (request : Request) (outcome : Outcome)
    → is_some (held_at v.lines request.line) ≡ false → other_settled v number request outcome ≡ v
settled_absent v number request outcome absent =
    let state : line_state_by v request.line ≡ Invalid = states_absent v.lines request.line absent in
    let stays : state_snooped (line_state_by v request.line) request.kind outcome ≡ Invalid =
    ap (λ state. state_snooped state request.kind outcome) state ∙ snooped_absent request.kind outcome in
    let lines : sets_without v.lines request.line ≡ v.lines = rw (absent, sets_without) refl in
    rw (stays, state, lines, other_settled) refl
