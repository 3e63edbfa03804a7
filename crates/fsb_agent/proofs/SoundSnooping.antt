-- An agent stays sound at each snoop end.
use Rattle.std.proofs.Common.{ℕ, ◌<◌, ◌≡◌, ◌≢◌, ◌%◌, Bool, true, false, not, Option, Some, None, List, [], ◌∷◌, length}
use Rattle.std.proofs.Common.{length-append, refl, sym, ap, ◌∙◌, inl, inr, ⊎_elim, arith}
use Rattle.std.specs.Prelude.{◌==◌, ◌&&◌, is_some, nat_lt}
use Rattle.std.specs.List.{slice_index_or}
use Rattle.std.specs.Option.{option_map}
use Rattle.std.proofs.lemmas.Bool.{cases_Bool, cases_eq, eqb-true, ltb-true, not-true}
use Rattle.std.proofs.lemmas.List.{length-map}
use Rattle.std.proofs.lemmas.List.Folds.{list_all-map}
use Rattle.fsb_cache.specs.declared.held.Held.{Held}
use Rattle.fsb_cache.specs.Sets.{CacheSets, copies, held_at, held_shared, only_line, sets_shared, sets_without, slot_of}
use Rattle.fsb_cache.specs.Sets.{state_of_held, states}
use Rattle.fsb_encode.specs.declared.request.Kind.{Kind}
use Rattle.fsb_encode.specs.declared.request.Request.{Request}
use Rattle.fsb_line.specs.declared.purpose.Purpose.{Purpose}
use Rattle.fsb_line.specs.declared.purpose.Purpose.TheVariants.{Own, Read, Upgrade, WriteBack}
use Rattle.fsb_line.specs.declared.state.Mesi.{Mesi}
use Rattle.fsb_line.specs.declared.state.Mesi.TheVariants.{Exclusive, Invalid, Modified, Shared}
use Rattle.fsb_line.specs.States.{after_snoop, asks_line, granted, is_held, is_modified, is_sole}
use Rattle.fsb_linebuf.specs.declared.entry.Fill.{Fill}
use Rattle.fsb_linebuf.specs.Buffers.{promised_to, with_promise}
use Rattle.fsb_trace.specs.declared.outcome.Outcome.{Outcome}
use Rattle.fsb_trace.specs.declared.outcome.Outcome.TheVariants.{Granted, Handed, Retried, Deferred, Written, Replied}
use Rattle.fsb_trace.specs.declared.outcome.Outcome.TheVariants.{Failed, Upgraded}
use Rattle.fsb_agent_view.specs.declared.want.OwnRequest.{OwnRequest}
use Rattle.fsb_agent_view.specs.AgentViews.{AgentView, has_come, line_state_by}
use Rattle.fsb_agent_view.specs.OwnRequests.{request_numbered}
use Rattle.fsb_agent_view.specs.Snooping.{buffers_giving, committed, granted_by, is_giver, is_handed, kind_asks}
use Rattle.fsb_agent_view.specs.Snooping.{may_be_settled, may_commit, may_settle, no_bytes, other_settled}
use Rattle.fsb_agent_view.specs.Snooping.{own_committed, own_settled, owed_count, sets_lowered, state_snooped}
use Rattle.fsb_agent_view.specs.Snooping.{upgraded_by, with_push, written_by}
use Rattle.fsb_agent_view.specs.Sound.{IsSound, is_lent, is_sound_request}
use Rattle.fsb_agent_view.proofs.Interface.{both_left, both_right, length-with_slot, list_all-from, slot_of-other}
use Rattle.fsb_agent_view.proofs.Interface.{slot_of-same}
use Rattle.fsb_agent.proofs.Fills.{fill_on-promised, fills_apart-promised, promised_count-promised}
use Rattle.fsb_agent.proofs.Lowered.{IsLowered, sound-lowered}
use Rattle.fsb_agent.proofs.Requests.{found_own}
use Rattle.fsb_agent.proofs.SlotMaps.{held_at-apart, held_at-same}
use Rattle.fsb_agent.proofs.SoundSending.{lowered-self, lowered-without}
use Rattle.fsb_agent.proofs.SoundWinning.{sound_won}

-- bytes are owed to one more
pub sound_pushed : (v : AgentView) (number : ℕ) (bytes : List ℕ) → owed_count v.buffers < 8 → IsSound v
    → IsSound (record v { buffers = with_push v.buffers number bytes })
sound_pushed v number bytes few s = record {
  number = s.number;
  some_lines = s.some_lines;
  in_sets = s.in_sets;
  script = s.script;
  some_ahead = s.some_ahead;
  few_ahead = s.few_ahead;
  profile = s.profile;
  placed = s.placed;
  few_outs = s.few_outs;
  apart = s.apart;
  requests = s.requests;
  fills = s.fills;
  one_a_line = s.one_a_line;
  lent = s.lent;
  few_owed = omega (arith, length-append v.buffers.pushes (record { number = number; bytes = bytes } ∷ []), few);
}

-- or promised to one more, of a line that the agent has not alone
request_promised : (lines : CacheSets) (fills : List Fill) (line to : ℕ) (out : OwnRequest)
    → is_sound_request lines fills out ≡ true → is_sound_request lines (promised_to line to fills) out ≡ true
request_promised lines fills line to out sound = rw (fill_on-promised out.request.line line to fills) sound

lent_promised : (lines : CacheSets) (line to : ℕ) (fill : Fill) → is_sole (states lines line) ≡ false
    → is_lent lines fill ≡ true → is_lent lines (with_promise line to fill) ≡ true
lent_promised lines line to fill not_alone lent =
    elim (cases_Bool (fill.line == line)) [
      | inl on ↦
          let is : fill.line ≡ line = eqb-true fill.line line on in
          rw (on, is, not_alone) refl
      | inr off ↦ rw off lent
    ]

pub sound_promised : (v : AgentView) (line to : ℕ) → owed_count v.buffers < 8
    → is_sole (states v.lines line) ≡ false → IsSound v
    → IsSound (record v { buffers = record v.buffers { fills = promised_to line to v.buffers.fills } })
sound_promised v line to few not_alone s = record {
  number = s.number;
  some_lines = s.some_lines;
  in_sets = s.in_sets;
  script = s.script;
  some_ahead = s.some_ahead;
  few_ahead = s.few_ahead;
  profile = s.profile;
  placed = s.placed;
  few_outs = s.few_outs;
  apart = s.apart;
  requests = list_all-from (is_sound_request v.lines v.buffers.fills)
      (is_sound_request v.lines (promised_to line to v.buffers.fills)) v.outs
      (λ out h. request_promised v.lines v.buffers.fills line to out h) s.requests;
  fills = length-map v.buffers.fills (with_promise line to) ∙ s.fills;
  one_a_line = fills_apart-promised line to v.buffers.fills s.one_a_line;
  lent = list_all-map (is_lent v.lines) (with_promise line to) v.buffers.fills
      ∙ list_all-from (is_lent v.lines) (λ f. is_lent v.lines (with_promise line to f)) v.buffers.fills
      (λ f h. lent_promised v.lines line to f not_alone h) s.lent;
  few_owed = omega (arith, promised_count-promised line to v.buffers.fills s.one_a_line, few);
}

-- a line that is made Shared
resident-shared : (slot : Option Held)
    → option_map (λ held. held.line) (option_map held_shared slot) ≡ option_map (λ held. held.line) slot
resident-shared None = refl
resident-shared (Some held) = refl

shared-not_sole : (line : ℕ) (slot : Option Held)
    → is_sole (state_of_held (only_line line (option_map held_shared slot))) ≡ false
shared-not_sole line None = refl
shared-not_sole line (Some held) = elim (cases_Bool (held.line == line)) [ inl on ↦ rw on refl | inr off ↦ rw off refl ]

lowered-shared : (sets : CacheSets) (line : ℕ) → 0 < length sets → IsLowered sets (sets_shared sets line)
unfolding states
lowered-shared sets line some =
    let slot : Option Held = option_map held_shared (slot_of sets line) in
    record {
      count = length-with_slot sets line slot;
      residents = λ other. ⊎_elim
          (λ (same : other % length sets ≡ line % length sets).
          inr (ap (option_map (λ held. held.line)) (slot_of-same sets line other slot some same)
          ∙ resident-shared (slot_of sets line)
          ∙ sym (ap (λ k. option_map (λ held. held.line) (slice_index_or sets k None)) same)))
          (λ (apart : other % length sets ≢ line % length sets). inr
          (ap (option_map (λ held. held.line)) (slot_of-other sets line other slot apart)))
          (cases_eq (other % length sets) (line % length sets));
      sole = λ other h. ⊎_elim
          (λ (same : other % length sets ≡ line % length sets).
          absurd (let never : false ≡ true = sym (shared-not_sole other (slot_of sets line))
          ∙ (rw (held_at-same sets line other slot some same) at h) in (let x : ⊥ = cc in x)))
          (λ (apart : other % length sets ≢ line % length sets). rw (held_at-apart sets line other slot apart) at h)
          (cases_eq (other % length sets) (line % length sets));
    }

pub lowered-to : (sets : CacheSets) (line : ℕ) (state : Mesi) → 0 < length sets
    → IsLowered sets (sets_lowered sets line state)
lowered-to sets line Invalid some = lowered-without sets line some
lowered-to sets line Shared some = lowered-shared sets line some
lowered-to sets line Exclusive some = lowered-self sets
lowered-to sets line Modified some = lowered-self sets

-- a line that is dropped or Shared is not held alone
emptied-not_sole : (sets : CacheSets) (line : ℕ) → 0 < length sets
    → is_sole (states (sets_without sets line) line) ≡ false
unfolding states
emptied-not_sole sets line some =
    elim (cases_Bool (is_some (held_at sets line))) [
      | inl on ↦ rw on (rw (held_at-same sets line line None some refl) refl)
      | inr off ↦ rw off (missed (held_at sets line) off)
    ]
  where
    missed : (held : Option Held) → is_some held ≡ false → is_sole (state_of_held held) ≡ false
    missed None h = refl
    missed (Some held) h = absurd (let x : ⊥ = cc in x)

lowered-not_sole : (sets : CacheSets) (line : ℕ) (state : Mesi) → 0 < length sets → is_sole state ≡ false
    → is_sole (states (sets_lowered sets line state) line) ≡ false
unfolding states
lowered-not_sole sets line Invalid some low = emptied-not_sole sets line some
lowered-not_sole sets line Shared some low =
    rw (held_at-same sets line line (option_map held_shared (slot_of sets line)) some refl)
    (shared-not_sole line (slot_of sets line))
lowered-not_sole sets line Exclusive some low = absurd (let x : ⊥ = cc in x)
lowered-not_sole sets line Modified some low = absurd (let x : ⊥ = cc in x)

-- who gives the line has it alone no more
given-not_sole : (state : Mesi) (kind : Kind) (outcome : Outcome) → is_modified state ≡ true
    → is_handed outcome ≡ true → asks_line (kind_asks kind) ≡ true → is_sole (state_snooped state kind outcome) ≡ false
given-not_sole state kind Granted modified handed asks = absurd (let x : ⊥ = cc in x)
given-not_sole state kind Handed modified handed asks = taken (kind_asks kind) state asks
  where
    taken : (purpose : Purpose) (state : Mesi) → asks_line purpose ≡ true → is_sole (after_snoop state purpose) ≡ false
    taken Read Invalid asks = refl
    taken Read Shared asks = refl
    taken Read Exclusive asks = refl
    taken Read Modified asks = refl
    taken Own state asks = refl
    taken Upgrade state asks = refl
    taken WriteBack state asks = absurd (let x : ⊥ = cc in x)
given-not_sole state kind Retried modified handed asks = absurd (let x : ⊥ = cc in x)
given-not_sole state kind Deferred modified handed asks = absurd (let x : ⊥ = cc in x)
given-not_sole state kind Written modified handed asks = absurd (let x : ⊥ = cc in x)
given-not_sole state kind Replied modified handed asks = absurd (let x : ⊥ = cc in x)
given-not_sole state kind Failed modified handed asks = absurd (let x : ⊥ = cc in x)
given-not_sole state kind Upgraded modified handed asks = absurd (let x : ⊥ = cc in x)

pub sound_other : (v : AgentView) (number : ℕ) (request : Request) (outcome : Outcome)
    → owed_count v.buffers < 8 → IsSound v → IsSound (other_settled v number request outcome)
sound_other v number request outcome few s =
    let line = request.line in
    let state = line_state_by v line in
    let target = state_snooped state request.kind outcome in
    let lines = sets_lowered v.lines line target in
    let kept = sound-lowered v lines (lowered-to v.lines line target s.some_lines) s in
    elim (cases_Bool (is_giver v request outcome)) [
      | inr off ↦ rw off kept
      | inl on ↦
          let asks : asks_line (kind_asks request.kind) ≡ true =
          both_right (is_modified state && is_handed outcome) _ on in
          let modified : is_modified state ≡ true =
          both_left (is_modified state) (is_handed outcome) (both_left _ (asks_line (kind_asks request.kind)) on) in
          let handed : is_handed outcome ≡ true =
          both_right (is_modified state) (is_handed outcome)
          (both_left _ (asks_line (kind_asks request.kind)) on) in
          rw on
          (elim (cases_Bool (has_come v line)) [
            | inl come ↦
                rw (come, buffers_giving)
                (sound_pushed (record v { lines = lines }) number (copies v.lines line) few kept)
            | inr coming ↦ rw (coming, buffers_giving) (sound_promised (record v { lines = lines }) line number few
                (lowered-not_sole v.lines line target s.some_lines
                (given-not_sole state request.kind outcome modified handed asks)) kept)
          ])
    ]

-- its own request
sound_granted : (v : AgentView) (out : OwnRequest) (shared : Bool) → IsSound v
    → request_numbered out.number v.outs ≡ Some out → out.granted ≡ false → IsSound (granted_by v out shared)
sound_granted v out shared s found new =
    elim (cases_Bool (asks_line (kind_asks out.request.kind))) [
      | inl on ↦ rw (on, granted_by)
          (sound_won v out (granted (kind_asks out.request.kind) shared) no_bytes None s found new)
      | inr off ↦ rw (off, granted_by) s
    ]

sound_upgraded : (v : AgentView) (out : OwnRequest) → IsSound v → request_numbered out.number v.outs ≡ Some out
    → out.granted ≡ false → IsSound (upgraded_by v out)
sound_upgraded v out s found new =
    elim (cases_Bool (is_held (line_state_by v out.request.line))) [
      | inl on ↦ rw (on, upgraded_by)
          (sound_won v out Modified (copies v.lines out.request.line) (Some (copies v.lines out.request.line)) s
          found new)
      | inr off ↦ rw (off, upgraded_by) s
    ]

sound_written : (v : AgentView) (out : OwnRequest) → owed_count v.buffers < 8 → IsSound v → IsSound (written_by v out)
sound_written v out few s =
    sound_pushed (record v { lines = sets_without v.lines out.request.line }) out.number
    (copies v.lines out.request.line) few
    (sound-lowered v (sets_without v.lines out.request.line) (lowered-without v.lines out.request.line s.some_lines) s)

pub sound_settled : (v : AgentView) (out : OwnRequest) (shared : Bool) (outcome : Outcome)
    → owed_count v.buffers < 8 → IsSound v → request_numbered out.number v.outs ≡ Some out → out.granted ≡ false
    → IsSound (own_settled v out shared outcome)
sound_settled v out shared Granted few s found new = sound_granted v out shared s found new
sound_settled v out shared Handed few s found new = sound_granted v out true s found new
sound_settled v out shared Retried few s found new = s
sound_settled v out shared Deferred few s found new = s
sound_settled v out shared Written few s found new = sound_written v out few s
sound_settled v out shared Replied few s found new = sound_granted v out shared s found new
sound_settled v out shared Failed few s found new = s
sound_settled v out shared Upgraded few s found new = sound_upgraded v out s found new

pub sound_committed : (v : AgentView) (number : ℕ) (mine : Bool) (request : Request) (shared : Bool)
    (outcome : Outcome) → IsSound v → may_commit v number mine outcome ≡ true
    → IsSound (committed v number mine request shared outcome)
sound_committed v number false request shared outcome s may =
    sound_other v number request outcome (ltb-true (owed_count v.buffers) 8 may) s
sound_committed v number true request shared outcome s may = go (request_numbered number v.outs) refl
  where
    go : (found : Option OwnRequest) → request_numbered number v.outs ≡ found
        → IsSound (own_committed v number shared outcome)
    go None e = rw e s
    go (Some out) e =
        let few : owed_count v.buffers < 8 =
        ltb-true (owed_count v.buffers) 8
        (both_left (nat_lt (owed_count v.buffers) 8) (may_settle v number outcome) may) in
        let settles : may_settle v number outcome ≡ true =
        both_right (nat_lt (owed_count v.buffers) 8) (may_settle v number outcome) may in
        let new : out.granted ≡ false =
        not-true out.granted
        (both_left (not out.granted) (may_be_settled outcome (line_state_by v out.request.line))
        (rw e at settles)) in
        rw e (sound_settled v out shared outcome few s (found_own number v.outs out e) new)
