-- An agent that gets the line of its request stays sound, and it has room for it.
use Rattle.std.proofs.Common.{ℕ, ◌+◌, ◌<◌, ◌≡◌, ◌≢◌, ◌%◌, Bool, true, false, not, Option, Some, None, List, [], ◌∷◌}
use Rattle.std.proofs.Common.{length, length-append, refl, sym, ap, ◌∙◌, inl, inr, ⊎_elim, arith}
use Rattle.std.specs.Prelude.{◌==◌, ◌&&◌, ◌||◌, is_none, is_some, nat_lt}
use Rattle.std.specs.Bool.{beq}
use Rattle.std.specs.List.{list_all, slice_index_or}
use Rattle.std.proofs.lemmas.Bool.{cases_Bool, cases_eq, eq-eqb, eqb-true, ne_eqb, not-true}
use Rattle.std.proofs.lemmas.List.{length-map}
use Rattle.std.proofs.lemmas.List.Folds.{list_all-append, list_all-map}
use Rattle.fsb_cache.specs.declared.held.Held.{Held}
use Rattle.fsb_cache.specs.Sets.{CacheSets, Has, HasRoomFor, held_at, only_line, slot_of, states, with_slot}
use Rattle.fsb_line.specs.declared.state.Mesi.{Mesi}
use Rattle.fsb_line.specs.declared.state.Mesi.TheVariants.{Exclusive, Invalid, Modified, Shared}
use Rattle.fsb_line.specs.States.{is_held, is_modified, is_sole}
use Rattle.fsb_linebuf.specs.declared.entry.Fill.{Fill}
use Rattle.fsb_linebuf.specs.Buffers.{fill_on, is_fill_on, promise_on}
use Rattle.fsb_trace.specs.declared.outcome.Outcome.{Outcome}
use Rattle.fsb_trace.specs.declared.outcome.Outcome.TheVariants.{Written}
use Rattle.fsb_agent_view.specs.declared.want.OwnRequest.{OwnRequest}
use Rattle.fsb_agent_view.specs.AgentViews.{AgentView, line_state_by}
use Rattle.fsb_agent_view.specs.OwnRequests.{is_numbered, request_numbered, with_grant}
use Rattle.fsb_agent_view.specs.Snooping.{may_be_settled, may_commit, may_settle, owed_count}
use Rattle.fsb_agent_view.specs.Sound.{IsSound, is_in_set, is_lent, is_only, is_sound_request}
use Rattle.fsb_agent_view.proofs.Interface.{both, both_left, both_right, length-with_slot, lent-with_slot}
use Rattle.fsb_agent_view.proofs.Interface.{list_all-found, list_all-from_two, slot_of-other, slot_of-same}
use Rattle.fsb_agent.specs.Parts.{IsGrantable, won_by}
use Rattle.fsb_agent.proofs.Fills.{fill_on-push, fills_apart-push, none_on, promised_count-push}
use Rattle.fsb_agent.proofs.Requests.{apart-granted, found-passes, found_own, granted_count-fewer}
use Rattle.fsb_agent.proofs.Requests.{granted_count-granted, is_one_of, own_and_others}
use Rattle.fsb_agent.proofs.SlotMaps.{only_line-other}

-- what a request tells of its line
pub sound_out : (v : AgentView) (out : OwnRequest) → IsSound v → request_numbered out.number v.outs ≡ Some out
    → is_sound_request v.lines v.buffers.fills out ≡ true
sound_out v out s found = list_all-found (is_sound_request v.lines v.buffers.fills) (is_numbered out.number)
    v.outs out s.requests found

pub only_out : (v : AgentView) (out : OwnRequest) → IsSound v → request_numbered out.number v.outs ≡ Some out
    → is_only out.request.line (slot_of v.lines out.request.line) ≡ true
only_out v out s found =
    both_left _ (beq (is_some (fill_on out.request.line v.buffers.fills)) out.granted)
    (both_left _ (out.granted || is_none out.kept) (sound_out v out s found))

same_bool : (a b : Bool) → beq a b ≡ true → a ≡ b
same_bool true true h = refl
same_bool true false h = sym h
same_bool false true h = h
same_bool false false h = refl

pub fill_out : (v : AgentView) (out : OwnRequest) → IsSound v → request_numbered out.number v.outs ≡ Some out
    → is_some (fill_on out.request.line v.buffers.fills) ≡ out.granted
fill_out v out s found =
    same_bool _ _ (both_right (is_only out.request.line (slot_of v.lines out.request.line)) _
    (both_left _ (out.granted || is_none out.kept) (sound_out v out s found)))

pub none_some : {X : Type 0} (o : Option X) → is_some o ≡ false → o ≡ None
none_some None h = refl
none_some (Some x) h = absurd (let e : ⊥ = cc in e)

-- a set with only this line has room for it
pub room_only : (sets : CacheSets) (line : ℕ) → is_only line (slot_of sets line) ≡ true → HasRoomFor sets line
unfolding states held_at
room_only sets line only other one has =
    ⊎_elim
    (λ (same : other ≡ line). same)
    (λ (apart : other ≢ line).
    let none : only_line other (slot_of sets other) ≡ None =
    ap (λ k. only_line other (slice_index_or sets k None)) (sym one)
    ∙ only_line-other line other (slot_of sets line) only apart in
    absurd (let never : false ≡ true = rw none at has in (let x : ⊥ = cc in x)))
    (cases_eq other line)

pub grantable : (v : AgentView) (out : OwnRequest) → IsSound v → request_numbered out.number v.outs ≡ Some out
    → out.granted ≡ false → IsGrantable v out
grantable v out s found new = record {
  few = omega (arith, s.fills, granted_count-fewer out.number v.outs out found new, s.few_outs, s.few_ahead);
  free = none_some (fill_on out.request.line v.buffers.fills) (fill_out v out s found ∙ new);
  room = room_only v.lines out.request.line (only_out v out s found);
}

-- a request when the line of this one has come
won_request : (v : AgentView) (out other : OwnRequest) (state : Mesi) (bytes : List ℕ) (kept : Option (List ℕ))
    → 0 < length v.lines → is_one_of (length v.lines) out other ≡ true
    → is_sound_request v.lines v.buffers.fills other ≡ true
    → is_sound_request (won_by v out state bytes kept).lines (won_by v out state bytes kept).buffers.fills
    (with_grant out.number kept other) ≡ true
won_request v out other state bytes kept some one sound =
    let line = out.request.line in
    let n = length v.lines in
    let slot : Option Held = Some record { line = line; state = state; bytes = bytes } in
    let fill : Fill = record { line = line; number = out.number; promise = None } in
    elim (cases_Bool (is_numbered out.number other)) [
      | inl mine ↦
          let is : other.request.line ≡ line =
          eqb-true other.request.line line (both_left (other.request.line == line) _ (rw mine at one)) in
          let set : other.request.line % n ≡ line % n = ap (λ l. l % n) is in
          rw (
            mine,
            slot_of-same v.lines line other.request.line slot some set,
            fill_on-push other.request.line fill v.buffers.fills,
            is,
            eq-eqb line line refl,
          )
          (last (is_some (fill_on line v.buffers.fills)))
      | inr others ↦
          let set : not ((other.request.line % n) == (line % n)) ≡ true = rw others at one in
          let apart : other.request.line % n ≢ line % n =
          λ e. absurd (let never : false ≡ true = rw (eq-eqb _ _ e) at set in (let x : ⊥ = cc in x)) in
          let is_not : line ≢ other.request.line = λ e. apart (ap (λ l. l % n) (sym e)) in
          rw (
            others,
            slot_of-other v.lines line other.request.line slot apart,
            fill_on-push other.request.line fill v.buffers.fills,
            ne_eqb line other.request.line is_not,
          )
          (or_false (is_only other.request.line (slot_of v.lines other.request.line))
          (is_some (fill_on other.request.line v.buffers.fills)) other.granted
          (other.granted || is_none other.kept) sound)
    ]
  where
    last : (b : Bool) → ((true && beq (b || true) true) && (true || is_none kept)) ≡ true
    last true = refl
    last false = refl

    or_false : (a b g k : Bool) → ((a && beq b g) && k) ≡ true → ((a && beq (b || false) g) && k) ≡ true
    or_false a true g k h = h
    or_false a false g k h = h

-- what the sets have, where one line's set has that line
in_set-won : (sets : CacheSets) (line other : ℕ) (state : Mesi) (bytes : List ℕ) → 0 < length sets
    → is_in_set (length sets) other (slot_of sets other) ≡ true
    → is_in_set (length (with_slot sets line (Some record { line = line; state = state; bytes = bytes }))) other
    (slot_of (with_slot sets line (Some record { line = line; state = state; bytes = bytes })) other) ≡ true
in_set-won sets line other state bytes some inside =
    let slot : Option Held = Some record { line = line; state = state; bytes = bytes } in
    ⊎_elim
    (λ (same : other % length sets ≡ line % length sets).
    rw (slot_of-same sets line other slot some same, length-with_slot sets line slot)
    (eq-eqb (line % length sets) (other % length sets) (sym same)))
    (λ (apart : other % length sets ≢ line % length sets).
    rw (slot_of-other sets line other slot apart, length-with_slot sets line slot) inside)
    (cases_eq (other % length sets) (line % length sets))

pub sound_won : (v : AgentView) (out : OwnRequest) (state : Mesi) (bytes : List ℕ) (kept : Option (List ℕ))
    → IsSound v → request_numbered out.number v.outs ≡ Some out → out.granted ≡ false
    → IsSound (won_by v out state bytes kept)
sound_won v out state bytes kept s found new =
    let line = out.request.line in
    let w = won_by v out state bytes kept in
    let slot : Option Held = Some record { line = line; state = state; bytes = bytes } in
    let fill : Fill = record { line = line; number = out.number; promise = None } in
    let count : length w.lines ≡ length v.lines = length-with_slot v.lines line slot in
    let none : fill_on line v.buffers.fills ≡ None =
    none_some (fill_on line v.buffers.fills) (fill_out v out s found ∙ new) in
    let gets : is_only line slot ≡ true = eq-eqb line line refl in
    record {
      number = s.number;
      some_lines = rw count s.some_lines;
      in_sets = λ other. in_set-won v.lines line other state bytes s.some_lines (s.in_sets other);
      script = rw count s.script;
      some_ahead = s.some_ahead;
      few_ahead = s.few_ahead;
      profile = s.profile;
      placed = s.placed;
      few_outs = omega (arith, length-map v.outs (with_grant out.number kept), s.few_outs);
      apart = rw count (apart-granted (length v.lines) out.number kept v.outs s.apart);
      requests = list_all-map (is_sound_request w.lines w.buffers.fills) (with_grant out.number kept) v.outs
          ∙ list_all-from_two (is_one_of (length v.lines) out) (is_sound_request v.lines v.buffers.fills)
          (λ o. is_sound_request w.lines w.buffers.fills (with_grant out.number kept o)) v.outs
          (λ o h k. won_request v out o state bytes kept s.some_lines h k)
          (own_and_others (length v.lines) v.outs out s.apart found) s.requests;
      fills = length-append v.buffers.fills (fill ∷ []) ∙ ap (λ n. n + 1) s.fills
          ∙ sym (granted_count-granted (length v.lines) kept v.outs out s.apart found new);
      one_a_line = fills_apart-push fill v.buffers.fills s.one_a_line none;
      lent = list_all-append (is_lent w.lines) v.buffers.fills (fill ∷ [])
          ∙ both (list_all (is_lent w.lines) v.buffers.fills) _
          (list_all-from_two (λ f. not (f.line == line)) (is_lent v.lines) (is_lent w.lines) v.buffers.fills
          (λ f h k. lent-with_slot v.lines line slot f s.some_lines gets
          (λ e. absurd (let never : false ≡ true = rw (eq-eqb f.line line e) at h in (let x : ⊥ = cc in x))) k)
          (none_on line v.buffers.fills none) s.lent) refl;
      few_owed = omega (arith, promised_count-push line out.number v.buffers.fills, s.few_owed);
    }

-- its own request may be granted, at a snoop end that the agent may see
pub grantable-own : (v : AgentView) (number : ℕ) (outcome : Outcome) (out : OwnRequest) → IsSound v
    → may_commit v number true outcome ≡ true → request_numbered number v.outs ≡ Some out → IsGrantable v out
grantable-own v number outcome out s may found =
    let settles : may_settle v number outcome ≡ true =
    both_right (nat_lt (owed_count v.buffers) 8) (may_settle v number outcome) may in
    let new : out.granted ≡ false =
    not-true out.granted
    (both_left (not out.granted) (may_be_settled outcome (line_state_by v out.request.line))
    (rw found at settles)) in
    grantable v out s (found_own number v.outs out found) new

-- and what it writes back is held
pub held-written : (v : AgentView) (number : ℕ) (out : OwnRequest) → may_commit v number true Written ≡ true
    → request_numbered number v.outs ≡ Some out → Has v.lines out.request.line
held-written v number out may found =
    let settles : may_settle v number Written ≡ true =
    both_right (nat_lt (owed_count v.buffers) 8) (may_settle v number Written) may in
    held (states v.lines out.request.line)
    (both_right (not out.granted) (is_modified (states v.lines out.request.line)) (rw found at settles))
  where
    held : (state : Mesi) → is_modified state ≡ true → is_held state ≡ true
    held Invalid never = never
    held Shared is = refl
    held Exclusive is = refl
    held Modified is = refl

-- what is held alone is promised to nobody
pub unpromised : (v : AgentView) (line : ℕ) → IsSound v → is_modified (states v.lines line) ≡ true
    → promise_on line v.buffers.fills ≡ None
unpromised v line s modified = go (fill_on line v.buffers.fills) refl
  where
    sole : (state : Mesi) → is_modified state ≡ true → is_sole state ≡ true
    sole Invalid never = never
    sole Shared never = never
    sole Exclusive is = refl
    sole Modified is = refl

    free : (promise : Option ℕ) (alone : Bool) → alone ≡ true → (is_none promise || not alone) ≡ true → promise ≡ None
    free None alone is lent = refl
    free (Some to) true is lent = absurd (let x : ⊥ = cc in x)
    free (Some to) false is lent = absurd (let x : ⊥ = cc in x)

    go : (found : Option Fill) → fill_on line v.buffers.fills ≡ found → promise_on line v.buffers.fills ≡ None
    go None e = rw e refl
    go (Some fill) e =
        let lent : is_lent v.lines fill ≡ true =
        list_all-found (is_lent v.lines) (is_fill_on line) v.buffers.fills fill s.lent e in
        let is : fill.line ≡ line = eqb-true fill.line line (found-passes (is_fill_on line) v.buffers.fills fill e) in
        rw e (free fill.promise (is_sole (states v.lines fill.line)) (ap (λ l. is_sole (states v.lines l)) is
        ∙ sole (states v.lines line) modified) lent)
