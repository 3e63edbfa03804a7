-- An agent that sends its want stays sound.
use Rattle.std.proofs.Common.{ℕ, ◌<◌, ◌≡◌, ◌≢◌, ◌%◌, Bool, true, false, not, Option, Some, None, List, [], ◌∷◌, ◌++◌}
use Rattle.std.proofs.Common.{length, length-append, refl, sym, ap, subst, ◌∙◌, inl, inr, ⊎_elim, arith}
use Rattle.std.specs.Prelude.{◌==◌, ◌&&◌, ◌||◌, is_none, is_some, nat_le}
use Rattle.std.specs.Bool.{beq}
use Rattle.std.specs.List.{list_all, list_any, slice_index_or}
use Rattle.std.specs.Option.{option_map}
use Rattle.std.proofs.lemmas.Bool.{cases_Bool, cases_eq, eq-eqb, eqb-true, leb-false, ne_eqb, not-true, or_parts}
use Rattle.std.proofs.lemmas.List.Folds.{list_all-append}
use Rattle.fsb_cache.specs.declared.held.Held.{Held}
use Rattle.fsb_cache.specs.Sets.{CacheSets, held_at, is_one_set, sets_without, slot_of, states, with_slot}
use Rattle.fsb_line.specs.States.{is_modified}
use Rattle.fsb_linebuf.specs.declared.entry.Fill.{Fill}
use Rattle.fsb_linebuf.specs.Buffers.{fill_on}
use Rattle.fsb_timely.specs.Scripts.{Need, needs_from}
use Rattle.fsb_timely.specs.Wants.{request_of_kind, write_back_of}
use Rattle.fsb_agent_view.specs.declared.want.OwnRequest.{OwnRequest}
use Rattle.fsb_agent_view.specs.declared.want.Want.{Want}
use Rattle.fsb_agent_view.specs.AgentViews.{AgentView, is_idle_by, is_met_by}
use Rattle.fsb_agent_view.specs.OwnRequests.{is_numbered, new_request, request_numbered}
use Rattle.fsb_agent_view.specs.Sound.{IsSound, is_apart_from, is_in_set, is_only, is_sound_request}
use Rattle.fsb_agent_view.specs.Wanting.{is_asked_by, is_missing_by, is_silent_by, is_taken_by, may_send, missing_by}
use Rattle.fsb_agent_view.specs.Wanting.{sent, sets_cleared_for, want_by, want_for_by, window_by}
use Rattle.fsb_agent_view.proofs.Interface.{both, both_left, both_right, length-with_slot, list_all-from}
use Rattle.fsb_agent_view.proofs.Interface.{list_all-from_two, slot_of-other, slot_of-same}
use Rattle.fsb_agent.proofs.Lowered.{IsLowered, sound-lowered}
use Rattle.fsb_agent.proofs.Requests.{apart-push, found-passes, granted_count-push, no_fill, none-passes}
use Rattle.fsb_agent.proofs.SlotMaps.{held_at-apart, held_at-same}

pub lowered-self : (sets : CacheSets) → IsLowered sets sets
lowered-self sets = record { count = refl; residents = λ line. inr refl; sole = λ line h. h }

-- a set that is emptied
pub lowered-emptied : (sets : CacheSets) (line : ℕ) → 0 < length sets → IsLowered sets (with_slot sets line None)
unfolding states
lowered-emptied sets line some = record {
  count = length-with_slot sets line None;
  residents = λ other. ⊎_elim
      (λ (same : other % length sets ≡ line % length sets). inl
      (ap (option_map (λ held. held.line)) (slot_of-same sets line other None some same)))
      (λ (apart : other % length sets ≢ line % length sets). inr
      (ap (option_map (λ held. held.line)) (slot_of-other sets line other None apart)))
      (cases_eq (other % length sets) (line % length sets));
  sole = λ other h. ⊎_elim
      (λ (same : other % length sets ≡ line % length sets).
      absurd (let never : false ≡ true = rw (held_at-same sets line other None some same) at h in
      (let x : ⊥ = cc in x)))
      (λ (apart : other % length sets ≢ line % length sets). rw (held_at-apart sets line other None apart) at h)
      (cases_eq (other % length sets) (line % length sets));
}

pub lowered-without : (sets : CacheSets) (line : ℕ) → 0 < length sets → IsLowered sets (sets_without sets line)
lowered-without sets line some =
    elim (cases_Bool (is_some (held_at sets line))) [
      | inl on ↦ rw on (lowered-emptied sets line some)
      | inr off ↦ rw off (lowered-self sets)
    ]

-- what makes room for a line
pub lowered-cleared : (sets : CacheSets) (line : ℕ) → 0 < length sets → IsLowered sets (sets_cleared_for sets line)
lowered-cleared sets line some = go (slot_of sets line) refl
  where
    go : (slot : Option Held) → slot_of sets line ≡ slot → IsLowered sets (sets_cleared_for sets line)
    go None e = rw (e, sets_cleared_for) (lowered-self sets)
    go (Some held) e =
        elim (cases_Bool (held.line == line)) [
          | inl on ↦ rw (e, on, sets_cleared_for) (lowered-self sets)
          | inr off ↦ rw (e, off, sets_cleared_for) (lowered-without sets held.line some)
        ]

-- there is room then
pub only-cleared : (sets : CacheSets) (line : ℕ) → 0 < length sets
    → is_in_set (length sets) line (slot_of sets line) ≡ true
    → is_only line (slot_of (sets_cleared_for sets line) line) ≡ true
unfolding held_at
only-cleared sets line some inside = go (slot_of sets line) refl
  where
    go : (slot : Option Held) → slot_of sets line ≡ slot
        → is_only line (slot_of (sets_cleared_for sets line) line) ≡ true
    go None e =
        let same : sets_cleared_for sets line ≡ sets = rw (e, sets_cleared_for) refl in
        rw (same, e) refl
    go (Some held) e =
        elim (cases_Bool (held.line == line)) [
          | inl on ↦
              let same : sets_cleared_for sets line ≡ sets = rw (e, on, sets_cleared_for) refl in
              rw (same, e) on
          | inr off ↦
              let here : held.line % length sets ≡ line % length sets = eqb-true _ _ (rw e at inside) in
              let slot : slot_of sets held.line ≡ Some held = ap (λ k. slice_index_or sets k None) here ∙ e in
              let found : is_some (held_at sets held.line) ≡ true = rw (slot, eq-eqb held.line held.line refl) refl in
              let after : slot_of (sets_without sets held.line) line ≡ None =
              rw found (slot_of-same sets held.line line None some (sym here)) in
              let cleared : sets_cleared_for sets line ≡ sets_without sets held.line =
              rw (e, off, sets_cleared_for) refl in
              rw (cleared, after) refl
        ]

-- the line of a want has the set of the needed one
pub want_set : (v : AgentView) (need : Need) → IsSound v
    → (want_for_by v need).request.line % length v.lines ≡ need.line % length v.lines
unfolding request_of_kind write_back_of
want_set v need s = go (slot_of v.lines need.line) refl
  where
    go : (slot : Option Held) → slot_of v.lines need.line ≡ slot
        → (want_for_by v need).request.line % length v.lines ≡ need.line % length v.lines
    go None e = rw (e, want_for_by) refl
    go (Some held) e =
        elim (cases_Bool (not (held.line == need.line) && is_modified held.state)) [
          | inl on ↦ rw (e, on, want_for_by)
              (eqb-true (held.line % length v.lines) (need.line % length v.lines) (rw e at (s.in_sets need.line)))
          | inr off ↦ rw (e, off, want_for_by) refl
        ]

-- what a want says of the requests before it
pub record IsNewLine (v : AgentView) (line : ℕ) : Type 0 where
  pub room : length v.outs < v.ahead
  pub apart : list_all (λ out. not ((out.request.line % length v.lines) == (line % length v.lines))) v.outs ≡ true

none_any : {X : Type 0} (test : X → Bool) (xs : List X) → list_any test xs ≡ false
    → list_all (λ x. not (test x)) xs ≡ true
none_any test [] none = refl
none_any test (x ∷ xs) none = let parts = or_parts (test x) (list_any test xs) none in
    rw parts.0 (none_any test xs parts.1)

flipped : (a b : ℕ) → not (a == b) ≡ true → not (b == a) ≡ true
flipped a b h =
    rw (ne_eqb b a (λ e. absurd (let never : false ≡ true = rw (eq-eqb a b (sym e)) at h in
    (let x : ⊥ = cc in x)))) refl

new-missing : (v : AgentView) (need : Need) → IsSound v → is_missing_by v need ≡ true
    → list_all (λ out. not ((out.request.line % length v.lines)
    == ((want_for_by v need).request.line % length v.lines))) v.outs ≡ true
new-missing v need s missing =
    let taken : is_taken_by v need.earlier need.line ≡ false =
    not-true _ (both_right (not (is_met_by v need) && not (is_asked_by v need.line)) _ missing) in
    let none : list_any (λ out. is_one_set v.lines need.line out.request.line) v.outs ≡ false =
    (or_parts _ (list_any (is_one_set v.lines need.line) need.earlier) taken).0 in
    rw (want_set v need s)
    (list_all-from (λ out. not ((need.line % length v.lines) == (out.request.line % length v.lines)))
    (λ out. not ((out.request.line % length v.lines) == (need.line % length v.lines))) v.outs
    (λ out h. flipped (need.line % length v.lines) (out.request.line % length v.lines) h)
    (none_any (λ out. is_one_set v.lines need.line out.request.line) v.outs none))

pub new-want : (v : AgentView) (clock : ℕ) (want : Want) → IsSound v → want_by v clock ≡ Some want
    → IsNewLine v want.request.line
new-want v clock want s wants =
    elim (cases_Bool (is_silent_by v clock)) [
      | inl on ↦ absurd (let never : None ≡ Some want = rw (on, want_by) at wants in (let h : ⊥ = cc in h))
      | inr off ↦ record {
        room = leb-false v.ahead (length v.outs) (or_parts (is_idle_by v clock) (nat_le v.ahead (length v.outs)) off).1;
        apart = go (missing_by v clock) refl (rw (off, want_by) at wants);
      }
    ]
  where
    go : (missing : Option Need) → missing_by v clock ≡ missing
        → option_map (want_for_by v) (missing_by v clock) ≡ Some want
        → list_all (λ out. not ((out.request.line % length v.lines) == (want.request.line % length v.lines)))
        v.outs ≡ true
    go None e is = absurd (let never : None ≡ Some want = rw e at is in (let h : ⊥ = cc in h))
    go (Some need) e is =
        let same : Some (want_for_by v need) ≡ Some want = rw e at is in
        let at : want_for_by v need ≡ want = cc in
        subst (λ (w : Want). list_all
        (λ out. not ((out.request.line % length v.lines) == (w.request.line % length v.lines))) v.outs ≡ true) at
        (new-missing v need s (found-passes (is_missing_by v) (needs_from [] (window_by v clock)) need e))

-- each granted request has a fill
filled : (lines : CacheSets) (fills : List Fill) (out : OwnRequest) → is_sound_request lines fills out ≡ true
    → (not out.granted || is_some (fill_on out.request.line fills)) ≡ true
filled lines fills out sound = go out.granted (is_some (fill_on out.request.line fills))
    (both_right _ (beq (is_some (fill_on out.request.line fills)) out.granted) (both_left _ _ sound))
  where
    go : (granted some : Bool) → beq some granted ≡ true → (not granted || some) ≡ true
    go true true e = refl
    go true false e = e
    go false some e = refl

pub sound-sent : (v : AgentView) (want : Want) (number : ℕ) → IsSound v → IsNewLine v want.request.line
    → request_numbered number v.outs ≡ None
    → IsSound (record v {
      lines = sets_cleared_for v.lines want.request.line;
      outs = v.outs ++ new_request number want.request ∷ [];
    })
sound-sent v want number s new free =
    let line = want.request.line in
    let out = new_request number want.request in
    let lines = sets_cleared_for v.lines line in
    let less : IsLowered v.lines lines = lowered-cleared v.lines line s.some_lines in
    let kept = sound-lowered v lines less s in
    let other : list_all (λ o. not (o.request.line == line)) v.outs ≡ true =
    list_all-from (λ o. not ((o.request.line % length v.lines) == (line % length v.lines)))
    (λ o. not (o.request.line == line)) v.outs
    (λ o h. ap not
    (ne_eqb o.request.line line
    (λ same. absurd (let never : false ≡ true =
    rw (eq-eqb (o.request.line % length v.lines) (line % length v.lines)
    (ap (λ l. l % length v.lines) same)) at h in (let x : ⊥ = cc in x))))) new.apart in
    let none : fill_on line v.buffers.fills ≡ None =
    no_fill (length v.lines) v.outs v.buffers.fills line s.apart
    (list_all-from (is_sound_request v.lines v.buffers.fills)
    (λ o. not o.granted || is_some (fill_on o.request.line v.buffers.fills)) v.outs
    (λ o h. filled v.lines v.buffers.fills o h) s.requests)
    other (omega (arith, s.fills)) in
    let mine : is_sound_request lines v.buffers.fills out ≡ true =
    both (is_only line (slot_of lines line) && beq (is_some (fill_on line v.buffers.fills)) false) true
    (both (is_only line (slot_of lines line)) _ (only-cleared v.lines line s.some_lines (s.in_sets line))
    (rw none refl)) refl in
    record {
      number = s.number;
      some_lines = kept.some_lines;
      in_sets = kept.in_sets;
      script = kept.script;
      some_ahead = s.some_ahead;
      few_ahead = s.few_ahead;
      profile = s.profile;
      placed = s.placed;
      few_outs = omega (arith, length-append v.outs (out ∷ []), new.room);
      apart = rw less.count
          (apart-push (length v.lines) v.outs out s.apart
          (list_all-from_two (λ o. not (is_numbered number o))
          (λ o. not ((o.request.line % length v.lines) == (line % length v.lines)))
          (λ o. is_apart_from (length v.lines) o out) v.outs
          (λ o h k. both (not (o.number == number)) _ h k) (none-passes (is_numbered number) v.outs free) new.apart));
      requests = list_all-append (is_sound_request lines v.buffers.fills) v.outs (out ∷ [])
          ∙ both (list_all (is_sound_request lines v.buffers.fills) v.outs) _ kept.requests
          (both (is_sound_request lines v.buffers.fills out) true mine refl);
      fills = s.fills ∙ sym (granted_count-push v.outs out refl);
      one_a_line = s.one_a_line;
      lent = kept.lent;
      few_owed = s.few_owed;
    }

pub sound_sent : (v : AgentView) (clock number : ℕ) → IsSound v → may_send v clock number ≡ true
    → IsSound (sent v clock number)
sound_sent v clock number s may = go (want_by v clock) refl
  where
    free : (found : Option OwnRequest) → is_none found ≡ true → found ≡ None
    free None h = refl
    free (Some out) h = absurd (let x : ⊥ = cc in x)

    go : (want : Option Want) → want_by v clock ≡ want → IsSound (sent v clock number)
    go None e = rw (e, sent) s
    go (Some want) e =
        rw (e, sent) (sound-sent v want number s (new-want v clock want s e)
        (free (request_numbered number v.outs) (both_right (is_some (want_by v clock)) _ may)))
