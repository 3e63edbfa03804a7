-- An agent whose line comes stays sound.
use Rattle.std.proofs.Common.{ℕ, ◌+◌, ◌<◌, ◌≡◌, ◌≢◌, ◌%◌, Bool, true, false, cond, not, Option, Some, None, List, []}
use Rattle.std.proofs.Common.{◌∷◌, length, length-append, refl, sym, ap, subst, ◌∙◌, inl, inr, arith}
use Rattle.std.specs.Prelude.{◌==◌, ◌&&◌, ◌||◌, is_none, is_some}
use Rattle.std.specs.List.{list_all, list_any}
use Rattle.std.specs.Option.{option_map_or}
use Rattle.std.proofs.lemmas.Bool.{cases_Bool, eq-eqb, eqb-true}
use Rattle.fsb_cache.specs.Sets.{CacheSets, copies, sets_filled, slot_of, states}
use Rattle.fsb_line.specs.declared.state.Mesi.{Mesi}
use Rattle.fsb_line.specs.declared.state.Mesi.TheVariants.{Modified}
use Rattle.fsb_line.specs.States.{kind_owns}
use Rattle.fsb_linebuf.specs.declared.entry.Fill.{Fill}
use Rattle.fsb_linebuf.specs.declared.entry.Push.{Push}
use Rattle.fsb_linebuf.specs.Buffers.{fill_on, fills_without, is_fill_on, promise_on, pushed_to}
use Rattle.fsb_timely.specs.Scripts.{Need, needs_of}
use Rattle.fsb_agent_view.specs.declared.want.Finished.{Finished}
use Rattle.fsb_agent_view.specs.declared.want.OwnRequest.{OwnRequest}
use Rattle.fsb_agent_view.specs.AgentViews.{AgentView, has_come, line_state_by, may_complete, next_item_by}
use Rattle.fsb_agent_view.specs.Arriving.{are_met_with, arrived_for, ended_for, is_arrival_by, is_brought_by}
use Rattle.fsb_agent_view.specs.Arriving.{is_there_by, landed, line_arrived, may_arrive, may_end_upgrade, met_by}
use Rattle.fsb_agent_view.specs.Arriving.{upgrade_ended, with_bytes}
use Rattle.fsb_agent_view.specs.Completing.{completed_by, hand_of, next_steps}
use Rattle.fsb_agent_view.specs.Idling.{idle_from, place_from}
use Rattle.fsb_agent_view.specs.OwnRequests.{is_numbered, request_numbered, requests_without}
use Rattle.fsb_agent_view.specs.Serving.{hand_after_steps}
use Rattle.fsb_agent_view.specs.Snooping.{kind_asks}
use Rattle.fsb_agent_view.specs.Sound.{IsPlaced, IsSound, are_fills_apart, is_lent, is_only, is_sound_request}
use Rattle.fsb_agent_view.proofs.Interface.{apart-without, both_left, both_right, granted-without, length-with_slot}
use Rattle.fsb_agent_view.proofs.Interface.{length-without, length-without-found, list_all-from, list_all-from_two}
use Rattle.fsb_agent_view.proofs.Interface.{list_all-without, sound_given_up, without_first-cons}
use Rattle.fsb_agent.proofs.Fills.{fill_on-without, fills_apart-without, promised_count-without}
use Rattle.fsb_agent.proofs.Performing.{holds_need}
use Rattle.fsb_agent.proofs.Requests.{found_own, others_apart}
use Rattle.fsb_agent.proofs.Settled.{IsResettled, resettled, state-filled, state-filled_other}
use Rattle.fsb_agent.proofs.SlotMaps.{is_only-resident}
use Rattle.fsb_agent.proofs.SoundPerforming.{IsMetOn, alike-next, item_of, placed-completed}
use Rattle.fsb_agent.proofs.SoundWinning.{fill_out, only_out, sound_out}
use Rattle.fsb_agent.proofs.Stored.{IsAlike, alike-self}

-- what is needed is held, once the line has come
met-there : (v : AgentView) (line : ℕ) (bytes : List ℕ) (need : Need) → 0 < length v.lines
    → is_only line (slot_of v.lines line) ≡ true → is_there_by v line need ≡ true
    → holds_need (sets_filled v.lines line Modified bytes) need ≡ true
met-there v line bytes need some only there =
    elim (cases_Bool (need.line == line)) [
      | inl on ↦
          let is : need.line ≡ line = eqb-true need.line line on in
          let state : states (sets_filled v.lines line Modified bytes) need.line ≡ Modified =
          ap (states (sets_filled v.lines line Modified bytes)) is
          ∙ state-filled v.lines line Modified bytes some in
          rw state (last (not need.alone))
      | inr off ↦
          let apart : need.line ≢ line = λ e. absurd (let never : true ≡ false = sym (eq-eqb need.line line e)
          ∙ off in (let h : ⊥ = cc in h)) in
          rw (state-filled_other v.lines line need.line Modified bytes some only apart)
          (both_left (holds_need v.lines need) (has_come v need.line) (rw off at there))
    ]
  where
    last : (b : Bool) → (true && (b || true)) ≡ true
    last true = refl
    last false = refl

pub met-arrival : (v : AgentView) (clock : ℕ) (out : OwnRequest) (bytes : List ℕ) → IsSound v
    → request_numbered out.number v.outs ≡ Some out → is_arrival_by v clock out ≡ true
    → IsMetOn (with_bytes v out.request.line bytes) (with_bytes v out.request.line bytes).lines
met-arrival v clock out bytes s found arrival =
    let line = out.request.line in
    let owns = kind_owns (kind_asks out.request.kind) in
    let next = item_of (λ item. are_met_with v line owns (needs_of item)) (next_item_by v)
    (both_right (may_complete v clock) _ arrival) in
    record {
      item = next.0;
      there = next.1;
      met = list_all-from (is_there_by v line) (holds_need (sets_filled v.lines line Modified bytes)) (needs_of next.0)
          (λ need h. met-there v line bytes need s.some_lines (only_out v out s found) h)
          (both_right (list_any (is_brought_by line owns) (needs_of next.0)) _ next.2);
    }

-- no other fill is of the line that came
without-none : (line : ℕ) (fills : List Fill) → are_fills_apart fills ≡ true
    → list_all (λ f. not (f.line == line)) (fills_without line fills) ≡ true
without-none line [] apart = refl
without-none line (f ∷ fills) apart =
    let first = both_left (list_all (λ later. not (later.line == f.line)) fills) (are_fills_apart fills) apart in
    let others = both_right (list_all (λ later. not (later.line == f.line)) fills) (are_fills_apart fills) apart in
    rw (without_first-cons (is_fill_on line) f fills)
    (elim (cases_Bool (f.line == line)) [
      | inl on ↦ let is : f.line ≡ line = eqb-true f.line line on in
          rw on (subst (λ (l : ℕ). list_all (λ later. not (later.line == l)) fills ≡ true) is first)
      | inr off ↦ rw off (rw off (without-none line fills others))
    ])

not_equal : (a b : ℕ) → not (a == b) ≡ true → a ≢ b
not_equal a b h e = absurd (let never : false ≡ true = rw (eq-eqb a b e) at h in (let x : ⊥ = cc in x))

-- another request, and another fill
request-resettled : (v : AgentView) (after : CacheSets) (line : ℕ) (other : OwnRequest)
    → IsResettled v.lines after line → not ((other.request.line % length v.lines) == (line % length v.lines))
    ≡ true → is_sound_request v.lines v.buffers.fills other ≡ true
    → is_sound_request after (fills_without line v.buffers.fills) other ≡ true
request-resettled v after line other r apart sound =
    let set : other.request.line % length v.lines ≢ line % length v.lines = not_equal _ _ apart in
    let only : is_only other.request.line (slot_of after other.request.line)
    ≡ is_only other.request.line (slot_of v.lines other.request.line) =
    is_only-resident other.request.line (slot_of after other.request.line)
    ∙ ap (λ o. option_map_or (λ x. x == other.request.line) o true) (r.residents other.request.line set)
    ∙ sym (is_only-resident other.request.line (slot_of v.lines other.request.line)) in
    rw (only, fill_on-without other.request.line line v.buffers.fills (λ e. set (ap (λ l. l % length v.lines) e))) sound

lent-resettled : (before after : CacheSets) (line : ℕ) (fill : Fill) → IsResettled before after line
    → not (fill.line == line) ≡ true → is_lent before fill ≡ true → is_lent after fill ≡ true
lent-resettled before after line fill r apart lent = rw (r.sole fill.line (not_equal fill.line line apart)) lent

-- what was promised is owed
length-pushed : (to : Option ℕ) (bytes : List ℕ) (pushes : List Push)
    → length (pushed_to to bytes pushes) ≡ length pushes + cond (is_some to) 1 0
length-pushed None bytes pushes = omega arith
length-pushed (Some to) bytes pushes = omega (arith, length-append pushes (record { number = to; bytes = bytes } ∷ []))

fill_found : (line : ℕ) (fills : List Fill) → is_some (fill_on line fills) ≡ true
    → length (fills_without line fills) + 1 ≡ length fills
fill_found line fills some = go (fill_on line fills) refl some
  where
    go : (found : Option Fill) → fill_on line fills ≡ found → is_some found ≡ true
        → length (fills_without line fills) + 1 ≡ length fills
    go None e never = absurd (let h : ⊥ = cc in h)
    go (Some fill) e is = length-without-found (is_fill_on line) fills fill e

pub sound_landed : (v : AgentView) (out : OwnRequest) (lines : CacheSets) (place idle_to last : ℕ)
    (finished : Option Finished) (bytes : List ℕ) (state : Mesi) → IsSound v
    → request_numbered out.number v.outs ≡ Some out → out.granted ≡ true
    → IsAlike (sets_filled v.lines out.request.line Modified bytes) lines → IsPlaced v.items place finished
    → IsSound (landed (record v {
      lines = lines;
      place = place;
      idle_to = idle_to;
      finished = finished;
      last = last;
    }) out state)
sound_landed v out lines place idle_to last finished bytes state s found granted alike placed =
    let line = out.request.line in
    let fills = v.buffers.fills in
    let r = resettled v.lines lines line bytes state s.some_lines (only_out v out s found) s.in_sets alike in
    let has_fill : is_some (fill_on line fills) ≡ true = fill_out v out s found ∙ granted in
    let fewer : length (fills_without line fills) + 1 ≡ length fills = fill_found line fills has_fill in
    let count = granted-without (is_numbered out.number) v.outs out found in
    let one : cond {A = ℕ} out.granted 1 0 ≡ 1 = rw granted refl in
    record {
      number = s.number;
      some_lines = rw r.count s.some_lines;
      in_sets = r.in_sets;
      script = rw r.count s.script;
      some_ahead = s.some_ahead;
      few_ahead = s.few_ahead;
      profile = s.profile;
      placed = placed;
      few_outs = omega (arith, length-without (is_numbered out.number) v.outs, s.few_outs);
      apart = rw r.count (apart-without (length v.lines) (is_numbered out.number) v.outs s.apart);
      requests = list_all-from_two (λ o. not ((o.request.line % length v.lines) == (line % length v.lines)))
          (is_sound_request v.lines fills) (is_sound_request _ (fills_without line fills))
          (requests_without out.number v.outs)
          (λ o h k. request-resettled v _ line o r h k) (others_apart (length v.lines) v.outs out s.apart found)
          (list_all-without (is_sound_request v.lines fills) (is_numbered out.number) v.outs s.requests);
      fills = omega (arith, fewer, count, one, s.fills);
      one_a_line = fills_apart-without (is_fill_on line) fills s.one_a_line;
      lent = list_all-from_two (λ f. not (f.line == line)) (is_lent v.lines) (is_lent _) (fills_without line fills)
          (λ f h k. lent-resettled v.lines _ line f r h k) (without-none line fills s.one_a_line)
          (list_all-without (is_lent v.lines) (is_fill_on line) fills s.lent);
      few_owed = omega (
        arith,
        length-pushed (promise_on line fills) (copies lines line) v.buffers.pushes,
        promised_count-without line fills,
        s.few_owed,
      );
    }

pub sound_arrived_for : (v : AgentView) (clock : ℕ) (out : OwnRequest) (bytes : List ℕ) → IsSound v
    → request_numbered out.number v.outs ≡ Some out → out.granted ≡ true → IsSound (arrived_for v clock out bytes)
sound_arrived_for v clock out bytes s found granted =
    let line = out.request.line in
    let there = with_bytes v line bytes in
    elim (cases_Bool (is_arrival_by v clock out)) [
      | inl on ↦
          let some : 0 < length there.lines =
          rw (length-with_slot v.lines line (Some record { line = line; state = Modified; bytes = bytes }))
          s.some_lines in
          let hand = hand_after_steps (hand_of there) (next_steps there) in
          let met : met_by v clock out bytes ≡ completed_by there clock = rw (on, met_by) refl in
          subst (λ (w : AgentView). IsSound (landed w out (line_state_by v line))) (sym met)
          (sound_landed v out hand.lines (place_from v.items (v.place + 1))
          (clock + 1 + idle_from v.items (v.place + 1)) hand.last
          (Some record { clock = clock; item = v.place }) bytes (line_state_by v line) s found granted
          (alike-next there some (met-arrival v clock out bytes s found on)) (placed-completed v clock s.placed))
      | inr off ↦
          let met : met_by v clock out bytes ≡ there = rw (off, met_by) refl in
          subst (λ (w : AgentView). IsSound (landed w out (line_state_by v line))) (sym met)
          (sound_landed v out there.lines v.place v.idle_to v.last v.finished bytes (line_state_by v line) s
          found granted (alike-self there.lines) s.placed)
    ]

pub sound_arrived : (v : AgentView) (clock number : ℕ) (bytes : List ℕ) → IsSound v → may_arrive v number ≡ true
    → IsSound (line_arrived v clock number bytes)
sound_arrived v clock number bytes s may = go (request_numbered number v.outs) refl
  where
    go : (found : Option OwnRequest) → request_numbered number v.outs ≡ found
        → IsSound (line_arrived v clock number bytes)
    go None e = rw e s
    go (Some out) e = rw e (sound_arrived_for v clock out bytes s (found_own number v.outs out e) (rw e at may))

-- an upgrade keeps bytes where it was won
pub kept_granted : (v : AgentView) (out : OwnRequest) (bytes : List ℕ) → IsSound v
    → request_numbered out.number v.outs ≡ Some out → out.kept ≡ Some bytes → out.granted ≡ true
kept_granted v out bytes s found kept =
    last out.granted (rw kept at (both_right _ (out.granted || is_none out.kept) (sound_out v out s found)))
  where
    last : (b : Bool) → (b || false) ≡ true → b ≡ true
    last true h = refl
    last false h = h

pub sound_ended_for : (v : AgentView) (clock : ℕ) (out : OwnRequest) → IsSound v
    → request_numbered out.number v.outs ≡ Some out → (not out.granted || is_some out.kept) ≡ true
    → IsSound (ended_for v clock out)
sound_ended_for v clock out s found may = go out.kept refl
  where
    last : (b : Bool) → (b || false) ≡ true → b ≡ true
    last true h = refl
    last false h = h

    go : (kept : Option (List ℕ)) → out.kept ≡ kept → IsSound (ended_for v clock out)
    go None e = rw e (sound_given_up v out.number s (rw found (last (not out.granted) (rw e at may))))
    go (Some bytes) e = rw e (sound_arrived_for v clock out bytes s found (kept_granted v out bytes s found e))

pub sound_ended : (v : AgentView) (clock number : ℕ) → IsSound v → may_end_upgrade v number ≡ true
    → IsSound (upgrade_ended v clock number)
sound_ended v clock number s may = go (request_numbered number v.outs) refl
  where
    go : (found : Option OwnRequest) → request_numbered number v.outs ≡ found → IsSound (upgrade_ended v clock number)
    go None e = rw e s
    go (Some out) e = rw e (sound_ended_for v clock out s (found_own number v.outs out e) (rw e at may))
