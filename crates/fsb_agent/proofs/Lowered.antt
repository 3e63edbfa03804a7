-- Sets that have the same lines or fewer, none of them alone that was not before.
use Rattle.std.proofs.Common.{ℕ, ◌≡◌, ◌%◌, ◌⊎◌, Bool, true, false, not, Option, None, List, length, refl, sym, ap, ◌∙◌}
use Rattle.std.proofs.Common.{inl, inr}
use Rattle.std.specs.Prelude.{◌==◌, ◌||◌, is_none}
use Rattle.std.specs.Option.{option_map_or}
use Rattle.fsb_cache.specs.Sets.{CacheSets, resident_of, slot_of, states}
use Rattle.fsb_line.specs.States.{is_sole}
use Rattle.fsb_linebuf.specs.declared.entry.Fill.{Fill}
use Rattle.fsb_agent_view.specs.declared.want.OwnRequest.{OwnRequest}
use Rattle.fsb_agent_view.specs.AgentViews.{AgentView}
use Rattle.fsb_agent_view.specs.Sound.{IsSound, is_in_set, is_lent, is_only, is_sound_request}
use Rattle.fsb_agent_view.proofs.Interface.{both, both_left, both_right, list_all-from}
use Rattle.fsb_agent.proofs.SlotMaps.{is_in_set-resident, is_only-resident}

pub record IsLowered (before after : CacheSets) : Type 0 where
  pub count : length after ≡ length before
  pub residents : (line : ℕ) → (resident_of after line ≡ None) ⊎ (resident_of after line ≡ resident_of before line)
  pub sole : (line : ℕ) → is_sole (states after line) ≡ true → is_sole (states before line) ≡ true

-- a test of a set's line that an empty set passes
kept_test : (test : ℕ → Bool) (before after : Option ℕ) → (after ≡ None) ⊎ (after ≡ before)
    → option_map_or test before true ≡ true → option_map_or test after true ≡ true
kept_test test before after (inl none) passes = rw none refl
kept_test test before after (inr same) passes = rw same passes

pub only-lowered : (before after : CacheSets) (line : ℕ) → IsLowered before after
    → is_only line (slot_of before line) ≡ true → is_only line (slot_of after line) ≡ true
only-lowered before after line less only =
    is_only-resident line (slot_of after line)
    ∙ kept_test (λ other. other == line) (resident_of before line) (resident_of after line)
    (less.residents line) (sym (is_only-resident line (slot_of before line)) ∙ only)

in_set-lowered : (before after : CacheSets) (line : ℕ) → IsLowered before after
    → is_in_set (length before) line (slot_of before line) ≡ true
    → is_in_set (length after) line (slot_of after line) ≡ true
in_set-lowered before after line less inside =
    let kept = kept_test (λ other. (other % length before) == (line % length before)) (resident_of before line)
    (resident_of after line) (less.residents line)
    (sym (is_in_set-resident (length before) line (slot_of before line)) ∙ inside) in
    ap (λ n. is_in_set n line (slot_of after line)) less.count
    ∙ is_in_set-resident (length before) line (slot_of after line) ∙ kept

request-lowered : (before after : CacheSets) (fills : List Fill) (out : OwnRequest) → IsLowered before after
    → is_sound_request before fills out ≡ true → is_sound_request after fills out ≡ true
request-lowered before after fills out less sound =
    let a = is_only out.request.line (slot_of before out.request.line) in
    both _ _ (both _ _ (only-lowered before after out.request.line less (both_left a _ (both_left _ _ sound)))
    (both_right a _ (both_left _ _ sound))) (both_right _ _ sound)

not_sole : (promise after before : Bool) → (after ≡ true → before ≡ true) → (promise || not before) ≡ true
    → (promise || not after) ≡ true
not_sole true after before less lent = refl
not_sole false false before less lent = refl
not_sole false true before less lent = absurd (let on : before ≡ true = less refl in
    (let never : false ≡ true = rw on at lent in (let h : ⊥ = cc in h)))

pub lent-lowered : (before after : CacheSets) (fill : Fill) → IsLowered before after
    → is_lent before fill ≡ true → is_lent after fill ≡ true
lent-lowered before after fill less lent =
    not_sole (is_none fill.promise) (is_sole (states after fill.line)) (is_sole (states before fill.line))
    (less.sole fill.line) lent

-- an agent stays sound with such lines
pub sound-lowered : (v : AgentView) (after : CacheSets) → IsLowered v.lines after → IsSound v
    → IsSound (record v { lines = after })
sound-lowered v after less s = record {
  number = s.number;
  some_lines = rw less.count s.some_lines;
  in_sets = λ line. in_set-lowered v.lines after line less (s.in_sets line);
  script = rw less.count s.script;
  some_ahead = s.some_ahead;
  few_ahead = s.few_ahead;
  profile = s.profile;
  placed = s.placed;
  few_outs = s.few_outs;
  apart = rw less.count s.apart;
  requests = list_all-from (is_sound_request v.lines v.buffers.fills) (is_sound_request after v.buffers.fills)
      v.outs (λ out h. request-lowered v.lines after v.buffers.fills out less h) s.requests;
  fills = s.fills;
  one_a_line = s.one_a_line;
  lent = list_all-from (is_lent v.lines) (is_lent after) v.buffers.fills
      (λ fill h. lent-lowered v.lines after fill less h) s.lent;
  few_owed = s.few_owed;
}
