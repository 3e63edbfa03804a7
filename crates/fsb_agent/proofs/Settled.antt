-- The sets of a cache when a line that came is as it is held, or is gone.
use Rattle.std.proofs.Common.{ℕ, ◌<◌, ◌≡◌, ◌≢◌, ◌%◌, true, false, Option, Some, None, List, length, refl, sym, ap}
use Rattle.std.proofs.Common.{subst, ◌∙◌, inl, inr, ⊎_elim}
use Rattle.std.specs.Prelude.{◌==◌, is_some}
use Rattle.std.specs.Option.{option_map, option_map_or}
use Rattle.std.proofs.lemmas.Bool.{cases_Bool, cases_eq, eq-eqb}
use Rattle.fsb_cache.specs.declared.held.Held.{Held}
use Rattle.fsb_cache.specs.Sets.{CacheSets, copies, held_at, only_line, resident_of, sets_filled, slot_of}
use Rattle.fsb_cache.specs.Sets.{state_of_held, states, with_slot}
use Rattle.fsb_line.specs.declared.state.Mesi.{Mesi}
use Rattle.fsb_line.specs.declared.state.Mesi.TheVariants.{Modified}
use Rattle.fsb_line.specs.States.{is_held, is_sole}
use Rattle.fsb_agent_view.specs.Arriving.{sets_settled}
use Rattle.fsb_agent_view.specs.Sound.{is_in_set, is_only}
use Rattle.fsb_agent_view.proofs.Interface.{length-with_slot, slot_of-other, slot_of-same}
use Rattle.fsb_agent.proofs.SlotMaps.{held_at-other, held_at-same, is_in_set-resident, is_only-resident}
use Rattle.fsb_agent.proofs.Stored.{IsAlike}

-- the state of a line that is filled, and of another one
pub state-filled : (sets : CacheSets) (line : ℕ) (state : Mesi) (bytes : List ℕ) → 0 < length sets
    → states (sets_filled sets line state bytes) line ≡ state
unfolding states
state-filled sets line state bytes some =
    rw (
      held_at-same sets line line (Some record { line = line; state = state; bytes = bytes }) some refl,
      eq-eqb line line refl,
    ) refl

pub state-filled_other : (sets : CacheSets) (line other : ℕ) (state : Mesi) (bytes : List ℕ) → 0 < length sets
    → is_only line (slot_of sets line) ≡ true → other ≢ line
    → states (sets_filled sets line state bytes) other ≡ states sets other
unfolding states
state-filled_other sets line other state bytes some only apart =
    ap state_of_held (held_at-other sets line other (Some record { line = line; state = state; bytes = bytes })
    some only (eq-eqb line line refl) apart)

-- a line that is held is found
pub held-found : (sets : CacheSets) (line : ℕ) → is_held (states sets line) ≡ true → is_some (held_at sets line) ≡ true
unfolding states
held-found sets line held = found (held_at sets line) held
  where
    found : (slot : Option Held) → is_held (state_of_held slot) ≡ true → is_some slot ≡ true
    found None never = never
    found (Some held) is = refl

-- what the line's set has then
abbrev pub settled_slot : CacheSets → ℕ → Mesi → Option Held
settled_slot sets line state =
    elim (is_held state) [ true ↦ Some record { line = line; state = state; bytes = copies sets line } | false ↦ None ]

pub settled-is : (sets : CacheSets) (line : ℕ) (state : Mesi) → is_held (states sets line) ≡ true
    → sets_settled sets line state ≡ with_slot sets line (settled_slot sets line state)
settled-is sets line state held =
    let found : is_some (held_at sets line) ≡ true = held-found sets line held in
    elim (cases_Bool (is_held state)) [
      | inl on ↦ rw (on, settled_slot, sets_settled) refl
      | inr off ↦ rw (off, settled_slot, sets_settled, found) refl
    ]

only-settled : (sets : CacheSets) (line : ℕ) (state : Mesi) → is_only line (settled_slot sets line state) ≡ true
only-settled sets line state =
    elim (cases_Bool (is_held state)) [
      | inl on ↦ rw (on, settled_slot) (eq-eqb line line refl)
      | inr off ↦ rw (off, settled_slot) refl
    ]

in_set-settled : (sets : CacheSets) (n line other : ℕ) (state : Mesi) → other % n ≡ line % n
    → is_in_set n other (settled_slot sets line state) ≡ true
in_set-settled sets n line other state same =
    elim (cases_Bool (is_held state)) [
      | inl on ↦
          rw (on, settled_slot) (eq-eqb (line % n) (other % n) (sym same))
      | inr off ↦ rw (off, settled_slot) refl
    ]

-- the sets after a line has come: of other lines and sets they are as before
pub record IsResettled (before after : CacheSets) (line : ℕ) : Type 0 where
  pub count : length after ≡ length before
  pub residents : (other : ℕ) → other % length before ≢ line % length before
      → resident_of after other ≡ resident_of before other
  pub in_sets : (other : ℕ) → is_in_set (length after) other (slot_of after other) ≡ true
  pub sole : (other : ℕ) → other ≢ line → is_sole (states after other) ≡ is_sole (states before other)

-- the line was filled, accesses were performed, and the line was settled
pub resettled : (before after : CacheSets) (line : ℕ) (bytes : List ℕ) (state : Mesi) → 0 < length before
    → is_only line (slot_of before line) ≡ true
    → ((other : ℕ) → is_in_set (length before) other (slot_of before other) ≡ true)
    → IsAlike (sets_filled before line Modified bytes) after → IsResettled before (sets_settled after line state) line
unfolding states
resettled before after line bytes state some only inside alike =
    rw (settled-is after line state held) record {
      count = length-with_slot after line slot ∙ count;
      residents = λ other apart.
          ap (option_map (λ held. held.line))
          (slot_of-other after line other slot (λ e. apart (subst (λ (n : ℕ). other % n ≡ line % n) count e)))
          ∙ alike.residents other ∙ ap (option_map (λ held. held.line)) (slot_of-other before line other full apart);
      in_sets = λ other. in_set other;
      sole = λ other apart.
          ap (λ held. is_sole (state_of_held held))
          (held_at-other after line other slot some_after only_after (only-settled after line state) apart)
          ∙ alike.sole other ∙ ap is_sole (state-filled_other before line other Modified bytes some only apart);
    }
  where
    full : Option Held
    full = Some record { line = line; state = Modified; bytes = bytes }

    slot : Option Held
    slot = settled_slot after line state

    count : length after ≡ length before
    count = alike.count ∙ length-with_slot before line full

    some_after : 0 < length after
    some_after = rw count some

    held : is_held (states after line) ≡ true
    held = alike.held line ∙ ap is_held (state-filled before line Modified bytes some)

    only_after : is_only line (slot_of after line) ≡ true
    only_after =
        is_only-resident line (slot_of after line)
        ∙ ap (λ o. option_map_or (λ other. other == line) o true) (alike.residents line)
        ∙ ap (λ s. option_map_or (λ other. other == line) (option_map (λ held. held.line) s) true)
        (slot_of-same before line line full some refl) ∙ eq-eqb line line refl

    in_set : (other : ℕ)
        → is_in_set (length (with_slot after line slot)) other (slot_of (with_slot after line slot) other) ≡ true
    in_set other =
        ⊎_elim
        (λ (same : other % length after ≡ line % length after).
        rw (slot_of-same after line other slot some_after same, length-with_slot after line slot)
        (in_set-settled after (length after) line other state same))
        (λ (apart : other % length after ≢ line % length after).
        rw (slot_of-other after line other slot apart, length-with_slot after line slot)
        (ap (λ n. is_in_set n other (slot_of after other)) count
        ∙ is_in_set-resident (length before) other (slot_of after other)
        ∙ ap (λ o. option_map_or (λ x. (x % length before) == (other % length before)) o true)
        (alike.residents other
        ∙ ap (option_map (λ held. held.line))
        (slot_of-other before line other full (λ e. apart (subst (λ (n : ℕ). other % n ≡ line % n) (sym count) e))))
        ∙ sym (is_in_set-resident (length before) other (slot_of before other)) ∙ inside other))
        (cases_eq (other % length after) (line % length after))

-- a line that is held has its set for itself
pub only-held : (sets : CacheSets) (line : ℕ) → is_held (states sets line) ≡ true
    → is_only line (slot_of sets line) ≡ true
unfolding held_at
only-held sets line held = only (slot_of sets line) (held-found sets line held)
  where
    only : (slot : Option Held) → is_some (only_line line slot) ≡ true → is_only line slot ≡ true
    only None never = refl
    only (Some held) found =
        elim (cases_Bool (held.line == line)) [
          | inl on ↦ on
          | inr off ↦ absurd (let never : false ≡ true = rw off at found in (let h : ⊥ = cc in h))
        ]
