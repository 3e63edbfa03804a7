-- The state of each line of a cache of which one set has something else, and that each set has a line of its own.
use Rattle.fsb_agent_run.proofs.Words
use Words.{ℕ, ◌<◌, ◌≡◌, ◌≢◌, ◌%◌, ◌/◌, true, false, Option, Some, None, List, [], ◌∷◌, length, refl, sym, ap, ◌∙◌, inl}
use Words.{inr, ⊎_elim, arith, if◌then◌else◌, ◌==◌, slice_index_or, option_map, cases_Bool, cases_eq, eq-eqb, ne_eqb}
use Words.{Held, CacheSets, held_at, only_line, sets_filled, sets_shared, sets_stored, sets_without, slot_of}
use Words.{state_of_held, states, with_slot, Mesi, Invalid, Modified, Shared, is_held, is_in_set, length-with_slot}
use Words.{slot_of-other, slot_of-same}
use Rattle.std.specs.Prelude.{is_some}

-- a line of that set
pub state-same : (sets : CacheSets) (line other : ℕ) (slot : Option Held) → 0 < length sets
    → other % length sets ≡ line % length sets
    → states (with_slot sets line slot) other ≡ state_of_held (only_line other slot)
unfolding states held_at
state-same sets line other slot some same = grind (arith, slot_of-same)

-- a line of another set
pub state-apart : (sets : CacheSets) (line other : ℕ) (slot : Option Held) → other % length sets ≢ line % length sets
    → states (with_slot sets line slot) other ≡ states sets other
unfolding states held_at
state-apart sets line other slot apart = grind (arith, slot_of-other)

-- a cache with a line has sets
pub some-sets : (sets : CacheSets) (line : ℕ) → is_held (states sets line) ≡ true → 0 < length sets
unfolding states held_at
some-sets [] line held = absurd (let no : ⊥ = cc in no)
some-sets (slot ∷ slots) line held = omega arith

-- a line that is held is what its set has
pub resident : (line : ℕ) (slot : Option Held) → is_held (state_of_held (only_line line slot)) ≡ true
    → (held : Held) × (slot ≡ Some held) × (held.line ≡ line)
resident line slot h1 = grind arith

pub resident-at : (sets : CacheSets) (line : ℕ) → is_held (states sets line) ≡ true
    → (held : Held) × (slot_of sets line ≡ Some held) × (held.line ≡ line)
unfolding states held_at
resident-at sets line e = resident line (slot_of sets line) e

-- lines of one set share what it has
pub slot-shared : (sets : CacheSets) (line other : ℕ) → other % length sets ≡ line % length sets
    → slot_of sets other ≡ slot_of sets line
slot-shared sets line other same = ap (λ k. slice_index_or sets k None) same

-- a line that is not what its set has
pub state-absent : (sets : CacheSets) (line : ℕ) (held : Held) → slot_of sets line ≡ Some held → held.line ≢ line
    → states sets line ≡ Invalid
unfolding states held_at
state-absent sets line held e apart = rw (e, ne_eqb held.line line apart) refl

pub state-empty : (sets : CacheSets) (line : ℕ) → slot_of sets line ≡ None → states sets line ≡ Invalid
unfolding states held_at
state-empty sets line e = rw e refl

-- a line that is filled, and each other one, which is not held where it is of the same set
pub state-filled : (sets : CacheSets) (line other : ℕ) (state : Mesi) (bytes : List ℕ) → 0 < length sets
    → (other ≢ line → other % length sets ≡ line % length sets → states sets other ≡ Invalid)
    → states (sets_filled sets line state bytes) other ≡ (if other == line then state else states sets other)
state-filled sets line other state bytes some empty = grind (arith, state-same, state-apart)

-- what a set has, by its line
pub state-of-slot : (line : ℕ) (held : Held)
    → state_of_held (only_line line (Some held)) ≡ (if held.line == line then held.state else Invalid)
state-of-slot line held = elim (cases_Bool (held.line == line)) [ inl on ↦ rw on refl | inr off ↦ rw off refl ]

-- the line whose set has it is changed as it stands, and no other
pub kept-line : (sets : CacheSets) (line other : ℕ) (held after : Held) → 0 < length sets
    → slot_of sets line ≡ Some held
    → held.line ≡ line → after.line ≡ held.line
    → states (with_slot sets line (Some after)) other ≡ (if other == line then after.state else states sets other)
kept-line sets line other held after some e is keeps =
    ⊎_elim
    (λ (same : other ≡ line).
    state-same sets line other (Some after) some (ap (λ k. k % length sets) same) ∙ state-of-slot other after
    ∙ rw (eq-eqb after.line other (keeps ∙ is ∙ sym same), eq-eqb other line same) refl)
    (λ (apart : other ≢ line).
    let not_same : (other == line) ≡ false = ne_eqb other line apart in
    ⊎_elim
    (λ (same : other % length sets ≡ line % length sets).
    state-same sets line other (Some after) some same ∙ state-of-slot other after
    ∙ rw (ne_eqb after.line other (λ f. apart (sym f ∙ keeps ∙ is)), not_same)
    (sym (state-absent sets other held (slot-shared sets line other same ∙ e) (λ f. apart (sym f ∙ is)))))
    (λ (away : other % length sets ≢ line % length sets). state-apart sets line other (Some after) away
    ∙ rw not_same refl)
    (cases_eq (other % length sets) (line % length sets)))
    (cases_eq other line)

-- a store into a line that is held makes it Modified, and leaves each other one
pub state-stored : (sets : CacheSets) (addr size value other : ℕ) → is_held (states sets (addr / 32)) ≡ true
    → states (sets_stored sets addr size value) other ≡ (if other == addr / 32 then Modified else states sets other)
state-stored sets addr size value other h = grind (arith, resident-at, kept-line, some-sets)

-- a line that is held is made Shared
pub state-shared : (sets : CacheSets) (line other : ℕ) → is_held (states sets line) ≡ true
    → states (sets_shared sets line) other ≡ (if other == line then Shared else states sets other)
state-shared sets line other h = grind (arith, resident-at, kept-line, some-sets)

-- what a cache has of a line that it has not
none-invalid : (slot : Option Held) → is_some slot ≡ false → state_of_held slot ≡ Invalid
none-invalid slot h1 = grind arith

not-there : (sets : CacheSets) (line : ℕ) → is_some (held_at sets line) ≡ false → states sets line ≡ Invalid
unfolding states
not-there sets line e = none-invalid (held_at sets line) e

there-is : (line : ℕ) (slot : Option Held) → is_some (only_line line slot) ≡ true
    → (held : Held) × (slot ≡ Some held) × (held.line ≡ line)
there-is line slot h1 = grind arith

there-at : (sets : CacheSets) (line : ℕ) → is_some (held_at sets line) ≡ true
    → (held : Held) × (slot_of sets line ≡ Some held) × (held.line ≡ line)
unfolding held_at
there-at sets line e = there-is line (slot_of sets line) e

sets-of : (sets : CacheSets) (line : ℕ) (held : Held) → slot_of sets line ≡ Some held → 0 < length sets
sets-of [] line held e = absurd (let no : ⊥ = cc in no)
sets-of (slot ∷ slots) line held e = omega arith

-- a line that is dropped has gone, and each other one stays
pub state-without : (sets : CacheSets) (line other : ℕ)
    → states (sets_without sets line) other ≡ (if other == line then Invalid else states sets other)
state-without sets line other = grind (arith, not-there, there-at, state-same, sets-of, state-apart)

-- each set has a line of its own
abbrev pub InSets : CacheSets → Type 0
InSets sets = (line : ℕ) → is_in_set (length sets) line (slot_of sets line) ≡ true

pub in_sets-with : (sets : CacheSets) (target : ℕ) (slot : Option Held) → 0 < length sets
    → is_in_set (length sets) target slot ≡ true → InSets sets → InSets (with_slot sets target slot)
in_sets-with sets target slot h1 h2 h3 = grind (arith, length-with_slot, slot_of-same, slot_of-other)

pub in_sets-without : (sets : CacheSets) (line : ℕ) → InSets sets → InSets (sets_without sets line)
in_sets-without sets line in_sets = grind (arith, there-at, in_sets-with, sets-of)

pub in_sets-filled : (sets : CacheSets) (line : ℕ) (state : Mesi) (bytes : List ℕ) → 0 < length sets → InSets sets
    → InSets (sets_filled sets line state bytes)
in_sets-filled sets line state bytes some in_sets = grind (arith, in_sets-with)

mapped-in : (n line : ℕ) (f : Held → Held) (slot : Option Held) → ((held : Held) → (f held).line ≡ held.line)
    → is_in_set n line (option_map f slot) ≡ is_in_set n line slot
mapped-in n line f slot h1 = grind arith

-- what a set has is changed as it stands, if it has anything
pub in_sets-mapped : (sets : CacheSets) (line : ℕ) (f : Held → Held) → ((held : Held) → (f held).line ≡ held.line)
    → InSets sets → InSets (with_slot sets line (option_map f (slot_of sets line)))
in_sets-mapped [] line f keeps in_sets = in_sets
in_sets-mapped (slot ∷ slots) line f keeps in_sets =
    let sets : CacheSets = slot ∷ slots in
    in_sets-with sets line (option_map f (slot_of sets line)) (omega arith)
    (mapped-in (length sets) line f (slot_of sets line) keeps ∙ in_sets line) in_sets

pub length-without : (sets : CacheSets) (line : ℕ) → length (sets_without sets line) ≡ length sets
length-without sets line = grind (arith, length-with_slot)
