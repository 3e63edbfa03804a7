-- What a cache has of each line, when one set gets something else.
use Rattle.std.proofs.Common.{ℕ, ◌<◌, ◌≡◌, ◌≢◌, ◌%◌, true, Option, Some, None, length, refl, sym, ap, ◌∙◌, ⊎_elim}
use Rattle.std.proofs.Common.{arith}
use Rattle.std.specs.Prelude.{◌==◌}
use Rattle.std.specs.List.{slice_index_or}
use Rattle.std.specs.Option.{option_map, option_map_or}
use Rattle.std.proofs.lemmas.Bool.{cases_eq, ne_eqb, eq-eqb}
use Rattle.fsb_cache.specs.declared.held.Held.{Held}
use Rattle.fsb_cache.specs.Sets.{CacheSets, held_at, only_line, slot_of, with_slot}
use Rattle.fsb_agent_view.specs.Sound.{is_in_set, is_only}
use Rattle.fsb_agent_view.proofs.Interface.{slot_of-other, slot_of-same}

-- the tests of a set read no more than the line that it has
pub is_only-resident : (line : ℕ) (slot : Option Held)
    → is_only line slot ≡ option_map_or (λ other. other == line) (option_map (λ held. held.line) slot) true
is_only-resident line None = refl
is_only-resident line (Some held) = refl

pub is_in_set-resident : (sets line : ℕ) (slot : Option Held)
    → is_in_set sets line slot ≡ option_map_or (λ other. (other % sets) == (line % sets))
    (option_map (λ held. held.line) slot) true
is_in_set-resident sets line None = refl
is_in_set-resident sets line (Some held) = refl

-- a set that has only one line has no other
pub only_line-other : (line other : ℕ) (slot : Option Held) → is_only line slot ≡ true → other ≢ line
    → only_line other slot ≡ None
only_line-other line other None only apart = refl
only_line-other line other (Some held) only apart =
    let is : held.line ≡ line = grind arith in
    rw (ne_eqb held.line other (λ e. apart (sym e ∙ is))) refl

-- and has that one wholly
pub only_line-this : (line : ℕ) (slot : Option Held) → is_only line slot ≡ true → only_line line slot ≡ slot
only_line-this line None only = refl
only_line-this line (Some held) only =
    let is : held.line ≡ line = grind arith in
    rw (eq-eqb held.line line is) refl

-- a line whose set gets something else
pub held_at-same : (sets : CacheSets) (line other : ℕ) (slot : Option Held) → 0 < length sets
    → other % length sets ≡ line % length sets → held_at (with_slot sets line slot) other ≡ only_line other slot
unfolding held_at
held_at-same sets line other slot some same = ap (only_line other) (slot_of-same sets line other slot some same)

-- a line of another set
pub held_at-apart : (sets : CacheSets) (line other : ℕ) (slot : Option Held)
    → other % length sets ≢ line % length sets → held_at (with_slot sets line slot) other ≡ held_at sets other
unfolding held_at
held_at-apart sets line other slot apart = ap (only_line other) (slot_of-other sets line other slot apart)

-- another line than the only one that the set has and gets
pub held_at-other : (sets : CacheSets) (line other : ℕ) (slot : Option Held) → 0 < length sets
    → is_only line (slot_of sets line) ≡ true → is_only line slot ≡ true → other ≢ line
    → held_at (with_slot sets line slot) other ≡ held_at sets other
unfolding held_at
held_at-other sets line other slot some only gets is_not =
    ⊎_elim
    (λ (same : other % length sets ≡ line % length sets).
    held_at-same sets line other slot some same ∙ only_line-other line other slot gets is_not
    ∙ sym (ap (λ (k : ℕ). only_line other (slice_index_or sets k None)) same
    ∙ only_line-other line other (slot_of sets line) only is_not))
    (λ (apart : other % length sets ≢ line % length sets). held_at-apart sets line other slot apart)
    (cases_eq (other % length sets) (line % length sets))
