-- The sets of a cache, of which one has something else: what each line's set has, and which lines are held alone.
use Rattle.std.proofs.Common.{ℕ, ◌<◌, ◌≡◌, ◌≢◌, ◌%◌, Bool, true, false, Option, Some, None, length, length-set}
use Rattle.std.proofs.Common.{get_or-set_same, get_or-set_other, refl, sym, ap, ◌∙◌, ⊎_elim, arith}
use Rattle.std.specs.Prelude.{◌||◌, is_none}
use Rattle.std.proofs.lemmas.Bool.{cases_eq, ne_eqb}
use Rattle.fsb_cache.specs.declared.held.Held.{Held}
use Rattle.fsb_cache.specs.Sets.{CacheSets, held_at, only_line, slot_of, states, with_slot}
use Rattle.fsb_linebuf.specs.declared.entry.Fill.{Fill}
use Rattle.fsb_agent_view.specs.Sound.{is_lent, is_only}

pub length-with_slot : (sets : CacheSets) (line : ℕ) (slot : Option Held)
    → length (with_slot sets line slot) ≡ length sets
length-with_slot sets line slot = length-set sets (line % length sets) slot

-- a line of another set
pub slot_of-other : (sets : CacheSets) (line other : ℕ) (slot : Option Held)
    → other % length sets ≢ line % length sets → slot_of (with_slot sets line slot) other ≡ slot_of sets other
slot_of-other sets line other slot apart =
    rw (
      length-set sets (line % length sets) slot,
      get_or-set_other sets (line % length sets) (other % length sets) slot None apart,
    ) refl

-- a line of that set
pub slot_of-same : (sets : CacheSets) (line other : ℕ) (slot : Option Held) → 0 < length sets
    → other % length sets ≡ line % length sets → slot_of (with_slot sets line slot) other ≡ slot
slot_of-same sets line other slot some same =
    let within : line % length sets < length sets = omega arith in
    rw (
      length-set sets (line % length sets) slot,
      same,
      get_or-set_same sets (line % length sets) slot None within,
    ) refl

-- what a set has is not another line than its only one
other_in : (line other : ℕ) (slot : Option Held) → is_only line slot ≡ true → other ≢ line → only_line other slot ≡ None
other_in line other None only apart = refl
other_in line other (Some held) only apart =
    let is : held.line ≡ line = grind arith in
    rw (ne_eqb held.line other (λ e. apart (sym e ∙ is))) refl

-- a set that gets something else of its line lends other lines as before
pub lent-with_slot : (sets : CacheSets) (line : ℕ) (slot : Option Held) (fill : Fill) → 0 < length sets
    → is_only line slot ≡ true → fill.line ≢ line → is_lent sets fill ≡ true
    → is_lent (with_slot sets line slot) fill ≡ true
unfolding states held_at
lent-with_slot sets line slot fill some only apart lent =
    ⊎_elim
    (λ (same : fill.line % length sets ≡ line % length sets).
    let none : only_line fill.line (slot_of (with_slot sets line slot) fill.line) ≡ None =
    ap (only_line fill.line) (slot_of-same sets line fill.line slot some same)
    ∙ other_in line fill.line slot only apart in
    rw none (last (is_none fill.promise)))
    (λ (other : fill.line % length sets ≢ line % length sets). rw (slot_of-other sets line fill.line slot other) lent)
    (cases_eq (fill.line % length sets) (line % length sets))
  where
    last : (b : Bool) → (b || true) ≡ true
    last true = refl
    last false = refl
