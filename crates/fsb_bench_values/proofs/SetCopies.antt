-- The state and the bytes of each line of a cache of which one set has something else.
use Rattle.fsb_bench_values.proofs.Words
use Words.{ℕ, ◌<◌, ◌≡◌, ◌≢◌, ◌%◌, ◌/◌, true, Option, Some, None, List, [], ◌∷◌, length, refl, sym, ap, ◌∙◌, ⊎_elim}
use Words.{arith, Bool, if◌then◌else◌, ◌==◌, option_map, cases_eq, eq-eqb, ne_eqb, Held, line_with_value, CacheSets}
use Words.{bytes_of_held, copies, held_at, held_shared, held_stored, only_line, sets_filled, sets_shared, sets_stored}
use Words.{sets_without, slot_of, state_of_held, states, with_slot, Mesi, Modified, is_held, is_sole}
use Rattle.fsb_agent_view.proofs.Interface.{slot_of-other, slot_of-same}

-- the line was held before, with these bytes, and alone where it is
pub record WasHeld (old new : CacheSets) (line : ℕ) : Type 0 where
  pub held : is_held (states old line) ≡ true
  pub same : copies new line ≡ copies old line
  pub alone : is_sole (states new line) ≡ true → is_sole (states old line) ≡ true

-- what the later sets hold, the earlier ones held with the same bytes
abbrev pub Lowers : CacheSets → CacheSets → Type 0
Lowers old new = (line : ℕ) → is_held (states new line) ≡ true → WasHeld old new line

-- a line of the set that is written, and one of another set
held-same : (sets : CacheSets) (line other : ℕ) (slot : Option Held) → 0 < length sets
    → other % length sets ≡ line % length sets → held_at (with_slot sets line slot) other ≡ only_line other slot
unfolding held_at
held-same sets line other slot some same = ap (only_line other) (slot_of-same sets line other slot some same)

held-apart : (sets : CacheSets) (line other : ℕ) (slot : Option Held) → other % length sets ≢ line % length sets
    → held_at (with_slot sets line slot) other ≡ held_at sets other
unfolding held_at
held-apart sets line other slot apart = ap (only_line other) (slot_of-other sets line other slot apart)

-- a cache that holds a line has sets, and so it had before
held-empty : (line : ℕ) → is_held (states [] line) ≡ true → ⊥
unfolding states held_at
held-empty line e = let no : ⊥ = cc in no

some-before : (sets : CacheSets) (line other : ℕ) (slot : Option Held)
    → is_held (states (with_slot sets line slot) other) ≡ true → 0 < length sets
some-before [] line other slot e = absurd (held-empty other e)
some-before (s ∷ slots) line other slot e = omega arith

-- what is had of a line as before
had-as : (old new : CacheSets) (line : ℕ) → held_at new line ≡ held_at old line → is_held (states new line) ≡ true
    → WasHeld old new line
unfolding states copies
had-as old new line e held = grind arith

-- what is not there is not held
gone : (sets : CacheSets) (line : ℕ) → held_at sets line ≡ None → is_held (states sets line) ≡ true → ⊥
unfolding states
gone sets line e held = let no = ap (λ h. is_held (state_of_held h)) (sym e) ∙ held in (let h : ⊥ = cc in h)

only-other : (line other : ℕ) (state : Mesi) (bytes : List ℕ) → other ≢ line
    → only_line other (Some (record { line = line; state = state; bytes = bytes })) ≡ None
only-other line other state bytes apart = rw (ne_eqb line other (λ e. apart (sym e))) refl

-- a set that is cleared holds no more
pub lowers-cleared : (sets : CacheSets) (line : ℕ) → Lowers sets (with_slot sets line None)
lowers-cleared sets line other held =
    ⊎_elim
    (λ (same : other % length sets ≡ line % length sets).
    absurd (gone (with_slot sets line None) other
    (held-same sets line other None (some-before sets line other None held) same) held))
    (λ (away : other % length sets ≢ line % length sets).
    had-as sets (with_slot sets line None) other (held-apart sets line other None away) held)
    (cases_eq (other % length sets) (line % length sets))

pub lowers-same : (sets : CacheSets) → Lowers sets sets
lowers-same sets other held = record { held = held; same = refl; alone = λ own. own }

pub lowers-without : (sets : CacheSets) (line : ℕ) → Lowers sets (sets_without sets line)
lowers-without sets line = grind (arith, lowers-cleared, lowers-same)

-- of a line that is filled the bytes are those that fill it; and of the others some may have gone
pub filled-other : (sets : CacheSets) (line other : ℕ) (state : Mesi) (bytes : List ℕ) → other ≢ line
    → is_held (states (sets_filled sets line state bytes) other) ≡ true
    → WasHeld sets (sets_filled sets line state bytes) other
filled-other sets line other state bytes apart held =
    let slot : Option Held = Some (record { line = line; state = state; bytes = bytes }) in
    ⊎_elim
    (λ (same : other % length sets ≡ line % length sets).
    absurd (gone (with_slot sets line slot) other
    (held-same sets line other slot (some-before sets line other slot held) same
    ∙ only-other line other state bytes apart) held))
    (λ (away : other % length sets ≢ line % length sets).
    had-as sets (with_slot sets line slot) other (held-apart sets line other slot away) held)
    (cases_eq (other % length sets) (line % length sets))

filled-at : (sets : CacheSets) (line : ℕ) (state : Mesi) (bytes : List ℕ) → 0 < length sets
    → held_at (sets_filled sets line state bytes) line ≡ Some (record { line = line; state = state; bytes = bytes })
filled-at sets line state bytes some = grind (arith, held-same)

pub filled-state : (sets : CacheSets) (line : ℕ) (state : Mesi) (bytes : List ℕ) → 0 < length sets
    → states (sets_filled sets line state bytes) line ≡ state
unfolding states
filled-state sets line state bytes some = ap state_of_held (filled-at sets line state bytes some)

pub filled-bytes : (sets : CacheSets) (line : ℕ) (state : Mesi) (bytes : List ℕ) → 0 < length sets
    → copies (sets_filled sets line state bytes) line ≡ bytes
unfolding copies
filled-bytes sets line state bytes some = ap bytes_of_held (filled-at sets line state bytes some)

-- a line of another set stays as it was
pub filled-apart : (sets : CacheSets) (line other : ℕ) (state : Mesi) (bytes : List ℕ)
    → other % length sets ≢ line % length sets → states (sets_filled sets line state bytes) other ≡ states sets other
unfolding states
filled-apart sets line other state bytes away = grind (arith, held-apart)

pub filled-some : (sets : CacheSets) (line other : ℕ) (state : Mesi) (bytes : List ℕ)
    → is_held (states (sets_filled sets line state bytes) other) ≡ true → 0 < length sets
filled-some sets line other state bytes held = grind (arith, some-before)

-- a line that is held is what its set has
resident : (line : ℕ) (slot : Option Held) → is_held (state_of_held (only_line line slot)) ≡ true
    → (held : Held) × (slot ≡ Some held) × (held.line ≡ line)
resident line slot h1 = grind arith

resident-at : (sets : CacheSets) (line : ℕ) → is_held (states sets line) ≡ true
    → (held : Held) × (slot_of sets line ≡ Some held) × (held.line ≡ line)
unfolding states held_at
resident-at sets line e = resident line (slot_of sets line) e

pub some-held : (sets : CacheSets) (line : ℕ) → is_held (states sets line) ≡ true → 0 < length sets
some-held [] line held = absurd (held-empty line held)
some-held (slot ∷ slots) line held = omega arith

absent : (sets : CacheSets) (line other : ℕ) (held : Held) → slot_of sets line ≡ Some held → held.line ≡ line
    → other ≢ line → other % length sets ≡ line % length sets → held_at sets other ≡ None
unfolding held_at
absent sets line other held e is apart same = grind arith

-- the line that its set has is changed as it stands, and no other
changed-at : (sets : CacheSets) (line other : ℕ) (held after : Held) → 0 < length sets → slot_of sets line ≡ Some held
    → held.line ≡ line → after.line ≡ held.line
    → held_at (with_slot sets line (Some after)) other ≡ (if other == line then Some after else held_at sets other)
changed-at sets line other held after some e is keeps = grind (arith, held-same, absent, held-apart)

resident-bytes : (sets : CacheSets) (line : ℕ) (held : Held) → slot_of sets line ≡ Some held → held.line ≡ line
    → copies sets line ≡ held.bytes
unfolding copies held_at
resident-bytes sets line held e is = rw (e, eq-eqb held.line line is) refl

chosen-bytes : (b : Bool) (x y : Option Held)
    → bytes_of_held (if b then x else y) ≡ (if b then bytes_of_held x else bytes_of_held y)
chosen-bytes b x y = grind arith

chosen-state : (b : Bool) (x y : Option Held)
    → state_of_held (if b then x else y) ≡ (if b then state_of_held x else state_of_held y)
chosen-state b x y = grind arith

-- a store into a line that is held changes its bytes and makes it Modified, and leaves the others
module _ (sets : CacheSets) (addr size value : ℕ) (held : is_held (states sets (addr / 32)) ≡ true) where
  stored-at : (other : ℕ) → (there : Held) × (copies sets (addr / 32) ≡ there.bytes)
      × (held_at (sets_stored sets addr size value) other
      ≡ (if other == addr / 32 then Some (held_stored addr size value there) else held_at sets other))
  stored-at other =
      let line = addr / 32 in
      let there = resident-at sets line held in
      let slot : option_map (held_stored addr size value) (slot_of sets line)
      ≡ Some (held_stored addr size value there.0) = ap (option_map (held_stored addr size value)) there.1 in (
        there.0,
        resident-bytes sets line there.0 there.1 there.2,
        ap (λ s. held_at (with_slot sets line s) other) slot
            ∙ changed-at sets line other there.0 (held_stored addr size value there.0)
            (some-held sets line held) there.1
            there.2 refl,
      )

  pub stored-bytes : (other : ℕ) → copies (sets_stored sets addr size value) other
      ≡ (if other == addr / 32 then line_with_value (copies sets (addr / 32)) addr size value else copies sets other)
  unfolding copies
  stored-bytes other =
      let k = stored-at other in
      ap bytes_of_held k.2
      ∙ chosen-bytes (other == addr / 32) (Some (held_stored addr size value k.0)) (held_at sets other)
      ∙ ap (λ bytes. if other == addr / 32 then line_with_value bytes addr size value else copies sets other) (sym k.1)

  pub stored-state : (other : ℕ) → states (sets_stored sets addr size value) other
      ≡ (if other == addr / 32 then Modified else states sets other)
  unfolding states
  stored-state other =
      let k = stored-at other in
      ap state_of_held k.2
      ∙ chosen-state (other == addr / 32) (Some (held_stored addr size value k.0)) (held_at sets other)

shared-bytes : (sets : CacheSets) (line other : ℕ) (there : Held)
    → held_at (sets_shared sets line) other ≡ Some (held_shared there) → copies sets other ≡ there.bytes
    → copies (sets_shared sets line) other ≡ copies sets other
unfolding copies
shared-bytes sets line other there at was = ap bytes_of_held at ∙ sym was

shared-not : (sets : CacheSets) (line other : ℕ) (there : Held)
    → held_at (sets_shared sets line) other ≡ Some (held_shared there)
    → is_sole (states (sets_shared sets line) other) ≡ true → ⊥
unfolding states
shared-not sets line other there at own = grind arith

-- a line that is made Shared keeps its bytes
pub lowers-shared : (sets : CacheSets) (line : ℕ) → is_held (states sets line) ≡ true
    → Lowers sets (sets_shared sets line)
lowers-shared sets line held other still =
    let there = resident-at sets line held in
    let slot : option_map held_shared (slot_of sets line) ≡ Some (held_shared there.0) = grind arith in
    let at : held_at (sets_shared sets line) other ≡ (if other == line then Some (held_shared there.0) else held_at
    sets other) = grind (arith, changed-at, some-held) in
    ⊎_elim
    (λ (same : other ≡ line). record {
      held = ap (λ l. is_held (states sets l)) same ∙ held;
      same = shared-bytes sets line other there.0 (at ∙ rw (eq-eqb other line same) refl)
          (ap (copies sets) same ∙ resident-bytes sets line there.0 there.1 there.2);
      alone = λ own. absurd (shared-not sets line other there.0 (at ∙ rw (eq-eqb other line same) refl) own);
    })
    (λ (apart : other ≢ line).
    had-as sets (sets_shared sets line) other (at ∙ rw (ne_eqb other line apart) refl) still)
    (cases_eq other line)
