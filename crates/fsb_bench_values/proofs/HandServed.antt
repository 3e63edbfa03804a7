-- Accesses on lines that have the bytes of the one byte memory: they find and make the same values and bytes as the
-- replay.
use Rattle.fsb_bench_values.proofs.Words
use Words.{ℕ, ◌+◌, ◌/◌, ◌%◌, ◌≤◌, ◌≡◌, ◌≢◌, ◌⊎◌, Bool, true, false, ◌&&◌, ◌||◌, List, [], ◌∷◌, map, refl, sym, ap, ◌∙◌}
use Words.{inl, inr, ⊎_elim, arith, if◌then◌else◌, ◌==◌, list_all, and_parts, cases_eq, eq-eqb, ne_eqb, accessed_line}
use Words.{addr_of, is_place, size_of, ByteMemory, put_value, value_at, Access, Done, ReplayState, put_of, replay}
use Words.{replayed_values, served_state, served_value, Step, bytes_at-beside, place-within_line, line_with_value}
use Words.{value_in_line, copies, sets_stored, states, Mesi, Modified, is_held, line_bytes, is_load, AtHand}
use Words.{entries_at_hand, hand_after, hand_after_steps, value_at_hand}
use Rattle.fsb_access.specs.declared.access.Access.TheVariants.{Load, Store}
use Rattle.fsb_access.specs.declared.access.Operand.{Operand}
use Rattle.fsb_cache.proofs.Interface.{loaded_as_in_memory, stored_as_in_memory}
use Rattle.fsb_bench_values.proofs.SetCopies.{stored-bytes, stored-state}

-- the entries have the values that they find when they are served one after the other from this state on
abbrev pub AreServed : ReplayState → List Done → Type 0
AreServed state entries = map (λ (done : Done). done.value) entries ≡ replayed_values state entries

-- what is at hand serves as the replay does: the agent's last loaded value, and these lines, which are held
pub record Serves (ready : ℕ → Bool) (a : ℕ) (hand : AtHand) (state : ReplayState) : Type 0 where
  pub last : hand.last ≡ state.last a
  pub held : (line : ℕ) → ready line ≡ true → is_held (states hand.lines line) ≡ true
  pub bytes : (line : ℕ) → ready line ≡ true → copies hand.lines line ≡ line_bytes state.memory line

-- the access lies within one of these lines, and stores into those alone that are held alone
abbrev pub is_served_on : (ready alone : ℕ → Bool) → Access → Bool
is_served_on ready alone access =
    is_place (size_of access) (addr_of access)
    && (ready (accessed_line access) && (is_load access || alone (accessed_line access)))

-- what agent a's accesses make of the lines at hand and of the replay: they still serve; no other agent has loaded;
-- and no line is changed that is not held alone, or held anew
pub record IsServedTo (ready alone : ℕ → Bool) (a : ℕ) (hand next : AtHand) (state after : ReplayState) : Type 0 where
  pub serves : Serves ready a next after
  pub others : (b : ℕ) → b ≢ a → after.last b ≡ state.last b
  pub beside : (line : ℕ) → alone line ≡ false → line_bytes after.memory line ≡ line_bytes state.memory line
  pub lower : (line : ℕ) → is_held (states next.lines line) ≡ true → is_held (states hand.lines line) ≡ true

-- the bytes of another line
line-beside : (memory : ByteMemory) (addr size value line : ℕ) → line ≢ addr / 32 → addr % 32 + size ≤ 32
    → line_bytes (put_value memory addr size value) line ≡ line_bytes memory line
unfolding line_bytes
line-beside memory addr size value line other within = grind (arith, bytes_at-beside)

line-loads : (memory : ByteMemory) (addr size : ℕ) → addr % 32 + size ≤ 32
    → value_in_line (line_bytes memory (addr / 32)) addr size ≡ value_at memory addr size
unfolding line_bytes
line-loads memory addr size within = loaded_as_in_memory memory addr size within

line-stores : (memory : ByteMemory) (addr size value : ℕ) → addr % 32 + size ≤ 32
    → line_with_value (line_bytes memory (addr / 32)) addr size value
    ≡ line_bytes (put_value memory addr size value) (addr / 32)
unfolding line_bytes
line-stores memory addr size value within = stored_as_in_memory memory addr size value within

module _ (ready alone : ℕ → Bool) (a : ℕ) (hand : AtHand) (state : ReplayState) (s : Serves ready a hand state) where
  load-value : (size addr : ℕ) → is_place size addr ≡ true → ready (addr / 32) ≡ true
      → value_in_line (copies hand.lines (addr / 32)) addr size ≡ value_at state.memory addr size
  load-value size addr placed is =
      ap (λ bytes. value_in_line bytes addr size) (s.bytes (addr / 32) is)
      ∙ line-loads state.memory addr size (place-within_line size addr placed)

  load-to : (size addr : ℕ) → is_place size addr ≡ true → ready (addr / 32) ≡ true
      → IsServedTo ready alone a hand (hand_after hand (Load size addr)) state (served_state state a (Load size addr))
  load-to size addr placed is = record {
    serves = record {
      last = load-value size addr placed is ∙ rw (eq-eqb a a refl) refl;
      held = s.held;
      bytes = s.bytes;
    };
    others = λ b apart. rw (ne_eqb b a apart) refl;
    beside = λ line e. refl;
    lower = λ line e. e;
  }

  store-to : (size addr : ℕ) (value : Operand) → is_place size addr ≡ true → ready (addr / 32) ≡ true
      → alone (addr / 32) ≡ true
      → IsServedTo ready alone a hand (hand_after hand (Store size addr value)) state
      (served_state state a (Store size addr value))
  store-to size addr value placed is own =
      let number : ℕ = put_of size hand.last value in
      let same : put_of size (state.last a) value ≡ number = ap (λ last. put_of size last value) (sym s.last) in
      let within = place-within_line size addr placed in
      let held = s.held (addr / 32) is in
      let memory : ByteMemory = put_value state.memory addr size number in
      let is_memory : put_value state.memory addr size (put_of size (state.last a) value) ≡ memory =
      ap (put_value state.memory addr size) same in
      let here : (line : ℕ) → line ≡ addr / 32
      → copies (sets_stored hand.lines addr size number) line ≡ line_bytes memory line =
      λ line e. stored-bytes hand.lines addr size number held line ∙ rw (eq-eqb line (addr / 32) e)
      (ap (λ bytes. line_with_value bytes addr size number) (s.bytes (addr / 32) is)
      ∙ line-stores state.memory addr size number within ∙ ap (line_bytes memory) (sym e)) in
      let there : (line : ℕ) → line ≢ addr / 32 → ready line ≡ true
      → copies (sets_stored hand.lines addr size number) line ≡ line_bytes memory line =
      λ line apart r. stored-bytes hand.lines addr size number held line ∙ rw (ne_eqb line (addr / 32) apart)
      (s.bytes line r ∙ sym (line-beside state.memory addr size number line apart within)) in
      record {
        serves = record {
          last = s.last;
          held = λ line r. ap is_held (stored-state hand.lines addr size number held line)
              ∙ held-still (line == addr / 32) (states hand.lines line) (s.held line r);
          bytes = λ line r. ⊎_elim (here line) (λ apart. there line apart r) (cases_eq line (addr / 32))
              ∙ ap (λ m. line_bytes m line) (sym is_memory);
        };
        others = λ b apart. refl;
        beside = λ line off. ap (λ m. line_bytes m line) is_memory
            ∙ line-beside state.memory addr size number line (not-own line off) within;
        lower = λ line e. lowered line
            (⊎_elim inl inr (cases_eq line (addr / 32)))
            (sym (ap is_held (stored-state hand.lines addr size number held line)) ∙ e);
      }
    where
      held-still : (b : Bool) (m : Mesi) → is_held m ≡ true → is_held (if b then Modified else m) ≡ true
      held-still true m h = refl
      held-still false m h = h

      not-own : (line : ℕ) → alone line ≡ false → line ≢ addr / 32
      not-own line off e = let no = sym (ap alone e ∙ own) ∙ off in (let h : ⊥ = cc in h)

      lowered : (line : ℕ) → (line ≡ addr / 32) ⊎ (line ≢ addr / 32)
          → is_held (if line == addr / 32 then Modified else states hand.lines line) ≡ true
          → is_held (states hand.lines line) ≡ true
      lowered line (inl e) h = ap (λ l. is_held (states hand.lines l)) e ∙ s.held (addr / 32) is
      lowered line (inr apart) h = rw (ne_eqb line (addr / 32) apart) at h

-- an access has the value of the replay, and leads on as there
access-served : (ready alone : ℕ → Bool) (a : ℕ) (hand : AtHand) (state : ReplayState) (access : Access)
    → Serves ready a hand state → is_served_on ready alone access ≡ true
    → (value_at_hand hand access ≡ served_value state a access)
    × IsServedTo ready alone a hand (hand_after hand access) state (served_state state a access)
unfolding is_load
access-served ready alone a hand state (Load size addr) s e =
    let parts = and_parts (is_place size addr) (ready (addr / 32) && true) e in
    let is = (and_parts (ready (addr / 32)) true parts.1).0 in (
      load-value ready alone a hand state s size addr parts.0 is,
      load-to ready alone a hand state s size addr parts.0 is,
    )
access-served ready alone a hand state (Store size addr value) s e =
    let parts = and_parts (is_place size addr) (ready (addr / 32) && alone (addr / 32)) e in
    let two = and_parts (ready (addr / 32)) (alone (addr / 32)) parts.1 in (
      ap (λ last. put_of size last value) s.last,
      store-to ready alone a hand state s size addr value parts.0 two.0 two.1,
    )

-- one after the other
chained : (ready alone : ℕ → Bool) (a : ℕ) (hand next last : AtHand) (state after end : ReplayState)
    → IsServedTo ready alone a hand next state after → IsServedTo ready alone a next last after end
    → IsServedTo ready alone a hand last state end
chained ready alone a hand next last state after end j k = grind arith

pub hand-served : (ready alone : ℕ → Bool) (a clock : ℕ) (hand : AtHand) (state : ReplayState) (steps : List Step)
    → Serves ready a hand state → list_all (λ (step : Step). is_served_on ready alone step.access) steps ≡ true
    → AreServed state (entries_at_hand a clock hand steps)
    × IsServedTo ready alone a hand (hand_after_steps hand steps) state
    (replay state (entries_at_hand a clock hand steps))
hand-served ready alone a clock hand state [] s all = grind arith
hand-served ready alone a clock hand state (step ∷ steps) s all =
    let parts = and_parts (is_served_on ready alone step.access)
    (list_all (λ (x : Step). is_served_on ready alone x.access) steps) all in
    let next = hand_after hand step.access in
    let after = served_state state a step.access in
    let here = access-served ready alone a hand state step.access s parts.0 in
    let rest = hand-served ready alone a clock next after steps here.1.serves parts.1 in (
      (λ i. here.0 i ∷ rest.0 i),
      chained ready alone a hand next (hand_after_steps next steps) state after
          (replay after (entries_at_hand a clock next steps)) here.1 rest.1,
    )
