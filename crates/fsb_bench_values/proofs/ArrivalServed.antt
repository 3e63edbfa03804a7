-- An agent whose line comes with the bytes of the one byte memory: what that completes is served, and the agent has
-- the bytes of the one byte memory behind it.
use Rattle.fsb_bench_values.proofs.Words
use Words.{ℕ, ◌<◌, ◌%◌, ◌≡◌, ◌≢◌, Bool, true, false, ◌&&◌, ◌||◌, not, List, [], length, if◌then◌else◌, refl, sym, ap}
use Words.{subst, ◌∙◌, ⊎_elim, arith, ◌==◌, is_none, list_all, option_map_or, and_from, and_parts, both_ways, cases_eq}
use Words.{eq-eqb, eqb-true, ne_eqb, or_left, or_right, Item, ReplayState, replay, Step, fill_on-without, CacheSets}
use Words.{copies, sets_filled, sets_without, states, all-at, Mesi, Modified, is_held, kind_owns, fill_on, is_apart}
use Words.{is_lawful_item, line_bytes, Need, needs_of, OwnRequest, AgentView, has_come, is_served_by, line_state_by}
use Words.{may_complete, next_item_by, are_met_with, arrived_for, is_arrival_by, landed, met_by, met_entries}
use Words.{with_bytes, completed_by, completed_entries, hand_of, next_steps, kind_asks}
use Rattle.fsb_bench_values.proofs.HandServed.{AreServed, IsServedTo, Serves, hand-served, is_served_on}
use Rattle.fsb_bench_values.proofs.ItemsServed.{IsAgentAt, alone_by, item-next, next-steps-are, served-ready}
use Rattle.fsb_bench_values.proofs.ItemsServed.{steps-on}
use Rattle.fsb_bench_values.proofs.NeedsMet.{is_met_on, needs-met}
use Rattle.fsb_bench_values.proofs.SetCopies.{WasHeld, filled-apart, filled-bytes, filled-other, filled-some}
use Rattle.fsb_bench_values.proofs.SetCopies.{filled-state, lowers-without}

-- the line that comes, and each other one that is left and ready
abbrev pub ready_with : AgentView → ℕ → List ℕ → ℕ → Bool
ready_with w line bytes other =
    is_held (line_state_by (with_bytes w line bytes) other) && ((other == line) || has_come w other)

-- what may be stored into: the line that comes, where it is owned, and each other one that the agent has alone
abbrev pub alone_with : AgentView → ℕ → Bool → ℕ → Bool
alone_with w line owns other = if other == line then owns else alone_by w other

-- the request owns its line
abbrev pub owns_line : OwnRequest → Bool
owns_line out = kind_owns (kind_asks out.request.kind)

-- what agent a, the line of whose request comes, makes of the state and of itself
pub record ArrivesTo (state after : ReplayState) (a clock : ℕ) (w : AgentView) (out : OwnRequest)
    (bytes : List ℕ) : Type 0 where
  pub agent : IsAgentAt after a (arrived_for w clock out bytes)
  pub others : (b : ℕ) → b ≢ a → after.last b ≡ state.last b
  pub beside : (line : ℕ) → alone_with w out.request.line (owns_line out) line ≡ false
      → line_bytes after.memory line ≡ line_bytes state.memory line
  pub came : copies (met_by w clock out bytes).lines out.request.line ≡ line_bytes after.memory out.request.line

module _ (state : ReplayState) (a : ℕ) (w : AgentView) (line : ℕ) (bytes : List ℕ) (k : IsAgentAt state a w)
    (some : 0 < length w.lines) (now : bytes ≡ line_bytes state.memory line) where
  there-held : is_held (line_state_by (with_bytes w line bytes) line) ≡ true
  there-held = ap is_held (filled-state w.lines line Modified bytes some)

  ready-line : ready_with w line bytes line ≡ true
  ready-line = and_from (is_held (line_state_by (with_bytes w line bytes) line)) ((line == line) || has_come w line)
      there-held (or_left (line == line) (has_come w line) (eq-eqb line line refl))

  there-serves : Serves (ready_with w line bytes) a (hand_of (with_bytes w line bytes)) state
  there-serves = record {
    last = k.last;
    held = λ other e.
        (and_parts (is_held (line_state_by (with_bytes w line bytes) other)) ((other == line) || has_come w other) e).0;
    bytes = λ other e.
        let parts = and_parts (is_held (line_state_by (with_bytes w line bytes) other))
        ((other == line) || has_come w other) e in
        ⊎_elim
        (λ (same : other ≡ line).
        ap (copies (sets_filled w.lines line Modified bytes)) same ∙ filled-bytes w.lines line Modified bytes some ∙ now
        ∙ ap (line_bytes state.memory) (sym same))
        (λ (apart : other ≢ line).
        let was = filled-other w.lines line other Modified bytes apart parts.0 in
        let come : has_come w other ≡ true = rw (ne_eqb other line apart) at parts.1 in
        was.same ∙ k.copies other was.held come)
        (cases_eq other line);
  }

  -- each need that is met is of a line that is ready
  need-ready : (owns : Bool) (need : Need) → is_met_on w (length w.lines) line owns need ≡ true
      → (ready_with w line bytes need.line ≡ true)
      × (need.alone ≡ true → alone_with w line owns need.line ≡ true)
  need-ready owns need met = by (need.line == line) refl
    where
      owned : (own need_alone : Bool) → (own || not need_alone) ≡ true → need_alone ≡ true → own ≡ true
      owned true b e f = refl
      owned false true e f = e
      owned false false e f = absurd (let no : ⊥ = cc in no)

      apart-sets : is_apart (length w.lines) line need.line ≡ true → need.line ≢ line
          → need.line % length w.lines ≢ line % length w.lines
      apart-sets e other same =
          let off : (line == need.line) ≡ false = ne_eqb line need.line (λ f. other (sym f)) in
          let on : (line % length w.lines == need.line % length w.lines) ≡ true =
          eq-eqb (line % length w.lines) (need.line % length w.lines) (sym same) in
          let no = rw (off, on) at e in (let h : ⊥ = cc in h)

      by : (b : Bool) → (need.line == line) ≡ b → (ready_with w line bytes need.line ≡ true)
          × (need.alone ≡ true → alone_with w line owns need.line ≡ true)
      by true e =
          let same : need.line ≡ line = eqb-true need.line line e in
          let m : ((owns || not need.alone) || false) ≡ true = rw e at met in (
            ap (ready_with w line bytes) same ∙ ready-line,
            λ own. rw e (owned owns need.alone (last (owns || not need.alone) m) own),
          )
        where
          last : (b : Bool) → (b || false) ≡ true → b ≡ true
          last true f = refl
          last false f = f
      by false e =
          let m : (is_served_by w need && is_apart (length w.lines) line need.line) ≡ true = rw e at met in
          let parts = and_parts (is_served_by w need) (is_apart (length w.lines) line need.line) m in
          let served = served-ready w need parts.0 in
          let ready = and_parts (is_held (line_state_by w need.line)) (has_come w need.line) served.0 in
          let other : need.line ≢ line = λ same. both_ways (need.line == line) e (eq-eqb need.line line same) in
          let held = ap is_held (filled-apart w.lines line need.line Modified bytes (apart-sets parts.1 other))
          ∙ ready.0 in (
            and_from (is_held (line_state_by (with_bytes w line bytes) need.line))
                ((need.line == line) || has_come w need.line) held
                (or_right (need.line == line) (has_come w need.line) ready.1),
            λ own. rw e (served.1 own),
          )

  -- the line has come: its agent has it as it was held, or not at all, and the others as they were
  landed-at : (after : ReplayState) (met : AgentView) (out : OwnRequest) (held : Mesi) → out.request.line ≡ line
      → met.buffers ≡ w.buffers → Serves (ready_with w line bytes) a (hand_of met) after
      → ((other : ℕ) → is_held (states met.lines other) ≡ true
      → is_held (line_state_by (with_bytes w line bytes) other) ≡ true)
      → IsAgentAt after a (landed met out held)
  landed-at after met out held names same s lower = record {
    last = s.last;
    copies = λ other still come. ⊎_elim
        (λ (here : other ≡ line). at other here (is_held held) refl still)
        (λ (apart : other ≢ line).
        let was = beside other apart (is_held held) refl still in
        let came : has_come w other ≡ true =
        ap (λ buffers. is_none (fill_on other buffers.fills)) (sym same)
        ∙ sym (ap is_none (fill_on-without other out.request.line met.buffers.fills (λ f. apart (f ∙ names)))) ∙ come in
        was.same ∙ s.bytes other
        (and_from (is_held (line_state_by (with_bytes w line bytes) other)) ((other == line) || has_come w other)
        (lower other was.held) (or_right (other == line) (has_come w other) came)))
        (cases_eq other line);
  }
    where
      target : ℕ
      target = out.request.line

      lines : Bool → CacheSets
      lines b = elim b [
        | true ↦ sets_filled met.lines target held (copies met.lines target)
        | false ↦ sets_without met.lines target
      ]

      beside : (other : ℕ) → other ≢ line → (b : Bool) → is_held held ≡ b
          → is_held (states (lines (is_held held)) other) ≡ true
          → WasHeld met.lines (lines (is_held held)) other
      beside other apart true e still =
          let is : lines (is_held held) ≡ lines true = ap lines e in
          subst (λ sets. WasHeld met.lines sets other) (sym is)
          (filled-other met.lines target other held (copies met.lines target) (λ f. apart (f ∙ names))
          (ap (λ sets. is_held (states sets other)) (sym is) ∙ still))
      beside other apart false e still =
          let is : lines (is_held held) ≡ lines false = ap lines e in
          subst (λ sets. WasHeld met.lines sets other) (sym is)
          (lowers-without met.lines target other (ap (λ sets. is_held (states sets other)) (sym is) ∙ still))

      at : (other : ℕ) → other ≡ line → (b : Bool) → is_held held ≡ b
          → is_held (states (lines (is_held held)) other) ≡ true
          → copies (lines (is_held held)) other ≡ line_bytes after.memory other
      at other here true e still =
          let is : lines (is_held held) ≡ lines true = ap lines e in
          let to : other ≡ target = here ∙ sym names in
          let full = filled-some met.lines target other held (copies met.lines target)
          (ap (λ sets. is_held (states sets other)) (sym is) ∙ still) in
          ap (λ sets. copies sets other) is ∙ ap (copies (lines true)) to
          ∙ filled-bytes met.lines target held (copies met.lines target) full
          ∙ ap (copies met.lines) (sym to)
          ∙ s.bytes other (ap (ready_with w line bytes) here ∙ ready-line)
      at other here false e still =
          let is : lines (is_held held) ≡ lines false = ap lines e in
          let was = lowers-without met.lines target other (ap (λ sets. is_held (states sets other)) (sym is) ∙ still) in
          ap (λ sets. copies sets other) is ∙ was.same
          ∙ s.bytes other (ap (ready_with w line bytes) here ∙ ready-line)

-- the arrival of a line, whether it completes something or not
pub record ArrivalServed (state : ReplayState) (a clock : ℕ) (w : AgentView) (out : OwnRequest)
    (bytes : List ℕ) : Type 0 where
  pub served : AreServed state (met_entries w clock out bytes)
  pub arrives : ArrivesTo state (replay state (met_entries w clock out bytes)) a clock w out bytes

arrives-to : (state after : ReplayState) (a clock : ℕ) (w met : AgentView) (out : OwnRequest) (bytes : List ℕ)
    → IsAgentAt state a w → 0 < length w.lines → bytes ≡ line_bytes state.memory out.request.line
    → met_by w clock out bytes ≡ met → met.buffers ≡ w.buffers
    → IsServedTo (ready_with w out.request.line bytes) (alone_with w out.request.line (owns_line out)) a
    (hand_of (with_bytes w out.request.line bytes)) (hand_of met) state after
    → ArrivesTo state after a clock w out bytes
arrives-to state after a clock w met out bytes k some now is same t =
    let line = out.request.line in record {
      agent = subst (λ m. IsAgentAt after a (landed m out (line_state_by w line))) (sym is)
          (landed-at state a w line bytes k some now after met out (line_state_by w line) refl same t.serves t.lower);
      others = t.others;
      beside = t.beside;
      came = ap (λ (m : AgentView). copies m.lines line) is
          ∙ t.serves.bytes line (ready-line state a w line bytes k some now);
    }

arrival-made : (state : ReplayState) (a clock : ℕ) (w : AgentView) (out : OwnRequest) (bytes : List ℕ) → w.number ≡ a
    → list_all (is_lawful_item (length w.lines)) w.items ≡ true → IsAgentAt state a w → 0 < length w.lines
    → bytes ≡ line_bytes state.memory out.request.line → is_arrival_by w clock out ≡ true
    → AreServed state (completed_entries (with_bytes w out.request.line bytes) clock)
    × IsServedTo (ready_with w out.request.line bytes) (alone_with w out.request.line (owns_line out)) a
    (hand_of (with_bytes w out.request.line bytes))
    (hand_of (completed_by (with_bytes w out.request.line bytes) clock)) state
    (replay state (completed_entries (with_bytes w out.request.line bytes) clock))
arrival-made state a clock w out bytes number lawful k some now e =
    let line = out.request.line in
    let there = with_bytes w line bytes in
    let owns = owns_line out in
    let ready = ready_with w line bytes in
    let alone = alone_with w line owns in
    let test : Item → Bool = λ item. are_met_with w line owns (needs_of item) in
    let parts = and_parts (may_complete w clock) (option_map_or test (next_item_by w) false) e in
    let item = item-next w test parts.1 in
    let good = all-at (is_lawful_item (length w.lines)) w.items w.place item.0 lawful item.1 in
    let met = needs-met w (length w.lines) line owns item.0 good item.2 in
    let on = steps-on ready alone (is_met_on w (length w.lines) line owns) (length w.lines) w.place item.0
    (need-ready state a w line bytes k some now owns) good met in
    let steps = next-steps-are there item.0 item.1 in
    let all : list_all (λ (step : Step). is_served_on ready alone step.access) (next_steps there) ≡ true =
    ap (list_all (λ (step : Step). is_served_on ready alone step.access)) steps ∙ on in
    let serves = there-serves state a w line bytes k some now in
    let h = hand-served ready alone w.number clock (hand_of there) state (next_steps there)
    (subst (λ b. Serves ready b (hand_of there) state) (sym number) serves) all in
    grind arith

pub arrival-served : (state : ReplayState) (a clock : ℕ) (w : AgentView) (out : OwnRequest) (bytes : List ℕ)
    → w.number ≡ a → list_all (is_lawful_item (length w.lines)) w.items ≡ true → IsAgentAt state a w
    → 0 < length w.lines → bytes ≡ line_bytes state.memory out.request.line
    → ArrivalServed state a clock w out bytes
arrival-served state a clock w out bytes number lawful k some now = by (is_arrival_by w clock out) refl
  where
    there : AgentView
    there = with_bytes w out.request.line bytes

    by : (b : Bool) → is_arrival_by w clock out ≡ b → ArrivalServed state a clock w out bytes
    by false e =
        let none : met_entries w clock out bytes ≡ [] = grind arith in
        let is : met_by w clock out bytes ≡ there = grind arith in
        record {
          served = subst (AreServed state) (sym none) refl;
          arrives = subst (λ es. ArrivesTo state (replay state es) a clock w out bytes) (sym none)
              (arrives-to state state a clock w there out bytes k some now is refl
              (record {
                serves = there-serves state a w out.request.line bytes k some now;
                others = λ c apart. refl;
                beside = λ line off. refl;
                lower = λ line h. h;
              }));
        }
    by true e =
        let h = arrival-made state a clock w out bytes number lawful k some now e in
        let some_entries : met_entries w clock out bytes ≡ completed_entries there clock = grind arith in
        let is : met_by w clock out bytes ≡ completed_by there clock = grind arith in
        record {
          served = subst (AreServed state) (sym some_entries) h.0;
          arrives = subst (λ es. ArrivesTo state (replay state es) a clock w out bytes) (sym some_entries)
              (arrives-to state (replay state (completed_entries there clock)) a clock w (completed_by there clock) out
              bytes k some now is refl h.1);
        }
