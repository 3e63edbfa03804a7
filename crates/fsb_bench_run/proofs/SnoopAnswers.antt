-- What four agents answer together at a snoop end.
use Rattle.fsb_bench_run.proofs.Words
use Words.{ℕ, ◌≡◌, ◌&&◌, ◌||◌, Bool, true, false, not, Some, List, [], ◌∷◌, length, nat_eq, if◌then◌else◌, refl, sym}
use Words.{ap, ◌∙◌, arith, slice_get, AgentView, answer_by, any_where, any_where-more, any_where-off, holds_line}
use Words.{is_dirty, Run, past_of, is_dirty_elsewhere, is_held_elsewhere, step_performed, answer_besides, is_hit_answer}
use Words.{is_modified_answer, stronger, BenchView, next_clock_of}
use Rattle.fsb_line.specs.declared.state.Answer.{Answer}
use Rattle.fsb_line.specs.declared.state.Answer.TheVariants as answers

-- the answer of an agent that is dirty on a line or not, and holds it or not
abbrev pub answer_told : Bool → Bool → Answer
answer_told dirty held = if dirty then answers.Modified else (if held then answers.Hit else answers.Clean)

-- the agents answer as the run says they are after the hits of the next clock
pub record AgentsAnswer (v : BenchView) (s : Run) : Type 0 where
  pub four : length (step_performed v).agents ≡ 4
  pub answers : (b line : ℕ) (w : AgentView) → slice_get (step_performed v).agents b ≡ Some w
      → answer_by w line ≡ answer_told (is_dirty (past_of s) b line (next_clock_of v)) (holds_line (past_of s) b line
      (next_clock_of v))

-- the answer is not that the line is not there
abbrev is_some_answer : Answer → Bool
is_some_answer answers.Clean = false
is_some_answer answers.Hit = true
is_some_answer answers.Modified = true

hit-by : (x : Answer) → is_hit_answer x ≡ (not (is_modified_answer x) && is_some_answer x)
hit-by x = grind arith

-- of an agent's answer and the others'
abbrev joined : Bool → Answer → Answer → Answer
joined skip own rest = if skip then rest else stronger own rest

modified-joined : (skip dirty held : Bool) (rest : Answer)
    → is_modified_answer (joined skip (answer_told dirty held) rest) ≡ ((not skip && dirty) || is_modified_answer rest)
modified-joined skip dirty held rest = grind arith

some-joined : (skip dirty held : Bool) (rest : Answer)
    → is_some_answer (joined skip (answer_told dirty held) rest) ≡ (((not skip && dirty) ||
    (not skip && held)) || is_some_answer rest)
some-joined skip dirty held rest = grind arith

-- a test of four numbers
to-left : (a b c d : Bool) → (a || (b || (c || (d || false)))) ≡ ((((false || a) || b) || c) || d)
to-left a b c d = grind arith

four-any : (f : ℕ → Bool) → (f 0 || (f 1 || (f 2 || (f 3 || false)))) ≡ any_where f 4
four-any f =
    to-left (f 0) (f 1) (f 2) (f 3)
    ∙ sym (any_where-more f 3 ∙ ap (λ b. b || f 3) (any_where-more f 2 ∙ ap (λ b. b || f 2) (any_where-more f 1
    ∙ ap (λ b. b || f 1) (any_where-more f 0 ∙ ap (λ b. b || f 0) (any_where-off f 0 (λ k l. absurd (omega arith)))))))

either-swap : (a b c d : Bool) → ((a || b) || (c || d)) ≡ ((a || c) || (b || d))
either-swap a b c d = grind arith

-- what an agent answers of the line, by its number
abbrev tells : (ℕ → Bool) → (ℕ → Bool) → ℕ → ℕ → AgentView → Type 0
tells dirty held line b w = answer_by w line ≡ answer_told (dirty b) (held b)

besides-four : (a line : ℕ) (w0 w1 w2 w3 : AgentView) (dirty held : ℕ → Bool)
    → tells dirty held line 0 w0 → tells dirty held line 1 w1 → tells dirty held line 2 w2 → tells dirty held line 3 w3
    → answer_besides a line 0 (w0 ∷ (w1 ∷ (w2 ∷ (w3 ∷ []))))
    ≡ joined (nat_eq 0 a) (answer_told (dirty 0) (held 0)) (joined (nat_eq 1 a) (answer_told (dirty 1) (held 1))
    (joined (nat_eq 2 a) (answer_told (dirty 2) (held 2)) (joined (nat_eq 3 a) (answer_told (dirty 3)
    (held 3)) answers.Clean)))
besides-four a line w0 w1 w2 w3 dirty held t0 t1 t2 t3 = grind arith

-- another than a passes the test
abbrev elsewhere : ℕ → (ℕ → Bool) → ℕ → Bool
elsewhere a test b = not (nat_eq b a) && test b

modified-four : (a : ℕ) (dirty held : ℕ → Bool)
    → is_modified_answer (joined (nat_eq 0 a) (answer_told (dirty 0) (held 0)) (joined (nat_eq 1 a) (answer_told
    (dirty 1) (held 1))
    (joined (nat_eq 2 a) (answer_told (dirty 2) (held 2)) (joined (nat_eq 3 a) (answer_told (dirty 3)
    (held 3)) answers.Clean))))
    ≡ any_where (elsewhere a dirty) 4
modified-four a dirty held =
    modified-joined (nat_eq 0 a) (dirty 0) (held 0) _
    ∙ ap (λ b. elsewhere a dirty 0 || b) (modified-joined (nat_eq 1 a) (dirty 1) (held 1) _
    ∙ ap (λ b. elsewhere a dirty 1 || b) (modified-joined (nat_eq 2 a) (dirty 2) (held 2) _
    ∙ ap (λ b. elsewhere a dirty 2 || b) (modified-joined (nat_eq 3 a) (dirty 3) (held 3) answers.Clean)))
    ∙ four-any (elsewhere a dirty)

some-four : (a : ℕ) (dirty held : ℕ → Bool)
    → is_some_answer (joined (nat_eq 0 a) (answer_told (dirty 0) (held 0)) (joined (nat_eq 1 a) (answer_told
    (dirty 1) (held 1))
    (joined (nat_eq 2 a) (answer_told (dirty 2) (held 2)) (joined (nat_eq 3 a) (answer_told (dirty 3)
    (held 3)) answers.Clean))))
    ≡ (any_where (elsewhere a dirty) 4 || any_where (elsewhere a held) 4)
some-four a dirty held =
    let d = elsewhere a dirty in
    let h = elsewhere a held in
    some-joined (nat_eq 0 a) (dirty 0) (held 0) _
    ∙ ap (λ b. (d 0 || h 0) || b) (some-joined (nat_eq 1 a) (dirty 1) (held 1) _
    ∙ ap (λ b. (d 1 || h 1) || b) (some-joined (nat_eq 2 a) (dirty 2) (held 2) _
    ∙ ap (λ b. (d 2 || h 2) || b) (some-joined (nat_eq 3 a) (dirty 3) (held 3) answers.Clean
    ∙ either-swap (d 3) (h 3) false false)
    ∙ either-swap (d 2) (h 2) (d 3 || false) (h 3 || false))
    ∙ either-swap (d 1) (h 1) (d 2 || (d 3 || false)) (h 2 || (h 3 || false)))
    ∙ either-swap (d 0) (h 0) (d 1 || (d 2 || (d 3 || false))) (h 1 || (h 2 || (h 3 || false)))
    ∙ (λ i. four-any d i || four-any h i)

-- a list of four
pub record IsFour (vs : List AgentView) : Type 0 where
  pub first : AgentView
  pub second : AgentView
  pub third : AgentView
  pub fourth : AgentView
  pub same : vs ≡ first ∷ (second ∷ (third ∷ (fourth ∷ [])))

pub is-four : (vs : List AgentView) → length vs ≡ 4 → IsFour vs
is-four [] e = absurd (omega arith)
is-four (a ∷ []) e = absurd (omega arith)
is-four (a ∷ (b ∷ [])) e = absurd (omega arith)
is-four (a ∷ (b ∷ (c ∷ []))) e = absurd (omega arith)
is-four (a ∷ (b ∷ (c ∷ (d ∷ [])))) e = record { first = a; second = b; third = c; fourth = d; same = refl }
is-four (a ∷ (b ∷ (c ∷ (d ∷ (f ∷ vs))))) e = absurd (omega arith)

-- together they answer that the line is Modified where another one is dirty on it, and that it is held where none
-- is and
-- another one holds it
pub record BesidesTold (v : BenchView) (s : Run) (a line : ℕ) : Type 0 where
  pub modified : is_modified_answer (answer_besides a line 0 (step_performed v).agents)
      ≡ is_dirty_elsewhere (past_of s) a line (next_clock_of v)
  pub hit : is_hit_answer (answer_besides a line 0 (step_performed v).agents)
      ≡ (not (is_dirty_elsewhere (past_of s) a line (next_clock_of v))
      && is_held_elsewhere (past_of s) a line (next_clock_of v))

pub besides-told : (v : BenchView) (s : Run) (a line : ℕ) → AgentsAnswer v s → BesidesTold v s a line
unfolding is_dirty_elsewhere is_held_elsewhere
besides-told v s a line k =
    let n = next_clock_of v in
    let p = past_of s in
    let vs = (step_performed v).agents in
    let q = is-four vs k.four in
    let dirty = λ (b : ℕ). is_dirty p b line n in
    let held = λ (b : ℕ). holds_line p b line n in
    let t = λ (b : ℕ) (w : AgentView) (at : slice_get vs b ≡ Some w). k.answers b line w at in
    let all = ap (answer_besides a line 0) q.same
    ∙ besides-four a line q.first q.second q.third q.fourth dirty held
    (t 0 q.first (ap (λ xs. slice_get xs 0) q.same)) (t 1 q.second (ap (λ xs. slice_get xs 1) q.same))
    (t 2 q.third (ap (λ xs. slice_get xs 2) q.same)) (t 3 q.fourth (ap (λ xs. slice_get xs 3) q.same)) in
    let modified = ap is_modified_answer all ∙ modified-four a dirty held in
    let some = ap is_some_answer all ∙ some-four a dirty held in
    grind (arith, hit-by)
