-- Lines that are walked one after the other.
use Rattle.std.proofs.Common.{ℕ, ◌+◌, ◌<◌, ◌≡◌, drop, get_or, length, Bool, true, false, ◌||◌, nat_eq, List, ◌∷◌, refl, sym, ap, ◌∙◌}
use Rattle.std.proofs.Common.{if◌then◌else◌}
use Rattle.std.proofs.lemmas.List.{drop_more}
use Rattle.fsb_trace.specs.At.{Trace}
use Rattle.fsb_owners.specs.Joint.{Joint}
use Rattle.fsb_owners.specs.Possible.{after_clock}
use Rattle.fsb_joint.specs.declared.line_sets.LineSets.{LineSets}
use Rattle.fsb_joint.specs.declared.set.JointSet.{JointSet}
use Rattle.fsb_joint.specs.LineClock.{droppable_at, ready_at}
use Rattle.fsb_joint.specs.Lines.{Sets, set_of_line}
use Rattle.fsb_joint.specs.Sets.{joints_of}
use Rattle.fsb_owner_judge.specs.declared.sights.Waiting.{Waiting}
use Rattle.fsb_owner_judge.specs.Lines.{ShowWaits, is_waiting, walked}
use Rattle.fsb_owner_judge.proofs.LineSights.{one_line}

set_if : (v : Trace) (c line other : ℕ) (b : Bool) (old : LineSets) (next : JointSet) → nat_eq line other ≡ b
    → joints_of next ≡ after_clock v line c (joints_of (set_of_line old line))
    → joints_of (if b then next else set_of_line old other) ≡ walked v c other b (joints_of (set_of_line old other))
set_if v c line other true old next t e = rw (← one_line line other t) e
set_if v c line other false old next t e = refl

-- one line is walked
pub walked-one : (v : Trace) (c line : ℕ) (old new : LineSets) (next : JointSet) → Sets old new line next
    → joints_of next ≡ after_clock v line c (joints_of (set_of_line old line)) → (other : ℕ)
    → joints_of (set_of_line new other) ≡ walked v c other (nat_eq line other) (joints_of (set_of_line old other))
walked-one v c line old new next s e other =
    ap (λ set. joints_of set) (s other) ∙ set_if v c line other (nat_eq line other) old next refl e

step_by : (v : Trace) (c line : ℕ) (b rest : Bool) (now next target : List Joint) → (b ≡ true → rest ≡ false)
    → next ≡ walked v c line b now → walked v c line (b || rest) now ≡ target → walked v c line rest next ≡ target
step_by v c line true rest now next target o n t = rw (o refl, n) t
step_by v c line false rest now next target o n t = rw n t

rest_off : (ws : List Waiting) (line other : ℕ) → is_waiting ws line ≡ false → nat_eq line other ≡ true → is_waiting ws other ≡ false
rest_off ws line other f t = ap (λ n. is_waiting ws n) (sym (one_line line other t)) ∙ f

-- and then the others
pub walked-next : (v : Trace) (c : ℕ) (w : Waiting) (ws : List Waiting) (now next target : ℕ → List Joint) → ShowWaits v c (w ∷ ws)
    → ((line : ℕ) → next line ≡ walked v c line (nat_eq w.line line) (now line))
    → ((line : ℕ) → walked v c line (is_waiting (w ∷ ws) line) (now line) ≡ target line)
    → ShowWaits v c ws × ((line : ℕ) → walked v c line (is_waiting ws line) (next line) ≡ target line)
walked-next v c w ws now next target s n t = (
  s.1,
  λ line. step_by v c line (nat_eq w.line line) (is_waiting ws line) (now line) (next line) (target line)
      (λ e. rest_off ws w.line line s.0.0 e) (n line) (t line),
)

from_list : (v : Trace) (c : ℕ) (ys : List Waiting) (w : Waiting) (ws : List Waiting) (now next target : ℕ → List Joint)
    → ys ≡ w ∷ ws → ShowWaits v c ys
    → ((line : ℕ) → next line ≡ walked v c line (nat_eq w.line line) (now line))
    → ((line : ℕ) → walked v c line (is_waiting ys line) (now line) ≡ target line)
    → ShowWaits v c ws × ((line : ℕ) → walked v c line (is_waiting ws line) (next line) ≡ target line)
from_list v c ys w ws now next target e = rw e (walked-next v c w ws now next target)

-- the next one in a list is walked
pub walked-more : (v : Trace) (c : ℕ) (waits : List Waiting) (i : ℕ) (d : Waiting) (now next target : ℕ → List Joint)
    → i < length waits → ShowWaits v c (drop i waits)
    → ((line : ℕ) → next line ≡ walked v c line (nat_eq (get_or waits i d).line line) (now line))
    → ((line : ℕ) → walked v c line (is_waiting (drop i waits) line) (now line) ≡ target line)
    → ShowWaits v c (drop (i + 1) waits)
    × ((line : ℕ) → walked v c line (is_waiting (drop (i + 1) waits) line) (next line) ≡ target line)
walked-more v c waits i d now next target l =
    from_list v c (drop i waits) (get_or waits i d) (drop (i + 1) waits) now next target (drop_more waits i d l)

head_list : (v : Trace) (c : ℕ) (ys : List Waiting) (w : Waiting) (ws : List Waiting) → ys ≡ w ∷ ws → ShowWaits v c ys
    → (w.ready ≡ ready_at v w.line c) × (w.may_drop ≡ droppable_at v w.line c)
head_list v c ys w ws e = rw e (λ s. (s.0.1, s.0.2))

-- and shows who waits
pub shown-head : (v : Trace) (c : ℕ) (waits : List Waiting) (i : ℕ) (d : Waiting) → i < length waits → ShowWaits v c (drop i waits)
    → ((get_or waits i d).ready ≡ ready_at v (get_or waits i d).line c)
    × ((get_or waits i d).may_drop ≡ droppable_at v (get_or waits i d).line c)
shown-head v c waits i d l =
    head_list v c (drop i waits) (get_or waits i d) (drop (i + 1) waits) (drop_more waits i d l)
