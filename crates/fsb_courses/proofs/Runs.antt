-- The states of a run of the machine that fits the wires are a course.
use Rattle.std.proofs.Common.{ℕ, ◌+◌, ◌<◌, ◌≡◌, Bool, true, false, nat_eq, List, [], ◌∷◌, map, take, Option, Some, None}
use Rattle.std.proofs.Common.{refl, sym, ap, ◌∙◌, subst, arith, inl, inr, if◌then◌else◌}
use Rattle.std.proofs.lemmas.Bool.{cases_Bool, eqb-true}
use Rattle.fsb_signal.specs.declared.lines.TheConstants.Lines.{HIT}
use Rattle.fsb_signal.specs.Samples.{line_at}
use Rattle.fsb_line.specs.declared.state.Mesi.{Mesi}
use Rattle.fsb_line.specs.declared.state.Mesi.TheVariants.{Exclusive, Invalid, Modified, Shared}
use Rattle.fsb_line.specs.Events.{Event, May, after}
use Rattle.fsb_line.specs.Events.Event.{Begins, Drops, Ends, IsCancelled, IsDeferred, IsGranted, IsHanded, IsLost, IsReplied}
use Rattle.fsb_line.specs.Events.Event.{IsRetried, IsUpgraded, IsWritten, Loads, Responds, Stores}
use Rattle.fsb_line.specs.Line.{MemoryLine}
use Rattle.fsb_line.specs.LineRuns.{MayRun, run}
use Rattle.fsb_line.specs.States.{is_modified, is_sole}
use Rattle.fsb_trace.specs.At.{Trace}
use Rattle.fsb_owners.specs.Joint.{Joint, agents, state_at}
use Rattle.fsb_owners.specs.Rules.{ownership_verdict}
use Rattle.fsb_owners.specs.Shown.{is_coming, may_drop_at}
use Rattle.fsb_owner_laws.proofs.Members.{at_agents}
use Rattle.fsb_courses.specs.Courses.{HasOneWriter, IsCourse, IsStep, LineSnoop, MayMove, joint_after_snoop, line_snoop_at}
use Rattle.fsb_courses.specs.Courses.{settled_at_snoop, state_after_snoop}
use Rattle.fsb_courses.specs.Machine.{changes_no_state, state_by_course}
use Rattle.fsb_courses.specs.Runs.{AllKeepGuards, AllStill, FitsClock, FitsWires, IsMadeByMachines, KeepsGuards, SnoopsAs, shown_as, states_of}
use Rattle.fsb_courses.proofs.Explaining.{breaks_none}
use Rattle.fsb_courses.proofs.Machine.{coherent_writes, drops_move, others_move, snoops_move, stores_move}

-- before the snoop end
still_run : (x : MemoryLine) (es : List Event) (b : ℕ) → AllStill es → (run x es).state b ≡ x.state b
still_run x [] b s = refl
still_run x (e ∷ es) b s = still_run (after x e) es b s.1 ∙ others_move x e b s.0

-- behind it: what an agent did before it moves on

from_modified : (v : Trace) (line c b : ℕ) (t : Mesi) → MayMove v line c b Modified t → t ≡ Modified
from_modified v line c b t (inl same) = sym same
from_modified v line c b t (inr (inl stored)) = absurd (let e = stored.exclusive in let no : ⊥ = cc in no)
from_modified v line c b t (inr (inr dropped)) = absurd (let e = dropped.clean in let no : ⊥ = cc in no)

from_invalid : (v : Trace) (line c b : ℕ) (t : Mesi) → MayMove v line c b Invalid t → t ≡ Invalid
from_invalid v line c b t (inl same) = sym same
from_invalid v line c b t (inr (inl stored)) = absurd (let e = stored.exclusive in let no : ⊥ = cc in no)
from_invalid v line c b t (inr (inr dropped)) = dropped.gone

-- a writer that stores has the line Exclusive or Modified before
store_first : (v : Trace) (line c b : ℕ) (s t : Mesi) → is_sole s ≡ true → is_coming v line b (c + 1) ≡ false → t ≡ Modified
    → MayMove v line c b s t
store_first v line c b Invalid t e r m = absurd (let no : ⊥ = cc in no)
store_first v line c b Shared t e r m = absurd (let no : ⊥ = cc in no)
store_first v line c b Exclusive t e r m = inr (inl (record { exclusive = refl; ready = r; modified = m }))
store_first v line c b Modified t e r m = inl (sym m)

here_or : (b : Bool) (s t : Mesi) → b ≡ true → (if b then s else t) ≡ s
here_or b s t e = rw e refl

there_or : (b : Bool) (s t : Mesi) → b ≡ false → (if b then s else t) ≡ t
there_or b s t e = rw e refl

move_from : (v : Trace) (line c b : ℕ) (s t u : Mesi) → s ≡ t → MayMove v line c b s u → MayMove v line c b t u
move_from v line c b s t u e m = subst (λ z. MayMove v line c b z u) e m

after_store : (v : Trace) (line c a b : ℕ) (s t u : Mesi) → is_coming v line a (c + 1) ≡ false
    → t ≡ (if nat_eq b a then Modified else s) → MayMove v line c b t u → (nat_eq b a ≡ true → is_sole s ≡ true)
    → MayMove v line c b s u
after_store v line c a b s t u r e m sole =
    elim (cases_Bool (nat_eq b a)) [
      | inl same ↦
          store_first v line c b s u (sole same) (ap (λ d. is_coming v line d (c + 1)) (eqb-true b a same) ∙ r)
          (from_modified v line c b u (move_from v line c b t Modified u (e ∙ here_or (nat_eq b a) Modified s same) m))
      | inr other ↦ move_from v line c b t s u (e ∙ there_or (nat_eq b a) Modified s other) m
    ]

after_drop : (v : Trace) (line c a b : ℕ) (s t u : Mesi) → may_drop_at v line c a ≡ true
    → t ≡ (if nat_eq b a then Invalid else s) → MayMove v line c b t u → (nat_eq b a ≡ true → is_modified s ≡ false)
    → MayMove v line c b s u
after_drop v line c a b s t u r e m clean =
    elim (cases_Bool (nat_eq b a)) [
      | inl same ↦ inr (inr (record {
        clean = clean same;
        idle = ap (λ d. may_drop_at v line c d) (eqb-true b a same) ∙ r;
        gone = from_invalid v line c b u (move_from v line c b t Invalid u (e ∙ here_or (nat_eq b a) Invalid s same) m);
      }))
      | inr other ↦ move_from v line c b t s u (e ∙ there_or (nat_eq b a) Invalid s other) m
    ]

after_other : (v : Trace) (line c b : ℕ) (x : MemoryLine) (e : Event) (u : Mesi) → changes_no_state e ≡ true
    → MayMove v line c b ((after x e).state b) u → MayMove v line c b (x.state b) u
after_other v line c b x e u t m = move_from v line c b ((after x e).state b) (x.state b) u (others_move x e b t) m

event_move : (v : Trace) (line c b : ℕ) (x : MemoryLine) (e : Event) (u : Mesi) → May x e → KeepsGuards v line c e
    → MayMove v line c b ((after x e).state b) u → MayMove v line c b (x.state b) u
unfolding May
event_move v line c b x (Stores a change) u m g h =
    after_store v line c a b (x.state b) ((after x (Stores a change)).state b) u g (stores_move x a change b) h
    (λ t. ap (λ d. is_sole (x.state d)) (eqb-true b a t) ∙ m.1)
event_move v line c b x (Drops a) u m g h =
    after_drop v line c a b (x.state b) ((after x (Drops a)).state b) u g (drops_move x a b) h
    (λ t. ap (λ d. is_modified (x.state d)) (eqb-true b a t) ∙ m)
event_move v line c b x (Loads a) u m g h = after_other v line c b x (Loads a) u g h
event_move v line c b x (Begins a kind number) u m g h = after_other v line c b x (Begins a kind number) u g h
event_move v line c b x (IsCancelled a) u m g h = after_other v line c b x (IsCancelled a) u g h
event_move v line c b x (IsWritten a) u m g h = after_other v line c b x (IsWritten a) u g h
event_move v line c b x (IsHanded a kind owner) u m g h = after_other v line c b x (IsHanded a kind owner) u g h
event_move v line c b x (IsGranted a kind shared) u m g h = after_other v line c b x (IsGranted a kind shared) u g h
event_move v line c b x (IsUpgraded a) u m g h = after_other v line c b x (IsUpgraded a) u g h
event_move v line c b x (IsLost a) u m g h = after_other v line c b x (IsLost a) u g h
event_move v line c b x (IsRetried a kind) u m g h = after_other v line c b x (IsRetried a kind) u g h
event_move v line c b x (IsDeferred a kind shared) u m g h = after_other v line c b x (IsDeferred a kind shared) u g h
event_move v line c b x IsReplied u m g h = after_other v line c b x IsReplied u g h
event_move v line c b x Responds u m g h = after_other v line c b x Responds u g h
event_move v line c b x (Ends change) u m g h = after_other v line c b x (Ends change) u g h

all_move : (v : Trace) (line c b : ℕ) (x : MemoryLine) (es : List Event) → MayRun x es → AllKeepGuards v line c es
    → MayMove v line c b (x.state b) ((run x es).state b)
all_move v line c b x [] m g = inl refl
all_move v line c b x (e ∷ es) m g =
    event_move v line c b x e ((run (after x e) es).state b) m.0 g.0 (all_move v line c b (after x e) es m.1 g.1)

-- at the snoop end

same_map : (f g : ℕ → Mesi) → ((b : ℕ) → b < 4 → f b ≡ g b) → map f agents ≡ map g agents
same_map f g h = rw (h 0 (omega arith), h 1 (omega arith), h 2 (omega arith), h 3 (omega arith)) refl

by_wires : (v : Trace) (c : ℕ) (s : LineSnoop) (joint : Joint) (b : ℕ)
    → state_by_course (shown_as v c s) (state_at joint b) b ≡ state_after_snoop v c s joint b
unfolding state_by_course state_after_snoop settled_at_snoop
by_wires v c s joint b = refl

snooped_states : (v : Trace) (c : ℕ) (o : Option LineSnoop) (x y z : MemoryLine) → ((b : ℕ) → y.state b ≡ x.state b)
    → SnoopsAs v c o y z → joint_after_snoop v c o (states_of x) ≡ states_of z
snooped_states v c None x y z h e = same_map x.state z.state (λ b l. sym (h b) ∙ ap (λ (m : MemoryLine). m.state b) e)
snooped_states v c (Some s) x y z h (e, may, shown, ends) =
    same_map (state_after_snoop v c s (states_of x)) z.state (λ b l.
    sym (by_wires v c s (states_of x) b)
    ∙ ap (λ t. state_by_course (shown_as v c s) t b) (at_agents x.state b l ∙ sym (h b))
    ∙ sym (snoops_move y e (line_at HIT v c) (shown_as v c s) b may shown)
    ∙ ap (λ (m : MemoryLine). m.state b) ends)

clock_step : (v : Trace) (line c : ℕ) (x y : MemoryLine) → FitsClock v line c x y → IsStep v line c (states_of x) (states_of y)
clock_step v line c x y k =
    let same : joint_after_snoop v c (line_snoop_at v line c) (states_of x) ≡ states_of k.snooped =
    snooped_states v c (line_snoop_at v line c) x (run x k.early) k.snooped (λ b. still_run x k.early b k.early_still) k.snoops in
    record {
      asked = k.asked;
      answered = k.answered;
      one_writer = subst (λ j. HasOneWriter j) (sym same) (coherent_writes k.snooped k.coherent);
      moves = λ b l.
          let moved = subst (λ (m : MemoryLine). MayMove v line c b (k.snooped.state b) (m.state b)) k.ends
          (all_move v line c b k.snooped k.late k.late_may k.late_guarded) in
          subst (λ (j : Joint). MayMove v line c b (state_at j b) (state_at (states_of y) b)) (sym same)
          (subst (λ t. MayMove v line c b (state_at (states_of k.snooped) b) t) (sym (at_agents y.state b l))
          (subst (λ t. MayMove v line c b t (y.state b)) (sym (at_agents k.snooped.state b l)) moved));
    }

pub run_course : (first : List Joint) (v : Trace) (line n : ℕ) (lines : ℕ → MemoryLine) → FitsWires first v line n lines
    → IsCourse first v line n (λ c. states_of (lines c))
run_course first v line n lines f = record {
  begins = f.begins;
  one_writer = λ c l. coherent_writes (lines c) (f.coherent c l);
  goes_on = λ c l. clock_step v line c (lines c) (lines (c + 1)) (f.goes_on c l);
}

pub run_unbroken : (first : List Joint) (w : Trace) → IsMadeByMachines first w → ownership_verdict first w ≡ None
run_unbroken first w h =
    breaks_none first w (λ c l line s.
    let k = h c line l s in
    record {
      turns = k.0;
      course = record {
        course = λ d. states_of (k.1.lines d);
        is_course = run_course first (take (c + 1) w) line (c + 1) k.1.lines k.1.fits;
      };
    })
