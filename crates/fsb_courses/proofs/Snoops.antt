-- A snoop end leaves the joint states that answer it, and turns each into the one behind it.
use Rattle.std.proofs.Common.{ℕ, ◌≡◌, Bool, true, false, ◌||◌, nat_eq, List, map, Option, Some, None, refl, sym, ap, subst, if◌then◌else◌}
use Rattle.std.specs.List.{Contains, filter}
use Rattle.std.specs.Option.{option_and_then, option_map}
use Rattle.fsb_signal.specs.declared.lines.TheConstants.Lines.{HIT, HITM}
use Rattle.fsb_signal.specs.Samples.{line_at}
use Rattle.fsb_line.specs.declared.purpose.Purpose.{Purpose}
use Rattle.fsb_line.specs.declared.purpose.Purpose.TheVariants.{Own, Read, Upgrade, WriteBack}
use Rattle.fsb_line.specs.declared.purpose.Settled.{Settled}
use Rattle.fsb_line.specs.declared.purpose.Settled.TheVariants.{Replied}
use Rattle.fsb_line.specs.States.{state_after}
use Rattle.fsb_trace.specs.At.{Trace}
use Rattle.fsb_trace.specs.Requests.{is_reply, live_request_of}
use Rattle.fsb_owners.specs.Joint.{Joint, agents, every_joint, is_after_snoop_end, is_same_joint, reached_by, state_at}
use Rattle.fsb_owners.specs.Possible.{after_answer, after_snoop_end, at_snoop_end, by_request, left_by, made_by, replied_to}
use Rattle.fsb_owners.specs.Possible.{settled_at_end, showing}
use Rattle.fsb_owners.specs.Shown.{agent_at, is_for_line, is_turned, origin_clock_of, purpose_at, snooped_at}
use Rattle.fsb_owner_laws.proofs.Members.{Has}
use Rattle.fsb_owner_laws.proofs.Quiet.{same_joints}
use Rattle.fsb_owner_laws.proofs.StepLosses.{same_joint}
use Rattle.fsb_courses.specs.Courses.{LineSnoop, joint_after_snoop, fits_snoop, answers_rightly, settled_at_snoop, line_snoop_at, line_snoop_by, state_after_snoop}
use Rattle.fsb_courses.proofs.Sets.{filter_in, filter_out, reached_in, reached_out}

-- a step of a set by the number, the agent and the kind of a request
abbrev ByRequest : Type 0
ByRequest = ℕ → ℕ → Purpose → List Joint → List Joint

abbrev step_of : ByRequest → Option LineSnoop → List Joint → List Joint
step_of f None set = set
step_of f (Some s) set = f s.number s.asker s.kind set

by_kind : (f : ByRequest) (set : List Joint) (j a : ℕ) (o : Option Purpose)
    → elim o [ None ↦ set | Some kind ↦ f j a kind set ]
    ≡ step_of f (option_map {U = LineSnoop} (λ kind. record { number = j; asker = a; kind = kind }) o) set
by_kind f set j a None = refl
by_kind f set j a (Some kind) = refl

by_agent : (f : ByRequest) (set : List Joint) (j : ℕ) (o : Option ℕ) (k : Option Purpose)
    → elim o [ None ↦ set | Some a ↦ elim k [ None ↦ set | Some kind ↦ f j a kind set ] ]
    ≡ step_of f (option_and_then (λ a. option_map {U = LineSnoop} (λ kind. record { number = j; asker = a; kind = kind }) k) o) set
by_agent f set j None k = refl
by_agent f set j (Some a) k = by_kind f set j a k

by_clock : (v : Trace) (f : ByRequest) (set : List Joint) (j : ℕ) (o : Option ℕ)
    → elim o [
      | None ↦ set
      | Some q ↦ elim (agent_at v q) [ None ↦ set | Some a ↦ elim (purpose_at v q) [ None ↦ set | Some kind ↦ f j a kind set ] ]
    ] ≡ step_of f (option_and_then (line_snoop_by v j) o) set
unfolding line_snoop_by
by_clock v f set j None = refl
by_clock v f set j (Some q) = by_agent f set j (agent_at v q) (purpose_at v q)

by_line : (f : ByRequest) (set to : List Joint) (b : Bool) (e : Option LineSnoop) → to ≡ step_of f e set
    → (if b then to else set) ≡ step_of f (if b then e else None) set
by_line f set to true e h = h
by_line f set to false e h = refl

by_number : (v : Trace) (line : ℕ) (f : ByRequest) (set : List Joint) (o : Option ℕ)
    → elim o [ None ↦ set | Some j ↦ if is_for_line v line j then by_request v j (f j) set else set ]
    ≡ step_of f (option_and_then (λ j. if is_for_line v line j then option_and_then (line_snoop_by v j) (origin_clock_of v j) else None) o) set
unfolding by_request
by_number v line f set None = refl
by_number v line f set (Some j) =
    by_line f set (by_request v j (f j) set) (is_for_line v line j) (option_and_then (line_snoop_by v j) (origin_clock_of v j))
    (by_clock v f set j (origin_clock_of v j))

at_snoop : (v : Trace) (line c : ℕ) (f : ByRequest) (set : List Joint)
    → at_snoop_end v line c f set ≡ step_of f (line_snoop_at v line c) set
unfolding at_snoop_end line_snoop_at
at_snoop v line c f set = by_number v line f set (snooped_at v c)

-- what the snoop end leaves

showing_as : (hit hitm : Bool) (asker : ℕ) (kind : Purpose) (set : List Joint)
    → showing hit hitm asker kind set ≡ filter (fits_snoop hit hitm asker kind) set
unfolding showing fits_snoop
showing_as hit hitm asker Read set = refl
showing_as hit hitm asker Own set = refl
showing_as hit hitm asker Upgrade set = refl
showing_as hit hitm asker WriteBack set = refl

either_out : (r : Bool) (p : Joint → Bool) (set : List Joint) (x : Joint) → Contains (if r then set else filter p set) x
    → (Contains set x) × ((r || p x) ≡ true)
either_out true p set x c = (c, refl)
either_out false p set x c = filter_out p set x c

either_in : (r : Bool) (p : Joint → Bool) (set : List Joint) (x : Joint) → Contains set x → (r || p x) ≡ true
    → Contains (if r then set else filter p set) x
either_in true p set x c e = c
either_in false p set x c e = filter_in p set x c e

left_as : (v : Trace) (c : ℕ) (s : LineSnoop) (set : List Joint)
    → left_by v c s.number s.asker s.kind set
    ≡ (if is_reply (live_request_of v s.number) then set
    else filter (fits_snoop (line_at HIT v c) (line_at HITM v c) s.asker s.kind) set)
unfolding left_by
left_as v c s set =
    ap (λ shown. if is_reply (live_request_of v s.number) then set else shown)
    (showing_as (line_at HIT v c) (line_at HITM v c) s.asker s.kind set)

left_out : (v : Trace) (c : ℕ) (o : Option LineSnoop) (set : List Joint) (x : Joint)
    → Contains (step_of (left_by v c) o set) x → (Contains set x) × (answers_rightly v c o x ≡ true)
left_out v c None set x h = (h, refl)
left_out v c (Some s) set x h =
    either_out (is_reply (live_request_of v s.number)) (fits_snoop (line_at HIT v c) (line_at HITM v c) s.asker s.kind) set x
    (subst (λ to. Contains to x) (left_as v c s set) h)

left_in : (v : Trace) (c : ℕ) (o : Option LineSnoop) (set : List Joint) (x : Joint) → Contains set x
    → answers_rightly v c o x ≡ true → Contains (step_of (left_by v c) o set) x
left_in v c None set x h t = h
left_in v c (Some s) set x h t =
    subst (λ to. Contains to x) (sym (left_as v c s set))
    (either_in (is_reply (live_request_of v s.number)) (fits_snoop (line_at HIT v c) (line_at HITM v c) s.asker s.kind) set x h t)

pub answer_out : (v : Trace) (line c : ℕ) (set : List Joint) (x : Joint) → Contains (after_answer v line c set) x
    → (Contains set x) × (answers_rightly v c (line_snoop_at v line c) x ≡ true)
unfolding after_answer
answer_out v line c set x h =
    left_out v c (line_snoop_at v line c) set x (subst (λ to. Contains to x) (at_snoop v line c (left_by v c) set) h)

pub answer_in : (v : Trace) (line c : ℕ) (set : List Joint) (x : Joint) → Contains set x
    → answers_rightly v c (line_snoop_at v line c) x ≡ true → Contains (after_answer v line c set) x
unfolding after_answer
answer_in v line c set x h t =
    subst (λ to. Contains to x) (sym (at_snoop v line c (left_by v c) set)) (left_in v c (line_snoop_at v line c) set x h t)

-- what it turns these into

abbrev turns_into : Trace → ℕ → LineSnoop → Joint → Joint → Bool
turns_into v c s from to = is_same_joint to (map (state_after_snoop v c s from) agents)

made_if : (r hit : Bool) (a : ℕ) (kind : Purpose) (settled : Settled) (set : List Joint)
    → (if r then reached_by (is_after_snoop_end a kind Replied hit) set else reached_by (is_after_snoop_end a kind settled hit) set)
    ≡ reached_by (λ from to. is_same_joint to (map (λ b. state_after (state_at from b) (nat_eq b a) kind (if r then Replied else settled) hit) agents)) set
unfolding is_after_snoop_end
made_if true hit a kind settled set = refl
made_if false hit a kind settled set = refl

made_as : (v : Trace) (c : ℕ) (s : LineSnoop) (set : List Joint)
    → made_by v c s.number s.asker s.kind set ≡ reached_by (turns_into v c s) set
unfolding made_by replied_to state_after_snoop settled_at_snoop
made_as v c s set =
    made_if (is_reply (live_request_of v s.number)) (line_at HIT v c) s.asker s.kind
    (settled_at_end (line_at HITM v c) (is_turned v s.number) s.kind) set

-- where a joint state behind a snoop end came from
pub record IsBehind (v : Trace) (c : ℕ) (o : Option LineSnoop) (set : List Joint) (to : Joint) : Type 0 where
  pub from : Joint
  pub within : Contains set from
  pub turned : joint_after_snoop v c o from ≡ to
  pub coherent : Contains every_joint to

made_out : (v : Trace) (c : ℕ) (o : Option LineSnoop) (set : List Joint) (y : Joint) → Has (Contains every_joint) set
    → Contains (step_of (made_by v c) o set) y → IsBehind v c o set y
made_out v c None set y a h =
    record { from = y; within = h; turned = refl; coherent = a y h }
made_out v c (Some s) set y a h =
    let r = reached_out (turns_into v c s) set y (subst (λ to. Contains to y) (made_as v c s set) h) in
    record {
      from = r.from;
      within = r.within;
      turned = sym (same_joints y (map (state_after_snoop v c s r.from) agents) r.stepped);
      coherent = r.coherent;
    }

made_in : (v : Trace) (c : ℕ) (o : Option LineSnoop) (set : List Joint) (x : Joint) → Contains set x
    → Contains every_joint (joint_after_snoop v c o x) → Contains (step_of (made_by v c) o set) (joint_after_snoop v c o x)
made_in v c None set x h e = h
made_in v c (Some s) set x h e =
    let y : Joint = map (state_after_snoop v c s x) agents in
    subst (λ to. Contains to y) (sym (made_as v c s set))
    (reached_in (turns_into v c s) set x y h e (same_joint y e))

pub end_out : (v : Trace) (line c : ℕ) (set : List Joint) (y : Joint) → Has (Contains every_joint) set
    → Contains (after_snoop_end v line c set) y → IsBehind v c (line_snoop_at v line c) set y
unfolding after_snoop_end
end_out v line c set y a h =
    made_out v c (line_snoop_at v line c) set y a (subst (λ to. Contains to y) (at_snoop v line c (made_by v c) set) h)

pub end_in : (v : Trace) (line c : ℕ) (set : List Joint) (x : Joint) → Contains set x
    → Contains every_joint (joint_after_snoop v c (line_snoop_at v line c) x)
    → Contains (after_snoop_end v line c set) (joint_after_snoop v c (line_snoop_at v line c) x)
unfolding after_snoop_end
end_in v line c set x h e =
    subst (λ to. Contains to (joint_after_snoop v c (line_snoop_at v line c) x)) (sym (at_snoop v line c (made_by v c) set))
    (made_in v c (line_snoop_at v line c) set x h e)
