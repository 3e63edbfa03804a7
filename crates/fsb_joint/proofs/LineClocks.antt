-- What a clock shows of a line, as the steps of its joint states take it.
use Rattle.std.proofs.Common.{ℕ, ◌≡◌, Bool, true, false, List, Option, Some, None, refl, if◌then◌else◌}
use Rattle.std.specs.Option.{option_and_then, option_map}
use Rattle.fsb_line.specs.declared.purpose.Purpose.{Purpose}
use Rattle.fsb_signal.specs.declared.lines.TheConstants.Lines.{HIT, HITM}
use Rattle.fsb_signal.specs.Samples.{line_at}
use Rattle.fsb_trace.specs.At.{Trace}
use Rattle.fsb_trace.specs.Requests.{is_reply, live_request_of}
use Rattle.fsb_owners.specs.Joint.{Joint, is_after_snoop_end, reached_by}
use Rattle.fsb_owners.specs.Possible.{after_answer, after_begin, after_snoop_end, asking, at_snoop_end, by_request}
use Rattle.fsb_owners.specs.Possible.{left_by, made_by}
use Rattle.fsb_owners.specs.Possible.{replied_to, settled_at_end, showing}
use Rattle.fsb_owners.specs.Shown.{agent_at, is_for_line, is_turned, names, origin_clock_of, purpose_at, snooped_at}
use Rattle.fsb_joint.specs.declared.line_clock.Begun.{Begun}
use Rattle.fsb_joint.specs.declared.line_clock.SnoopEnd.{SnoopEnd}
use Rattle.fsb_joint.specs.LineClock.{begun_at, end_by, ended_at}

-- what a request leaves, if there is one
abbrev pub begun_step : Option Begun → List Joint → List Joint
begun_step None set = set
begun_step (Some begun) set = asking (Some begun.agent) (Some begun.kind) set

begun_by : (o : Option ℕ) (k : Option Purpose) (set : List Joint)
    → asking o k set ≡ begun_step (option_and_then (λ a. option_map (λ kind. record { agent = a; kind = kind }) k) o) set
unfolding asking
begun_by None k set = refl
begun_by (Some a) None set = refl
begun_by (Some a) (Some kind) set = refl

begun_if : (b : Bool) (o : Option ℕ) (k : Option Purpose) (set : List Joint)
    → (if b then asking o k set else set)
    ≡ begun_step (if b then option_and_then (λ a. option_map (λ kind. record { agent = a; kind = kind }) k) o else None) set
begun_if true o k set = begun_by o k set
begun_if false o k set = refl

pub after_begun : (v : Trace) (line c : ℕ) (set : List Joint) → after_begin v line c set ≡ begun_step (begun_at v line c) set
unfolding after_begin begun_at
after_begun v line c set = begun_if (names v line c) (agent_at v c) (purpose_at v c) set

-- what a snoop end makes of a set, by a step of what it shows
abbrev pub end_step : (SnoopEnd → List Joint → List Joint) → Option SnoopEnd → List Joint → List Joint
end_step f None set = set
end_step f (Some e) set = f e set

-- the step by a request's number, agent and kind is that by what its snoop end shows
abbrev Fits : Trace → ℕ → (ℕ → ℕ → Purpose → List Joint → List Joint) → (SnoopEnd → List Joint → List Joint) → Type 0
Fits v c step f = (j a : ℕ) (k : Purpose) (set : List Joint) → step j a k set ≡ f (record {
  asker = a;
  kind = k;
  is_reply = is_reply (live_request_of v j);
  hit = line_at HIT v c;
  hitm = line_at HITM v c;
  turned = is_turned v j;
}) set

abbrev shown_by : Trace → ℕ → ℕ → ℕ → Purpose → SnoopEnd
shown_by v c j a k = record {
  asker = a;
  kind = k;
  is_reply = is_reply (live_request_of v j);
  hit = line_at HIT v c;
  hitm = line_at HITM v c;
  turned = is_turned v j;
}

at_kind : (v : Trace) (c : ℕ) (step : ℕ → ℕ → Purpose → List Joint → List Joint) (f : SnoopEnd → List Joint → List Joint)
    → Fits v c step f → (set : List Joint) (j a : ℕ) (k : Option Purpose)
    → elim k [ None ↦ set | Some kind ↦ step j a kind set ] ≡ end_step f (option_map (shown_by v c j a) k) set
at_kind v c step f h set j a None = refl
at_kind v c step f h set j a (Some kind) = h j a kind set

at_agent : (v : Trace) (c : ℕ) (step : ℕ → ℕ → Purpose → List Joint → List Joint) (f : SnoopEnd → List Joint → List Joint)
    → Fits v c step f → (set : List Joint) (j : ℕ) (o : Option ℕ) (k : Option Purpose)
    → elim o [ None ↦ set | Some a ↦ elim k [ None ↦ set | Some kind ↦ step j a kind set ] ]
    ≡ end_step f (option_and_then (λ a. option_map (shown_by v c j a) k) o) set
at_agent v c step f h set j None k = refl
at_agent v c step f h set j (Some a) k = at_kind v c step f h set j a k

at_clock : (v : Trace) (c : ℕ) (step : ℕ → ℕ → Purpose → List Joint → List Joint) (f : SnoopEnd → List Joint → List Joint)
    → Fits v c step f → (set : List Joint) (j : ℕ) (o : Option ℕ)
    → elim o [
      | None ↦ set
      | Some q ↦ elim (agent_at v q) [ None ↦ set | Some a ↦ elim (purpose_at v q) [ None ↦ set | Some kind ↦ step j a kind set ] ]
    ] ≡ end_step f (option_and_then (end_by v c j) o) set
unfolding end_by
at_clock v c step f h set j None = refl
at_clock v c step f h set j (Some q) = at_agent v c step f h set j (agent_at v q) (purpose_at v q)

at_line : (f : SnoopEnd → List Joint → List Joint) (b : Bool) (set to : List Joint) (o : Option SnoopEnd) → to ≡ end_step f o set
    → (if b then to else set) ≡ end_step f (if b then o else None) set
at_line f true set to o e = e
at_line f false set to o e = refl

at_number : (v : Trace) (line c : ℕ) (step : ℕ → ℕ → Purpose → List Joint → List Joint) (f : SnoopEnd → List Joint → List Joint)
    → Fits v c step f → (set : List Joint) (o : Option ℕ)
    → elim o [ None ↦ set | Some j ↦ if is_for_line v line j then by_request v j (step j) set else set ]
    ≡ end_step f (option_and_then (λ j. if is_for_line v line j then option_and_then (end_by v c j) (origin_clock_of v j) else None) o) set
unfolding by_request
at_number v line c step f h set None = refl
at_number v line c step f h set (Some j) =
    at_line f (is_for_line v line j) set (by_request v j (step j) set) (option_and_then (end_by v c j) (origin_clock_of v j))
    (at_clock v c step f h set j (origin_clock_of v j))

at_end : (v : Trace) (line c : ℕ) (step : ℕ → ℕ → Purpose → List Joint → List Joint) (f : SnoopEnd → List Joint → List Joint)
    → Fits v c step f → (set : List Joint) → at_snoop_end v line c step set ≡ end_step f (ended_at v line c) set
unfolding at_snoop_end ended_at
at_end v line c step f h set = at_number v line c step f h set (snooped_at v c)

-- what a snoop end leaves
abbrev pub answer_step : SnoopEnd → List Joint → List Joint
answer_step e set = if e.is_reply then set else showing e.hit e.hitm e.asker e.kind set

-- what it turns these into
abbrev pub turn_step : SnoopEnd → List Joint → List Joint
turn_step e set =
    if e.is_reply then replied_to e.asker e.kind e.hit set
    else reached_by (is_after_snoop_end e.asker e.kind (settled_at_end e.hitm e.turned e.kind) e.hit) set

pub after_answered : (v : Trace) (line c : ℕ) (set : List Joint)
    → after_answer v line c set ≡ end_step answer_step (ended_at v line c) set
unfolding after_answer left_by
after_answered v line c set = at_end v line c (left_by v c) answer_step (λ j a k s. refl) set

pub after_ended : (v : Trace) (line c : ℕ) (set : List Joint)
    → after_snoop_end v line c set ≡ end_step turn_step (ended_at v line c) set
unfolding after_snoop_end made_by
after_ended v line c set = at_end v line c (made_by v c) turn_step (λ j a k s. refl) set

pub answer_request : (e : SnoopEnd) (set : List Joint) → e.is_reply ≡ false
    → answer_step e set ≡ showing e.hit e.hitm e.asker e.kind set
answer_request e set f = rw f refl

pub answer_reply : (e : SnoopEnd) (set : List Joint) → e.is_reply ≡ true → answer_step e set ≡ set
answer_reply e set t = rw t refl

pub turn_request : (e : SnoopEnd) (set : List Joint) → e.is_reply ≡ false
    → turn_step e set ≡ reached_by (is_after_snoop_end e.asker e.kind (settled_at_end e.hitm e.turned e.kind) e.hit) set
turn_request e set f = rw f refl

pub turn_reply : (e : SnoopEnd) (set : List Joint) → e.is_reply ≡ true → turn_step e set ≡ replied_to e.asker e.kind e.hit set
turn_reply e set t = rw t refl
