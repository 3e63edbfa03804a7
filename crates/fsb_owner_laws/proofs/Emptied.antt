-- Where the set of joint states of a line loses its last one.
use Rattle.std.proofs.Common.{ℕ, zero, suc, ◌+◌, ◌<◌, ◌≡◌, Bool, true, false, not, List, Option, Some, None}
use Rattle.std.proofs.Common.{refl, ◌∙◌, add-one, if◌then◌else◌}
use Rattle.fsb_signal.specs.declared.lines.TheConstants.Lines.{HIT, HITM}
use Rattle.fsb_signal.specs.Samples.{line_at}
use Rattle.fsb_line.specs.declared.purpose.Purpose.{Purpose}
use Rattle.fsb_line.specs.declared.purpose.Settled.TheVariants.{Replied}
use Rattle.fsb_trace.specs.At.{Trace}
use Rattle.fsb_trace.specs.Requests.{is_reply, live_request_of}
use Rattle.fsb_trace.specs.Winner.{symmetric_after, winner_at}
use Rattle.fsb_trace.specs.declared.who.Who.{Who}
use Rattle.fsb_trace.specs.declared.who.Who.TheVariants.{Priority, Symmetric}
use Rattle.fsb_tied.proofs.Interface.{winner-four}
use Rattle.fsb_owners.specs.Joint.{Joint, is_after_drops, is_after_snoop_end, is_after_stores, reached_by, state_at}
use Rattle.fsb_owners.specs.Possible.{after_answer, after_begin, after_clock, after_snoop_end, after_unseen, asking}
use Rattle.fsb_owners.specs.Possible.{at_snoop_end, by_request}
use Rattle.fsb_owners.specs.Possible.{left_by, made_by, may_ask, possible, possible_begun, possible_shown, replied_to}
use Rattle.fsb_owners.specs.Possible.{settled_at_end, showing}
use Rattle.fsb_owners.specs.Rules.{is_none_left}
use Rattle.fsb_owners.specs.Shown.{agent_at, is_coming, is_for_line, is_turned, may_drop_at, names, origin_clock_of}
use Rattle.fsb_owners.specs.Shown.{purpose_at, snooped_at}
use Rattle.fsb_owner_laws.specs.Losses.{AreCoherent, possible_turned, turned_by}
use Rattle.fsb_owner_laws.proofs.Losses.{coherent_filter, coherent_reached}
use Rattle.fsb_owner_laws.proofs.StepLosses.{fits_end, reply_keeps, request_keeps, showing_fits, unseen_keeps}

-- a symmetric agent is one of four
four_of : (o : Option Who) → ((a : ℕ) → o ≡ Some (Symmetric a) → a < 4) → (a : ℕ) → symmetric_after None o ≡ Some a → a < 4
unfolding symmetric_after
four_of None h a e = absurd (let no : ⊥ = cc in no)
four_of (Some (Symmetric b)) h a e = let s : b ≡ a = cc in rw (← s) (h b refl)
four_of (Some Priority) h a e = absurd (let no : ⊥ = cc in no)

pub agent_four : (v : Trace) (q a : ℕ) → agent_at v q ≡ Some a → a < 4
unfolding agent_at
agent_four v q a e = four_of (winner_at v q) (λ b. winner-four v q b) a e

-- a step of a set by the number, the agent and the kind of a request
abbrev ByRequest : Type 0
ByRequest = ℕ → ℕ → Purpose → List Joint → List Joint

-- the request whose snoop ends: its number, its agent and its kind
abbrev pub Ender : Type 0
Ender = ℕ × (ℕ × Purpose)

-- what the snoop end of that request makes of a set
abbrev pub step_by : ByRequest → Option Ender → List Joint → List Joint
step_by f None set = set
step_by f (Some e) set = f e.0 e.1.0 e.1.1 set

abbrev pub with_kind : ℕ → ℕ → Option Purpose → Option Ender
with_kind j a None = None
with_kind j a (Some kind) = Some (j, (a, kind))

abbrev pub with_agent : ℕ → Option ℕ → Option Purpose → Option Ender
with_agent j None k = None
with_agent j (Some a) k = with_kind j a k

abbrev pub with_clock : Trace → ℕ → Option ℕ → Option Ender
with_clock v j None = None
with_clock v j (Some q) = with_agent j (agent_at v q) (purpose_at v q)

abbrev pub with_line : Bool → Option Ender → Option Ender
with_line true e = e
with_line false e = None

abbrev pub with_number : Trace → ℕ → Option ℕ → Option Ender
with_number v line None = None
with_number v line (Some j) = with_line (is_for_line v line j) (with_clock v j (origin_clock_of v j))

-- the request of the line whose snoop ends at c
unfoldable pub ender : Trace → ℕ → ℕ → Option Ender
ender v line c = with_number v line (snooped_at v c)

at_kind : (f : ByRequest) (set : List Joint) (j a : ℕ) (o : Option Purpose)
    → elim o [ None ↦ set | Some kind ↦ f j a kind set ] ≡ step_by f (with_kind j a o) set
at_kind f set j a None = refl
at_kind f set j a (Some kind) = refl

at_agent : (f : ByRequest) (set : List Joint) (j : ℕ) (o : Option ℕ) (k : Option Purpose)
    → elim o [ None ↦ set | Some a ↦ elim k [ None ↦ set | Some kind ↦ f j a kind set ] ] ≡ step_by f (with_agent j o k) set
at_agent f set j None k = refl
at_agent f set j (Some a) k = at_kind f set j a k

at_clock : (v : Trace) (f : ByRequest) (set : List Joint) (j : ℕ) (o : Option ℕ)
    → elim o [
      | None ↦ set
      | Some q ↦ elim (agent_at v q) [ None ↦ set | Some a ↦ elim (purpose_at v q) [ None ↦ set | Some kind ↦ f j a kind set ] ]
    ] ≡ step_by f (with_clock v j o) set
at_clock v f set j None = refl
at_clock v f set j (Some q) = at_agent f set j (agent_at v q) (purpose_at v q)

at_line : (f : ByRequest) (set to : List Joint) (b : Bool) (e : Option Ender) → to ≡ step_by f e set
    → (if b then to else set) ≡ step_by f (with_line b e) set
at_line f set to true e h = h
at_line f set to false e h = refl

at_number : (v : Trace) (line : ℕ) (f : ByRequest) (set : List Joint) (o : Option ℕ)
    → elim o [ None ↦ set | Some j ↦ if is_for_line v line j then by_request v j (f j) set else set ]
    ≡ step_by f (with_number v line o) set
unfolding by_request
at_number v line f set None = refl
at_number v line f set (Some j) =
    at_line f set (by_request v j (f j) set) (is_for_line v line j) (with_clock v j (origin_clock_of v j))
    (at_clock v f set j (origin_clock_of v j))

pub at_ender : (v : Trace) (line c : ℕ) (f : ByRequest) (set : List Joint)
    → at_snoop_end v line c f set ≡ step_by f (ender v line c) set
unfolding at_snoop_end ender
at_ender v line c f set = at_number v line f set (snooped_at v c)

-- the agent of the request is one of four
kind_four : (j a : ℕ) (o : Option Purpose) → a < 4 → (e : Ender) → with_kind j a o ≡ Some e → e.1.0 < 4
kind_four j a None l e h = absurd (let no : ⊥ = cc in no)
kind_four j a (Some kind) l e h = let s : (j, (a, kind)) ≡ e = cc in rw (← s) l

agent_of_four : (j : ℕ) (o : Option ℕ) (k : Option Purpose) → ((a : ℕ) → o ≡ Some a → a < 4) → (e : Ender)
    → with_agent j o k ≡ Some e → e.1.0 < 4
agent_of_four j None k l e h = absurd (let no : ⊥ = cc in no)
agent_of_four j (Some a) k l e h = kind_four j a k (l a refl) e h

clock_four : (v : Trace) (j : ℕ) (o : Option ℕ) (e : Ender) → with_clock v j o ≡ Some e → e.1.0 < 4
clock_four v j None e h = absurd (let no : ⊥ = cc in no)
clock_four v j (Some q) e h = agent_of_four j (agent_at v q) (purpose_at v q) (agent_four v q) e h

line_four : (b : Bool) (o : Option Ender) → ((e : Ender) → o ≡ Some e → e.1.0 < 4) → (e : Ender)
    → with_line b o ≡ Some e → e.1.0 < 4
line_four true o l e h = l e h
line_four false o l e h = absurd (let no : ⊥ = cc in no)

number_four : (v : Trace) (line : ℕ) (o : Option ℕ) (e : Ender) → with_number v line o ≡ Some e → e.1.0 < 4
number_four v line None e h = absurd (let no : ⊥ = cc in no)
number_four v line (Some j) e h =
    line_four (is_for_line v line j) (with_clock v j (origin_clock_of v j)) (clock_four v j (origin_clock_of v j)) e h

pub ender_four : (v : Trace) (line c : ℕ) (e : Ender) → ender v line c ≡ Some e → e.1.0 < 4
unfolding ender
ender_four v line c e h = number_four v line (snooped_at v c) e h

-- sets stay coherent
coherent_showing : (hit hitm : Bool) (asker : ℕ) (kind : Purpose) (set : List Joint) → AreCoherent set
    → AreCoherent (showing hit hitm asker kind set)
coherent_showing hit hitm asker kind set a =
    rw (showing_fits hit hitm asker kind set) (coherent_filter (fits_end hit hitm asker kind) set a)

coherent_if : (b : Bool) (one other : List Joint) → AreCoherent one → AreCoherent other
    → AreCoherent (if b then one else other)
coherent_if true one other a b = a
coherent_if false one other a b = b

coherent_left : (v : Trace) (c j a : ℕ) (kind : Purpose) (set : List Joint) → AreCoherent set
    → AreCoherent (left_by v c j a kind set)
unfolding left_by
coherent_left v c j a kind set h =
    coherent_if (is_reply (live_request_of v j)) set (showing (line_at HIT v c) (line_at HITM v c) a kind set) h
    (coherent_showing (line_at HIT v c) (line_at HITM v c) a kind set h)

coherent_made : (v : Trace) (c j a : ℕ) (kind : Purpose) (set : List Joint) → AreCoherent set
    → AreCoherent (made_by v c j a kind set)
unfolding made_by replied_to
coherent_made v c j a kind set h =
    coherent_if (is_reply (live_request_of v j)) (reached_by (is_after_snoop_end a kind Replied (line_at HIT v c)) set)
    (reached_by (is_after_snoop_end a kind (settled_at_end (line_at HITM v c) (is_turned v j) kind) (line_at HIT v c)) set)
    (coherent_reached (is_after_snoop_end a kind Replied (line_at HIT v c)) set)
    (coherent_reached (is_after_snoop_end a kind (settled_at_end (line_at HITM v c) (is_turned v j) kind) (line_at HIT v c)) set)

coherent_step : (f : ByRequest) (o : Option Ender) (set : List Joint)
    → ((j a : ℕ) (kind : Purpose) (s : List Joint) → AreCoherent s → AreCoherent (f j a kind s)) → AreCoherent set
    → AreCoherent (step_by f o set)
coherent_step f None set h a = a
coherent_step f (Some e) set h a = h e.0 e.1.0 e.1.1 set a

coherent_asking : (o : Option ℕ) (k : Option Purpose) (set : List Joint) → AreCoherent set → AreCoherent (asking o k set)
unfolding asking
coherent_asking None k set a = a
coherent_asking (Some agent) None set a = a
coherent_asking (Some agent) (Some kind) set a = coherent_filter (λ joint. may_ask kind (state_at joint agent)) set a

coherent_begin : (v : Trace) (line c : ℕ) (set : List Joint) → AreCoherent set → AreCoherent (after_begin v line c set)
unfolding after_begin
coherent_begin v line c set a =
    coherent_if (names v line c) (asking (agent_at v c) (purpose_at v c) set) set
    (coherent_asking (agent_at v c) (purpose_at v c) set a) a

coherent_answer : (v : Trace) (line c : ℕ) (set : List Joint) → AreCoherent set → AreCoherent (after_answer v line c set)
unfolding after_answer
coherent_answer v line c set a =
    rw (at_ender v line c (left_by v c) set)
    (coherent_step (left_by v c) (ender v line c) set (coherent_left v c) a)

coherent_end : (v : Trace) (line c : ℕ) (set : List Joint) → AreCoherent set → AreCoherent (after_snoop_end v line c set)
unfolding after_snoop_end
coherent_end v line c set a =
    rw (at_ender v line c (made_by v c) set)
    (coherent_step (made_by v c) (ender v line c) set (coherent_made v c) a)

coherent_unseen : (v : Trace) (line c : ℕ) (set : List Joint) → AreCoherent (after_unseen v line c set)
unfolding after_unseen
coherent_unseen v line c set =
    coherent_reached (is_after_drops (may_drop_at v line c)) (reached_by (is_after_stores (λ a. not (is_coming v line a (c + 1)))) set)

pub coherent_possible : (first : List Joint) (v : Trace) (line c : ℕ) → AreCoherent first → AreCoherent (possible first v line c)
unfolding possible after_clock
coherent_possible first v line zero a = a
coherent_possible first v line (suc c) a =
    coherent_unseen v line c (after_snoop_end v line c (after_answer v line c (after_begin v line c (possible first v line c))))

-- what is left at a snoop end is turned into others where it fits, and into none otherwise
turned_or_lost : (v : Trace) (c j a : ℕ) (kind : Purpose) (set : List Joint) (b : Bool) → a < 4 → AreCoherent set
    → is_reply (live_request_of v j) ≡ b
    → is_none_left (made_by v c j a kind (left_by v c j a kind set)) ≡ is_none_left (turned_by v c j a kind (left_by v c j a kind set))
unfolding made_by left_by turned_by
turned_or_lost v c j a kind set true l h e = rw e (reply_keeps (line_at HIT v c) a kind set l h)
turned_or_lost v c j a kind set false l h e =
    rw e (request_keeps (line_at HIT v c) (line_at HITM v c) (is_turned v j) a kind set l h)

lost_by_step : (v : Trace) (c : ℕ) (o : Option Ender) (set : List Joint) → ((e : Ender) → o ≡ Some e → e.1.0 < 4)
    → AreCoherent set
    → is_none_left (step_by (made_by v c) o (step_by (left_by v c) o set))
    ≡ is_none_left (step_by (turned_by v c) o (step_by (left_by v c) o set))
lost_by_step v c None set l a = refl
lost_by_step v c (Some e) set l a = turned_or_lost v c e.0 e.1.0 e.1.1 set (is_reply (live_request_of v e.0)) (l e refl) a refl

lost_at_end : (v : Trace) (line c : ℕ) (set : List Joint) → AreCoherent set
    → is_none_left (after_snoop_end v line c (after_answer v line c set))
    ≡ is_none_left (at_snoop_end v line c (turned_by v c) (after_answer v line c set))
unfolding after_snoop_end after_answer
lost_at_end v line c set a =
    rw (
      at_ender v line c (left_by v c) set,
      at_ender v line c (made_by v c) (step_by (left_by v c) (ender v line c) set),
      at_ender v line c (turned_by v c) (step_by (left_by v c) (ender v line c) set),
    )
    (lost_by_step v c (ender v line c) set (ender_four v line c) a)

pub next : (first : List Joint) (v : Trace) (line c : ℕ) → AreCoherent first
    → is_none_left (possible first v line (c + 1)) ≡ is_none_left (possible_turned first v line c)
unfolding possible after_clock possible_turned possible_shown possible_begun
next first v line c a =
    let s = possible first v line c in
    let b = after_begin v line c s in
    let hb : AreCoherent b = coherent_begin v line c s (coherent_possible first v line c a) in
    rw add-one (unseen_keeps v line c (after_snoop_end v line c (after_answer v line c b))
    (coherent_end v line c (after_answer v line c b) (coherent_answer v line c b hb))
    ∙ lost_at_end v line c b hb)
