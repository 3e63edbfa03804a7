-- What a snoop end makes of the state at each agent: as the rules of ownership say it, and as the run has it.
use Rattle.std.proofs.Common.{ℕ, ◌+◌, ◌≡◌, Bool, true, false, ◌&&◌, ◌||◌, not, nat_eq}
use Rattle.std.proofs.Common.{cond, Option, Some, None, refl, sym, ap, subst, ◌∙◌, arith, inl, inr, if◌then◌else◌}
use Rattle.std.proofs.lemmas.Bool.{and_from, cases_Bool, cases_eq, eq-eqb, eqb-true, false_from_ne_true, or_right}
use Rattle.fsb_count.specs.Options.{is_some_and}
use Rattle.fsb_encode.specs.declared.request.Kind.{Kind}
use Rattle.fsb_encode.specs.declared.request.Request.{Request}
use Rattle.fsb_hazard.specs.declared.choice.Turn.{Turn}
use Rattle.fsb_line.specs.declared.purpose.Purpose.{Purpose}
use Rattle.fsb_line.specs.declared.purpose.Purpose.TheVariants.{Own, Read, Upgrade, WriteBack}
use Rattle.fsb_line.specs.declared.purpose.Settled.{Settled}
use Rattle.fsb_line.specs.declared.purpose.Settled.TheVariants.{Replied}
use Rattle.fsb_line.specs.declared.state.Mesi.{Mesi}
use Rattle.fsb_line.specs.declared.state.Mesi.TheVariants.{Exclusive, Invalid, Modified, Shared}
use Rattle.fsb_line.specs.States.{after_other, asks_line, after_own, after_snoop, is_held, is_modified, kind_owns, state_after}
use Rattle.fsb_signal.specs.declared.lines.TheConstants.Lines.{HIT, HITM}
use Rattle.fsb_signal.specs.Samples.{line_at}
use Rattle.fsb_trace.specs.declared.outcome.Outcome.TheVariants as outcomes
use Rattle.fsb_trace.specs.Outcome.{outcome_by_kind}
use Rattle.fsb_trace.specs.Requests.{is_write_back_kind}
use Rattle.fsb_timely.specs.Past.{Grant, Past, SnoopEnd}
use Rattle.fsb_timely.specs.Grants.{grant_at, holds_line, is_claim_of, is_claim_of_other, is_evicted, is_exclusive, is_granted}
use Rattle.fsb_timely.specs.Grants.{is_lost, is_named_by_other, is_owning, is_snooped, is_taken_away, is_written_back, snooped_at}
use Rattle.fsb_timely.specs.Hits.{line_state_of}
use Rattle.fsb_timely.specs.Moments.{is_got, is_upgraded, makes_grant}
use Rattle.fsb_timely.specs.Runs.{Run, past_of}
use Rattle.fsb_timely.specs.Snoops.{is_held_elsewhere, is_keep}
use Rattle.fsb_coherent.specs.Awaits as awaits
use Rattle.fsb_coherent.specs.Settled.{outcome_by_turn, outcome_under}
use Rattle.fsb_coherent.specs.Fitting.{fits_getting, fits_kind, fits_upgrade, fits_write_back}
use Rattle.fsb_coherent.specs.Relation.{is_dirty_through}
use Rattle.fsb_tied.proofs.Interface.{alone-in-run, uncontested, writes-back-alone}
use Rattle.fsb_run_laws.specs.Reaches.{Reaches}
use Rattle.fsb_run_laws.specs.RunStates.{state_below, state_granted, state_of_tests, state_read, state_through}
use Rattle.fsb_run_laws.proofs.Interface.{state-granted}
use Rattle.fsb_run_laws.proofs.LineStates.{state-kept}
use Rattle.fsb_owners.specs.Possible.{settled_at_end}
use Rattle.fsb_owners.specs.Shown.{is_turned}
use Rattle.fsb_owner_laws.proofs.Emptied.{Ender}
use Rattle.fsb_owner_run.proofs.Coming.{outcome-at, turned-shown}
use Rattle.fsb_owner_run.proofs.Moves.{May, Ready, evicted-clean, evicted-may, through-moved}
use Rattle.fsb_owner_run.proofs.Replied.{IsRepliedEnd, owner-kind}
use Rattle.fsb_owner_run.proofs.Sets.{turned}
use Rattle.fsb_owner_run.proofs.Snooped.{IsAskedEnd, hit-seen, written-modified}
use Rattle.fsb_owner_run.proofs.States.{dirty-own, state-held, state-modified}
use Rattle.fsb_owner_run.proofs.Unseen.{is_moved, moved-drop, moved-same}

-- the state at agent a after the snoop end, as the rules of ownership have it, leads to the one of the run
abbrev pub Leads : Run → ℕ → ℕ → ℕ → Mesi → Type 0
Leads r line n a from =
    is_moved (Ready r line a n) (May r line a n) from (state_below (past_of r) a line (n + 1)) ≡ true

leads-same : (r : Run) (line n a : ℕ) (from : Mesi) → state_below (past_of r) a line (n + 1) ≡ from → Leads r line n a from
leads-same r line n a from e =
    subst (λ s. is_moved (Ready r line a n) (May r line a n) from s ≡ true) (sym e)
    (moved-same (Ready r line a n) (May r line a n) from)

lost-evicted : (p : Past) (a line n : ℕ) → is_evicted p a line n ≡ true → is_lost p a line n ≡ true
unfolding is_lost
lost-evicted p a line n e = rw e refl

-- an agent that drops the line
leads-dropped : (r : Run) (line n a : ℕ) (from : Mesi) → Reaches r (n + 1) → is_granted (past_of r) a line n ≡ false
    → is_evicted (past_of r) a line n ≡ true → is_modified from ≡ false → Leads r line n a from
leads-dropped r line n a from h none gone clean =
    let p = past_of r in
    let below : state_below p a line (n + 1) ≡ Invalid =
    state-kept p a line n none ∙ rw (lost-evicted p a line n gone) refl in
    subst (λ s. is_moved (Ready r line a n) (May r line a n) from s ≡ true) (sym below)
    (moved-drop (Ready r line a n) (May r line a n) from (evicted-may r a line n h gone) clean)

-- one that loses nothing, and that no other names
leads-kept : (r : Run) (line n a : ℕ) → Reaches r (n + 1) → is_granted (past_of r) a line n ≡ false
    → is_lost (past_of r) a line n ≡ false → is_named_by_other (past_of r) a line n ≡ false
    → Leads r line n a (line_state_of (past_of r) a line n)
leads-kept r line n a h none kept unnamed =
    let p = past_of r in
    let below : state_below p a line (n + 1) ≡ state_through p a line n =
    state-kept p a line n none ∙ rw (kept, unnamed) refl in
    subst (λ s. is_moved (Ready r line a n) (May r line a n) (line_state_of p a line n) s ≡ true) (sym below)
    (through-moved r a line n h none)

-- what the snoop end does to agent a
pub record Effects (p : Past) (a line n : ℕ) (written taken named : Bool) : Type 0 where
  pub is_written : is_written_back p a line n ≡ written
  pub is_taken : is_taken_away p a line n ≡ taken
  pub is_named : is_named_by_other p a line n ≡ named

pub no-end-effects : (p : Past) (a line n : ℕ) → snooped_at p n ≡ None → Effects p a line n false false false
unfolding is_written_back is_taken_away is_named_by_other is_some_and
no-end-effects p a line n e = record {
  is_written = rw e refl;
  is_taken = rw e refl;
  is_named = rw e refl;
}

pub unclaimed-effects : (p : Past) (a line n : ℕ) (s : SnoopEnd) → snooped_at p n ≡ Some s → s.claim ≡ None
    → Effects p a line n false false false
unfolding is_written_back is_taken_away is_named_by_other is_snooped is_some_and
unclaimed-effects p a line n s there none = record {
  is_written = rw (there, none) refl;
  is_taken = rw (there, none) refl;
  is_named = rw (there, none) refl;
}

claim-tests : (a b line : ℕ) (x : Bool) → ((nat_eq b a && nat_eq line line) && x) ≡ (nat_eq b a && x)
claim-tests a b line x = rw (eq-eqb line line refl) (by-and (nat_eq b a) x)
  where
    by-and : (c x : Bool) → ((c && true) && x) ≡ (c && x)
    by-and true x = refl
    by-and false x = refl

other-tests : (a b line : ℕ) (x : Bool) → ((not (nat_eq b a) && nat_eq line line) && x) ≡ (not (nat_eq b a) && x)
other-tests a b line x = rw (eq-eqb line line refl) (by-and (not (nat_eq b a)) x)
  where
    by-and : (c x : Bool) → ((c && true) && x) ≡ (c && x)
    by-and true x = refl
    by-and false x = refl

other-named : (a b line : ℕ) → (not (nat_eq b a) && nat_eq line line) ≡ not (nat_eq b a)
other-named a b line = rw (eq-eqb line line refl) (by-and (not (nat_eq b a)))
  where
    by-and : (c : Bool) → (c && true) ≡ c
    by-and true = refl
    by-and false = refl

pub claimed-effects : (p : Past) (a b line n : ℕ) (s : SnoopEnd) (kind : Kind) → snooped_at p n ≡ Some s
    → s.claim ≡ Some (record { first = s.first; agent = b; line = line }) → s.kind ≡ Some kind
    → Effects p a line n (nat_eq b a && is_write_back_kind kind) (not (nat_eq b a) && is_owning kind) (not (nat_eq b a))
unfolding is_written_back is_taken_away is_named_by_other is_snooped is_claim_of is_claim_of_other is_some_and
claimed-effects p a b line n s kind there claims known = record {
  is_written = rw (there, claims, known) (claim-tests a b line (is_write_back_kind kind));
  is_taken = rw (there, claims, known) (other-tests a b line (is_owning kind));
  is_named = rw (there, claims) (other-named a b line);
}

not-lost : (p : Past) (a line n : ℕ) → is_evicted p a line n ≡ false → is_written_back p a line n ≡ false
    → is_taken_away p a line n ≡ false → is_lost p a line n ≡ false
unfolding is_lost
not-lost p a line n e f g = rw (e, f, g) refl

lost-by : (p : Past) (a line n : ℕ) → (is_written_back p a line n || is_taken_away p a line n) ≡ true
    → is_lost p a line n ≡ true
unfolding is_lost
lost-by p a line n e = by-or (is_evicted p a line n) (is_written_back p a line n) (is_taken_away p a line n) e
  where
    by-or : (x y z : Bool) → (y || z) ≡ true → ((x || y) || z) ≡ true
    by-or x y z h1 = grind arith

lost-below : (p : Past) (a line n : ℕ) → is_granted p a line n ≡ false → is_lost p a line n ≡ true
    → state_below p a line (n + 1) ≡ Invalid
lost-below p a line n none lost = state-kept p a line n none ∙ rw lost refl

-- where the clock does nothing to the line at an agent, but that it may drop it
pub leads-quiet : (r : Run) (line n a : ℕ) → Reaches r (n + 1) → is_granted (past_of r) a line n ≡ false
    → Effects (past_of r) a line n false false false → Leads r line n a (line_state_of (past_of r) a line n)
leads-quiet r line n a h none k =
    let p = past_of r in
    elim (cases_Bool (is_evicted p a line n)) [
      | inl gone ↦ leads-dropped r line n a (line_state_of p a line n) h none gone (evicted-clean r a line n h gone)
      | inr stays ↦
          leads-kept r line n a h none (not-lost p a line n stays k.is_written k.is_taken) k.is_named
    ]

-- the states that the snoop end of a request leaves
abbrev pub settled_of : Run → ℕ → Ender → Settled
settled_of r n e = settled_at_end (line_at HITM r.trace n) (is_turned r.trace e.0) e.1.1

pub other-end : (state : Mesi) (kind : Purpose) (hitm turns : Bool)
    → after_other state kind (settled_at_end hitm turns kind) ≡ after_snoop state kind
unfolding settled_at_end
other-end state Read true turns = refl
other-end state Own true turns = refl
other-end state Upgrade true turns = refl
other-end state WriteBack true turns = refl
other-end state Read false true = refl
other-end state Own false true = refl
other-end state Upgrade false true = refl
other-end state WriteBack false true = refl
other-end state Read false false = refl
other-end state Own false false = refl
other-end state Upgrade false false = refl
other-end state WriteBack false false = refl

snoop-clean : (state : Mesi) (kind : Purpose) → is_modified state ≡ false → is_modified (after_snoop state kind) ≡ false
snoop-clean Invalid Read e = refl
snoop-clean Shared Read e = refl
snoop-clean Exclusive Read e = refl
snoop-clean Modified Read e = refl
snoop-clean state Own e = refl
snoop-clean state Upgrade e = refl
snoop-clean state WriteBack e = e

owns-away : (state : Mesi) (kind : Purpose) → kind_owns kind ≡ true → after_snoop state kind ≡ Invalid
owns-away state Own e = refl
owns-away state Upgrade e = refl
owns-away state Read e = absurd (let no : ⊥ = cc in no)
owns-away state WriteBack e = absurd (let no : ⊥ = cc in no)

-- what a snoop leaves of a line that is not taken away: it is shared, where it was held; at a write-back nobody holds it
read-state : (from through : Mesi) (kind : Purpose) → kind_owns kind ≡ false → is_held from ≡ is_held through
    → (kind ≡ WriteBack → is_held from ≡ false) → state_read through ≡ after_snoop from kind
unfolding state_read
read-state from through Own e f g = absurd (let no : ⊥ = cc in no)
read-state from through Upgrade e f g = absurd (let no : ⊥ = cc in no)
read-state Invalid Invalid Read e f g = refl
read-state Invalid Shared Read e f g = absurd (let no : ⊥ = cc in no)
read-state Invalid Exclusive Read e f g = absurd (let no : ⊥ = cc in no)
read-state Invalid Modified Read e f g = absurd (let no : ⊥ = cc in no)
read-state Shared Invalid Read e f g = absurd (let no : ⊥ = cc in no)
read-state Shared Shared Read e f g = refl
read-state Shared Exclusive Read e f g = refl
read-state Shared Modified Read e f g = refl
read-state Exclusive Invalid Read e f g = absurd (let no : ⊥ = cc in no)
read-state Exclusive Shared Read e f g = refl
read-state Exclusive Exclusive Read e f g = refl
read-state Exclusive Modified Read e f g = refl
read-state Modified Invalid Read e f g = absurd (let no : ⊥ = cc in no)
read-state Modified Shared Read e f g = refl
read-state Modified Exclusive Read e f g = refl
read-state Modified Modified Read e f g = refl
read-state Invalid Invalid WriteBack e f g = refl
read-state Invalid Shared WriteBack e f g = absurd (let no : ⊥ = cc in no)
read-state Invalid Exclusive WriteBack e f g = absurd (let no : ⊥ = cc in no)
read-state Invalid Modified WriteBack e f g = absurd (let no : ⊥ = cc in no)
read-state Shared through WriteBack e f g = absurd (let k = g refl in let no : ⊥ = cc in no)
read-state Exclusive through WriteBack e f g = absurd (let k = g refl in let no : ⊥ = cc in no)
read-state Modified through WriteBack e f g = absurd (let k = g refl in let no : ⊥ = cc in no)

-- its own snoop end grants the line to an agent: the state is the one that the grant gives
own-granted : (kind : Kind) (purpose : Purpose) (turn : Turn) (hitm hit won owns shared : Bool) (state : Mesi)
    (request : Request)
    → request.kind ≡ kind → awaits.purpose_of kind ≡ Some purpose → owns ≡ kind_owns purpose → won ≡ is_held state
    → (hitm ≡ true → shared ≡ true)
    → (outcome_under hitm turn (Some request) ≡ outcomes.Granted → shared ≡ hit)
    → (makes_grant kind (outcome_under hitm turn (Some request))
    || (is_upgraded (outcome_under hitm turn (Some request)) && won)) ≡ true
    → (if owns then Modified else (if shared then Shared else Exclusive))
    ≡ after_own state purpose (settled_at_end hitm (not (is_keep turn) && not hitm) purpose) hit
unfolding awaits.purpose_of is_keep makes_grant is_got is_upgraded outcome_under outcome_by_turn outcome_by_kind settled_at_end
own-granted kind purpose turn hitm hit won owns shared state request h1 h2 h3 h4 h5 h6 h7 = grind arith

-- or it grants nothing: a line that is written back is gone, and any other stays as it was
own-free : (kind : Kind) (purpose : Purpose) (turn : Turn) (hitm hit won : Bool) (state : Mesi) (request : Request)
    → request.kind ≡ kind → awaits.purpose_of kind ≡ Some purpose → won ≡ is_held state
    → fits_kind kind (outcome_under hitm turn (Some request)) ≡ true
    → (makes_grant kind (outcome_under hitm turn (Some request))
    || (is_upgraded (outcome_under hitm turn (Some request)) && won)) ≡ false
    → after_own state purpose (settled_at_end hitm (not (is_keep turn) && not hitm) purpose) hit
    ≡ (if is_write_back_kind kind then Invalid else state)
unfolding awaits.purpose_of is_keep makes_grant is_got is_upgraded outcome_under outcome_by_turn outcome_by_kind settled_at_end
    fits_kind fits_getting fits_upgrade fits_write_back is_write_back_kind
own-free kind purpose turn hitm hit won state request h1 h2 h3 h4 h5 = grind arith

pub granted-value : (p : Past) (a line n : ℕ) (s : SnoopEnd) → snooped_at p n ≡ Some s
    → is_granted p a line n ≡ is_some_and s.grant (λ grant. nat_eq grant.agent a && nat_eq grant.line line)
unfolding is_granted grant_at
granted-value p a line n s there = rw there refl

grant-there : (p : Past) (n : ℕ) (s : SnoopEnd) (grant : Grant) → snooped_at p n ≡ Some s → s.grant ≡ Some grant
    → grant_at p n ≡ Some grant
unfolding grant_at
grant-there p n s grant there e = rw (there, e) refl

granted-as : (o : Option Grant) (grant : Grant) (a line : ℕ) → o ≡ Some grant → grant.agent ≡ a → grant.line ≡ line
    → is_some_and o (λ grant. nat_eq grant.agent a && nat_eq grant.line line) ≡ true
unfolding is_some_and
granted-as o grant a line e f g = rw e (and_from _ _ (eq-eqb grant.agent a f) (eq-eqb grant.line line g))

-- the request's snoop end makes this of its agent's state
own-state : (r : Run) (line n : ℕ) (e : Ender) → IsAskedEnd r line n e → Mesi
own-state r line n e k =
    after_own (line_state_of (past_of r) e.1.0 line n) e.1.1
    (settled_at_end (line_at HITM r.trace n) (not (is_keep k.end.turn) && not (line_at HITM r.trace n)) e.1.1)
    (line_at HIT r.trace n)

-- whether the snoop end of the request grants the line
abbrev gives : (r : Run) (line n : ℕ) (e : Ender) → IsAskedEnd r line n e → Bool
gives r line n e k =
    makes_grant k.claimed.request.kind k.end.outcome || (is_upgraded k.end.outcome && k.settled.fits.won)

asked-grants : (r : Run) (line n : ℕ) (e : Ender) (k : IsAskedEnd r line n e)
    → k.end.grant ≡ (if gives r line n e k
    then Some (record {
      first = k.end.first;
      agent = e.1.0;
      line = line;
      owns = k.settled.fits.owns;
      shared = k.settled.fits.shared;
    }) else None)
asked-grants r line n e k =
    let fits = k.settled.fits in
    k.settled.fits.granted
    ∙ (λ i. if makes_grant (k.same_kind i) k.end.outcome || (is_upgraded k.end.outcome && fits.won)
    then Some (record {
      first = k.end.first;
      agent = k.asker i;
      line = line;
      owns = fits.owns;
      shared = fits.shared;
    }) else None)

shared-of : (r : Run) (line n : ℕ) (e : Ender) → Reaches r (n + 1) → (k : IsAskedEnd r line n e)
    → k.end.outcome ≡ outcomes.Granted → k.settled.fits.shared ≡ line_at HIT r.trace n
shared-of r line n e h k granted =
    k.settled.seen granted ∙ ap (λ a. is_held_elsewhere (past_of r) a line n) k.asker ∙ sym (hit-seen r line n e h k granted)

held-of : (r : Run) (line n : ℕ) (e : Ender) (k : IsAskedEnd r line n e)
    → k.settled.fits.won ≡ is_held (line_state_of (past_of r) e.1.0 line n)
held-of r line n e k =
    k.settled.won ∙ ap (λ a. holds_line (past_of r) a line n) k.asker ∙ sym (state-held (past_of r) e.1.0 line n)

handed-of : (hitm : Bool) (turn : Turn) (o : Option Request) → hitm ≡ true → outcome_under hitm turn o ≡ outcomes.Handed
unfolding outcome_under
handed-of hitm turn o e = rw e refl

none-granted : (a line : ℕ)
    → is_some_and None (λ (grant : Grant). nat_eq grant.agent a && nat_eq grant.line line) ≡ false
unfolding is_some_and
none-granted a line = refl

made-same : (r : Run) (line n : ℕ) (e : Ender) (k : IsAskedEnd r line n e)
    → (makes_grant k.claimed.request.kind (outcome_under (line_at HITM r.trace n) k.end.turn (Some k.claimed.request))
    || (is_upgraded (outcome_under (line_at HITM r.trace n) k.end.turn (Some k.claimed.request)) && k.settled.fits.won))
    ≡ gives r line n e k
made-same r line n e k =
    let outcome = outcome-at r line n e k in
    sym (λ i. makes_grant k.claimed.request.kind (outcome i) || (is_upgraded (outcome i) && k.settled.fits.won))

-- the agent whose request it is: it is granted the line
own-given : (r : Run) (line n : ℕ) (e : Ender) → Reaches r (n + 1) → (k : IsAskedEnd r line n e)
    → gives r line n e k ≡ true → Leads r line n e.1.0 (own-state r line n e k)
unfolding own-state state_granted
own-given r line n e h k t =
    let p = past_of r in
    let a = e.1.0 in
    let hitm = line_at HITM r.trace n in
    let hit = line_at HIT r.trace n in
    let turn = k.end.turn in
    let request = k.claimed.request in
    let fits = k.settled.fits in
    let state = line_state_of p a line n in
    let there = k.snooped.tied.there in
    let outcome = outcome-at r line n e k in
    let owns : fits.owns ≡ kind_owns e.1.1 = k.settled.owns ∙ ap kind_owns k.purpose in
    let grant : Grant = record { first = k.end.first; agent = a; line = line; owns = fits.owns; shared = fits.shared } in
    let given : k.end.grant ≡ Some grant =
    asked-grants r line n e k ∙ ap (λ b. if b then Some grant else None) t in
    let granted = granted-value p a line n k.end there ∙ granted-as k.end.grant grant a line given refl refl in
    let below : state_below p a line (n + 1) ≡ (if fits.owns then Modified else (if fits.shared then Shared else Exclusive)) =
    state-granted r a line n grant h granted (grant-there p n k.end grant there given) in
    leads-same r line n a (own-state r line n e k)
    (below ∙ own-granted request.kind e.1.1 turn hitm hit fits.won fits.owns fits.shared state request refl
    k.kind owns (held-of r line n e k)
    (λ x. k.settled.seen_dirty (outcome ∙ handed-of hitm turn (Some request) x))
    (λ x. shared-of r line n e h k (outcome ∙ x)) (made-same r line n e k ∙ t))

-- or it is not
own-left : (r : Run) (line n : ℕ) (e : Ender) → Reaches r (n + 1) → (k : IsAskedEnd r line n e)
    → gives r line n e k ≡ false → Leads r line n e.1.0 (own-state r line n e k)
unfolding own-state
own-left r line n e h k f =
    let p = past_of r in
    let a = e.1.0 in
    let hitm = line_at HITM r.trace n in
    let hit = line_at HIT r.trace n in
    let turn = k.end.turn in
    let request = k.claimed.request in
    let fits = k.settled.fits in
    let state = line_state_of p a line n in
    let there = k.snooped.tied.there in
    let outcome = outcome-at r line n e k in
    let grant : Grant = record { first = k.end.first; agent = a; line = line; owns = fits.owns; shared = fits.shared } in
    let given : k.end.grant ≡ None = asked-grants r line n e k ∙ ap (λ b. if b then Some grant else None) f in
    let none : is_granted p a line n ≡ false = granted-value p a line n k.end there
    ∙ ap (λ o. is_some_and o (λ (grant : Grant). nat_eq grant.agent a && nat_eq grant.line line)) given
    ∙ none-granted a line in
    let fair = uncontested r line n k.end (writes-back-alone r h.timely h.bounds) there fits in
    let suits : fits_kind request.kind (outcome_under hitm turn (Some request)) ≡ true =
    ap (λ o. fits_kind request.kind o) (sym outcome)
    ∙ subst (λ kind. fits_kind kind k.end.outcome ≡ true) k.same_kind (fits.fits fair) in
    let free : own-state r line n e k ≡ (if is_write_back_kind request.kind then Invalid else state) =
    own-free request.kind e.1.1 turn hitm hit fits.won state request refl k.kind (held-of r line n e k) suits
    (made-same r line n e k ∙ f) in
    let effects = claimed-effects p a a line n k.end request.kind there k.claims k.claimed.kind in
    let self = eq-eqb a a refl in
    elim (cases_Bool (is_write_back_kind request.kind)) [
      | inl write ↦
          let written : is_written_back p a line n ≡ true = effects.is_written ∙ (λ i. self i && write i) in
          leads-same r line n a (own-state r line n e k)
          (lost-below p a line n none (lost-by p a line n (rw written refl))
          ∙ sym (free ∙ ap (λ b. if b then Invalid else state) write))
      | inr other ↦
          let quiet : Effects p a line n false false false = record {
            is_written = effects.is_written ∙ (λ i. self i && other i);
            is_taken = effects.is_taken ∙ (λ i. not (self i) && is_owning request.kind);
            is_named = effects.is_named ∙ ap not self;
          } in
          subst (λ s. Leads r line n a s) (sym (free ∙ ap (λ b. if b then Invalid else state) other))
          (leads-quiet r line n a h none quiet)
    ]

asker-by : (r : Run) (line n : ℕ) (e : Ender) (b : Bool) → Reaches r (n + 1) → (k : IsAskedEnd r line n e)
    → gives r line n e k ≡ b → Leads r line n e.1.0 (own-state r line n e k)
asker-by r line n e true h k t = own-given r line n e h k t
asker-by r line n e false h k f = own-left r line n e h k f

asker-state : (r : Run) (line n : ℕ) (e : Ender) → Reaches r (n + 1) → (k : IsAskedEnd r line n e)
    → Leads r line n e.1.0 (own-state r line n e k)
asker-state r line n e h k = asker-by r line n e (gives r line n e k) h k refl

through-held : (p : Past) (a line n : ℕ) → is_held (state_through p a line n) ≡ holds_line p a line n
unfolding state_through state_of_tests
through-held p a line n = by-held (holds_line p a line n) (is_exclusive p a line n) (is_dirty_through p a line n)
  where
    by-held : (held own dirty : Bool)
        → is_held (if held then (if own then (if dirty then Modified else Exclusive) else Shared) else Invalid) ≡ held
    by-held true true true = refl
    by-held true true false = refl
    by-held true false dirty = refl
    by-held false own dirty = refl

-- who writes a line back is its only holder
written-alone : (r : Run) (line n a : ℕ) (e : Ender) → Reaches r (n + 1) → IsAskedEnd r line n e → (a ≡ e.1.0 → ⊥)
    → e.1.1 ≡ WriteBack → holds_line (past_of r) a line n ≡ false
written-alone r line n a e h k other write =
    let p = past_of r in
    let long = h.long in
    let dirty = sym (state-modified p e.1.0 line n) ∙ written-modified r line n e h k write in
    alone-in-run r e.1.0 a line n h.timely h.bounds (omega arith) (dirty-own p e.1.0 line n dirty) other

given-other : (b : Bool) (grant : Grant) (a line : ℕ) → nat_eq grant.agent a ≡ false
    → is_some_and (if b then Some grant else None) (λ grant. nat_eq grant.agent a && nat_eq grant.line line) ≡ false
unfolding is_some_and
given-other true grant a line f = rw f refl
given-other false grant a line f = refl

-- another agent
other-state : (r : Run) (line n a : ℕ) (e : Ender) → Reaches r (n + 1) → IsAskedEnd r line n e → (a ≡ e.1.0 → ⊥)
    → Leads r line n a (after_snoop (line_state_of (past_of r) a line n) e.1.1)
other-state r line n a e h k other =
    let p = past_of r in
    let request = k.claimed.request in
    let state = line_state_of p a line n in
    let there = k.snooped.tied.there in
    let differ : nat_eq e.1.0 a ≡ false = false_from_ne_true _ (λ t. other (sym (eqb-true e.1.0 a t))) in
    let none = granted-value p a line n k.end there
    ∙ ap (λ o. is_some_and o (λ grant. nat_eq grant.agent a && nat_eq grant.line line)) (asked-grants r line n e k)
    ∙ given-other (gives r line n e k) (record {
      first = k.end.first;
      agent = e.1.0;
      line = line;
      owns = k.settled.fits.owns;
      shared = k.settled.fits.shared;
    }) a line differ in
    let effects = claimed-effects p a e.1.0 line n k.end request.kind there k.claims k.claimed.kind in
    let owning = owner-kind request.kind e.1.1 k.kind in
    elim (cases_Bool (is_evicted p a line n)) [
      | inl gone ↦
          leads-dropped r line n a (after_snoop state e.1.1) h none gone
          (snoop-clean state e.1.1 (evicted-clean r a line n h gone))
      | inr stays ↦ elim (cases_Bool (kind_owns e.1.1)) [
        | inl owns ↦
            let taken = effects.is_taken ∙ (λ i. not (differ i) && (owning ∙ owns) i) in
            leads-same r line n a (after_snoop state e.1.1)
            (lost-below p a line n none (lost-by p a line n (or_right (is_written_back p a line n) _ taken))
            ∙ sym (owns-away state e.1.1 owns))
        | inr shares ↦
            let taken = effects.is_taken ∙ (λ i. not (differ i) && (owning ∙ shares) i) in
            let written = effects.is_written ∙ (λ i. differ i && is_write_back_kind request.kind) in
            let named = effects.is_named ∙ ap not differ in
            let kept = not-lost p a line n stays written taken in
            let below : state_below p a line (n + 1) ≡ state_read (state_through p a line n) =
            state-kept p a line n none ∙ rw (kept, named) refl in
            leads-same r line n a (after_snoop state e.1.1)
            (below ∙ read-state state (state_through p a line n) e.1.1 shares
            (state-held p a line n ∙ sym (through-held p a line n))
            (λ write. state-held p a line n ∙ written-alone r line n a e h k other write))
      ]
    ]

-- so the snoop end of a request leads each agent's state as the rules of ownership say
pub asked-leads : (r : Run) (line n a : ℕ) (e : Ender) → Reaches r (n + 1) → (k : IsAskedEnd r line n e)
    → Leads r line n a (turned e.1.0 e.1.1 (settled_of r n e) (line_at HIT r.trace n) (λ b. line_state_of (past_of r) b line n) a)
unfolding own-state
asked-leads r line n a e h k =
    let p = past_of r in
    let hit = line_at HIT r.trace n in
    let state = line_state_of p a line n in
    elim (cases_eq a e.1.0) [
      | inl same ↦
          let self = eq-eqb a e.1.0 same in
          let turns = turned-shown r line n e h k in
          let one : turned e.1.0 e.1.1 (settled_of r n e) hit (λ b. line_state_of p b line n) a
          ≡ after_own state e.1.1 (settled_of r n e) hit =
          ap (λ b. state_after state b e.1.1 (settled_of r n e) hit) self in
          let two : after_own state e.1.1 (settled_of r n e) hit ≡ own-state r line n e k =
          (λ i. after_own (line_state_of p (same i) line n) e.1.1
          (settled_at_end (line_at HITM r.trace n) (turns i) e.1.1) hit) in
          subst (λ s. Leads r line n a s) (sym (one ∙ two))
          (subst (λ b. Leads r line n b (own-state r line n e k)) (sym same) (asker-state r line n e h k))
      | inr other ↦
          let differ : nat_eq a e.1.0 ≡ false = false_from_ne_true _ (λ t. other (eqb-true a e.1.0 t)) in
          let one : turned e.1.0 e.1.1 (settled_of r n e) hit (λ b. line_state_of p b line n) a
          ≡ after_snoop state e.1.1 =
          ap (λ b. state_after state b e.1.1 (settled_of r n e) hit) differ
          ∙ other-end state e.1.1 (line_at HITM r.trace n) (is_turned r.trace e.0) in
          subst (λ s. Leads r line n a s) (sym one) (other-state r line n a e h k other)
    ]

reply-state : (purpose : Purpose) (state : Mesi) (owns shared hit : Bool) → asks_line purpose ≡ true → owns ≡ kind_owns purpose
    → shared ≡ hit
    → (if owns then Modified else (if shared then Shared else Exclusive)) ≡ after_own state purpose Replied hit
reply-state Read state owns shared hit e f g = rw (f, g) (by-hit hit)
  where
    by-hit : (b : Bool) → (if b then Shared else Exclusive) ≡ cond b Shared Exclusive
    by-hit true = refl
    by-hit false = refl
reply-state Own state owns shared hit e f g = rw f refl
reply-state Upgrade state owns shared hit e f g = rw f refl
reply-state WriteBack state owns shared hit e f g = absurd (let no : ⊥ = cc in no)

-- and so does that of a reply
pub replied-leads : (r : Run) (line n a : ℕ) (e : Ender) → Reaches r (n + 1) → (k : IsRepliedEnd r line n e)
    → Leads r line n a (turned e.1.0 e.1.1 Replied (line_at HIT r.trace n) (λ b. line_state_of (past_of r) b line n) a)
unfolding state_granted
replied-leads r line n a e h k =
    let p = past_of r in
    let hit = line_at HIT r.trace n in
    let state = line_state_of p a line n in
    let there = k.snooped.tied.there in
    elim (cases_eq a e.1.0) [
      | inl same ↦
          let self = eq-eqb a e.1.0 same in
          let granted = granted-value p a line n k.end there
          ∙ granted-as k.end.grant k.grant a line k.grants (k.agent ∙ sym same) k.names in
          let below = state-granted r a line n k.grant h granted (grant-there p n k.end k.grant there k.grants) in
          leads-same r line n a (turned e.1.0 e.1.1 Replied hit (λ b. line_state_of p b line n) a)
          (below ∙ reply-state e.1.1 state k.grant.owns k.grant.shared hit k.asks k.owns k.shared
          ∙ sym (ap (λ b. state_after state b e.1.1 Replied hit) self))
      | inr other ↦
          let differ : nat_eq a e.1.0 ≡ false = false_from_ne_true _ (λ t. other (eqb-true a e.1.0 t)) in
          let away : nat_eq k.grant.agent a ≡ false =
          false_from_ne_true _ (λ t. other (sym (eqb-true k.grant.agent a t) ∙ k.agent)) in
          let none = granted-value p a line n k.end there
          ∙ ap (λ o. is_some_and o (λ grant. nat_eq grant.agent a && nat_eq grant.line line)) k.grants
          ∙ given-other true k.grant a line away in
          subst (λ s. Leads r line n a s) (sym (ap (λ b. state_after state b e.1.1 Replied hit) differ))
          (leads-quiet r line n a h none (unclaimed-effects p a line n k.end there k.unclaimed))
    ]
