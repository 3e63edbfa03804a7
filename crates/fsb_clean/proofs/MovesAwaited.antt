-- Where the data of a live request move an end is awaited after its snoop end.
use Rattle.std.proofs.Common.{ℕ, ◌≡◌, Bool, true, false, ◌||◌, if◌then◌else◌, Option, Some, None, refl, sym, ap, ◌∙◌}
use Rattle.std.proofs.Common.{inl, inr, subst}
use Rattle.std.proofs.lemmas.Bool.{and_parts, cases_Bool}
use Rattle.std.proofs.lemmas.Option.{same_Some}
use Rattle.std.specs.Option.{option_map, option_and_then}
use Rattle.fsb_count.specs.Options.{is_at, is_some_and}
use Rattle.fsb_count.proofs.Interface.{first_where-found, is_at-some}
use Rattle.fsb_encode.specs.declared.request.Kind.{Kind}
use Rattle.fsb_encode.specs.declared.request.Kind.TheVariants as kinds
use Rattle.fsb_encode.specs.declared.request.Request.{Request}
use Rattle.fsb_hazard.specs.Choice.{is_never_held_up}
use Rattle.fsb_trace.specs.At.{Trace, request_at}
use Rattle.fsb_trace.specs.declared.outcome.Outcome.{Outcome}
use Rattle.fsb_trace.specs.declared.outcome.Outcome.TheVariants as outcomes
use Rattle.fsb_trace.specs.Flight.{reply_number_of}
use Rattle.fsb_trace.specs.Outcome.{does_move, is_deferral, is_deferred, outcome_of, response_clock_of}
use Rattle.fsb_trace.specs.Requests.{is_reply, is_reply_kind, live_count, live_request_of}
use Rattle.fsb_timely.specs.Moments.{is_got, makes_grant}
use Rattle.fsb_timely.specs.Past.{Claim, Grant, SnoopEnd}
use Rattle.fsb_timely.specs.Runs.{Run}
use Rattle.fsb_timely.specs.Timely.{Timely}
use Rattle.fsb_lawful.specs.Beginning.{KeepsBounds}
use Rattle.fsb_lawful.proofs.Interface.{wants-lawfully}
use Rattle.fsb_coherent.specs.Awaits.{Awaited, awaited_by, awaited_by_claim, awaited_by_grant, is_written}
use Rattle.fsb_coherent.specs.Fitting.{fits_getting, fits_kind, fits_upgrade, fits_write_back}
use Rattle.fsb_audit.specs.MovedChunks.{is_named_by_reply, namer_of}
use Rattle.fsb_audit.proofs.Interface.{responded}
use Rattle.fsb_tied.proofs.Interface.{IsSnooped, asked-at, awaits-grant, clock-facts, deferred-held, live-request}
use Rattle.fsb_tied.proofs.Interface.{orderly-whole, reply-grants, uncontested, writes-back-alone}
use Rattle.fsb_clean.proofs.Answered.{Answered, answered-run, plain-claimed, response-below}
use Rattle.fsb_clean.proofs.Follows.{line_moved_by}
use Rattle.fsb_clean.proofs.Moved.{namer-responded}

-- a request that moves data is granted its line, or is a write-back
move-grants : (kind : Kind) (outcome : Outcome) → fits_kind kind outcome ≡ true → does_move outcome ≡ true
    → is_written outcome ≡ false → makes_grant kind outcome ≡ true
unfolding fits_kind fits_getting fits_upgrade fits_write_back does_move is_written makes_grant is_got
move-grants kinds.Reply outcome e f g = refl
move-grants kinds.Invalidate outcomes.Granted e f g = refl
move-grants kinds.Invalidate outcomes.Handed e f g = refl
move-grants kinds.Read outcomes.Granted e f g = refl
move-grants kinds.Read outcomes.Handed e f g = refl
move-grants kinds.Upgrade outcomes.Granted e f g = refl
move-grants kinds.Upgrade outcomes.Handed e f g = refl
move-grants _ _ e f g = absurd (let no : ⊥ = cc in no)

awaits-written : (s : SnoopEnd) (claim : Claim) → s.grant ≡ None → is_written s.outcome ≡ true → s.claim ≡ Some claim
    → awaited_by s ≡ Some (awaited_by_claim claim)
unfolding awaited_by
awaits-written s claim e f g = rw (e, awaited_by, f, g) refl

awaits-some : (s : SnoopEnd) (claim : Claim) → is_written s.outcome ≡ true → s.claim ≡ Some claim
    → (awaited : Awaited) × (awaited_by s ≡ Some awaited)
awaits-some s claim f g = by-grant s.grant refl
  where
    by-grant : (o : Option Grant) → s.grant ≡ o → (awaited : Awaited) × (awaited_by s ≡ Some awaited)
    by-grant None e = (awaited_by_claim claim, awaits-written s claim e f g)
    by-grant (Some grant) e = (awaited_by_grant s.outcome grant, awaits-grant s grant e)

-- an end is awaited after the snoop end of a request that is no reply, and moves data
plain-awaited : (r : Run) (n i : ℕ) (s : SnoopEnd) → Timely r → KeepsBounds r.plan → IsSnooped r n i s
    → is_reply (request_at r.trace s.first) ≡ false → does_move s.outcome ≡ true
    → (awaited : Awaited) × (awaited_by s ≡ Some awaited)
plain-awaited r n i s h bounds k plain moves =
    let claim = plain-claimed r i n s h bounds k plain in
    let there = k.tied.there in
    let on = ((clock-facts r claim.0.line n h bounds k.within).settles.settled s claim.0 there claim.1 refl).fits in
    let fits = on.fits (uncontested r claim.0.line n s (writes-back-alone r h bounds) there on) in
    elim (cases_Bool (is_written s.outcome)) [
      | inl written ↦ awaits-some s claim.0 written claim.1
      | inr other ↦
          let grant = granted (makes_grant on.kind s.outcome) _ _ s.grant
          (move-grants on.kind s.outcome fits moves other) on.granted in
          (awaited_by_grant s.outcome grant.0, awaits-grant s grant.0 grant.1)
    ]
  where
    granted : (makes other : Bool) (x : Grant) (o : Option Grant) → makes ≡ true
        → o ≡ (if makes || other then Some x else None) → (grant : Grant) × (o ≡ Some grant)
    granted true other x o e f = (x, f)
    granted false other x o e f = absurd (let no : ⊥ = cc in no)

-- what is never held up is not a reply where it is held up
held-plain : (kind : Kind) → is_never_held_up kind ≡ false → is_reply_kind kind ≡ false
unfolding is_reply_kind
held-plain kinds.Reply e = absurd (let no : ⊥ = cc in no)
held-plain kinds.Invalidate e = refl
held-plain kinds.Read e = refl
held-plain kinds.WriteBack e = refl
held-plain kinds.Upgrade e = refl

named-answer : (w : Trace) (i j : ℕ) → is_reply (live_request_of w i) ≡ true → namer_of w i ≡ Some j
    → is_named_by_reply w i j ≡ true
unfolding namer_of
named-answer w i j e names =
    (first_where-found (is_named_by_reply w i) (live_count w) j (let n' = rw e at names in n')).1

named-reply : (w : Trace) (i j : ℕ) → is_named_by_reply w i j ≡ true
    → (is_deferred w j ≡ true) × (reply_number_of w j ≡ Some i)
unfolding is_named_by_reply
named-reply w i j e =
    let p = and_parts (is_deferred w j) (is_at (reply_number_of w j) i) e in
    (p.0, is_at-some (reply_number_of w j) i p.1)

deferral-told : (w : Trace) (j : ℕ) (o : Outcome) → is_deferred w j ≡ true → outcome_of w j ≡ Some o
    → is_deferral o ≡ true
unfolding is_deferred is_some_and
deferral-told w j o e f = let e' = rw f at e in e'

-- the snoop end makes a grant
record GrantsSome (s : SnoopEnd) : Type 0 where
  grant : Grant
  granted : s.grant ≡ Some grant

grants-some : (s : SnoopEnd) (grant : Grant) → s.grant ≡ Some grant → GrantsSome s
grants-some s grant e = record { grant = grant; granted = e }

-- after the snoop end of a reply that answers live request j an end is awaited
reply-awaited : (r : Run) (n i j t : ℕ) (s : SnoopEnd) → Timely r → KeepsBounds r.plan → IsSnooped r n i s
    → is_reply (request_at r.trace s.first) ≡ true → namer_of r.trace i ≡ Some j → response_clock_of r.trace i ≡ Some t
    → (awaited : Awaited) × (awaited_by s ≡ Some awaited)
unfolding is_reply is_some_and
reply-awaited r n i j t s h bounds k replies names e =
    let w = r.trace in
    let wants = wants-lawfully r bounds in
    let o = orderly-whole r t h (response-below w i t e) in
    let m = namer-responded w i j o (responded w i t o e) names in
    let a = answered-run r j m.response h m.is_response in
    let asks = ap is_reply (live-request w i s.first k.tied.first) ∙ replies in
    let answer = named-reply w i j (named-answer w i j asks names) in
    let deferred = deferral-told w j a.end.outcome answer.0 a.told in
    let asked = asked-at r a.snoop j a.end h wants a.snooped in
    let held = deferred-held r a.snoop j a.end asked.request h a.snooped asked.decoded deferred in
    let plain = ap is_reply asked.decoded ∙ held-plain asked.request.kind held in
    let claim = plain-claimed r j a.snoop a.end h bounds a.snooped plain in
    let g = reply-grants r claim.0.line a.snoop j i n h wants bounds.few_ahead (record {
      end = a.end;
      snooped = a.snooped;
      deferred = deferred;
      claim = claim.0;
      claims = claim.1;
      names = refl;
    }) answer.1 k.tied.reached in
    let same : g.end ≡ s = same_Some _ _ (sym g.snooped.tied.there ∙ k.tied.there) in
    let grants = subst (λ x. GrantsSome x) same (grants-some g.end _ g.grants) in
    (awaited_by_grant s.outcome grants.grant, awaits-grant s grants.grant grants.granted)

-- the data of a live request that move are awaited
pub moves-awaited : (r : Run) (i t line : ℕ) (a : Answered r i t) → Timely r → KeepsBounds r.plan
    → response_clock_of r.trace i ≡ Some t → line_moved_by r.trace i ≡ Some line → does_move a.end.outcome ≡ true
    → (awaited : Awaited) × (awaited_by a.end ≡ Some awaited)
unfolding line_moved_by
moves-awaited r i t line a h bounds e names moves =
    elim (cases_Bool (is_reply (request_at r.trace a.end.first))) [
      | inl replies ↦
          let j = namer-there (namer_of r.trace i) names in
          reply-awaited r a.snoop i j.0 t a.end h bounds a.snooped replies j.1 e
      | inr plain ↦ plain-awaited r a.snoop i a.end h bounds a.snooped plain moves
    ]
  where
    namer-there : (o : Option ℕ)
        → option_map (λ (request : Request). request.line) (option_and_then (live_request_of r.trace) o) ≡ Some line
        → (j : ℕ) × (o ≡ Some j)
    namer-there None f = absurd (let no : ⊥ = cc in no)
    namer-there (Some j) f = (j, refl)
