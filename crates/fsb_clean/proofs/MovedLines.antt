-- The line whose end is awaited after a snoop end is the line that the request's data are of.
use Rattle.std.proofs.Common.{ℕ, ◌+◌, ◌-◌, ◌≡◌, Bool, true, false, Option, Some, None, length, refl, sym, ap, ◌∙◌}
use Rattle.std.proofs.Common.{arith, subst}
use Rattle.std.proofs.lemmas.Option.{same_Some}
use Rattle.std.proofs.lemmas.List.{take_all}
use Rattle.std.specs.Option.{option_map}
use Rattle.fsb_count.specs.Options.{is_some_and}
use Rattle.fsb_encode.specs.declared.request.Request.{Request}
use Rattle.fsb_trace.specs.At.{Trace}
use Rattle.fsb_trace.specs.declared.outcome.Outcome.{Outcome}
use Rattle.fsb_trace.specs.Outcome.{response_clock_of}
use Rattle.fsb_trace.specs.Requests.{is_reply, is_reply_kind, live_request_of}
use Rattle.fsb_timely.specs.Moments.{gives_line, grant_for, grant_of, grant_to, is_owner_request, is_shared_at}
use Rattle.fsb_timely.specs.Moments.{live_claim_of, served_number, turns_in}
use Rattle.fsb_timely.specs.Past.{Claim, Grant, Past}
use Rattle.fsb_timely.specs.Runs.{Run, past_of, past_to, run_to}
use Rattle.fsb_timely.specs.Timely.{Timely}
use Rattle.fsb_timely.proofs.Interface.{length-moments}
use Rattle.fsb_lawful.specs.Beginning.{KeepsBounds}
use Rattle.fsb_lawful.proofs.Interface.{and-then, past-cut}
use Rattle.fsb_coherent.specs.Awaits.{Awaited, awaited_by}
use Rattle.fsb_audit.specs.MovedChunks.{namer_of}
use Rattle.fsb_audit.proofs.Interface.{Responded, responded}
use Rattle.fsb_tied.proofs.Interface.{granted-await, orderly-whole, written-await}
use Rattle.fsb_clean.proofs.Answered.{Answered, answered-run, claim-there, claimed-live, response-below}
use Rattle.fsb_clean.proofs.Follows.{line_moved_by}
use Rattle.fsb_clean.proofs.Moved.{namer-responded}
use Rattle.fsb_clean.proofs.Named.{serves-namer}

-- the run up to its last clock is the run
whole-trace : (r : Run) (c : ℕ) → length r.trace ≡ c + 1 → (run_to r c).trace ≡ r.trace
unfolding run_to
whole-trace r c l = take_all (c + 1) r.trace (omega arith)

whole-turns : (r : Run) (c : ℕ) → length r.trace ≡ c + 1
    → turns_in (past_of (run_to r c)).moments ≡ turns_in (past_of r).moments
unfolding past_to past_of
whole-turns r c l =
    let size = length-moments r (length r.trace) in
    ap (λ (p : Past). turns_in p.moments) (past-cut r c (omega arith))
    ∙ ap turns_in (take_all (c + 1) (past_of r).moments (omega arith))

-- the request that a live request serves is the one that names its line
pub served-names : (r : Run) (j t : ℕ) → Timely r → response_clock_of r.trace j ≡ Some t
    → served_number r.trace (turns_in (past_of r).moments) j ≡ namer_of r.trace j
served-names r j t h e =
    let l = response-below r.trace j t e in
    let c : ℕ = length r.trace - 1 in
    let size : length r.trace ≡ c + 1 = omega arith in
    let trace = whole-trace r c size in
    let turns = whole-turns r c size in
    let k = responded r.trace j t (orderly-whole r t h l) e in
    (λ i. served_number (sym trace i) (sym turns i) j)
    ∙ serves-namer r c j h (omega arith) (subst (λ w. Responded w j) (sym trace) k)
    ∙ ap (λ w. namer_of w j) trace

-- the claim by which a snoop end grants a line is that of the request that is served
pub record GrantedFor (r : Run) (i : ℕ) (grant : Grant) : Type 0 where
  pub number : ℕ
  pub serves : served_number r.trace (turns_in (past_of r).moments) i ≡ Some number
  pub claim : Claim
  pub claims : live_claim_of r.trace number ≡ Some claim
  pub line : claim.line ≡ grant.line

line-of-grant : (w : Trace) (q j : ℕ) (shared : Bool) (claim : Claim) (grant : Grant)
    → grant_to q (is_owner_request (live_request_of w j)) shared claim ≡ grant → claim.line ≡ grant.line
unfolding grant_to
line-of-grant w q j shared claim grant e = ap (λ (x : Grant). x.line) e

grant-line : (w : Trace) (q t j : ℕ) (grant : Grant) → grant_for w q t j ≡ Some grant
    → (claim : Claim) × (live_claim_of w j ≡ Some claim) × (claim.line ≡ grant.line)
unfolding grant_for
grant-line w q t j grant e = by-claim (live_claim_of w j) refl e
  where
    by-claim : (o : Option Claim) → live_claim_of w j ≡ o
        → option_map (grant_to q (is_owner_request (live_request_of w j)) (is_shared_at w t)) o ≡ Some grant
        → (claim : Claim) × (live_claim_of w j ≡ Some claim) × (claim.line ≡ grant.line)
    by-claim None f g = absurd (let no : ⊥ = cc in no)
    by-claim (Some claim) f g =
        (claim, f, line-of-grant w q j (is_shared_at w t) claim grant (same_Some _ _ g))

granted-for : (r : Run) (p : Past) (i q t : ℕ) (outcome : Outcome) (grant : Grant) (b : Bool)
    → p ≡ past_of r → gives_line p r.trace q t outcome ≡ b → grant_of p r.trace i q t outcome ≡ Some grant
    → GrantedFor r i grant
unfolding grant_of
granted-for r p i q t outcome grant false e f g = absurd (let no : ⊥ = (let g' = rw (f, grant_of) at g in cc) in no)
granted-for r p i q t outcome grant true e f g =
    let g' = rw (f, grant_of) at g in
    let j = and-then (grant_for r.trace q t) (served_number r.trace (turns_in p.moments) i) grant g' in
    let c = grant-line r.trace q t j.0 grant j.2 in
    record {
      number = j.0;
      serves = ap (λ (x : Past). served_number r.trace (turns_in x.moments) i) (sym e) ∙ j.1;
      claim = c.0;
      claims = c.1;
      line = c.2;
    }

pub line-named : (w : Trace) (i j : ℕ) (request : Request) → namer_of w i ≡ Some j → live_request_of w j ≡ Some request
    → line_moved_by w i ≡ Some request.line
unfolding line_moved_by
line-named w i j request names asked = rw (names, asked) refl

pub itself : (w : Trace) (i : ℕ) (request : Request) → live_request_of w i ≡ Some request
    → is_reply_kind request.kind ≡ false → namer_of w i ≡ Some i
unfolding namer_of is_reply is_some_and
itself w i request e plain = rw (e, plain) refl

-- the line of a grant
by-grant : (r : Run) (i t : ℕ) (a : Answered r i t) (awaited : Awaited) (grant : Grant) → Timely r → KeepsBounds r.plan
    → response_clock_of r.trace i ≡ Some t → a.end.grant ≡ Some grant → awaited_by a.end ≡ Some awaited
    → line_moved_by r.trace i ≡ Some awaited.line
by-grant r i t a awaited grant h bounds e g awaits =
    let w = r.trace in
    let l = response-below w i t e in
    let o = orderly-whole r t h l in
    let b = granted-await a.end awaited grant g awaits in
    let same : b.grant ≡ grant = same_Some _ _ (sym b.granted ∙ g) in
    let for = granted-for r (past_of r) i a.end.first a.snoop a.end.outcome grant
    (gives_line (past_of r) w a.end.first a.snoop a.end.outcome) refl refl (sym a.snooped.tied.grant ∙ g) in
    let names = sym (served-names r i t h e) ∙ for.serves in
    let n = namer-responded w i for.number o (responded w i t o e) names in
    let k = answered-run r for.number n.response h n.is_response in
    let claims = sym (claim-there r for.number k.snoop k.end k.snooped) ∙ for.claims in
    let c = claimed-live r for.number k.snoop k.end for.claim h bounds k.snooped claims in
    line-named w i for.number c.request names c.asked
    ∙ ap Some (c.names ∙ for.line ∙ ap (λ (x : Grant). x.line) (sym same) ∙ b.names)

-- the line of a write-back
by-write-back : (r : Run) (i t : ℕ) (a : Answered r i t) (awaited : Awaited) → Timely r → KeepsBounds r.plan
    → a.end.grant ≡ None → awaited_by a.end ≡ Some awaited → line_moved_by r.trace i ≡ Some awaited.line
by-write-back r i t a awaited h bounds g awaits =
    let b = written-await a.end awaited g awaits in
    let c = claimed-live r i a.snoop a.end b.claim h bounds a.snooped b.claimed in
    line-named r.trace i i c.request (itself r.trace i c.request c.asked c.plain) c.asked ∙ ap Some (c.names ∙ b.names)

-- the line of an end that is awaited after a snoop end is the one that the request's data are of
pub awaited-line : (r : Run) (i t : ℕ) (a : Answered r i t) (awaited : Awaited) → Timely r → KeepsBounds r.plan
    → response_clock_of r.trace i ≡ Some t → awaited_by a.end ≡ Some awaited
    → line_moved_by r.trace i ≡ Some awaited.line
awaited-line r i t a awaited h bounds e awaits = by-cases a.end.grant refl
  where
    by-cases : (o : Option Grant) → a.end.grant ≡ o → line_moved_by r.trace i ≡ Some awaited.line
    by-cases None g = by-write-back r i t a awaited h bounds g awaits
    by-cases (Some grant) g = by-grant r i t a awaited grant h bounds e g awaits
