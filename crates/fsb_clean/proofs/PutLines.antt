-- What is put into memory of a line, in the words of the run and in those of the transfers.
use Rattle.std.proofs.Common.{ℕ, ◌+◌, ◌<◌, ◌≤◌, ◌≡◌, Bool, true, false, nat_eq, List, Option, Some, None, refl, sym, ap}
use Rattle.std.proofs.Common.{◌∙◌, arith}
use Rattle.std.proofs.lemmas.Bool.{and_parts, both_ways, eq-eqb, eqb-true, false_from_ne_true}
use Rattle.std.proofs.lemmas.Option.{same_Some}
use Rattle.std.specs.Option.{option_map, option_and_then}
use Rattle.fsb_count.specs.Options.{is_before, is_some_and}
use Rattle.fsb_count.proofs.Interface.{is_before-from, is_before-parts}
use Rattle.fsb_encode.specs.declared.request.Kind.{Kind}
use Rattle.fsb_encode.specs.declared.request.Kind.TheVariants.{Reply, Invalidate, Read, WriteBack, Upgrade}
use Rattle.fsb_encode.specs.declared.request.Request.{Request}
use Rattle.fsb_hazard.specs.declared.choice.Turn.{Turn}
use Rattle.fsb_hazard.specs.declared.choice.Turn.TheVariants.{Keep, Retry, Defer}
use Rattle.fsb_signal.specs.declared.lines.TheConstants.Lines.{HITM}
use Rattle.fsb_signal.specs.Samples.{line_at}
use Rattle.fsb_trace.specs.At.{request_at}
use Rattle.fsb_trace.specs.Outcome.{does_take, outcome_by_kind, response_clock_of}
use Rattle.fsb_trace.specs.Requests.{is_reply, is_reply_kind}
use Rattle.fsb_trace.specs.Response.{end_of}
use Rattle.fsb_trace.proofs.Interface.{end_of-response, live_below_count}
use Rattle.fsb_access.specs.ByteMemory.{start_memory}
use Rattle.fsb_timely.specs.Carried.{memory_below}
use Rattle.fsb_timely.specs.Kept.{line_bytes}
use Rattle.fsb_timely.specs.Moments.{live_claim_of}
use Rattle.fsb_timely.specs.Past.{Claim, SnoopEnd}
use Rattle.fsb_timely.specs.Runs.{Run, past_of}
use Rattle.fsb_timely.specs.Timely.{Timely}
use Rattle.fsb_timely.specs.Transfers.{settled_of}
use Rattle.fsb_coherent.specs.Settled.{outcome_by_turn, outcome_under}
use Rattle.fsb_lawful.specs.Beginning.{KeepsBounds}
use Rattle.fsb_lawful.proofs.Interface.{some-and, wants-lawfully}
use Rattle.fsb_tied.specs.RunBytes.{bytes_put_below, put_clock_below}
use Rattle.fsb_tied.proofs.Interface.{IsSnooped, asked-at, ended-before, number-put, number-stays, orderly-whole}
use Rattle.fsb_tied.proofs.Interface.{outcome-shown, takes_line, told-again}
use Rattle.fsb_clean.proofs.Answered.{Answered, answered-run, claim-there, claimed-live, plain-claimed, response-below}
use Rattle.fsb_clean.proofs.DataWays.{put-told}
use Rattle.fsb_clean.proofs.Follows.{line_moved_by, puts_data}
use Rattle.fsb_clean.proofs.MovedLines.{itself, line-named}

-- what memory takes by its kind alone is a write-back
written-kind : (handed : Bool) (turn : Turn) (request : Request) (kind : Kind) → request.kind ≡ kind → handed ≡ false
    → does_take (outcome_under handed turn (Some request)) ≡ true → is_reply_kind kind ≡ false
unfolding outcome_under outcome_by_turn outcome_by_kind does_take is_reply_kind
written-kind true turn request kind e f g = absurd (let no : ⊥ = cc in no)
written-kind false Keep request Reply e f g = absurd (let no : ⊥ = (let g' = rw e at g in cc) in no)
written-kind false Keep request Invalidate e f g = refl
written-kind false Keep request Read e f g = refl
written-kind false Keep request WriteBack e f g = refl
written-kind false Keep request Upgrade e f g = refl
written-kind false Retry request kind e f g = absurd (let no : ⊥ = cc in no)
written-kind false (Defer later) request kind e f g = absurd (let no : ⊥ = cc in no)

-- memory takes no data of a reply
taken-plain : (r : Run) (n i : ℕ) (s : SnoopEnd) → Timely r → KeepsBounds r.plan → IsSnooped r n i s
    → does_take s.outcome ≡ true → is_reply (request_at r.trace s.first) ≡ false
unfolding is_reply is_some_and
taken-plain r n i s h bounds k takes =
    let asked = asked-at r n i s h (wants-lawfully r bounds) k in
    let kind = asked.request.kind in
    let known = k.tied.kind ∙ ap (option_map (λ (x : Request). x.kind)) asked.decoded in
    let plain : is_reply_kind kind ≡ false = false_from_ne_true (is_reply_kind kind) (λ reply.
    let clean = (told-again r n s kind h k.within k.tied.there known reply).clean in
    let made = outcome-shown r n i s asked.request k asked.decoded in
    both_ways (is_reply_kind kind)
    (written-kind (line_at HITM r.trace n) s.turn asked.request kind refl clean (ap does_take (sym made) ∙ takes))
    reply) in
    ap is_reply asked.decoded ∙ plain

settled-there : (r : Run) (i t : ℕ) (a : Answered r i t) → settled_of r (past_of r) i ≡ Some a.end.outcome
unfolding settled_of
settled-there r i t a = a.snooped.tied.outcome

-- what the transfers put of a line is what the run puts of it
pub puts-takes : (r : Run) (i t line : ℕ) → Timely r → KeepsBounds r.plan → response_clock_of r.trace i ≡ Some t
    → line_moved_by r.trace i ≡ Some line → puts_data r.trace i ≡ true → takes_line r line i ≡ true
unfolding is_some_and
puts-takes r i t line h bounds e names puts =
    let a = answered-run r i t h e in
    let takes = sym (put-told r.trace i a.end.outcome a.told) ∙ puts in
    let plain = taken-plain r a.snoop i a.end h bounds a.snooped takes in
    let claim = plain-claimed r i a.snoop a.end h bounds a.snooped plain in
    let c = claimed-live r i a.snoop a.end claim.0 h bounds a.snooped claim.1 in
    let here = line-named r.trace i i c.request (itself r.trace i c.request c.asked c.plain) c.asked in
    let line-is : claim.0.line ≡ line = sym c.names ∙ same_Some _ _ (sym here ∙ names) in
    let claims = claim-there r i a.snoop a.end a.snooped ∙ claim.1 in
    rw (claims, settled-there r i t a, eq-eqb claim.0.line line line-is) takes

-- and the other way
pub takes-puts : (r : Run) (i t line : ℕ) → Timely r → KeepsBounds r.plan → response_clock_of r.trace i ≡ Some t
    → takes_line r line i ≡ true → (line_moved_by r.trace i ≡ Some line) × (puts_data r.trace i ≡ true)
takes-puts r i t line h bounds e takes =
    let a = answered-run r i t h e in
    let parts = and_parts (is_some_and (live_claim_of r.trace i) (λ claim. nat_eq claim.line line))
    (is_some_and (settled_of r (past_of r) i) does_take) takes in
    let claim = some-and (live_claim_of r.trace i) (λ (x : Claim). nat_eq x.line line) parts.0 in
    let o = some-and (settled_of r (past_of r) i) does_take parts.1 in
    let same : o.0 ≡ a.end.outcome = same_Some _ _ (sym o.1 ∙ settled-there r i t a) in
    let claims = sym (claim-there r i a.snoop a.end a.snooped) ∙ claim.1 in
    let c = claimed-live r i a.snoop a.end claim.0 h bounds a.snooped claims in (
      line-named r.trace i i c.request (itself r.trace i c.request c.asked c.plain) c.asked
          ∙ ap Some (c.names ∙ eqb-true claim.0.line line claim.2),
      put-told r.trace i a.end.outcome a.told ∙ ap does_take (sym same) ∙ o.2,
    )

-- one clock after the end of a request that puts the line memory has what the request moved
pub put-there : (r : Run) (line i t e : ℕ) → Timely r → KeepsBounds r.plan → line_moved_by r.trace i ≡ Some line
    → puts_data r.trace i ≡ true → response_clock_of r.trace i ≡ Some t → end_of r.trace i ≡ Some e
    → bytes_put_below r line (e + 1) ≡ line_bytes (memory_below r t) line
unfolding bytes_put_below put_clock_below
put-there r line i t e h bounds names puts response ends =
    let w = r.trace in
    let o = orderly-whole r t h (response-below w i t response) in
    let a = answered-run r i t h response in
    let number = number-put r line (e + 1) i (live_below_count w i a.end.first a.snooped.tied.first)
    (puts-takes r i t line h bounds response names puts) (is_before-from (end_of w i) e (e + 1) ends (omega arith))
    (λ j more. false_from_ne_true (is_before (end_of w j) (e + 1)) (λ before.
    let k = is_before-parts (end_of w j) (e + 1) before in
    let low : k.0 < e + 1 = k.2 in
    let u = end_of-response w j k.0 k.1 in
    let from : u.0 ≤ k.0 = u.2 in
    let first = ended-before w i j u.0 o more u.1 in
    let early : first.0 < u.0 = first.2 in
    let same : first.0 ≡ e = same_Some _ _ (sym first.1 ∙ ends) in
    omega arith)) in
    rw (number, bytes_put_below, put_clock_below, response) refl

-- where nothing of the line is put memory keeps what it has
pub put-stays : (r : Run) (line n : ℕ) → Timely r → KeepsBounds r.plan
    → ((i : ℕ) → end_of r.trace i ≡ Some n → line_moved_by r.trace i ≡ Some line → puts_data r.trace i ≡ false)
    → bytes_put_below r line (n + 1) ≡ bytes_put_below r line n
unfolding bytes_put_below put_clock_below
put-stays r line n h bounds none =
    let number = number-stays r line n (λ i ends takes.
    let t = end_of-response r.trace i n ends in
    let p = takes-puts r i t.0 line h bounds t.1 takes in
    both_ways (puts_data r.trace i) (none i ends p.0) p.1) in
    ap by-number number
  where
    by-number : Option ℕ → List ℕ
    by-number o = elim (option_and_then (response_clock_of r.trace) o) [
      | Some response ↦ line_bytes (memory_below r response) line
      | None ↦ line_bytes (start_memory r.plan.mem) line
    ]
