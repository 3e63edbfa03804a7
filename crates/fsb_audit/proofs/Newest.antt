-- Which chunk is moved at the newest clock, and whether it comes from memory.
use Rattle.std.proofs.Common.{ℕ, ◌+◌, ◌*◌, ◌/◌, ◌%◌, ◌^◌, ◌<◌, ◌≤◌, ◌≡◌, Bool, true, false}
use Rattle.std.proofs.Common.{Some, length, refl}
use Rattle.std.proofs.Common.{sym, ap, ◌∙◌, arith, subst}
use Rattle.std.proofs.lemmas.Bool.{and_parts, both_ways, false_from_ne_true, ltb-true, eqb-true}
use Rattle.std.proofs.lemmas.Option.{same_Some}
use Rattle.fsb_count.specs.Options.{is_some_and, is_before}
use Rattle.fsb_count.proofs.Interface.{is_before-parts, nth_where-found}
use Rattle.fsb_signal.specs.declared.sample.Sample.{Sample}
use Rattle.fsb_encode.specs.declared.request.Kind.{Kind}
use Rattle.fsb_encode.specs.declared.request.Kind.TheVariants.{Reply, Invalidate, Read, WriteBack, Upgrade}
use Rattle.fsb_encode.specs.declared.request.Request.{Request}
use Rattle.fsb_encode.specs.Request.{are_lawful_fields, is_lawful_request}
use Rattle.fsb_trace.specs.At.{Trace, request_at}
use Rattle.fsb_trace.specs.Requests.{is_live, live_clock_of, live_number_of, live_request_of, is_reply}
use Rattle.fsb_trace.specs.Requests.{is_reply_kind}
use Rattle.fsb_trace.specs.Outcome.{is_deferred}
use Rattle.fsb_trace.specs.Response.{end_of}
use Rattle.fsb_trace.specs.Flight.{last_clock_of, reply_clock_of, reply_end_of}
use Rattle.fsb_trace.specs.Flight.{reply_number_of}
use Rattle.fsb_trace.proofs.Interface.{snoop_end_of-clock}
use Rattle.fsb_laws.specs.OneMore.{OneMore}
use Rattle.fsb_laws.specs.Orderly.{Orderly}
use Rattle.fsb_laws.proofs.Interface.{deferred_response, deferred_still, end_of-kept}
use Rattle.fsb_laws.proofs.Interface.{is_live-ads, last_clock_of-deferred, last_clock_of-plain, live_number_of-more}
use Rattle.fsb_laws.proofs.Interface.{request_at-old}
use Rattle.fsb_rules.specs.Checker.{Deferrable}
use Rattle.fsb_rules.proofs.Interface.{IsDataClock}
use Rattle.fsb_audit.specs.AuditRegisters.{first_asked, nth_from}
use Rattle.fsb_audit.specs.MovedChunks.{nth_chunk}
use Rattle.fsb_audit.specs.Audit.{IsAnswering}
use Rattle.fsb_audit.proofs.Movers.{GoesOnFrom, after_response, before_end}
use Rattle.fsb_audit.proofs.Movers.{responded}
use Rattle.fsb_audit.proofs.Moves.{same_deferred}
use Rattle.fsb_audit.proofs.Asked.{IsOut, live_old}

-- the chunks of a lawful request, by the one for which it asked first
lawful_fields : (kind : Kind) (line chunk : ℕ) (den : Bool) → are_lawful_fields kind line chunk den ≡ true
    → (line < 2 ^ 31) × (chunk < 4)
unfolding are_lawful_fields
lawful_fields Reply line chunk den t =
    let a = and_parts _ _ t in
    let b = and_parts _ _ a.0 in
    let l : line ≡ 0 = eqb-true line 0 b.0 in
    let c : chunk ≡ 0 = eqb-true chunk 0 b.1 in
    (omega arith, omega arith)
lawful_fields Invalidate line chunk den t = let a = and_parts _ _ t in
    (ltb-true line (2 ^ 31) a.0, ltb-true chunk 4 a.1)
lawful_fields Read line chunk den t = let a = and_parts _ _ t in (ltb-true line (2 ^ 31) a.0, ltb-true chunk 4 a.1)
lawful_fields WriteBack line chunk den t =
    let a = and_parts _ _ t in
    let b = and_parts _ _ a.0 in
    let c : chunk ≡ 0 = eqb-true chunk 0 b.1 in
    (ltb-true line (2 ^ 31) b.0, omega arith)
lawful_fields Upgrade line chunk den t =
    let a = and_parts _ _ t in
    let b = and_parts _ _ a.0 in
    (ltb-true line (2 ^ 31) b.0, ltb-true chunk 4 b.1)

lawful_parts : (r : Request) → is_lawful_request r ≡ true → (r.line < 2 ^ 31) × (r.chunk < 4)
unfolding is_lawful_request
lawful_parts r t = lawful_fields r.kind r.line r.chunk r.den (and_parts _ _ t).0

pub chunk_same : (r : Request) (n : ℕ) → is_lawful_request r ≡ true → n < 4 → nth_from (first_asked r) n ≡ nth_chunk n r
unfolding nth_from first_asked nth_chunk
chunk_same r n t l =
    let p = lawful_parts r t in
    let line : (r.line % 2 ^ 31 * 4 + r.chunk % 4) / 4 % 2 ^ 31 ≡ r.line = omega (arith, p.0, p.1) in
    let chunk : (r.line % 2 ^ 31 * 4 + r.chunk % 4) % 4 ≡ r.chunk = omega (arith, p.1) in
    let place : n % 4 ≡ n = omega arith in
    let turned : r.line * 4 ≡ 4 * r.line = omega arith in
    rw (line, chunk, place, turned) refl

-- where a live request has no end below the sample
open_until : (h : Trace) (x : Sample) (v : Trace) (j k : ℕ) → OneMore h x v → Orderly h
    → IsDataClock v j k (length h) → is_before (end_of h j) (length h) ≡ false
open_until h x v j k m o d =
    false_from_ne_true _ (λ t.
    let e = is_before-parts (end_of h j) (length h) t in
    let later = before_end v j k (length h) e.0 d (end_of-kept h x v j e.0 m o e.1 e.2) in
    omega (arith, e.2))

-- what is known of the request whose data come at the newest clock
pub record Comes (h : Trace) (x : Sample) (v : Trace) (j k : ℕ) (r : Request) : Type 0 where
  pub more : OneMore h x v
  pub before : Orderly h
  pub after : Orderly v
  pub deferrable : Deferrable h
  pub answering : IsAnswering h
  pub clock : IsDataClock v j k (length h)
  pub request : live_request_of v j ≡ Some r

pub goes_on : (h : Trace) (x : Sample) (v : Trace) (j k : ℕ) (r : Request) → Comes h x v j k r → GoesOnFrom h v
goes_on h x v j k r c = record { agree = c.more.agree; orderly = c.before }

-- its first clock
pub record Began (h v : Trace) (j : ℕ) (r : Request) : Type 0 where
  pub first : ℕ
  pub is_first : live_clock_of v j ≡ Some first
  pub early : first + 6 ≤ length h
  pub live : is_live h first ≡ true
  pub number : live_number_of h first ≡ j
  pub request : request_at v first ≡ Some r
  pub known : request_at h first ≡ Some r

pub request_where : (w : Trace) (j q : ℕ) (r : Request) → live_clock_of w j ≡ Some q
    → live_request_of w j ≡ Some r → request_at w q ≡ Some r
unfolding live_request_of
request_where w j q r e f = let a = rw e at f in a

began_at : (h : Trace) (x : Sample) (v : Trace) (j q : ℕ) (r : Request) → OneMore h x v → Orderly h
    → live_clock_of v j ≡ Some q → live_request_of v j ≡ Some r → q + 6 ≤ length h → Began h v j r
unfolding live_clock_of live_number_of
began_at h x v j q r m o e f l =
    let p = nth_where-found (is_live v) j (length v) q e in
    let live = live_old h x v q m (omega arith) p.1 in
    let request = request_where v j q r e f in
    record {
      first = q;
      is_first = e;
      early = l;
      live = live;
      number = live_number_of-more h x v q m o.spaced (omega arith) (is_live-ads h q live) ∙ p.2;
      request = request;
      known = sym (request_at-old h x v q m (omega arith)) ∙ request;
    }

pub began : (h : Trace) (x : Sample) (v : Trace) (j k : ℕ) (r : Request) → Comes h x v j k r → Began h v j r
began h x v j k r c =
    let a = responded v j c.clock.response c.after c.clock.is_response in
    let s = snoop_end_of-clock v j a.snoop a.is_snoop in
    let same : a.response ≡ c.clock.response = same_Some _ _ (sym a.is_response ∙ c.clock.is_response) in
    let low : c.clock.response ≤ length h = (after_response v j k (length h) c.clock).0 in
    began_at h x v j s.clock r c.more c.before s.is_clock c.request (omega (arith, s.above, a.early))

-- it is not Deferred
not_deferred : (h : Trace) (x : Sample) (v : Trace) (j k : ℕ) (r : Request) → Comes h x v j k r
    → is_deferred h j ≡ false
not_deferred h x v j k r c =
    false_from_ne_true _ (λ t.
    let d = deferred_response h j t in
    let same = same_deferred h v j (goes_on h x v j k r c) (responded h j d.0 c.before d.1) in
    both_ways _ (deferred_still v j (same ∙ t)) c.clock.moves)

-- one that is no reply is outstanding before the sample
pub plain_out : (h : Trace) (x : Sample) (v : Trace) (j k : ℕ) (r : Request) (c : Comes h x v j k r)
    (b : Began h v j r) → is_reply_kind r.kind ≡ false → IsOut h b.first
unfolding is_reply is_some_and
plain_out h x v j k r c b f = record {
  live = b.live;
  plain = rw b.known f;
  unfinished = subst (λ i. is_before (last_clock_of h i) (length h) ≡ false) (sym b.number)
      (ap (λ e. is_before e (length h)) (last_clock_of-plain h j (not_deferred h x v j k r c))
      ∙ open_until h x v j k c.more c.before c.clock);
}

reply_end_at : (w : Trace) (i q : ℕ) → reply_clock_of w i ≡ Some q → reply_end_of w i ≡ end_of w (live_number_of w q)
unfolding reply_end_of reply_number_of
reply_end_at w i q e = rw e refl

-- the request that a reply answers is outstanding before the sample
pub answered_out : (h : Trace) (x : Sample) (v : Trace) (j k : ℕ) (r : Request) (c : Comes h x v j k r)
    (b : Began h v j r) (i q : ℕ) (s : Request) → is_deferred h i ≡ true → reply_clock_of h i ≡ Some b.first
    → live_clock_of h i ≡ Some q → live_request_of h i ≡ Some s → q < length h → IsOut h q
unfolding live_clock_of live_number_of
answered_out h x v j k r c b i q s t e f g l =
    let p = nth_where-found (is_live h) i (length h) q f in
    let request = request_where h i q s f g in
    record {
      live = p.1;
      plain = ap is_reply (request ∙ sym g) ∙ c.deferrable.no_reply i t;
      unfinished = subst (λ n. is_before (last_clock_of h n) (length h) ≡ false) (sym p.2)
          (ap (λ z. is_before z (length h)) (last_clock_of-deferred h i t ∙ reply_end_at h i b.first e
          ∙ ap (end_of h) b.number)
          ∙ open_until h x v j k c.more c.before c.clock);
    }
