-- The chunk that is moved at the newest clock, and whether it comes from memory.
use Rattle.std.proofs.Common.{ℕ, suc, ◌+◌, ◌<◌, ◌≡◌, Bool, true, false, nat_eq}
use Rattle.std.proofs.Common.{List, Option, Some, None, length, slice_index, refl, sym, ap, ◌∙◌, arith}
use Rattle.std.proofs.Common.{inl, inr, subst}
use Rattle.std.proofs.lemmas.Bool.{cases_lt, and_parts, both_ways, eqb-true}
use Rattle.std.proofs.lemmas.Option.{same_Some}
use Rattle.fsb_count.specs.Options.{is_some_and}
use Rattle.fsb_count.specs.Clocks.{first_where}
use Rattle.fsb_count.proofs.Interface.{first_where-found, first_where-none}
use Rattle.fsb_signal.specs.declared.sample.Sample.{Sample}
use Rattle.fsb_encode.specs.declared.request.Request.{Request}
use Rattle.fsb_trace.specs.At.{Trace, request_at}
use Rattle.fsb_trace.specs.Requests.{live_count, live_request_of, is_reply, is_reply_kind, have_same_id}
use Rattle.fsb_trace.specs.Outcome.{is_deferred}
use Rattle.fsb_trace.specs.Response.{data_clock_of}
use Rattle.fsb_trace.specs.Flight.{is_reply_to, is_live_reply_to, reply_clock_of}
use Rattle.fsb_trace.proofs.Interface.{AgreeTo-sym, response_clock_of-stays, snoop_end_of-clock}
use Rattle.fsb_laws.specs.Orderly.{Orderly}
use Rattle.fsb_laws.specs.Progress.{response_count}
use Rattle.fsb_laws.proofs.Interface.{clear_parts, deferred_response, has_answer}
use Rattle.fsb_laws.proofs.Interface.{response_counted, response_there}
use Rattle.fsb_rules.specs.declared.coming.Coming.{Coming}
use Rattle.fsb_rules.specs.ComingChunks.{HasData}
use Rattle.fsb_rules.proofs.Interface.{IsDataClock, data_clock-parts, decoded_lawful}
use Rattle.fsb_audit.specs.AuditRegisters.{chunk_by, first_asked, nth_from}
use Rattle.fsb_audit.specs.MovedChunks.{chunk_moved_at, chunk_moved_by, is_named_by_reply}
use Rattle.fsb_audit.specs.MovedChunks.{is_from_memory, moved_at, namer_of, nth_chunk}
use Rattle.fsb_audit.specs.Audit.{HasAsked, comes_after}
use Rattle.fsb_audit.proofs.Movers.{before_end, live_after, mover_is, no_mover, place_is, responded}
use Rattle.fsb_audit.proofs.Movers.{same_request}
use Rattle.fsb_audit.proofs.Moves.{answer_from, answer_live, answer_parts, reply_back, reply_before}
use Rattle.fsb_audit.proofs.Moves.{reply_forth, same_deferred, same_number}
use Rattle.fsb_audit.proofs.Asked.{IsOut, out_from}
use Rattle.fsb_audit.proofs.Newest.{Began, Comes, answered_out, began, chunk_same, goes_on, plain_out, request_where}

-- what was asked for by an outstanding request
asked_by : (asked : List ℕ) (h : Trace) (q : ℕ) (r : Request) → HasAsked asked h → q + 1 < length h → IsOut h q
    → request_at h q ≡ Some r → slice_index asked r.did ≡ first_asked r
asked_by asked h q r had l out e = had.kept q r l (out_from h q (omega arith) out) e

named_chunk : (asked : List ℕ) (w : Trace) (q n did : ℕ) (r : Request) → slice_index asked r.did ≡ first_asked r
    → request_at w q ≡ Some r → n < 4 → did ≡ r.did → nth_from (slice_index asked did) n ≡ nth_chunk n r
named_chunk asked w q n did r e f l same =
    ap (λ d. nth_from (slice_index asked d) n) same ∙ ap (λ a. nth_from a n) e
    ∙ chunk_same r n (decoded_lawful w q r f) l

-- the chunk of a request that is no reply
namer_plain : (w : Trace) (j : ℕ) (r : Request) → live_request_of w j ≡ Some r → is_reply_kind r.kind ≡ false
    → namer_of w j ≡ Some j
unfolding namer_of is_reply is_some_and
namer_plain w j r e f = rw (e, f) refl

by_namer : (w : Trace) (j i n : ℕ) (r : Request) → namer_of w j ≡ Some i → live_request_of w i ≡ Some r
    → chunk_moved_by w j n ≡ Some (nth_chunk n r)
unfolding chunk_moved_by
by_namer w j i n r e f = rw (e, f) refl

plain_chunk : (asked : List ℕ) (h : Trace) (x : Sample) (v : Trace) (j n did : ℕ) (r : Request)
    (c : Comes h x v j n r) → HasAsked asked h → did ≡ r.did → is_reply_kind r.kind ≡ false
    → chunk_moved_by v j n ≡ Some (nth_from (slice_index asked did) n)
plain_chunk asked h x v j n did r c had same f =
    let b = began h x v j n r c in
    let early : b.first + 1 < length h = omega (arith, b.early) in
    let asked_first = asked_by asked h b.first r had early (plain_out h x v j n r c b f) b.known in
    by_namer v j j n r (namer_plain v j r c.request f) c.request
    ∙ ap (λ k. Some k) (sym (named_chunk asked h b.first n did r asked_first b.known c.clock.few same))

-- the chunk of a reply
reply_there : (h : Trace) (x : Sample) (v : Trace) (j n : ℕ) (r : Request) (c : Comes h x v j n r)
    (b : Began h v j r) → is_reply_kind r.kind ≡ true
    → (i : ℕ) × (is_deferred h i ≡ true) × (reply_clock_of h i ≡ Some b.first)
unfolding is_reply is_some_and
reply_there h x v j n r c b t = c.answering.answers b.first (omega (arith, b.early)) b.live (rw b.known t)

answered : (h : Trace) (x : Sample) (v : Trace) (j n : ℕ) (r : Request) (c : Comes h x v j n r)
    (b : Began h v j r) → is_reply_kind r.kind ≡ true → (i : ℕ) × (i < live_count v) × (is_named_by_reply v j i ≡ true)
answered h x v j n r c b t =
    let a = reply_there h x v j n r c b t in
    let g = goes_on h x v j n r c in
    let d = deferred_response h a.0 a.1 in
    let k = responded h a.0 d.0 c.before d.1 in (
      a.0,
      live_after h v a.0 g k,
      answer_from v j a.0 (record {
        deferred = same_deferred h v a.0 g k ∙ a.1;
        clock = b.first;
        is_clock = reply_forth h v a.0 b.first g k (omega (arith, b.early)) a.2;
        number = same_number h v b.first g (omega (arith, b.early)) ∙ b.number;
      }),
    )

first_there : (v : Trace) (j i : ℕ) (o : Option ℕ) → i < live_count v → is_named_by_reply v j i ≡ true
    → first_where (is_named_by_reply v j) (live_count v) ≡ o
    → (k : ℕ) × (first_where (is_named_by_reply v j) (live_count v) ≡ Some k)
first_there v j i None l t e = let f = first_where-none (is_named_by_reply v j) (live_count v) e i l in
    absurd (both_ways _ f t)
first_there v j i (Some k) l t e = (k, e)

namer_reply : (w : Trace) (j : ℕ) (r : Request) → live_request_of w j ≡ Some r → is_reply_kind r.kind ≡ true
    → namer_of w j ≡ first_where (is_named_by_reply w j) (live_count w)
unfolding namer_of is_reply is_some_and
namer_reply w j r e t = rw (e, t) refl

-- a reply has the ID of the request that it answers
same_id_of : (w : Trace) (i q : ℕ) → reply_clock_of w i ≡ Some q
    → have_same_id (request_at w q) (live_request_of w i) ≡ true
unfolding reply_clock_of is_live_reply_to is_reply_to
same_id_of w i q e =
    let p = first_where-found (is_live_reply_to w i) (length w) q e in
    (and_parts _ _ (and_parts _ _ (and_parts _ _ p.1).1).0).1

both_ids : (a b : Option Request) (r s : Request) → a ≡ Some r → b ≡ Some s → have_same_id a b ≡ true → r.did ≡ s.did
unfolding have_same_id is_some_and
both_ids a b r s e f t = let g : nat_eq r.did s.did ≡ true = rw (e, f) at t in eqb-true r.did s.did g

no_id : (a : Option Request) → have_same_id a None ≡ true → ⊥
unfolding have_same_id is_some_and
no_id None t = let no : ⊥ = cc in no
no_id (Some r) t = let no : ⊥ = cc in no

reply_id : (w : Trace) (i q : ℕ) (r s : Request) → reply_clock_of w i ≡ Some q → request_at w q ≡ Some r
    → live_request_of w i ≡ Some s → r.did ≡ s.did
reply_id w i q r s e f g = both_ids (request_at w q) (live_request_of w i) r s f g (same_id_of w i q e)

request_there : (w : Trace) (i : ℕ) (o : Option Request) → (q : ℕ) → reply_clock_of w i ≡ Some q
    → live_request_of w i ≡ o → (s : Request) × (live_request_of w i ≡ Some s)
request_there w i (Some s) q e f = (s, f)
request_there w i None q e f =
    absurd (no_id (request_at w q) (subst (λ o. have_same_id (request_at w q) o ≡ true) f (same_id_of w i q e)))

reply_chunk_by : (asked : List ℕ) (h : Trace) (x : Sample) (v : Trace) (j n did i : ℕ) (r : Request)
    (c : Comes h x v j n r) (b : Began h v j r) → HasAsked asked h → did ≡ r.did → namer_of v j ≡ Some i
    → is_named_by_reply v j i ≡ true → chunk_moved_by v j n ≡ Some (nth_from (slice_index asked did) n)
reply_chunk_by asked h x v j n did i r c b had same e t =
    let g = goes_on h x v j n r c in
    let a = answer_parts v j i t in
    let here : a.clock ≡ b.first = same_Some _ _ (sym (answer_live v j i a) ∙ b.is_first) in
    let clock_v : reply_clock_of v i ≡ Some b.first = a.is_clock ∙ ap (λ q. Some q) here in
    let before = reply_before v i b.first clock_v in
    let back = response_clock_of-stays (length h) v h i before.0 (AgreeTo-sym (length h) h v g.agree)
    (omega (arith, before.2, b.early)) before.1 in
    let k = responded h i before.0 c.before back in
    let deferred : is_deferred h i ≡ true = sym (same_deferred h v i g k) ∙ a.deferred in
    let clock_h = reply_back h v i b.first g k (omega (arith, b.early)) clock_v in
    let s = request_there h i (live_request_of h i) b.first clock_h refl in
    let snoop = snoop_end_of-clock h i k.snoop k.is_snoop in
    let low : snoop.clock + 1 < length h = omega (arith, snoop.above, k.early, k.below) in
    let out = answered_out h x v j n r c b i snoop.clock s.0 deferred clock_h snoop.is_clock s.1 (omega arith) in
    let known = request_where h i snoop.clock s.0 snoop.is_clock s.1 in
    let asked_first = asked_by asked h snoop.clock s.0 had low out known in
    let id : r.did ≡ s.0.did = reply_id h i b.first r s.0 clock_h b.known s.1 in
    by_namer v j i n s.0 e (same_request h v i g k ∙ s.1)
    ∙ ap (λ z. Some z) (sym (named_chunk asked h snoop.clock n did s.0 asked_first known c.clock.few (same ∙ id)))

reply_chunk : (asked : List ℕ) (h : Trace) (x : Sample) (v : Trace) (j n did : ℕ) (r : Request)
    (c : Comes h x v j n r) → HasAsked asked h → did ≡ r.did → is_reply_kind r.kind ≡ true
    → chunk_moved_by v j n ≡ Some (nth_from (slice_index asked did) n)
reply_chunk asked h x v j n did r c had same t =
    let b = began h x v j n r c in
    let a = answered h x v j n r c b t in
    let f = first_there v j a.0 (first_where (is_named_by_reply v j) (live_count v)) a.1 a.2 refl in
    let found = first_where-found (is_named_by_reply v j) (live_count v) f.0 f.1 in
    reply_chunk_by asked h x v j n did f.0 r c b had same (namer_reply v j r c.request t ∙ f.1) found.1

any_chunk : (asked : List ℕ) (h : Trace) (x : Sample) (v : Trace) (j n did : ℕ) (r : Request) (b : Bool)
    (c : Comes h x v j n r) → HasAsked asked h → did ≡ r.did → is_reply_kind r.kind ≡ b
    → chunk_moved_by v j n ≡ Some (nth_from (slice_index asked did) n)
any_chunk asked h x v j n did r true c had same t = reply_chunk asked h x v j n did r c had same t
any_chunk asked h x v j n did r false c had same f = plain_chunk asked h x v j n did r c had same f

moved_by : (w : Trace) (c j n k : ℕ) → Orderly w → data_clock_of w j n ≡ Some c → chunk_moved_by w j n ≡ Some k
    → moved_at w c ≡ Some k
unfolding moved_at chunk_moved_at
moved_by w c j n k o e f = rw (mover_is w c j n o e, place_is w c j n e) f

-- the chunk that is moved at the newest clock is the one that comes
pub moved_now : (asked : List ℕ) (h : Trace) (x : Sample) (v : Trace) (coming : Coming)
    (d : HasData v (length h) coming) → Comes h x v d.number coming.place d.request → HasAsked asked h
    → moved_at v (length h) ≡ Some (chunk_by asked coming)
unfolding chunk_by
moved_now asked h x v coming d c had =
    moved_by v (length h) d.number coming.place _ c.after d.clock
    (any_chunk asked h x v d.number coming.place coming.did d.request (is_reply_kind d.request.kind) c had d.did refl)

-- and where none comes none is moved
pub none_moved : (w : Trace) (c : ℕ) → ((i n : ℕ) → data_clock_of w i n ≡ Some c → ⊥)
    → (moved_at w c ≡ None) × (is_from_memory w c ≡ false)
unfolding moved_at is_from_memory is_some_and
none_moved w c none = (rw (no_mover w c none) refl, rw (no_mover w c none) refl)

-- the request whose data come at the last clock of a trace is the last that responded
last_responded : (w : Trace) (j n c : ℕ) → Orderly w → length w ≡ c + 1 → IsDataClock w j n c → response_count w ≡ suc j
last_responded w j n c o size d =
    let counted = response_counted w j d.response d.is_response in
    elim (cases_lt (suc j) (response_count w)) [
      | inr last ↦ omega arith
      | inl more ↦
          let there = response_there w (suc j) more in
          let a = has_answer w there.0 (suc j) (o.timely (suc j) there.0 there.1) in
          let clear = clear_parts w j there.0 a.clear in
          let low = before_end w j n c clear.0 d clear.1 in
          absurd (omega (arith, clear.2, there.2))
    ]

-- so whether its data come from memory is what was told last
pub from_now : (w : Trace) (j n c : ℕ) → Orderly w → length w ≡ c + 1 → data_clock_of w j n ≡ Some c
    → is_from_memory w c ≡ comes_after w (response_count w)
unfolding is_from_memory comes_after
from_now w j n c o size e =
    rw (mover_is w c j n o e, last_responded w j n c o size (data_clock-parts w j n c e)) refl
