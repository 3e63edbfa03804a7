-- The deferral that an ID takes from a list.
use Rattle.std.proofs.Common.{ℕ, ◌≡◌, ◌<◌, Bool, true, false, ◌&&◌, nat_eq, List, Option, Some, None, refl, sym, ap}
use Rattle.std.proofs.Common.{◌∙◌, inl, inr, arith}
use Rattle.std.proofs.lemmas.Bool.{and_parts, cases_Bool, eq-eqb, eqb-false, eqb-true}
use Rattle.fsb_count.specs.Options.{is_some_and}
use Rattle.fsb_count.proofs.Interface.{first_where-at, first_where-same}
use Rattle.fsb_encode.specs.declared.request.Request.{Request}
use Rattle.fsb_trace.specs.At.{Trace}
use Rattle.fsb_trace.specs.Requests.{have_same_id, live_count, live_request_of}
use Rattle.fsb_trace.specs.Flight.{reply_number_of}
use Rattle.fsb_bridge.specs.declared.deferral.Waiting.{Waiting}
use Rattle.fsb_bridge.specs.Deferrals.{deferral_of_id, is_of_id, waiting_without}
use Rattle.fsb_bridge.specs.DeferralList.{AreEntriesOf, HaveOwnIds, IsThatOf, StandsFor, first_waiting_with_id}
use Rattle.fsb_bridge.specs.DeferralList.{waiting_at, waiting_besides, waits, waits_with_id}
use Rattle.fsb_bridge.proofs.Entries.{AreEntriesOf-IsEntryOf, IsEntryOf, IsEntryOf-StandsFor, find-StandsFor}
use Rattle.fsb_bridge.proofs.Rest.{rest-Matched, rest-all_where}
use Rattle.fsb_bridge.proofs.Waits.{is_some_and-parts, reply_number_of-id, waits-live}

abbrev has_id : Trace → ℕ → ℕ → Bool
has_id w did i = is_some_and (live_request_of w i) (λ request. nat_eq request.did did)

of_id : (w : Trace) (turns : List ℕ) (c did : ℕ) (e : Waiting) (i : ℕ) → IsEntryOf w turns c e i
    → is_of_id did e ≡ has_id w did i
unfolding is_some_and
of_id w turns c did e i h = rw h.deferral.request refl

with_parts : (w : Trace) (turns : List ℕ) (c did i : ℕ)
    → (has_id w did i && waits w turns c i) ≡ waits_with_id w turns c did i
unfolding waits_with_id
with_parts w turns c did i = refl

pub deferral_of_id-StandsFor : (list : List Waiting) (w : Trace) (turns : List ℕ) (c did : ℕ)
    → StandsFor list w turns c → IsThatOf w (deferral_of_id did list) (first_waiting_with_id w turns c did)
unfolding first_waiting_with_id
deferral_of_id-StandsFor list w turns c did h =
    find-StandsFor list w turns c (is_of_id did) (has_id w did) (first_waiting_with_id w turns c did) h
    (of_id w turns c did)
    (first_where-same _ (waits_with_id w turns c did) (live_count w)
    (record { same = λ i l. with_parts w turns c did i }))

-- two requests with one ID
same_id : (a b : Option Request) (did : ℕ) → is_some_and a (λ r. nat_eq r.did did) ≡ true
    → is_some_and b (λ r. nat_eq r.did did) ≡ true → have_same_id a b ≡ true
unfolding have_same_id is_some_and
same_id a b did e f =
    let g = is_some_and-parts a _ e in
    let h = is_some_and-parts b _ f in
    let same : g.0.did ≡ h.0.did = eqb-true g.0.did did g.2 ∙ sym (eqb-true h.0.did did h.2) in
    rw (g.1, h.1) (eq-eqb g.0.did h.0.did same)

-- a request with the ID of another that is decoded
id_of : (a b : Option Request) (r : Request) → a ≡ Some r → have_same_id a b ≡ true
    → is_some_and b (λ s. nat_eq s.did r.did) ≡ true
unfolding have_same_id is_some_and
id_of a None r e f = absurd (let g = rw e at f in let no : ⊥ = cc in no)
id_of a (Some s) r e f = let g = rw e at f in eq-eqb s.did r.did (sym (eqb-true r.did s.did g))

only : (w : Trace) (turns : List ℕ) (c did i k : ℕ) → HaveOwnIds w turns c → waits w turns c i ≡ true
    → has_id w did i ≡ true → k < i → waits_with_id w turns c did k ≡ false
unfolding waits_with_id
only w turns c did i k o t e l =
    elim (cases_Bool (waits_with_id w turns c did k)) [
      | inl u ↦
          let parts = and_parts (has_id w did k) (waits w turns c k) u in
          let same : k ≡ i = o.one k i parts.1 t (same_id (live_request_of w k) (live_request_of w i) did parts.0 e) in
          absurd (omega arith)
      | inr f ↦ f
    ]

first_waiting_with_id-own : (w : Trace) (turns : List ℕ) (c did i : ℕ) → HaveOwnIds w turns c
    → waits w turns c i ≡ true → has_id w did i ≡ true → first_waiting_with_id w turns c did ≡ Some i
unfolding first_waiting_with_id
first_waiting_with_id-own w turns c did i o t e =
    let here : waits_with_id w turns c did i ≡ true = sym (with_parts w turns c did i) ∙ rw (e, t) refl in
    first_where-at (waits_with_id w turns c did) (live_count w) i (waits-live w turns c i t) here
    (λ k l. only w turns c did i k o t e l)

-- a reply takes the deferral that it answers
pub deferral_of_id-reply : (list : List Waiting) (w : Trace) (turns : List ℕ) (c i j : ℕ) (reply : Request)
    → HaveOwnIds w turns c → StandsFor list w turns c → waits w turns c i ≡ true → reply_number_of w i ≡ Some j
    → live_request_of w j ≡ Some reply → IsThatOf w (deferral_of_id reply.did list) (Some i)
deferral_of_id-reply list w turns c i j reply o h t n e =
    let id : has_id w reply.did i ≡ true =
    id_of (live_request_of w j) (live_request_of w i) reply e (reply_number_of-id w i j n) in
    rw (first_waiting_with_id-own w turns c reply.did i o t id) at (deferral_of_id-StandsFor list w turns c reply.did h)

own : (w : Trace) (turns : List ℕ) (c did i : ℕ) → HaveOwnIds w turns c → waits w turns c i ≡ true
    → has_id w did i ≡ true → (k : ℕ) → waits w turns c k ≡ true → has_id w did k ≡ nat_eq k i
own w turns c did i o t e k u =
    elim (cases_Bool (nat_eq k i)) [
      | inl same ↦ (let at : k ≡ i = eqb-true k i same in ap (has_id w did) at) ∙ e ∙ sym same
      | inr other ↦ elim (cases_Bool (has_id w did k)) [
        | inl d ↦
            absurd (eqb-false k i other (o.one k i u t (same_id (live_request_of w k) (live_request_of w i) did d e)))
        | inr d ↦ d ∙ sym other
      ]
    ]

-- what is left has an entry for each of the others
pub waiting_without-reply : (list : List Waiting) (w : Trace) (turns : List ℕ) (c i j : ℕ) (reply : Request)
    → HaveOwnIds w turns c → StandsFor list w turns c → waits w turns c i ≡ true → reply_number_of w i ≡ Some j
    → live_request_of w j ≡ Some reply
    → AreEntriesOf (waiting_besides w turns c i) (waiting_without reply.did list) w turns c
unfolding waiting_besides waiting_at
waiting_without-reply list w turns c i j reply o h t n e =
    let id : has_id w reply.did i ≡ true =
    id_of (live_request_of w j) (live_request_of w i) reply e (reply_number_of-id w i j n) in
    let same = rest-all_where (waits w turns c) (has_id w reply.did) (live_count w) i
    (own w turns c reply.did i o t id) in
    let left = rest-Matched (IsEntryOf w turns c) (is_of_id reply.did) (has_id w reply.did) list
    (waiting_at w turns c) (of_id w turns c reply.did) (IsEntryOf-StandsFor list w turns c h) in
    AreEntriesOf-IsEntryOf (waiting_besides w turns c i) (waiting_without reply.did list) w turns c (rw same at left)
