-- A lawful request is read off its two clocks, so no other lawful request has them.
use Rattle.std.proofs.Common.{◌≡◌, ◌↔◌, ℕ, ◌+◌, ◌*◌, ◌/◌, ◌%◌, ◌^◌, ◌<◌, Bool, true, false, not, cond, ◌&&◌, nat_eq}
use Rattle.std.proofs.Common.{nat_lt, nat_le, Option, Some, None, refl, sym, ap, ◌∙◌, subst, inl, inr, arith, rules}
use Rattle.std.specs.Prelude.{IsTrue}
use Rattle.std.specs.Option.{option_and_then}
use Rattle.std.proofs.lemmas.Bool.{and_parts, and_from, cases_Bool, eqb-true, eq-eqb, ltb-true, not-true}
use Rattle.fsb_encode.specs.declared.request.Kind.{Kind}
use Rattle.fsb_encode.specs.declared.request.Kind.TheVariants.{Reply, Invalidate, Read, WriteBack, Upgrade}
use Rattle.fsb_encode.specs.declared.request.Request.{Request}
use Rattle.fsb_encode.specs.declared.request.Pair.{Pair}
use Rattle.fsb_encode.specs.declared.request.TheConstants.{A4, A16, LINE_BYTES}
use Rattle.fsb_encode.specs.Request.{are_lawful_fields, is_lawful_request, high_bit, den_bit, clocks, row_of, pairs_of}
use Rattle.fsb_encode.specs.Decoded.{req_words, kind_of, read_off, is_pair, is_coded_as, IsCodedAs, if_coded_as}
use Rattle.fsb_encode.specs.Decoded.{request_of}

-- the REQ words of a row are those of its kind
kind_of-row_of : (kind : Kind) (line chunk did : ℕ) (den : Bool)
    → kind_of (row_of kind line chunk did den).0.req (row_of kind line chunk did den).1.req ≡ Some kind
unfolding kind_of req_words row_of clocks high_bit
kind_of-row_of Reply line chunk did den = refl
kind_of-row_of Invalidate line chunk did den =
    elim (nat_le (2 ^ 32) (line * LINE_BYTES)) as
    (λ t. kind_of (0b00010 + cond t 0b01000 0) 0b00010 ≡ Some Invalidate) [ true ↦ refl | false ↦ refl ]
kind_of-row_of Read line chunk did den =
    elim (nat_le (2 ^ 32) (line * LINE_BYTES)) as
    (λ t. kind_of (0b00110 + cond t 0b01000 0) 0b00010 ≡ Some Read) [ true ↦ refl | false ↦ refl ]
kind_of-row_of Upgrade line chunk did den =
    elim (nat_le (2 ^ 32) (line * LINE_BYTES)) as
    (λ t. kind_of (0b00010 + cond t 0b01000 0) 0b00000 ≡ Some Upgrade) [ true ↦ refl | false ↦ refl ]
kind_of-row_of WriteBack line chunk did den =
    elim (nat_le (2 ^ 32) (line * LINE_BYTES)) as
    (λ t. kind_of (0b00101 + cond t 0b01000 0) 0b00010 ≡ Some WriteBack) [ true ↦ refl | false ↦ refl ]

same_request : (kind : Kind) (line chunk did line' chunk' did' : ℕ) (den den' : Bool) → line ≡ line'
    → chunk ≡ chunk' → did ≡ did' → den ≡ den'
    → (let r : Request = record { kind = kind; line = line; chunk = chunk; did = did; den = den } in
    let s : Request = record { kind = kind; line = line'; chunk = chunk'; did = did'; den = den' } in r ≡ s)
same_request kind line chunk did line' chunk' did' den den' l c i d = cc

-- the DEN# bit beside an ID is read back
den_read : (did : ℕ) (den : Bool) → nat_eq ((did * A16 + den_bit den) / A4 % 2) 1 ≡ den
unfolding den_bit
den_read did true = let e : (did * A16 + A4) / A4 % 2 ≡ 1 = omega arith in rw e refl
den_read did false = let e : (did * A16 + 0) / A4 % 2 ≡ 0 = omega arith in rw e refl

-- and so is the ID beside it
did_read : (did : ℕ) (den : Bool) → did < 2 ^ 8 → (did * A16 + den_bit den) / A16 % 2 ^ 8 ≡ did
unfolding den_bit
did_read did true h = omega arith
did_read did false h = omega arith

-- a lawful request, by its fields, is read off its row
read_off-row_of : (kind : Kind) (line chunk did : ℕ) (den : Bool) → are_lawful_fields kind line chunk den ≡ true
    → did < 2 ^ 8
    → (let r : Request = record { kind = kind; line = line; chunk = chunk; did = did; den = den } in
    read_off kind (row_of kind line chunk did den).0 (row_of kind line chunk did den).1 ≡ r)
unfolding read_off row_of clocks are_lawful_fields
read_off-row_of Reply line chunk did den lawful small =
    let outer = and_parts (nat_eq line 0 && nat_eq chunk 0) (not den) lawful in
    let inner = and_parts (nat_eq line 0) (nat_eq chunk 0) outer.0 in
    same_request Reply _ _ _ _ _ _ _ _ (sym (eqb-true _ _ inner.0)) (sym (eqb-true _ _ inner.1)) (omega arith)
    (sym (not-true _ outer.1))
read_off-row_of Invalidate line chunk did den lawful small =
    let chunk_small : chunk < 4 = ltb-true chunk 4 (and_parts (nat_lt line (2 ^ 31)) (nat_lt chunk 4) lawful).1 in
    same_request Invalidate _ _ _ _ _ _ _ _ (omega arith) (omega arith) (did_read did den small) (den_read did den)
read_off-row_of Read line chunk did den lawful small =
    let chunk_small : chunk < 4 = ltb-true chunk 4 (and_parts (nat_lt line (2 ^ 31)) (nat_lt chunk 4) lawful).1 in
    same_request Read _ _ _ _ _ _ _ _ (omega arith) (omega arith) (did_read did den small) (den_read did den)
read_off-row_of Upgrade line chunk did den lawful small =
    let outer = and_parts (nat_lt line (2 ^ 31) && nat_lt chunk 4) (not den) lawful in
    let inner = and_parts (nat_lt line (2 ^ 31)) (nat_lt chunk 4) outer.0 in
    let chunk_small : chunk < 4 = ltb-true chunk 4 inner.1 in
    same_request Upgrade _ _ _ _ _ _ _ _ (omega arith) (omega arith) (omega arith) (sym (not-true _ outer.1))
read_off-row_of WriteBack line chunk did den lawful small =
    let outer = and_parts (nat_lt line (2 ^ 31) && nat_eq chunk 0) (not den) lawful in
    let inner = and_parts (nat_lt line (2 ^ 31)) (nat_eq chunk 0) outer.0 in
    same_request WriteBack _ _ _ _ _ _ _ _ (omega arith) (sym (eqb-true _ _ inner.1)) (omega arith)
    (sym (not-true _ outer.1))

-- the two clocks of a request have its kind's REQ words
pub kind_of-coded : (r : Request) (a b : Pair) → IsCodedAs r a b → kind_of a.req b.req ≡ Some r.kind
unfolding pairs_of
kind_of-coded r a b h =
    let stands : row_of r.kind r.line r.chunk r.did r.den ≡ (a, b) = h.clocks in
    subst (λ (p : Pair × Pair). kind_of p.0.req p.1.req ≡ Some r.kind) stands
    (kind_of-row_of r.kind r.line r.chunk r.did r.den)

-- and the request is read off them
pub read_off-coded : (r : Request) (a b : Pair) → IsCodedAs r a b → read_off r.kind a b ≡ r
unfolding pairs_of is_lawful_request
read_off-coded r a b h =
    let stands : row_of r.kind r.line r.chunk r.did r.den ≡ (a, b) = h.clocks in
    let lawful : (are_lawful_fields r.kind r.line r.chunk r.den && nat_lt r.did (2 ^ 8)) ≡ true =
    search (rules, h.lawful) in
    let parts = and_parts _ _ lawful in
    subst (λ (p : Pair × Pair). read_off r.kind p.0 p.1 ≡ r) stands
    (read_off-row_of r.kind r.line r.chunk r.did r.den parts.0 (ltb-true _ _ parts.1))

same_pair : (p q : Pair) → is_pair p q ≡ true → p ≡ q
unfolding is_pair
same_pair p q h =
    let parts = and_parts _ _ h in
    let addr : p.addr ≡ q.addr = eqb-true _ _ parts.0 in
    let req : p.req ≡ q.req = eqb-true _ _ parts.1 in
    pair_made p.addr q.addr p.req q.req addr req
  where
    pair_made : (x y v w : ℕ) → x ≡ y → v ≡ w
        → (let s : Pair = record { addr = x; req = v } in let t : Pair = record { addr = y; req = w } in s ≡ t)
    pair_made x y v w e f = cc

is_pair-same : (p : Pair) → is_pair p p ≡ true
unfolding is_pair
is_pair-same p = and_from _ _ (eq-eqb p.addr p.addr refl) (eq-eqb p.req p.req refl)

both_pairs : (p : Pair × Pair) (a b : Pair) → p.0 ≡ a → p.1 ≡ b → p ≡ (a, b)
both_pairs (x, y) a b e f = cc

-- the test says what it tests
pub coded_from_test : (r : Request) (a b : Pair) → is_coded_as r a b ≡ true → IsCodedAs r a b
unfolding is_coded_as
coded_from_test r a b h =
    let outer = and_parts (is_lawful_request r && is_pair (pairs_of r).0 a) (is_pair (pairs_of r).1 b) h in
    let inner = and_parts (is_lawful_request r) (is_pair (pairs_of r).0 a) outer.0 in
    let first : (pairs_of r).0 ≡ a = same_pair (pairs_of r).0 a inner.1 in
    let second : (pairs_of r).1 ≡ b = same_pair (pairs_of r).1 b outer.1 in
    record { lawful = search (rules, inner.0); clocks = both_pairs (pairs_of r) a b first second }

pub test_from_coded : (r : Request) (a b : Pair) → IsCodedAs r a b → is_coded_as r a b ≡ true
unfolding is_coded_as
test_from_coded r a b h =
    let lawful : is_lawful_request r ≡ true = search (rules, h.lawful) in
    let first : is_pair (pairs_of r).0 a ≡ true =
    subst (λ (p : Pair × Pair). is_pair (pairs_of r).0 p.0 ≡ true) h.clocks (is_pair-same _) in
    let second : is_pair (pairs_of r).1 b ≡ true =
    subst (λ (p : Pair × Pair). is_pair (pairs_of r).1 p.1 ≡ true) h.clocks (is_pair-same _) in
    and_from _ _ (and_from _ _ lawful first) second

-- two clocks of a lawful request hold that request
pub request_of_coded : (r : Request) (a b : Pair) → IsCodedAs r a b → request_of a b ≡ Some r
unfolding request_of if_coded_as
request_of_coded r a b h = rw (kind_of-coded r a b h, read_off-coded r a b h, test_from_coded r a b h) refl

coded_from_if : (r s : Request) (a b : Pair) → if_coded_as r a b ≡ Some s → IsCodedAs s a b
unfolding if_coded_as
coded_from_if r s a b h =
    let none : Option Request = None in
    elim (cases_Bool (is_coded_as r a b)) [
      | inl yes' ↦ let e : r ≡ s = cc in subst (λ (x : Request). IsCodedAs x a b) e (coded_from_test r a b yes')
      | inr no' ↦ let e : none ≡ Some s = (sym (ap (λ t. cond t (Some r) none) no') ∙ h) in cc
    ]

-- and what they hold is such a request
pub coded_from_request_of : (r : Request) (a b : Pair) → request_of a b ≡ Some r → IsCodedAs r a b
unfolding request_of
coded_from_request_of r a b h =
    elim (kind_of a.req b.req) as (λ o. option_and_then (λ kind. if_coded_as (read_off kind a b) a b) o ≡ Some r
    → IsCodedAs r a b)
    [ None ↦ λ e. absurd (cc e) | Some kind ↦ λ e. coded_from_if (read_off kind a b) r a b e ] h

-- two lawful requests with the same clocks are one
pub codes_differ : (r s : Request) → IsTrue (is_lawful_request r) → IsTrue (is_lawful_request s)
    → pairs_of r ≡ pairs_of s → r ≡ s
codes_differ r s lawful lawful' same =
    let p : Request → Pair × Pair = pairs_of in
    let one : request_of (p s).0 (p s).1 ≡ Some r =
    request_of_coded r _ _ (record { lawful = lawful; clocks = same }) in
    let other : request_of (p s).0 (p s).1 ≡ Some s =
    request_of_coded s _ _ (record { lawful = lawful'; clocks = refl }) in
    cc

-- two clocks hold a request exactly where it is lawful and they are its clocks
pub request_held : (r : Request) (a b : Pair) → (request_of a b ≡ Some r) ↔ IsCodedAs r a b
request_held r a b = (coded_from_request_of r a b, request_of_coded r a b)
