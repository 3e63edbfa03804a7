-- A request that a trace shows is lawful, so its line is below 2^31.
use Rattle.std.proofs.Common.{◌≡◌, ◌<◌, ◌*◌, ◌+◌, ◌^◌, ℕ, Bool, true, nat_eq, nat_lt, ◌&&◌, not, inl, inr, Option, Some}
use Rattle.std.proofs.Common.{None, subst, arith}
use Rattle.std.proofs.lemmas.Bool.{and_parts, cases_Bool, eqb-true, ltb-true}
use Rattle.std.specs.Option.{option_and_then}
use Rattle.fsb_encode.specs.declared.request.Kind.{Kind}
use Rattle.fsb_encode.specs.declared.request.Kind.TheVariants.{Reply, Invalidate, Read, WriteBack, Upgrade}
use Rattle.fsb_encode.specs.declared.request.Pair.{Pair}
use Rattle.fsb_encode.specs.declared.request.Request.{Request}
use Rattle.fsb_encode.specs.Decoded.{if_coded_as, is_coded_as, is_pair, kind_of, read_off, request_of}
use Rattle.fsb_encode.specs.Request.{are_lawful_fields, is_lawful_request, pairs_of}
use Rattle.fsb_trace.specs.At.{Trace, request_at, known_pair_at}
use Rattle.fsb_show.specs.ShowText.{line_address}

lawful_if : (o : Request) (a b : Pair) (r : Request) → if_coded_as o a b ≡ Some r → is_lawful_request r ≡ true
unfolding if_coded_as is_coded_as
lawful_if o a b r e =
    elim (cases_Bool (is_coded_as o a b)) [
      | inl coded ↦ let same : Some o ≡ Some r = rw coded at e in
          let is : o ≡ r = cc in
          subst (λ (q : Request). is_lawful_request q ≡ true) is
          (and_parts (is_lawful_request o) _ (and_parts (is_lawful_request o && is_pair (pairs_of o).0 a) _ coded).0).0
      | inr not_coded ↦ let none : None ≡ Some r = rw not_coded at e in absurd (let no : ⊥ = cc in no)
    ]

lawful_kind : (kind : Option Kind) (a b : Pair) (r : Request)
    → option_and_then (λ k. if_coded_as (read_off k a b) a b) kind ≡ Some r → is_lawful_request r ≡ true
lawful_kind None a b r e = absurd (let no : ⊥ = cc in no)
lawful_kind (Some k) a b r e = lawful_if (read_off k a b) a b r e

lawful_pairs : (first second : Option Pair) (r : Request)
    → option_and_then (λ a. option_and_then (λ b. request_of a b) second) first ≡ Some r → is_lawful_request r ≡ true
unfolding request_of
lawful_pairs None second r e = absurd (let no : ⊥ = cc in no)
lawful_pairs (Some a) None r e = absurd (let no : ⊥ = cc in no)
lawful_pairs (Some a) (Some b) r e = lawful_kind (kind_of a.req b.req) a b r e

-- a request that a trace shows is lawful
lawful_at : (w : Trace) (c : ℕ) (r : Request) → request_at w c ≡ Some r → is_lawful_request r ≡ true
unfolding request_at
lawful_at w c r e = lawful_pairs (known_pair_at w c) (known_pair_at w (c + 1)) r e

small_line : (kind : Kind) (line chunk : ℕ) (den : Bool) → are_lawful_fields kind line chunk den ≡ true → line < 2 ^ 31
unfolding are_lawful_fields
small_line Reply line chunk den e =
    let none : line ≡ 0 =
    eqb-true line 0 (and_parts (nat_eq line 0) _ (and_parts (nat_eq line 0 && nat_eq chunk 0) _ e).0).0 in
    omega (arith, none)
small_line Invalidate line chunk den e = ltb-true line (2 ^ 31) (and_parts (nat_lt line (2 ^ 31)) _ e).0
small_line Read line chunk den e = ltb-true line (2 ^ 31) (and_parts (nat_lt line (2 ^ 31)) _ e).0
small_line WriteBack line chunk den e =
    ltb-true line (2 ^ 31)
    (and_parts (nat_lt line (2 ^ 31)) _ (and_parts (nat_lt line (2 ^ 31) && nat_eq chunk 0) _ e).0).0
small_line Upgrade line chunk den e =
    ltb-true line (2 ^ 31)
    (and_parts (nat_lt line (2 ^ 31)) _ (and_parts (nat_lt line (2 ^ 31) && nat_lt chunk 4) _ e).0).0

line_of : (r : Request) → is_lawful_request r ≡ true → r.line < 2 ^ 31
unfolding is_lawful_request
line_of r e = small_line r.kind r.line r.chunk r.den (and_parts (are_lawful_fields r.kind r.line r.chunk r.den) _ e).0

-- its address is 32 times its line
pub address_of_line : (w : Trace) (c : ℕ) (r : Request) → request_at w c ≡ Some r → line_address r ≡ r.line * 32
address_of_line w c r e =
    let below : r.line < 2 ^ 31 = line_of r (lawful_at w c r e) in
    omega (arith, below)
