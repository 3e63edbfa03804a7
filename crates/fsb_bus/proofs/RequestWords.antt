-- The words of a lawful request have few enough bits.
use Rattle.std.proofs.Common.{◌<◌, ◌^◌, ◌≡◌, ◌&&◌, ℕ, Bool, true, nat_lt, arith}
use Rattle.std.proofs.lemmas.Grind.{common_steps}
use Rattle.fsb_encode.specs.Request.{is_lawful_request, are_lawful_fields, pairs_of, row_of, clocks, high_bit, den_bit}
use Rattle.fsb_encode.specs.declared.request.Kind.{Kind}
use Rattle.fsb_encode.specs.declared.request.Kind.TheVariants.{Reply, Invalidate, Read, WriteBack, Upgrade}
use Rattle.fsb_encode.specs.declared.request.Request.{Request}

-- the fields of a lawful request
abbrev AreLawful : Kind → ℕ → ℕ → ℕ → Bool → Type 0
AreLawful kind line chunk did den = (are_lawful_fields kind line chunk den && nat_lt did (2 ^ 8)) ≡ true

first-req : (kind : Kind) (line chunk did : ℕ) (den : Bool) → AreLawful kind line chunk did den
    → (row_of kind line chunk did den).0.req < 2 ^ 5
unfolding row_of clocks high_bit are_lawful_fields
first-req Reply line chunk did den h = grind (arith, common_steps)
first-req Invalidate line chunk did den h = grind (arith, common_steps)
first-req Read line chunk did den h = grind (arith, common_steps)
first-req WriteBack line chunk did den h = grind (arith, common_steps)
first-req Upgrade line chunk did den h = grind (arith, common_steps)

first-addr : (kind : Kind) (line chunk did : ℕ) (den : Bool) → AreLawful kind line chunk did den
    → (row_of kind line chunk did den).0.addr < 2 ^ 33
unfolding row_of clocks are_lawful_fields
first-addr Reply line chunk did den h = grind (arith, common_steps)
first-addr Invalidate line chunk did den h = grind (arith, common_steps)
first-addr Read line chunk did den h = grind (arith, common_steps)
first-addr WriteBack line chunk did den h = grind (arith, common_steps)
first-addr Upgrade line chunk did den h = grind (arith, common_steps)

second-req : (kind : Kind) (line chunk did : ℕ) (den : Bool) → AreLawful kind line chunk did den
    → (row_of kind line chunk did den).1.req < 2 ^ 5
unfolding row_of clocks
second-req Reply line chunk did den h = grind (arith, common_steps)
second-req Invalidate line chunk did den h = grind (arith, common_steps)
second-req Read line chunk did den h = grind (arith, common_steps)
second-req WriteBack line chunk did den h = grind (arith, common_steps)
second-req Upgrade line chunk did den h = grind (arith, common_steps)

second-addr : (kind : Kind) (line chunk did : ℕ) (den : Bool) → AreLawful kind line chunk did den
    → (row_of kind line chunk did den).1.addr < 2 ^ 33
unfolding row_of clocks den_bit are_lawful_fields
second-addr Reply line chunk did den h = grind (arith, common_steps)
second-addr Invalidate line chunk did den h = grind (arith, common_steps)
second-addr Read line chunk did den h = grind (arith, common_steps)
second-addr WriteBack line chunk did den h = grind (arith, common_steps)
second-addr Upgrade line chunk did den h = grind (arith, common_steps)

pub first-req_bits : (r : Request) → is_lawful_request r ≡ true → (pairs_of r).0.req < 2 ^ 5
unfolding pairs_of is_lawful_request
first-req_bits r h = first-req r.kind r.line r.chunk r.did r.den h

pub first-addr_bits : (r : Request) → is_lawful_request r ≡ true → (pairs_of r).0.addr < 2 ^ 33
unfolding pairs_of is_lawful_request
first-addr_bits r h = first-addr r.kind r.line r.chunk r.did r.den h

pub second-req_bits : (r : Request) → is_lawful_request r ≡ true → (pairs_of r).1.req < 2 ^ 5
unfolding pairs_of is_lawful_request
second-req_bits r h = second-req r.kind r.line r.chunk r.did r.den h

pub second-addr_bits : (r : Request) → is_lawful_request r ≡ true → (pairs_of r).1.addr < 2 ^ 33
unfolding pairs_of is_lawful_request
second-addr_bits r h = second-addr r.kind r.line r.chunk r.did r.den h

-- all four
pub ruleset request_words = (first-req_bits, first-addr_bits, second-req_bits, second-addr_bits)
