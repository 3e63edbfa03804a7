-- A request and the two clocks in which it stands on the bus.
use Rattle.std.specs.Prelude.{ℕ, ◌+◌, ◌*◌, ◌^◌, Bool, ◌&&◌, not, nat_eq, nat_lt, nat_le, if◌then◌else◌}
use Rattle.fsb_encode.specs.declared.request.Kind.{Kind}
use Rattle.fsb_encode.specs.declared.request.Kind.TheVariants.{Reply, Invalidate, Read, WriteBack, Upgrade}
use Rattle.fsb_encode.specs.declared.request.Request.{Request}
use Rattle.fsb_encode.specs.declared.request.Pair.{Pair}
use Rattle.fsb_encode.specs.declared.request.TheConstants.{A4, A5, A16, LINE_BYTES}

-- whether a request of this kind may have this line, chunk and DEN#, a row for each kind
unfoldable pub are_lawful_fields : Kind → ℕ → ℕ → Bool → Bool
are_lawful_fields Reply line chunk den = nat_eq line 0 && nat_eq chunk 0 && not den
are_lawful_fields Invalidate line chunk den = nat_lt line (2 ^ 31) && nat_lt chunk 4
are_lawful_fields Read line chunk den = nat_lt line (2 ^ 31) && nat_lt chunk 4
are_lawful_fields WriteBack line chunk den = nat_lt line (2 ^ 31) && nat_eq chunk 0 && not den
are_lawful_fields Upgrade line chunk den = nat_lt line (2 ^ 31) && nat_lt chunk 4 && not den

-- whether the request is lawful: its kind allows its fields, and its ID has eight bits
unfoldable pub is_lawful_request : Request → Bool
is_lawful_request r = are_lawful_fields r.kind r.line r.chunk r.den && nat_lt r.did (2 ^ 8)

-- REQ3# in the first clock: asserted exactly where the line's byte address is 2^32 or more
unfoldable pub high_bit : ℕ → ℕ
high_bit line = if nat_le (2 ^ 32) (line * LINE_BYTES) then 0b01000 else 0

-- DEN# as it stands on A4#
unfoldable pub den_bit : Bool → ℕ
den_bit den = if den then A4 else 0

-- two clocks: REQ and address of the first, REQ and address of the second
unfoldable pub clocks : ℕ → ℕ → ℕ → ℕ → Pair × Pair
clocks req addr later_req later_addr =
    (record { addr = addr; req = req }, record { addr = later_addr; req = later_req })

-- the two clocks of a request, a row for each kind: the line stands on A[35:5]#, the chunk on A[4:3]#, the ID on
-- A[23:16]#, and every other bit is 0
unfoldable pub row_of : Kind → ℕ → ℕ → ℕ → Bool → Pair × Pair
row_of Reply line chunk did den = clocks 0b00000 (did * A16) 0b00000 0
row_of Invalidate line chunk did den =
    clocks (0b00010 + high_bit line) (line * A5 + chunk) 0b00010 (did * A16 + den_bit den)
row_of Read line chunk did den =
    clocks (0b00110 + high_bit line) (line * A5 + chunk) 0b00010 (did * A16 + den_bit den)
row_of WriteBack line chunk did den = clocks (0b00101 + high_bit line) (line * A5) 0b00010 (did * A16)
row_of Upgrade line chunk did den = clocks (0b00010 + high_bit line) (line * A5 + chunk) 0b00000 (did * A16)

-- the two clocks of a lawful request
unfoldable pub pairs_of : Request → Pair × Pair
pairs_of r = row_of r.kind r.line r.chunk r.did r.den
