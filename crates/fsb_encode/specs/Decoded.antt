-- The request that two clocks hold, or what is wrong with them.
use Rattle.std.specs.Prelude.{◌≡◌, IsTrue, ℕ, ◌/◌, ◌%◌, Bool, false, ◌&&◌, nat_eq, if◌then◌else◌, List, [], ◌∷◌, Option, Some, None, Result, Err, is_some, ◌^◌}
use Rattle.std.specs.List.{list_any, find}
use Rattle.std.specs.Option.{option_map, option_and_then, ok_or}
use Rattle.fsb_encode.specs.declared.request.Kind.{Kind}
use Rattle.fsb_encode.specs.declared.request.Kind.TheVariants.{Reply, Invalidate, Read, WriteBack, Upgrade}
use Rattle.fsb_encode.specs.declared.request.Request.{Request}
use Rattle.fsb_encode.specs.declared.request.Pair.{Pair}
use Rattle.fsb_encode.specs.declared.request.TheConstants.{A4, A5, A16}
use Rattle.fsb_encode.specs.declared.decoding.DecodeFault.{DecodeFault}
use Rattle.fsb_encode.specs.declared.decoding.DecodeFault.TheVariants.{BadCode, BadLen, BadField}
use Rattle.fsb_encode.specs.Request.{is_lawful_request, pairs_of}

-- the REQ words of the two clocks, a row for each kind, and for a kind with a line one for each half of memory
unfoldable pub req_words : List (ℕ × ℕ × Kind)
req_words =
    (0b00000, 0b00000, Reply)
    ∷ (0b00010, 0b00010, Invalidate) ∷ (0b01010, 0b00010, Invalidate)
    ∷ (0b00110, 0b00010, Read) ∷ (0b01110, 0b00010, Read)
    ∷ (0b00101, 0b00010, WriteBack) ∷ (0b01101, 0b00010, WriteBack)
    ∷ (0b00010, 0b00000, Upgrade) ∷ (0b01010, 0b00000, Upgrade) ∷ []

-- whether some request has this REQ word in its first clock
unfoldable pub is_code : ℕ → Bool
is_code first = list_any (λ row. nat_eq row.0 first) req_words

-- the kind that has these REQ words, if there is one
unfoldable pub kind_of : ℕ → ℕ → Option Kind
kind_of first second = option_map (λ row. row.2) (find (λ row. nat_eq row.0 first && nat_eq row.1 second) req_words)

-- what stands on the two clocks where a request of this kind has its line, chunk, ID and DEN#
unfoldable pub read_off : Kind → Pair → Pair → Request
read_off Reply a b =
    record { kind = Reply; line = 0; chunk = 0; did = a.addr / A16 % 2 ^ 8; den = false }
read_off Invalidate a b =
    record { kind = Invalidate; line = a.addr / A5; chunk = a.addr % A5; did = b.addr / A16 % 2 ^ 8; den = nat_eq (b.addr / A4 % 2) 1 }
read_off Read a b =
    record { kind = Read; line = a.addr / A5; chunk = a.addr % A5; did = b.addr / A16 % 2 ^ 8; den = nat_eq (b.addr / A4 % 2) 1 }
read_off WriteBack a b =
    record { kind = WriteBack; line = a.addr / A5; chunk = 0; did = b.addr / A16 % 2 ^ 8; den = false }
read_off Upgrade a b =
    record { kind = Upgrade; line = a.addr / A5; chunk = a.addr % A5; did = b.addr / A16 % 2 ^ 8; den = false }

-- the request is lawful, and these are its two clocks
pub record IsCodedAs (r : Request) (a b : Pair) : Type 0 where
  pub lawful : IsTrue (is_lawful_request r)
  pub clocks : pairs_of r ≡ (a, b)

-- some lawful request has this REQ word in its first clock
pub record IsCode (first : ℕ) : Type 0 where
  pub request : Request
  pub lawful : IsTrue (is_lawful_request request)
  pub first_req : (pairs_of request).0.req ≡ first

-- some lawful request has these REQ words in its two clocks
pub record IsKind (first second : ℕ) : Type 0 where
  pub request : Request
  pub lawful : IsTrue (is_lawful_request request)
  pub first_req : (pairs_of request).0.req ≡ first
  pub second_req : (pairs_of request).1.req ≡ second

-- whether two pairs are the same
unfoldable pub is_pair : Pair → Pair → Bool
is_pair p q = nat_eq p.addr q.addr && nat_eq p.req q.req

-- whether the request is lawful and these are its two clocks
unfoldable pub is_coded_as : Request → Pair → Pair → Bool
is_coded_as r a b = is_lawful_request r && is_pair (pairs_of r).0 a && is_pair (pairs_of r).1 b

-- the request, if it is lawful and these are its two clocks
unfoldable pub if_coded_as : Request → Pair → Pair → Option Request
if_coded_as r a b = if is_coded_as r a b then Some r else None

-- the lawful request whose two clocks these are, if there is one
unfoldable pub request_of : Pair → Pair → Option Request
request_of a b = option_and_then (λ kind. if_coded_as (read_off kind a b) a b) (kind_of a.req b.req)

-- the request that two clocks hold, or the first of the words that is wrong: the first REQ, the second, an address
unfoldable pub decoded : Pair → Pair → Result Request DecodeFault
decoded a b =
    if is_code a.req
    then (if is_some (kind_of a.req b.req) then ok_or (request_of a b) BadField else Err (BadLen b.req))
    else Err (BadCode a.req)
