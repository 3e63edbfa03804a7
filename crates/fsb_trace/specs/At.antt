-- What a trace has at a clock. Clock c is the sample at position c; before clock 0 and past the end nothing is asserted.
use Rattle.std.specs.Prelude.{ℕ, ◌+◌, ◌-◌, Bool, ◌&&◌, not, nat_le, nat_eq, if◌then◌else◌, List, Option, Some, None, slice_get}
use Rattle.std.specs.Option.{option_map_or, option_and_then}
use Rattle.fsb_signal.specs.declared.lines.Lines.{Lines}
use Rattle.fsb_signal.specs.declared.lines.TheConstants.Lines.{HIT, HITM}
use Rattle.fsb_signal.specs.declared.sample.Sample.{Sample}
use Rattle.fsb_signal.specs.Samples.{line_at, response_of, is_known_word}
use Rattle.fsb_encode.specs.declared.request.Request.{Request}
use Rattle.fsb_encode.specs.declared.request.Pair.{Pair}
use Rattle.fsb_encode.specs.Decoded.{request_of}

-- a trace is a list of samples, one for each clock
abbrev pub Trace : Type 0
Trace = List Sample

-- the line is asserted d clocks before c
unfoldable pub line_back : Lines → Trace → ℕ → ℕ → Bool
line_back line w c d = nat_le d c && line_at line w (c - d)

-- the response code at c, the bits RS2, RS1 and RS0; 0 is idle
unfoldable pub response_code_at : Trace → ℕ → ℕ
response_code_at w c = option_map_or response_of (slice_get w c) 0

-- RS# is not idle at c
unfoldable pub responds_at : Trace → ℕ → Bool
responds_at w c = not (nat_eq (response_code_at w c) 0)

-- HIT# and HITM# are asserted together at c, which stalls a snoop
unfoldable pub stalls_at : Trace → ℕ → Bool
stalls_at w c = line_at HIT w c && line_at HITM w c

-- the address and REQ words of a sample, where none of their bits is unknown
unfoldable pub known_pair : Sample → Option Pair
known_pair s =
    if is_known_word s.addr && is_known_word s.req then Some (record { addr = s.addr.bits; req = s.req.bits }) else None

-- the address and REQ words at c, where c is a clock of the trace and none of their bits is unknown
unfoldable pub known_pair_at : Trace → ℕ → Option Pair
known_pair_at w c = option_and_then known_pair (slice_get w c)

-- the request that is decoded from clocks c and c + 1: the lawful request whose two pairs stand there
unfoldable pub request_at : Trace → ℕ → Option Request
request_at w c =
    option_and_then (λ a. option_and_then (λ b. request_of a b) (known_pair_at w (c + 1))) (known_pair_at w c)
