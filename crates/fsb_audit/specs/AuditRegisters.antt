-- What an audit keeps, one sample on.
use Rattle.std.specs.Prelude.{◌≡◌, ℕ, ◌+◌, ◌-◌, ◌*◌, ◌/◌, ◌%◌, ◌^◌, Bool, ◌&&◌, not, nat_eq, ◌==◌, List, Option, Some, None, if◌then◌else◌, slice_index, slice_set}
use Rattle.std.specs.Map.{lookup}
use Rattle.fsb_count.specs.Options.{is_some_and}
use Rattle.fsb_signal.specs.declared.lines.TheConstants.Lines.{ADS}
use Rattle.fsb_signal.specs.declared.sample.Sample.{Sample}
use Rattle.fsb_signal.specs.Samples.{has_line, response_of}
use Rattle.fsb_encode.specs.declared.request.Request.{Request}
use Rattle.fsb_encode.specs.declared.request.Pair.{Pair}
use Rattle.fsb_encode.specs.Burst.{burst_order}
use Rattle.fsb_trace.specs.declared.outcome.Outcome.TheVariants.{Granted}
use Rattle.fsb_trace.specs.At.{Trace, known_pair, line_back, request_at}
use Rattle.fsb_trace.specs.Requests.{is_reply_kind}
use Rattle.fsb_trace.specs.Outcome.{response_code_of}
use Rattle.fsb_laws.specs.OneMore.{responds}
use Rattle.fsb_rules.specs.declared.coming.Coming.{Coming}
use Rattle.fsb_audit.specs.declared.finding.Finding.{Finding}
use Rattle.fsb_audit.specs.declared.finding.Finding.TheVariants.{Foul as FoulFirst}

-- the number of the chunk for which the request asks first
unfoldable pub first_asked : Request → ℕ
first_asked request = request.line % 2 ^ 31 * 4 + request.chunk % 4

-- the number of the chunk that comes n-th where this one comes first
unfoldable pub nth_from : ℕ → ℕ → ℕ
nth_from first n = first / 4 % 2 ^ 31 * 4 + slice_index (burst_order (first % 4)) (n % 4)

-- the chunk that comes, by the chunks that were asked for
unfoldable pub chunk_by : List ℕ → Coming → ℕ
chunk_by asked coming = nth_from (slice_index asked coming.did) coming.place

-- the words of the sample, where a request begins with it
unfoldable pub first_after : Sample → Option Pair
first_after x = if has_line x ADS then known_pair x else None

-- the chunks that were asked for, with the one of this request, unless it is a reply
unfoldable pub asked_with : List ℕ → Option Request → List ℕ
asked_with asked None = asked
asked_with asked (Some r) = if is_reply_kind r.kind then asked else slice_set asked r.did (first_asked r)

-- the request whose second clock is c
unfoldable pub begun_before : Trace → ℕ → Option Request
begun_before w c = if line_back ADS w c 1 then request_at w (c - 1) else None

-- the chunks that were asked for, with the one of the request whose second clock is c
abbrev pub asked_after : List ℕ → Trace → ℕ → List ℕ
asked_after asked w c = asked_with asked (begun_before w c)

-- the data of the request that responded last come from memory: its response was normal data
unfoldable pub from_memory_after : Bool → Sample → Bool
from_memory_after from x = if responds x then nat_eq (response_of x) (response_code_of Granted) else from

-- how many chunks were moved
unfoldable pub count_after : ℕ → Option Coming → ℕ
count_after count coming = elim coming [ Some c ↦ count + 1 | None ↦ count ]

-- a map of chunks: each chunk that was moved, with its data
abbrev pub ChunkMap : Type 0
ChunkMap = List (ℕ × ℕ)

-- the data of the chunk, where it was moved
abbrev pub data_in : ChunkMap → ℕ → Option ℕ
data_in moved chunk = lookup (λ other. chunk == other) moved

-- the new map has these data of the chunk, and of each other one what the old map has
abbrev pub Puts : ChunkMap → ChunkMap → ℕ → ℕ → Type 0
Puts old new chunk bits = (other : ℕ) → data_in new other ≡ (if chunk == other then Some bits else data_in old other)

-- the new map has the chunk that comes, with these data
abbrev pub HasMoved : ChunkMap → ChunkMap → List ℕ → Option Coming → ℕ → Type 0
HasMoved old new asked None bits = new ≡ old
HasMoved old new asked (Some coming) bits = Puts old new (chunk_by asked coming) bits

-- a foul clock: the data of the chunk come from memory, and are not those before
unfoldable pub foul_by : Bool → ℕ → ℕ → Option ℕ → ℕ → Option Finding
foul_by from clock chunk before bits =
    if from && is_some_and before (λ b. not (nat_eq b bits)) then Some (FoulFirst (record { clock = clock; addr = chunk * 8 })) else None

-- what is found with the chunk that comes
unfoldable pub found_after : Option Finding → Bool → ℕ → ChunkMap → List ℕ → Option Coming → ℕ → Option Finding
found_after found from clock moved asked coming bits =
    elim coming [
      | Some c ↦ foul_by from clock (chunk_by asked c) (data_in moved (chunk_by asked c)) bits
      | None ↦ found
    ]
