-- The replies in a part whose requests are not of the part.
use Rattle.std.specs.Prelude.{ℕ, Bool, false, not, ◌||◌, ◌==◌, if◌then◌else◌, [], ◌∷◌, Option, Some, None}
use Rattle.std.specs.Option.{option_and_then}
use Rattle.fsb_signal.specs.declared.sample.Sample.{Sample}
use Rattle.fsb_signal.specs.declared.lines.TheConstants.Lines.{ADS}
use Rattle.fsb_signal.specs.Samples.{has_line}
use Rattle.fsb_encode.specs.declared.request.Request.{Request}
use Rattle.fsb_encode.specs.Decoded.{request_of}
use Rattle.fsb_trace.specs.At.{Trace, known_pair}
use Rattle.fsb_trace.specs.Requests.{is_reply_kind}

-- the request that two samples hold, if they hold one
unfoldable pub request_on : Sample → Sample → Option Request
request_on a b = option_and_then (λ p. option_and_then (λ q. request_of p q) (known_pair b)) (known_pair a)

-- the request of which this sample, behind another one or none, is the second clock
abbrev pub begun_on : Option Sample → Sample → Option Request
begun_on None b = None
begun_on (Some a) b = if has_line a ADS then request_on a b else None

-- the deferred ID of a request that is no reply
abbrev pub asked_id : Option Request → Option ℕ
asked_id None = None
asked_id (Some r) = if is_reply_kind r.kind then None else Some r.did

-- the deferred ID that a reply answers
abbrev pub reply_id : Option Request → Option ℕ
reply_id None = None
reply_id (Some r) = if is_reply_kind r.kind then Some r.did else None

-- it is this ID
abbrev pub is_id : ℕ → Option ℕ → Bool
is_id id None = false
is_id id (Some n) = n == id

-- the last of some samples; where there is none, the one before them
abbrev pub last_behind : Option Sample → Trace → Option Sample
last_behind a [] = a
last_behind a (b ∷ w) = last_behind (Some b) w

-- a request that is no reply has this ID, among some samples behind another one or none
abbrev pub asks_behind : ℕ → Option Sample → Trace → Bool
asks_behind id a [] = false
asks_behind id a (b ∷ w) = is_id id (asked_id (begun_on a b)) || asks_behind id (Some b) w

-- the ID that is answered by the reply of which the last of some samples, behind another one or none, is the second clock;
-- where there is none, the one given
abbrev pub reply_behind : Option ℕ → Option Sample → Trace → Option ℕ
reply_behind id a [] = id
reply_behind id a (b ∷ w) = reply_behind (reply_id (begun_on a b)) (Some b) w

-- a request of the part that is no reply has this ID
abbrev pub asks_for : ℕ → Trace → Bool
asks_for id part = asks_behind id None part

-- there is such an ID, and no request of the part has it
abbrev pub is_unasked : Option ℕ → Trace → Bool
is_unasked None part = false
is_unasked (Some id) part = not (asks_for id part)

-- the last two clocks of the part are those of a reply, and no request of the part has the ID that it answers: its request
-- may have been deferred before the part
abbrev pub answers_before : Trace → Bool
answers_before part = is_unasked (reply_behind None None part) part
