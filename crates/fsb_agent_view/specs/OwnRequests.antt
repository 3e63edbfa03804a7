-- An agent's outstanding requests, in the order in which they were sent.
use Rattle.std.specs.Prelude.{ℕ, Bool, true, false, ◌==◌, if◌then◌else◌, List, ◌++◌, map, Option, None}
use Rattle.std.specs.List.{after_first, before_first, find}
use Rattle.fsb_encode.specs.declared.request.Request.{Request}
use Rattle.fsb_encode.specs.declared.request.Kind.TheVariants.{Reply}
use Rattle.fsb_agent_view.specs.declared.want.OwnRequest.{OwnRequest}

-- a request that was sent with this number
abbrev pub new_request : ℕ → Request → OwnRequest
new_request number request = record { number = number; request = request; granted = false; kept = None }

-- one that stands where there is none
abbrev pub no_request : OwnRequest
no_request = new_request 0 (record { kind = Reply; line = 0; chunk = 0; did = 0; den = false })

-- the request has this number
abbrev pub is_numbered : ℕ → OwnRequest → Bool
is_numbered number out = out.number == number

-- the request with this number, if there is one
abbrev pub request_numbered : ℕ → List OwnRequest → Option OwnRequest
request_numbered number outs = find (is_numbered number) outs

-- the requests without the one with this number
abbrev pub requests_without : ℕ → List OwnRequest → List OwnRequest
requests_without number outs = before_first (is_numbered number) outs ++ after_first (is_numbered number) outs

-- the request, granted where it has this number; these are the bytes that it keeps
abbrev pub with_grant : ℕ → Option (List ℕ) → OwnRequest → OwnRequest
with_grant number kept out =
    if is_numbered number out then record out { granted = true; kept = kept } else out

-- the requests, of which the one with this number is granted
abbrev pub requests_granted : ℕ → Option (List ℕ) → List OwnRequest → List OwnRequest
requests_granted number kept outs = map (with_grant number kept) outs
