-- Which request's data come with a sample.
use Rattle.std.specs.Prelude.{◌≡◌, ℕ, Some}
use Rattle.fsb_encode.specs.declared.request.Request.{Request}
use Rattle.fsb_trace.specs.At.{Trace}
use Rattle.fsb_trace.specs.Requests.{live_request_of}
use Rattle.fsb_trace.specs.Response.{data_clock_of}
use Rattle.fsb_rules.specs.declared.coming.Coming.{Coming}

-- c is a data clock of a live request: of one with this ID, at this place of the four
pub record HasData (w : Trace) (c : ℕ) (coming : Coming) : Type 0 where
  pub number : ℕ
  pub request : Request
  pub is_request : live_request_of w number ≡ Some request
  pub did : coming.did ≡ request.did
  pub clock : data_clock_of w number coming.place ≡ Some c
