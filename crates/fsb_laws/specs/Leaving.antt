-- Which requests leave, one sample on.
use Rattle.std.specs.Prelude.{ℕ, Bool, ◌||◌, ◌&&◌, length}
use Rattle.fsb_count.specs.Options.{is_at}
use Rattle.fsb_signal.specs.declared.sample.Sample.{Sample}
use Rattle.fsb_trace.specs.At.{Trace}
use Rattle.fsb_trace.specs.Requests.{is_live, live_number_of}
use Rattle.fsb_trace.specs.Response.{end_of}
use Rattle.fsb_laws.specs.OneMore.{cancels}

-- v is h and then the sample x. The request that begins at q leaves with x: x cancels it, or its end is the clock of x
unfoldable pub leaves : Trace → Sample → Trace → ℕ → Bool
leaves h x v q = cancels x (length h) q || is_live v q && is_at (end_of v (live_number_of v q)) (length h)

-- the request that begins at p is live, and its end is n
unfoldable pub ends_at : Trace → ℕ → ℕ → Bool
ends_at v n p = is_live v p && is_at (end_of v (live_number_of v p)) n
