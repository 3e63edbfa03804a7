-- The values so far are those of the requests so far.
use Rattle.std.proofs.Common.{◌≡◌, map, take}
use Rattle.serde_json.specs.View.{view}
use Rattle.request_facts.specs.Requests.{request_data}
use Rattle.request_facts.proofs.requests.requests_value.Given as goal

abbrev pub invariant-loop-row : goal.invariant-loop-row
invariant-loop-row l = map view l.list.items ≡ map (request_data l.before) (take l.row-index l.rows)
