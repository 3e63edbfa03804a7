-- In a run memory follows the transfers.
use Rattle.std.proofs.Common.{ℕ, ◌≡◌, true, Some, None, length, refl, sym, ◌∙◌, arith}
use Rattle.std.proofs.lemmas.Option.{same_Some}
use Rattle.fsb_line.specs.declared.link.Link.{Link}
use Rattle.fsb_line.specs.Line.{MemoryLine, source}
use Rattle.fsb_trace.specs.Outcome.{response_clock_of}
use Rattle.fsb_timely.specs.Runs.{Run, past_of}
use Rattle.fsb_tied.specs.RunBytes.{HasValues, bytes_below, bytes_put_below, machine_line}
use Rattle.fsb_tied.proofs.Interface.{answers-in-order, first-link, link_of, memory-below-run, number-responded}
use Rattle.fsb_tied.proofs.Interface.{orderly-whole, source-below-run, ungiven}
use Rattle.fsb_clean.proofs.Answered.{answered-run, response-below}
use Rattle.fsb_clean.proofs.DataWays.{got-moves, got-told}
use Rattle.fsb_clean.proofs.Follows.{MemoryFollows, gets_data, line_moved_by}
use Rattle.fsb_clean.proofs.MovedLines.{awaited-line}
use Rattle.fsb_clean.proofs.MovesAwaited.{moves-awaited}
use Rattle.fsb_clean.proofs.PutLines.{put-stays, put-there}

-- the source of a link without a giver is the memory
from-memory : (x : MemoryLine) (link : Link) → link.giver ≡ None → source x link ≡ Some x.memory
from-memory x link e = rw e refl

-- memory has at the response of a request whose data come from it what the replay has there
got-there : (r : Run) (line i t : ℕ) → HasValues r → line_moved_by r.trace i ≡ Some line → gets_data r.trace i ≡ true
    → response_clock_of r.trace i ≡ Some t → bytes_put_below r line t ≡ bytes_below r line t
got-there r line i t h names gets response =
    let w = r.trace in
    let p = past_of r in
    let l = response-below w i t response in
    let a = answered-run r i t h.timely response in
    let early = a.early in
    let ways = got-moves a.end.outcome (sym (got-told w i a.end.outcome a.told) ∙ gets) in
    let awaited = moves-awaited r i t line a h.timely h.bounds response names ways.0 in
    let line-is : awaited.0.line ≡ line =
    same_Some _ _ (sym (awaited-line r i t a awaited.0 h.timely h.bounds response awaited.1) ∙ names) in
    let responds = number-responded r i t a.end.first l (orderly-whole r t h.timely l)
    (record { response = response; first = a.snooped.tied.first }) in
    let link : Link = link_of p line a.snoop a.end awaited.0 in
    let first = first-link p (length w) line t a.snoop a.end awaited.0 (answers-in-order r h.timely) l
    a.snooped.tied.there responds awaited.1 line-is in
    let from = from-memory (machine_line r line t) link (ungiven p line a.snoop awaited.0.agent a.end ways.1) in
    let now = source-below-run r line t link first.links h (omega arith) first.chain in
    sym (memory-below-run r line t h (omega arith)) ∙ same_Some _ _ (sym from ∙ now)

pub memory-follows : (r : Run) → HasValues r → MemoryFollows r (bytes_put_below r)
memory-follows r h = record {
  got = λ line i t names gets response. got-there r line i t h names gets response;
  put = λ line i t e names puts response ends.
      put-there r line i t e h.timely h.bounds names puts response ends;
  kept = λ line n l none. put-stays r line n h.timely h.bounds none;
}
