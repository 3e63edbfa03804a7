-- The request that an entry of a bench serves is the one whose line and chunk it has in the longer run.
use Rattle.fsb_bench_values.proofs.Words
use Words.{ℕ, ◌+◌, ◌<◌, ◌≡◌, Some, length, sym, ap, ◌∙◌, arith, option_and_then, number_asked, served-number, IsBegunAt}
use Words.{IsServed, and-some, answered-of, before-growth, begun-claim, begun-reply-kind, begun-request, begun-stays}
use Words.{itself-served, reply-serves, Served, is_some_and, KeepsBounds, agree-grown, snooped-same, Entry, Reaches}
use Words.{replied-outstanding, replied-served, begun-shown, begun-want, live-request, served_request, snooped_at}
use Words.{GrowsTo, served_number, turns_in, Grant, Past, SnoopEnd, Run, past_of, Timely, going-alike, owed-same}
use Words.{past-goes_on, owed, request_at, is_reply, live_clock_of, live_number_of, live_request_of, Who, Symmetric}
use Words.{Priority, live_clock_of-rises, live_clock_of-stays, snoop_end_of-stays}
use Rattle.fsb_bench_values.proofs.ServesLine.{HasSnoopEnd}

one-of : {X : Type 0} (a b : X) → Some a ≡ Some b → a ≡ b
one-of a b e = cc

asked-same : (p q : Past) (a c line : ℕ) → owed p a c ≡ owed q a c → number_asked p a c line ≡ number_asked q a c line
unfolding number_asked
asked-same p q a c line e = grind arith

-- the number that is served, and what began there
served-by-number : (r s : Run) (served : Served) (i j : ℕ) → GrowsTo r s → Timely s → KeepsBounds s.plan
    → served.first < length r.trace → length r.trace < length s.trace
    → IsBegunAt r served.first (Symmetric served.agent) served.request
    → served_number s.trace (turns_in (past_of s).moments) i ≡ Some j → live_clock_of s.trace j ≡ Some served.first
    → served_request s (past_of s) i ≡ Some served.request
unfolding served_request
served-by-number r s served i j grows timely bounds low longer begun number clock =
    ap (option_and_then (live_request_of s.trace)) number ∙ live-request s.trace j served.first clock
    ∙ begun-request s served.first (Symmetric served.agent) served.request timely bounds (omega arith)
    (begun-stays r s served.first (Symmetric served.agent) served.request grows low begun)

served-by : (r s : Run) (e : Entry) (served : Served) (end : SnoopEnd) (who : Who) → GrowsTo r s
    → Reaches s (length r.trace + 1) → KeepsBounds r.plan → (d : HasSnoopEnd r e end)
    → IsBegunAt r e.clock who e.request
    → IsServed r e served → served_request s (past_of s) d.number ≡ Some served.request
unfolding is_reply is_some_and
served-by r s e served end (Symmetric agent) grows h bounds d begun is =
    let q : ℕ = e.clock in
    let long = h.long in
    let above = d.above in
    let near = d.near in
    let low : q < length r.trace = omega (arith, above, near) in
    let old = begun-claim r q agent e.request (omega arith) begun in
    let want_old = begun-want r q old.0 grows.timely bounds (omega arith) old.1 in
    let shown_old = begun-shown r q old.0 grows.timely bounds (omega arith) want_old in
    let plain_old = ap (λ o. is_reply o) (live-request r.trace d.number q d.old ∙ shown_old) ∙ want_old.no_reply in
    let itself_old : served_number r.trace (turns_in (past_of r).moments) (live_number_of r.trace q) ≡ Some d.number =
    grind (arith, itself-served) in
    let first : served.first ≡ q = grind arith in
    let live = live_clock_of-stays (length r.trace) r.trace s.trace d.number q (agree-grown r s grows)
    (omega arith) d.old in
    let now = begun-stays r s q (Symmetric agent) e.request grows low begun in
    let b = begun-claim s q agent e.request (omega arith) now in
    let want = begun-want s q b.0 h.timely h.bounds (omega arith) b.1 in
    let shown = begun-shown s q b.0 h.timely h.bounds (omega arith) want in
    let plain = ap (λ o. is_reply o) (live-request s.trace d.number q live ∙ shown) ∙ want.no_reply in
    let number = itself-served s.trace (turns_in (past_of s).moments) d.number plain in
    served-by-number r s served d.number d.number grows h.timely h.bounds (omega (arith, first, low))
    (omega (arith, long))
    is.begun number (live ∙ ap Some (sym first))
served-by r s e served end Priority grows h bounds d begun is =
    let p = past_of s in
    let w = r.trace in
    let q : ℕ = e.clock in
    let turns = turns_in (past_of r).moments in
    let above = d.above in
    let near = d.near in
    let long = h.long in
    let kind = begun-reply-kind r q e.request begun in
    let decoded = begun-request r q Priority e.request grows.timely bounds (omega arith) begun in
    let replies = ap (λ o. is_reply o) (ap (request_at w) d.first ∙ decoded) ∙ kind in
    let j = and-some (live_clock_of w) (served_number w turns (live_number_of w q)) served.first is.first in
    let serves : served_number w turns d.number ≡ Some j.0 = ap (served_number w turns) (sym d.rank) ∙ j.1 in
    let few = (answered-of w turns d.number j.0 (ap (λ o. is_reply o) (live-request w d.number q d.old ∙ decoded)
    ∙ kind)
    serves).0 in
    let rise : served.first < q = live_clock_of-rises w j.0 d.number served.first q few j.2 d.old in
    let asks = live-request w j.0 served.first j.2
    ∙ begun-request r served.first (Symmetric served.agent) served.request grows.timely bounds (omega arith) is.begun in
    let short : Reaches r (d.snoop + 1) = record { timely = grows.timely; bounds = bounds; long = omega arith } in
    let g = reply-serves r d.snoop d.number j.0 served.first end served.request short d.tied replies serves asks j.2 in
    let grant : Grant = g.grant in
    let a : ℕ = grant.agent in
    let alike = going-alike (length r.trace) (past_of r) p (past-goes_on r s grows.next (before-growth r s grows)) in
    let asked : number_asked p a d.snoop grant.line ≡ Some served.first = grind (arith, asked-same, owed-same) in
    let under : Reaches s (d.snoop + 1) = record { timely = h.timely; bounds = h.bounds; long = omega arith } in
    let there : snooped_at p d.snoop ≡ Some end = sym (snooped-same r s d.snoop grows near) ∙ d.tied.there in
    let reached = snoop_end_of-stays (length r.trace) r.trace s.trace d.number d.snoop (agree-grown r s grows) near
    d.tied.reached in
    let out = replied-outstanding s d.snoop end grant under there g.unclaimed g.grants in
    let out_served = replied-served s d.snoop d.number end grant under there g.unclaimed g.grants reached in
    let both : option_and_then (live_clock_of s.trace) (served_number s.trace (turns_in p.moments) d.number)
    ≡ Some served.first = out_served ∙ sym (served-number s d.snoop grant under out) ∙ asked in
    let k = and-some (live_clock_of s.trace) (served_number s.trace (turns_in p.moments) d.number) served.first both in
    served-by-number r s served d.number k.0 grows h.timely h.bounds (omega (arith, rise, above, near))
    (omega (arith, long)) is.begun k.1 k.2

pub served-still : (r s : Run) (e : Entry) (served : Served) (end : SnoopEnd) → GrowsTo r s
    → Reaches s (length r.trace + 1) → KeepsBounds r.plan → (d : HasSnoopEnd r e end)
    → IsBegunAt r e.clock e.who e.request → IsServed r e served
    → served_request s (past_of s) d.number ≡ Some served.request
served-still r s e served end grows h bounds d begun is = served-by r s e served end e.who grows h bounds d begun is
