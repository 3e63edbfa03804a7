-- The memory has of a line the bytes that were put there last.
use Rattle.fsb_tied.proofs.Words
use Words.{ℕ, suc, ◌+◌, ◌<◌, ◌≤◌, ◌≡◌, Bool, true, false, not, ◌&&◌, [], ◌∷◌, ◌++◌, Option, Some, None, is_none}
use Words.{is_some, length, refl, sym, ap, ◌∙◌, arith, cond, unwrap_or, eq-eqb, Link, MemoryLine, brought, carries}
use Words.{feeds_memory, run, does_move, does_take, response_clock_of, Outcome, end_of-response, Past, Run, past_of}
use Words.{Awaited, does_end_on, snoops_on, giver_at, links_left, events_before_snoop, links_new, HasValues}
use Words.{machine_line}
use Rattle.fsb_tied.proofs.AnswersInOrder.{answers-in-order}
use Rattle.fsb_tied.proofs.Awaiting.{awaited-there}
use Rattle.fsb_tied.proofs.Bridge.{number-ended, number-responded}
use Rattle.fsb_tied.proofs.CarryingRuns.{carries-awaited}
use Rattle.fsb_tied.proofs.Chains.{link_of}
use Rattle.fsb_tied.proofs.ClocksOfRuns.{clock-facts}
use Rattle.fsb_tied.proofs.EndingLines.{EndsLine, claims-line, ending-takes, taking-at}
use Rattle.fsb_tied.proofs.InTurn.{snooped-before-end, unended-at-end}
use Rattle.fsb_tied.proofs.KeptStores.{chain-behind}
use Rattle.fsb_tied.proofs.LinkOrder.{oldest-ends}
use Rattle.fsb_tied.proofs.MovedBytes.{next-parts}
use Rattle.fsb_tied.proofs.Moving.{IsMoved}
use Rattle.fsb_tied.proofs.PutLines.{takes_line}
use Rattle.fsb_tied.proofs.RunValues.{machine-tied}
use Rattle.fsb_tied.proofs.StillEvents.{between-data, no-end-data, one-end-data, response-memory}
use Rattle.fsb_tied.proofs.WholeOrder.{orderly-whole}

-- where no end is awaited on the line, the memory stays
pub no-end-memory : (r : Run) (line n : ℕ) → HasValues r → n < length r.trace → does_end_on (past_of r) line n ≡ false
    → (machine_line r line (suc n)).memory ≡ (machine_line r line n).memory
no-end-memory r line n h l none =
    let p : Past = past_of r in
    let x : MemoryLine = machine_line r line n in
    let y : MemoryLine = run x (events_before_snoop p line n ++ snoops_on p line n) in
    ap (λ (z : MemoryLine). z.memory) (next-parts r line n (clock-facts r line n h.timely h.bounds l))
    ∙ (no-end-data y p line n none).memory ∙ (between-data x p line n).memory ∙ response-memory x p line n

-- the line of the machine before the end of a clock
abbrev pub line_before_end : Run → ℕ → ℕ → MemoryLine
line_before_end r line n =
    run (machine_line r line n) (events_before_snoop (past_of r) line n ++ snoops_on (past_of r) line n)

-- the link of the request that ends on the line
abbrev pub ending_link : (r : Run) (line n : ℕ) → EndsLine r line n → Link
ending_link r line n k = link_of (past_of r) line k.at k.end k.awaited

-- where an end is awaited on the line, memory gets what it brings, if its link has a giver
pub end-memory : (r : Run) (line n : ℕ) (k : EndsLine r line n) → HasValues r → n < length r.trace
    → (machine_line r line (suc n)).memory
    ≡ cond (feeds_memory (ending_link r line n k))
    (unwrap_or (brought (line_before_end r line n) (ending_link r line n k)) []) (machine_line r line n).memory
end-memory r line n k h l =
    let p : Past = past_of r in
    let x : MemoryLine = machine_line r line n in
    let y : MemoryLine = line_before_end r line n in
    let link : Link = ending_link r line n k in
    let facts = clock-facts r line n h.timely h.bounds l in
    let a = answers-in-order r h.timely in
    let head = oldest-ends p (length r.trace) line n k.at k.end k.awaited a l k.tied.there k.alone k.awaits k.names in
    let behind = chain-behind p line n x facts (machine-tied r line n h (omega arith)) in
    let chain : y.chain ≡ link ∷ (links_left p line (n + 1) n ++ links_new p line n) =
    behind ∙ ap (λ ls. ls ++ links_new p line n) head in
    let at = awaited-there p (length r.trace) n k.at k.end a k.below k.tied.there ∙ k.awaits in
    let end = one-end-data y p line n k.end.first k.awaited link (links_left p line (n + 1) n ++ links_new p line n)
    k.alone at (eq-eqb k.awaited.line line k.names) chain in
    let before : y.memory ≡ x.memory = (between-data x p line n).memory ∙ response-memory x p line n in
    ap (λ (z : MemoryLine). z.memory) (next-parts r line n facts) ∙ end.1
    ∙ ap (cond (feeds_memory link) (unwrap_or (brought y link) [])) before

takes-moves : (outcome : Outcome) → does_take outcome ≡ true → does_move outcome ≡ true
unfolding does_take does_move
takes-moves outcome h1 = grind arith

-- the request that ends on the line puts it into memory
pub record PutsLine (r : Run) (line n : ℕ) (k : EndsLine r line n) : Type 0 where
  pub response : ℕ
  pub responds : response_clock_of r.trace k.number ≡ Some response
  pub takes : takes_line r line k.number ≡ true
  pub gives : is_some (giver_at (past_of r) line k.at k.awaited.agent k.end) ≡ true
  pub moved : IsMoved (past_of r) line n
  pub carried : carries (ending_link r line n k) ≡ true
  pub same : moved.response ≡ response

pub puts-line : (r : Run) (line n : ℕ) (k : EndsLine r line n) → HasValues r → n < length r.trace
    → does_take k.end.outcome ≡ true → PutsLine r line n k
puts-line r line n k h l takes =
    let p : Past = past_of r in
    let m : ℕ = length r.trace in
    let a = answers-in-order r h.timely in
    let o = orderly-whole r n h.timely l in
    let low = k.below in
    let c = claims-line r line n k h.timely h.bounds l takes in
    let t = taking-at r line k.at k.end c.claim h.timely h.bounds (omega arith) k.tied.there c.claims c.names takes in
    let both : Some t.awaited ≡ Some k.awaited = sym t.awaits ∙ k.awaits in
    let one : t.awaited ≡ k.awaited = cc in
    let u = end_of-response r.trace k.number n k.ends in
    let response : ℕ = u.0 in
    let early : response ≤ n = u.2 in
    let ended = number-ended r k.number n k.end.first l o (record { end = k.ends; first = k.tied.first }) in
    let responds = number-responded r k.number response k.end.first (omega arith) o
    (record { response = u.1; first = k.tied.first }) in
    let before : response < n =
    a.moves k.at response n k.end k.tied.there (takes-moves k.end.outcome takes) (omega arith) l responds ended in
    let gap = snooped-before-end p m n k.at k.end a l k.tied.there ended in
    let gives : is_some (giver_at p line k.at k.awaited.agent k.end) ≡ true =
    ap (λ (w : Awaited). is_some (giver_at p line k.at w.agent k.end)) (sym one) ∙ t.gives in
    let fit = carries-awaited r k.at k.end k.awaited h.timely k.tied.there k.awaits in
    let link : Link = link_of p k.awaited.line k.at k.end k.awaited in
    let there : is_some link.giver ≡ true =
    ap (λ x. is_some (giver_at p x k.at k.awaited.agent k.end)) k.names ∙ gives in
    record {
      response = response;
      responds = u.1;
      takes = ending-takes r line n k takes c;
      gives = gives;
      moved = record {
        at = k.at;
        end = k.end;
        there = k.tied.there;
        below = omega arith;
        awaited = k.awaited;
        awaits = k.awaits;
        names = k.names;
        carried = sym fit.fits ∙ given-carries link there;
        response = response;
        responds = responds;
        before = before;
        unended = unended-at-end p m n k.end.first a l ended;
      };
      carried = given-carries (ending_link r line n k) gives;
      same = refl;
    }
  where
    some-there : (o : Option ℕ) → is_some o ≡ true → is_none o ≡ false
    some-there None e = absurd (let no : ⊥ = cc in no)
    some-there (Some x) e = refl

    none-won : (b c : Bool) → c ≡ false → not (b && c) ≡ true
    none-won true c e = ap not e
    none-won false c e = refl

    given-carries : (link : Link) → is_some link.giver ≡ true → carries link ≡ true
    given-carries link e = none-won _ (is_none link.giver) (some-there link.giver e)
