-- The bytes that a bench has on the bus at a clock, behind its response: those of the line whose data move there.
use Rattle.fsb_bench_values.proofs.Words
use Words.{ℕ, ◌+◌, ◌<◌, ◌≤◌, ◌≡◌, Bool, true, if◌then◌else◌, List, Option, Some, None, is_some, length, nat_eq, refl}
use Words.{sym, ap, ◌∙◌, inl, inr, arith, slice_get, option_and_then, option_map, option_map_or, both_ways, cases_lt}
use Words.{eq-eqb, is_at, is_some_and, any_where-at, first_where-found, claim_given_at, gives_claim, is_given_below}
use Words.{claim-given, hand-there, owed-grown, same-first, Awaited, awaited_by, owner_at, responded_in}
use Words.{does_respond_on, giver_at, is_moved_below, Choice, KeepsBounds, get-there, Link, MemoryLine, source}
use Words.{has_response, drive_of, settled_code, Drive, find-cases, find-off, find-place, code-shown, responded-now}
use Words.{snooped-same, Entry, Reaches, response_of, machine_line, answers-in-order, begun-want, carries-awaited}
use Words.{clock-facts, ended-later, first-link, link_of, moved-parts, moves-parts, unended-at-response, winner-four}
use Words.{written-await, begun_at, is_ended, snooped_at, bytes_now, Claim, Grant, Past, SnoopEnd, Run, past_of}
use Words.{past_to, Timely, tied-snoop, does_move, does_take, response_code_of, snoop_end_of-clock, Outcome, Granted}
use Words.{Handed, Retried, Deferred, Written, Replied, Failed, Upgraded, Served, step_drive, step_entries}
use Words.{step_fetched, step_run, BenchView, BusView, next_clock_of, bus_fetched, bytes_source, from_for, head_outcome}
use Words.{bytes_owed, IsBenchOf, IsResponding, code-now, grows-to, head-settled, reaches-step, responding-of}
use Words.{responding-settled, responds-first, sample-grown, timely-now, HasBytesOf}
use Rattle.fsb_bench_values.proofs.OwedFound.{OweBytes, owed-found, push-found}
use Rattle.fsb_bench_values.proofs.RunsValues.{begun-old, line-memory, line-now, line-tied, moved-old, within}
use Rattle.fsb_bench_values.proofs.ServesLine.{ServesLine, serves-line}

one-of : {X : Type 0} (a b : X) → Some a ≡ Some b → a ≡ b
one-of a b e = cc

-- where data are on the bus, no request responds
pub moved-silent : (r : Run) (line n q : ℕ) → Timely r → n < length r.trace → is_moved_below (past_of r) line n ≡ true
    → responded_in (past_of r) n ≡ Some q → ⊥
moved-silent r line n q h l moved responds =
    let p : Past = past_of r in
    let m : ℕ = length r.trace in
    let a = answers-in-order r h in
    let k = moved-parts p line n moved in
    let before : k.response < n = k.before in
    let s = a.snooped n q l responds in
    let answers : responded_in p n ≡ Some s.end.first = responds ∙ ap Some (sym s.first) in
    elim (cases_lt k.at s.at) [
      | inl less ↦
          both_ways (is_ended p n k.end.first) k.unended
          (a.in_turn k.at s.at n k.end s.end k.there s.there less l answers)
      | inr more ↦ elim (cases_lt s.at k.at) [
        | inl less ↦
            let ended = a.in_turn s.at k.at k.response s.end k.end s.there k.there less (omega arith) k.responds in
            both_ways (is_ended p n s.end.first) (unended-at-response p m n s.end.first a l answers)
            (ended-later p k.response n s.end.first (omega arith) ended)
        | inr equal ↦
            let at : k.at ≡ s.at = omega (arith, more, equal) in
            let one : k.end ≡ s.end = one-of k.end s.end (sym k.there ∙ ap (snooped_at p) at ∙ s.there) in
            let same : k.response ≡ n = grind arith in
            omega (arith, same, before)
      ]
    ]

-- one of the four agents gives the bytes of the claim by its snoop end
pub record IsGivenAt (p : Past) (t : ℕ) (claim : Claim) : Type 0 where
  pub giver : ℕ
  pub few : giver < 4
  pub given : claim_given_at p giver t ≡ Some claim

gives-there : (p : Past) (t giver : ℕ) (end : SnoopEnd) (claim : Claim) → snooped_at p t ≡ Some end
    → end.claim ≡ Some claim → giver_at p claim.line t claim.agent end ≡ Some giver
    → claim_given_at p giver t ≡ Some claim
unfolding gives_claim is_at is_some_and
gives-there p t giver end claim there claims e =
    let gives : gives_claim p giver t end claim ≡ true = grind arith in
    claim-given p giver t end claim there claims ∙ ap (λ b. if b then Some claim else None) gives

some-owner : (p : Past) (a line t : ℕ) → is_some (owner_at p a line t) ≡ true
    → (b : ℕ) × (b < 4) × (owner_at p a line t ≡ Some b)
unfolding owner_at
some-owner p a line t e = grind (arith, first_where-found)

-- a request begins before its snoop end
pub first-early : (r : Run) (t : ℕ) (end : SnoopEnd) → snooped_at (past_of r) t ≡ Some end → end.first + 4 ≤ t
first-early r t end there =
    let tied = tied-snoop r t end there in
    let c = snoop_end_of-clock r.trace tied.0 t tied.1.reached in
    grind arith

giver-handed : (p : Past) (line t a : ℕ) (end : SnoopEnd) → end.outcome ≡ Handed
    → giver_at p line t a end ≡ owner_at (past_to p t) a line t
unfolding giver_at
giver-handed p line t a end e = rw e refl

giver-granted : (p : Past) (line t a : ℕ) (end : SnoopEnd) → end.outcome ≡ Granted → giver_at p line t a end ≡ None
unfolding giver_at
giver-granted p line t a end e = rw e refl

giver-replied : (p : Past) (line t a : ℕ) (end : SnoopEnd) → end.outcome ≡ Replied → giver_at p line t a end ≡ None
unfolding giver_at
giver-replied p line t a end e = rw e refl

giver-written : (p : Past) (line t a : ℕ) (end : SnoopEnd) → end.outcome ≡ Written → giver_at p line t a end ≡ Some a
unfolding giver_at
giver-written p line t a end e = rw e refl

pub given-at : (r : Run) (t : ℕ) (end : SnoopEnd) (claim : Claim) → Timely r → KeepsBounds r.plan → t < length r.trace
    → snooped_at (past_of r) t ≡ Some end → end.claim ≡ Some claim → does_take end.outcome ≡ true
    → IsGivenAt (past_of r) t claim
unfolding does_take
given-at r t end claim h bounds l there claims takes = by end.outcome refl
  where
    by : (o : Outcome) → end.outcome ≡ o → IsGivenAt (past_of r) t claim
    by Handed e =
        let fits = ((clock-facts r claim.line t h bounds l).settles.settled end claim there claims refl).fits in
        let owner = some-owner (past_to (past_of r) t) fits.agent claim.line t (fits.owned e) in
        let agent : claim.agent ≡ fits.agent = (same-first (past_of r) claim.line t end claim claims fits).1 in
        let is : giver_at (past_of r) claim.line t claim.agent end ≡ Some owner.0 = grind (arith, giver-handed) in
        record { giver = owner.0; few = owner.1; given = gives-there (past_of r) t owner.0 end claim there claims is }
    by Written e =
        let begun : begun_at (past_of r) end.first ≡ Some claim =
        sym ((clock-facts r claim.line t h bounds l).settles.claimed end there) ∙ claims in
        let early = first-early r t end there in
        let want = begun-want r end.first claim h bounds (omega arith) begun in
        let is : giver_at (past_of r) claim.line t claim.agent end ≡ Some claim.agent =
        giver-written (past_of r) claim.line t claim.agent end e in
        record {
          giver = claim.agent;
          few = winner-four r.trace end.first claim.agent want.winner;
          given = gives-there (past_of r) t claim.agent end claim there claims is;
        }
    by Granted e = absurd (let no : ⊥ = (let f = rw e at takes in cc) in no)
    by Retried e = absurd (let no : ⊥ = (let f = rw e at takes in cc) in no)
    by Deferred e = absurd (let no : ⊥ = (let f = rw e at takes in cc) in no)
    by Replied e = absurd (let no : ⊥ = (let f = rw e at takes in cc) in no)
    by Failed e = absurd (let no : ⊥ = (let f = rw e at takes in cc) in no)
    by Upgraded e = absurd (let no : ⊥ = (let f = rw e at takes in cc) in no)

pub given-below : (p : Past) (a n t : ℕ) (claim : Claim) → t < n → claim_given_at p a t ≡ Some claim
    → is_given_below p a n claim.first ≡ true
unfolding is_given_below is_some_and
given-below p a n t claim low there =
    any_where-at (λ u. is_some_and (claim_given_at p a u) (λ x. nat_eq x.first claim.first)) n t low
    (ap (λ o. is_some_and o (λ (x : Claim). nat_eq x.first claim.first)) there ∙ eq-eqb claim.first claim.first refl)

-- where the bytes come from, by the outcome of the oldest request
source-by : (bus : BusView) (drive : Drive) (served : Served) (o : Outcome) → drive.rs ≡ response_code_of o
    → slice_get bus.served 0 ≡ Some served → head_outcome bus ≡ Some o → bytes_source bus drive ≡ from_for served o
unfolding response_code_of
source-by bus drive served o h1 h2 h3 = grind arith

-- the oldest request responds at the clock, and its bytes come from where its outcome says
pub record RespondsNow (v : BenchView) (hold : Bool) (choice : Choice) (q : ℕ) : Type 0 where
  pub entry : Entry
  pub oldest : slice_get v.bus.queue 0 ≡ Some entry
  pub clock : entry.clock ≡ q
  pub is : IsResponding v.run (step_run v hold choice) entry
  pub settled : entry.outcome ≡ Some is.end.outcome
  pub served : Served
  pub first : slice_get v.bus.served 0 ≡ Some served
  pub serves : ServesLine entry served is.end
  pub source : bytes_source v.bus (step_drive v) ≡ from_for served is.end.outcome

pub responds-now : (v : BenchView) (hold : Bool) (choice : Choice) (q : ℕ) → IsBenchOf v
    → responded_in (past_of (step_run v hold choice)) (next_clock_of v) ≡ Some q → RespondsNow v hold choice q
unfolding drive_of settled_code
responds-now v hold choice q b is =
    let r = v.run in
    let s = step_run v hold choice in
    let n = next_clock_of v in
    let queue = v.bus.queue in
    let f = b.requests in
    let grows = grows-to v hold choice b in
    let h = reaches-step v hold choice b in
    let shown = ap response_of (sample-grown v hold choice (step_entries v hold) grows) ∙ code-now v hold in
    let responds = responded-now r s queue grows f (code-shown r s queue grows f shown) in
    elim (find-cases (has_response r.trace) queue) [
      | inr g ↦
          let none = find-off (has_response r.trace) queue g in
          absurd (let no : None ≡ Some q = sym (responds ∙ ap (option_map (λ (x : Entry). x.clock)) none) ∙ is in cc)
      | inl k ↦
          let e = k.item in
          let found = find-place (has_response r.trace) queue k.place e k.at k.passes k.before in
          let there = responds ∙ ap (option_map (λ (x : Entry). x.clock)) found in
          let head = ap (slice_get queue) (sym (responds-first r s queue k.place e grows h.timely f k.at there))
          ∙ k.at in
          let d = responding-of r s e grows h there in
          let told = responding-settled r s queue 0 e f head d in
          let settled = head-settled queue e d.end.outcome head told in
          let low = settled.1 in
          let count = b.served.count in
          let x = get-there v.bus.served 0 (omega (arith, low, count)) in
          let serving = b.served.each 0 e x.0 settled.0 x.1 in
          let near = d.before in
          record {
            entry = e;
            oldest = head;
            clock = one-of e.clock q (sym there ∙ is);
            is = d;
            settled = told;
            served = x.0;
            first = x.1;
            serves = serves-line r e x.0 d.end b.timely b.bounds
                (record {
                  number = d.number;
                  rank = d.rank;
                  old = d.old;
                  snoop = d.snoop;
                  near = omega arith;
                  above = d.above;
                  tied = d.tied;
                  first = d.first;
                })
                (b.entries.begun 0 e head) serving;
            source = source-by v.bus (step_drive v) x.0 d.end.outcome
                (ap (λ o. option_map_or settled_code o 0) found ∙ ap (λ o. option_map_or response_code_of o 0) told)
                x.1 (ap (option_and_then (λ (y : Entry). y.outcome)) head ∙ told);
          }
    ]

-- where none responds, none come
pub silent-now : (v : BenchView) (hold : Bool) (choice : Choice) → IsBenchOf v
    → ((q : ℕ) → responded_in (past_of (step_run v hold choice)) (next_clock_of v) ≡ Some q → ⊥)
    → bytes_source v.bus (step_drive v) ≡ None
unfolding drive_of settled_code
silent-now v hold choice b silent =
    let r = v.run in
    let s = step_run v hold choice in
    let queue = v.bus.queue in
    let f = b.requests in
    let grows = grows-to v hold choice b in
    let shown = ap response_of (sample-grown v hold choice (step_entries v hold) grows) ∙ code-now v hold in
    let responds = responded-now r s queue grows f (code-shown r s queue grows f shown) in
    grind arith

-- data that were on the bus are there still
pub moved-fetched : (v : BenchView) (hold : Bool) (choice : Choice) (line : ℕ) → IsBenchOf v → HasBytesOf v
    → is_moved_below (past_of (step_run v hold choice)) line (next_clock_of v) ≡ true
    → (step_fetched v).moved ≡ bytes_now v.run line
moved-fetched v hold choice line b k moved =
    let s = step_run v hold choice in
    let n = next_clock_of v in
    let size = within v hold choice b in
    let source = silent-now v hold choice b
    (λ q e. moved-silent s line n q (timely-now v hold choice b) (omega (arith, size)) moved e) in
    ap (λ o. (bus_fetched v.bus o).moved) source ∙ k.moved line (sym (moved-old v hold choice line b) ∙ moved)

-- memory gives what it has where the oldest link has no giver
from-memory : (x : MemoryLine) (link : Link) → link.giver ≡ None → source x link ≡ Some x.now → x.memory ≡ x.now
from-memory x link none e = grind arith

-- the response of the clock puts data of this line on the bus
record Puts (v : BenchView) (hold : Bool) (choice : Choice) (line : ℕ) : Type 0 where
  q : ℕ
  responds : responded_in (past_of (step_run v hold choice)) (next_clock_of v) ≡ Some q
  now : RespondsNow v hold choice q
  awaited : Awaited
  there : snooped_at (past_of (step_run v hold choice)) now.is.snoop ≡ Some now.is.end
  awaits : awaited_by now.is.end ≡ Some awaited
  names : awaited.line ≡ line
  serves : now.served.request.line ≡ line
  moves : does_move now.is.end.outcome ≡ true

puts : (v : BenchView) (hold : Bool) (choice : Choice) (line : ℕ) → IsBenchOf v
    → does_respond_on (past_of (step_run v hold choice)) line (next_clock_of v) ≡ true → Puts v hold choice line
puts v hold choice line b e =
    let s = step_run v hold choice in
    let p = past_of s in
    let n = next_clock_of v in
    let timely = timely-now v hold choice b in
    let m = moves-parts p line n e in
    let d = responds-now v hold choice m.number b m.responds in
    let w = m.awaits in
    let near = d.is.before in
    let there : snooped_at p d.is.snoop ≡ Some d.is.end =
    sym (snooped-same v.run s d.is.snoop (grows-to v hold choice b) (omega arith)) ∙ d.is.tied.there in
    let at : w.at ≡ d.is.snoop = (answers-in-order s timely).one_snoop w.at d.is.snoop w.end d.is.end w.there there
    (w.first ∙ sym d.clock ∙ sym d.is.first) in
    let same : w.end ≡ d.is.end = one-of w.end d.is.end (sym w.there ∙ ap (snooped_at p) at ∙ there) in
    let awaits : awaited_by d.is.end ≡ Some m.awaited = ap awaited_by (sym same) ∙ w.awaits in
    record {
      q = m.number;
      responds = m.responds;
      now = d;
      awaited = m.awaited;
      there = there;
      awaits = awaits;
      names = m.names;
      serves = sym (d.serves.awaits m.awaited awaits) ∙ m.names;
      moves = (carries-awaited s d.is.snoop d.is.end m.awaited timely there awaits).moves m.carried;
    }

-- a snoop end after which bytes come from an agent has a claim
some-claim : (r : Run) (t : ℕ) (end : SnoopEnd) (awaited : Awaited) (o : Option Claim) → end.claim ≡ o → Timely r
    → KeepsBounds r.plan → t < length r.trace → snooped_at (past_of r) t ≡ Some end → awaited_by end ≡ Some awaited
    → (end.outcome ≡ Replied → ⊥) → (claim : Claim) × (end.claim ≡ Some claim)
some-claim r t end awaited (Some claim) e h bounds l there awaits other = (claim, e)
some-claim r t end awaited None e h bounds l there awaits other = by end.grant refl
  where
    by : (g : Option Grant) → end.grant ≡ g → (claim : Claim) × (end.claim ≡ Some claim)
    by (Some grant) f =
        absurd (other ((clock-facts r grant.line t h bounds l).settles.replied end grant there e f refl).replied)
    by None f = let k = written-await end awaited f awaits in (k.claim, k.claimed)

-- so are those that the clock's response puts there
pub responded-fetched : (v : BenchView) (hold : Bool) (choice : Choice) (line : ℕ) → IsBenchOf v → HasBytesOf v
    → does_respond_on (past_of (step_run v hold choice)) line (next_clock_of v) ≡ true
    → (step_fetched v).moved ≡ bytes_now v.run line
unfolding does_move
responded-fetched v hold choice line b k e = by k0.now.is.end.outcome refl
  where
    s : Run
    s = step_run v hold choice

    n : ℕ
    n = next_clock_of v

    k0 : Puts v hold choice line
    k0 = puts v hold choice line b e

    l : n < length s.trace
    l = let size = within v hold choice b in omega (arith, size)

    near : k0.now.is.snoop < n
    near = let before = k0.now.is.before in omega arith

    memory : ((a t : ℕ) → giver_at (past_of s) line t a k0.now.is.end ≡ None)
        → (step_fetched v).moved ≡ v.bus.memory k0.now.served.request.line → (step_fetched v).moved
        ≡ bytes_now v.run line
    memory none moved =
        let first = first-link (past_of s) (length s.trace) line n k0.now.is.snoop k0.now.is.end k0.awaited
        (answers-in-order s (timely-now v hold choice b)) l k0.there
        (k0.responds ∙ ap Some (sym (k0.now.is.first ∙ k0.now.clock))) k0.awaits k0.names in
        let x : MemoryLine = machine_line s line n in
        let tied = line-tied v hold choice line b in
        let link : Link = link_of (past_of s) line k0.now.is.snoop k0.now.is.end k0.awaited in
        let now = from-memory x link (none k0.awaited.agent k0.now.is.snoop)
        (tied.valued.oldest link first.links (tied.tied.chain ∙ first.chain)) in
        moved ∙ ap v.bus.memory k0.serves ∙ k.memory line ∙ sym (line-memory v hold choice line b k) ∙ now
        ∙ line-now v hold choice line b k

    agents : does_take k0.now.is.end.outcome ≡ true → (k0.now.is.end.outcome ≡ Replied → ⊥)
        → (step_fetched v).moved
        ≡ option_map_or (λ bytes. bytes) (bytes_owed k0.now.served.first v.bus.agents) v.bus.moved
        → (step_fetched v).moved ≡ bytes_now v.run line
    agents takes other moved =
        let r = v.run in
        let p : Past = past_of s in
        let t : ℕ = k0.now.is.snoop in
        let end : SnoopEnd = k0.now.is.end in
        let low : t < length s.trace = omega (arith, near, l) in
        let timely = timely-now v hold choice b in
        let c = some-claim s t end k0.awaited end.claim refl timely b.bounds low k0.there k0.awaits other in
        let claim : Claim = c.0 in
        let own = k0.now.serves.own claim c.1 in
        let names : claim.line ≡ line = own.0 ∙ k0.serves in
        let g = given-at s t end claim timely b.bounds low k0.there c.1 takes in
        let begun : begun_at p end.first ≡ Some claim =
        sym ((clock-facts s claim.line t timely b.bounds low).settles.claimed end k0.there) ∙ c.1 in
        let above = k0.now.is.above in
        let is_first = k0.now.is.first in
        let early : end.first < n = omega (arith, above, is_first, near) in
        let want = begun-want s end.first claim timely b.bounds (omega (arith, early, l)) begun in
        let number : claim.first ≡ k0.q = want.first ∙ is_first ∙ k0.now.clock in
        let gives : is_given_below p g.giver n k0.q ≡ true = grind (arith, given-below) in
        let few = g.few in
        let four = b.agents.four in
        let w = get-there v.bus.agents g.giver (omega (arith, few, four)) in
        let old : Reaches r n = record { timely = b.timely; bounds = b.bounds; long = omega arith } in
        let owed = owed-grown r s g.giver n w.0 (grows-to v hold choice b) old (b.agents.each g.giver w.0 w.1).owed in
        let there = hand-there s g.giver n k0.q w.0 timely b.bounds l k0.responds gives owed in
        let begun_before : begun_at (past_of r) k0.q ≡ Some claim =
        begun-old v hold choice k0.q b (omega (arith, early, is_first, k0.now.clock))
        ∙ ap (begun_at p) (sym (is_first ∙ k0.now.clock)) ∙ begun in
        let owe : OweBytes k0.q (bytes_now r line) v.bus.agents = λ a x push at found.
        let f = push-found k0.q x.buffers.pushes push found in
        (k.agents a x at).pushes f.0 push claim f.1 (ap (begun_at (past_of r)) f.2 ∙ begun_before)
        ∙ ap (bytes_now r) names in
        let found = owed-found k0.q (bytes_now r line) v.bus.agents g.giver w.0 owe w.1 there in
        moved
        ∙ ap (λ q. option_map_or (λ bytes. bytes) (bytes_owed q v.bus.agents) v.bus.moved) (own.1 ∙ k0.now.clock)
        ∙ ap (λ o. option_map_or (λ (bytes : List ℕ). bytes) o v.bus.moved) found

    from : (o : Outcome) → k0.now.is.end.outcome ≡ o
        → (step_fetched v).moved ≡ (bus_fetched v.bus (from_for k0.now.served o)).moved
    from o f = ap (λ x. (bus_fetched v.bus x).moved) (k0.now.source ∙ ap (from_for k0.now.served) f)

    by : (o : Outcome) → k0.now.is.end.outcome ≡ o → (step_fetched v).moved ≡ bytes_now v.run line
    by Granted f = memory (λ a t. giver-granted (past_of s) line t a k0.now.is.end f) (from Granted f)
    by Replied f = memory (λ a t. giver-replied (past_of s) line t a k0.now.is.end f) (from Replied f)
    by Handed f =
        agents (unfold does_take in rw f refl) (λ g. let no : Handed ≡ Replied = sym f ∙ g in cc) (from Handed f)
    by Written f =
        agents (unfold does_take in rw f refl) (λ g. let no : Written ≡ Replied = sym f ∙ g in cc) (from Written f)
    by Retried f = absurd (let no : ⊥ = (let g = rw f at k0.moves in cc) in no)
    by Deferred f = absurd (let no : ⊥ = (let g = rw f at k0.moves in cc) in no)
    by Failed f = absurd (let no : ⊥ = (let g = rw f at k0.moves in cc) in no)
    by Upgraded f = absurd (let no : ⊥ = (let g = rw f at k0.moves in cc) in no)
