-- The data on the bus and the memory of a bench after a clock.
use Rattle.fsb_bench_values.proofs.Words
use Words.{ℕ, ◌+◌, ◌<◌, ◌≤◌, ◌≡◌, Bool, true, false, not, ◌&&◌, ◌||◌, if◌then◌else◌, List, [], ◌∷◌, Option, Some, None}
use Words.{is_some, length, refl, sym, ap, ◌∙◌, inl, inr, arith, option_map_or, and_parts, cases_Bool, not-true}
use Words.{Awaited, awaited_by, awaited_by_grant, does_end_on, does_respond_on, chain_below, is_moved_below, Kind}
use Words.{Choice, KeepsBounds, Link, Entry, awaits-grant, clock-facts, events-may-happen, granted-await, taking-at}
use Words.{written-await, snooped_at, bytes_now, is_got, is_upgraded, makes_grant, Claim, Grant, SnoopEnd, Run, past_of}
use Words.{Timely, does_move, does_take, Outcome, Granted, Handed, Retried, Deferred, Written, Replied, Failed}
use Words.{Upgraded, Starting, BytesFrom, Ending, SnoopSettled, bench_stepped, step_answered, step_cancelled}
use Words.{step_decided, step_drive, step_ending, step_fetched, step_performed, step_run, step_snooped, step_started}
use Words.{answered_by, bus_answered, bus_cancelled, bus_ended, bus_snooped, bus_started, BenchView, BusView}
use Words.{next_clock_of, bus_fetched, bytes_source, IsBenchOf, timely-now, HasBytesOf}
use Rattle.fsb_coherent.specs.Fitting.{fits_getting, fits_kind, fits_upgrade, fits_write_back}
use Rattle.fsb_bench_values.proofs.Fetched.{moved-fetched, responded-fetched}
use Rattle.fsb_bench_values.proofs.RunsValues.{within}
use Rattle.fsb_bench_values.proofs.StillBytes.{hits-leave, others-leave}

one-of : {X : Type 0} (a b : X) → Some a ≡ Some b → a ≡ b
one-of a b e = cc

-- ---- what a clock leaves of the data on the bus and of memory, before its end

pub record SameBytes (bus other : BusView) : Type 0 where
  pub moved : bus.moved ≡ other.moved
  pub memory : (line : ℕ) → bus.memory line ≡ other.memory line

started-bytes : (bus : BusView) (clock : ℕ) (o : Option Starting)
    → SameBytes (option_map_or (bus_started bus clock) o bus) bus
started-bytes bus clock o = grind arith

cancelled-bytes : (bus : BusView) (o : Option Entry) → SameBytes (option_map_or (bus_cancelled bus) o bus) bus
cancelled-bytes bus o = grind arith

snooped-bytes : (bus : BusView) (o : Option SnoopSettled) → SameBytes (option_map_or (bus_snooped bus) o bus) bus
snooped-bytes bus o = grind arith

answered-bytes : (bus : BusView) (clock : ℕ) (o : Option Entry)
    → SameBytes (option_map_or (bus_answered bus clock) o bus) bus
answered-bytes bus clock o = grind arith

fetched-memory : (bus : BusView) (o : Option BytesFrom) (line : ℕ) → (bus_fetched bus o).memory line ≡ bus.memory line
fetched-memory bus o line = grind arith

-- before its end the bus has the data that were fetched, and the memory of before
pub before-end : (v : BenchView) (hold : Bool)
    → ((step_answered v hold).moved ≡ (step_fetched v).moved)
    × ((line : ℕ) → (step_answered v hold).memory line ≡ v.bus.memory line)
before-end v hold =
    let n = next_clock_of v in
    let a = started-bytes (step_performed v) n (step_decided v hold).starting in
    let c = cancelled-bytes (step_started v hold) (step_decided v hold).cancelled in
    let s = snooped-bytes (step_cancelled v hold) (step_decided v hold).snooped in
    let d = answered-bytes (step_snooped v hold) n (answered_by (step_snooped v hold) (step_drive v)) in (
      d.moved ∙ s.moved ∙ c.moved ∙ a.moved,
      λ line. d.memory line ∙ s.memory line ∙ c.memory line ∙ a.memory line
          ∙ fetched-memory v.bus (bytes_source v.bus (step_drive v)) line,
    )

ended-moved : (bus : BusView) (clock : ℕ) (o : Option Ending) → (option_map_or (bus_ended bus clock) o bus).moved
    ≡ bus.moved
ended-moved bus clock o = grind arith

-- and after the clock the data that were fetched
pub moved-stepped : (v : BenchView) (hold : Bool) (choice : Choice)
    → (bench_stepped v hold choice).bus.moved ≡ (step_fetched v).moved
moved-stepped v hold choice =
    ended-moved (step_answered v hold) (next_clock_of v) (step_ending v hold) ∙ (before-end v hold).0

-- ---- what moves

-- a line whose data are on the bus has a link
pub moved-linked : (r : Run) (line n : ℕ) → Timely r → KeepsBounds r.plan → n ≤ length r.trace
    → is_moved_below (past_of r) line n ≡ true
    → (link : Link) × (links : List Link) × (chain_below (past_of r) line n ≡ link ∷ links)
moved-linked r line n h bounds l moved = by (chain_below (past_of r) line n) refl
  where
    by : (chain : List Link) → chain_below (past_of r) line n ≡ chain
        → (link : Link) × (links : List Link) × (chain_below (past_of r) line n ≡ link ∷ links)
    by (link ∷ links) e = (link, links, e)
    by [] e =
        let tied = (events-may-happen r line n [] h bounds l).1 in
        let none = ap is_some (tied.valued.quiet (tied.tied.chain ∙ e)) in
        absurd (let no : false ≡ true = sym none ∙ tied.tied.moved ∙ moved in cc no)

-- so has one to which the clock's response brings data
pub linked-now : (r : Run) (line n : ℕ) → Timely r → KeepsBounds r.plan → n < length r.trace
    → (is_moved_below (past_of r) line n || does_respond_on (past_of r) line n) ≡ true
    → (link : Link) × (links : List Link) × (chain_below (past_of r) line n ≡ link ∷ links)
linked-now r line n h bounds l e = elim (cases_Bool (is_moved_below (past_of r) line n)) [
  | inl moved ↦ moved-linked r line n h bounds (omega arith) moved
  | inr unmoved ↦
      let k = (clock-facts r line n h bounds l).responds.oldest (rw unmoved at e) in
      (k.0, k.1, k.2)
]

-- the data on the bus behind the response
pub moves-fetched : (v : BenchView) (hold : Bool) (choice : Choice) (line : ℕ) → IsBenchOf v → HasBytesOf v
    → (is_moved_below (past_of (step_run v hold choice)) line (next_clock_of v)
    || does_respond_on (past_of (step_run v hold choice)) line (next_clock_of v)) ≡ true
    → (step_fetched v).moved ≡ bytes_now v.run line
moves-fetched v hold choice line b k e =
    let p = past_of (step_run v hold choice) in
    elim (cases_Bool (is_moved_below p line (next_clock_of v))) [
      | inl moved ↦ moved-fetched v hold choice line b k moved
      | inr unmoved ↦ responded-fetched v hold choice line b k (rw unmoved at e)
    ]

-- the data on the bus after the clock
pub moved-next : (v : BenchView) (hold : Bool) (choice : Choice) (line : ℕ) → IsBenchOf v → HasBytesOf v
    → is_moved_below (past_of (step_run v hold choice)) line (length (step_run v hold choice).trace) ≡ true
    → (bench_stepped v hold choice).bus.moved ≡ bytes_now (step_run v hold choice) line
moved-next v hold choice line b k e =
    let s = step_run v hold choice in
    let p = past_of s in
    let n = next_clock_of v in
    let size = within v hold choice b in
    let timely = timely-now v hold choice b in
    let there : is_moved_below p line (n + 1) ≡ true = ap (is_moved_below p line) (sym size) ∙ e in
    let facts = clock-facts s line n timely b.bounds (omega (arith, size)) in
    let parts = and_parts (is_moved_below p line n || does_respond_on p line n) (not (does_end_on p line n))
    (sym facts.ends.moved ∙ there) in
    let now = linked-now s line n timely b.bounds (omega (arith, size)) parts.0 in
    let after = moved-linked s line (n + 1) timely b.bounds (omega (arith, size)) there in
    moved-stepped v hold choice ∙ moves-fetched v hold choice line b k parts.0
    ∙ sym (hits-leave v hold choice line now.0 now.1 b now.2)
    ∙ sym (others-leave v hold choice line after.0 after.1 b (not-true (does_end_on p line n) parts.1) after.2)

-- ---- what ends

-- a request that gets its line without HITM# makes a grant
granted-granted : (kind : Kind) (outcome : Outcome) (won : Bool) (grant : Grant) → outcome ≡ Granted
    → fits_kind kind outcome ≡ true
    → (if makes_grant kind outcome || (is_upgraded outcome && won) then Some grant else None) ≡ Some grant
unfolding fits_kind fits_write_back makes_grant is_got is_upgraded
granted-granted kind outcome won grant h1 h2 = grind arith

-- a request with a claim is no reply
never-replied : (kind : Kind) (outcome : Outcome) → outcome ≡ Replied → fits_kind kind outcome ≡ true → ⊥
unfolding fits_kind fits_getting fits_upgrade fits_write_back
never-replied kind outcome h1 h2 = grind arith

moving-carries : (outcome : Outcome) → does_move outcome ≡ true → not (is_upgraded outcome) ≡ true
unfolding does_move is_upgraded
moving-carries outcome h1 = grind arith

-- where data move after a snoop end, their end is awaited
pub record AwaitsData (end : SnoopEnd) : Type 0 where
  pub awaited : Awaited
  pub awaits : awaited_by end ≡ Some awaited
  pub carried : awaited.carries ≡ true

carried-by : (end : SnoopEnd) (awaited : Awaited) (o : Option Grant) → end.grant ≡ o → does_move end.outcome ≡ true
    → awaited_by end ≡ Some awaited → awaited.carries ≡ true
carried-by end awaited (Some grant) f moves e =
    sym (granted-await end awaited grant f e).carried ∙ moving-carries end.outcome moves
carried-by end awaited None f moves e = sym (written-await end awaited f e).carried

pub awaits-data : (r : Run) (t : ℕ) (end : SnoopEnd) → Timely r → KeepsBounds r.plan → t < length r.trace
    → snooped_at (past_of r) t ≡ Some end → does_move end.outcome ≡ true
    → (end.claim ≡ None → (grant : Grant) × (end.grant ≡ Some grant)) → AwaitsData end
unfolding does_move does_take
awaits-data r t end h bounds l there moves reply = by-claim end.claim refl
  where
    from : (awaited : Awaited) → awaited_by end ≡ Some awaited → AwaitsData end
    from awaited e =
        record { awaited = awaited; awaits = e; carried = carried-by end awaited end.grant refl moves e }

    by : (claim : Claim) → end.claim ≡ Some claim → (o : Outcome) → end.outcome ≡ o → AwaitsData end
    by claim claims Granted e =
        let fits = ((clock-facts r claim.line t h bounds l).settles.settled end claim there claims refl).fits in
        let made = fits.granted ∙ granted-granted fits.kind end.outcome fits.won _ e
        (fits.fits (λ kind handed. let both = sym e ∙ handed in let no : ⊥ = cc in no)) in
        from _ (awaits-grant end _ made)
    by claim claims Handed e =
        let k = taking-at r claim.line t end claim h bounds l there claims refl (rw e refl) in
        from k.awaited k.awaits
    by claim claims Written e =
        let k = taking-at r claim.line t end claim h bounds l there claims refl (rw e refl) in
        from k.awaited k.awaits
    by claim claims Replied e =
        let fits = ((clock-facts r claim.line t h bounds l).settles.settled end claim there claims refl).fits in
        absurd (never-replied fits.kind end.outcome e
        (fits.fits (λ kind handed. let both = sym e ∙ handed in let no : ⊥ = cc in no)))
    by claim claims Retried e = absurd (let no : ⊥ = (let f = rw e at moves in cc) in no)
    by claim claims Deferred e = absurd (let no : ⊥ = (let f = rw e at moves in cc) in no)
    by claim claims Failed e = absurd (let no : ⊥ = (let f = rw e at moves in cc) in no)
    by claim claims Upgraded e = absurd (let no : ⊥ = (let f = rw e at moves in cc) in no)

    by-claim : (o : Option Claim) → end.claim ≡ o → AwaitsData end
    by-claim (Some claim) claims = by claim claims end.outcome refl
    by-claim None none = let g = reply none in from (awaited_by_grant end.outcome g.0) (awaits-grant end g.0 g.1)
