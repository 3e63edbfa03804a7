-- The end of a clock on a line for which an upgrade that was won is still awaited: the oldest link does not own, so
-- what completes with the end only loads.
use Rattle.fsb_bench_values.proofs.Words
use Words.{ℕ, zero, suc, ◌+◌, ◌<◌, ◌≡◌, Bool, true, false, not, ◌&&◌, ◌||◌, if◌then◌else◌, List, [], ◌∷◌, ◌++◌, Some}
use Words.{None, length, sym, ap, subst, ◌∙◌, inl, inr, arith, list_all, cases_lt, OwnRequest, Awaited, awaited_by}
use Words.{awaited_by_grant, events_before_snoop, entries_on, events_below, snoops_on, chain_below, link_for}
use Words.{links_left, first-events, links_new, snoop-step, Kind, MemoryLine, unheld, run, any_won, carries}
use Words.{has_late_upgrade, is_won, owns, Link, ordered_run, KeepsBounds, Reaches, EndsLine, answers-in-order}
use Words.{at-there, awaited-there, awaiting-loads, awaits-grant, carries-awaited, clock-facts, events-may-happen}
use Words.{link_of, links_at, one-end, snooped_at, begun_at, is_hit, is_upgraded, makes_grant, Claim, Grant, Past}
use Words.{SnoopEnd, Run, past_of, is_load, Timely, Outcome}
use Rattle.fsb_bench_values.proofs.OwedLines.{IsKeptFor}

one-of : {X : Type 0} (a b : X) → Some a ≡ Some b → a ≡ b
one-of a b e = cc

-- ---- an upgrade that was won

granted-is : (kind : Kind) (outcome : Outcome) (won : Bool) (made grant : Grant)
    → (if makes_grant kind outcome || (is_upgraded outcome && won) then Some made else None) ≡ Some grant
    → made ≡ grant
granted-is kind outcome won made grant h1 = grind arith

-- the link of an upgrade that was won
record WonLink (p : Past) (line t : ℕ) (end : SnoopEnd) : Type 0 where
  awaited : Awaited
  awaits : awaited_by end ≡ Some awaited
  names : awaited.line ≡ line
  won : is_won (link_of p line t end awaited) ≡ true

won-link : (r : Run) (line t : ℕ) (end : SnoopEnd) (grant : Grant) (claim : Claim) → Timely r → KeepsBounds r.plan
    → t < length r.trace → snooped_at (past_of r) t ≡ Some end → end.claim ≡ Some claim → claim.line ≡ line
    → end.grant ≡ Some grant → is_upgraded end.outcome ≡ true → WonLink (past_of r) line t end
unfolding awaited_by_grant
won-link r line t end grant claim h bounds l there claims names granted upgraded =
    let p : Past = past_of r in
    let fits = ((clock-facts r line t h bounds l).settles.settled end claim there claims names).fits in
    let same = granted-is fits.kind end.outcome fits.won _ grant (sym fits.granted ∙ granted) in
    let on : grant.line ≡ line = ap (λ (x : Grant). x.line) (sym same) in
    let awaited : Awaited = awaited_by_grant end.outcome grant in
    let awaits : awaited_by end ≡ Some awaited = awaits-grant end grant granted in
    let fit : carries (link_of p awaited.line t end awaited) ≡ awaited.carries =
    (carries-awaited r t end awaited h there awaits).fits in
    let quiet : not (is_won (link_of p line t end awaited)) ≡ false = grind arith in
    record { awaited = awaited; awaits = awaits; names = on; won = off (is_won (link_of p line t end awaited)) quiet }
  where
    off : (b : Bool) → not b ≡ false → b ≡ true
    off b h1 = grind arith

-- ---- among the links

won-before : (xs ys : List Link) → any_won xs ≡ true → any_won (xs ++ ys) ≡ true
won-before [] ys e = absurd (let no : ⊥ = cc in no)
won-before (x ∷ xs) ys e = either (is_won x) (any_won xs) (any_won (xs ++ ys)) e (won-before xs ys)
  where
    either : (a b c : Bool) → (a || b) ≡ true → (b ≡ true → c ≡ true) → (a || c) ≡ true
    either a b c h1 h2 = grind arith

won-behind : (xs ys : List Link) → any_won ys ≡ true → any_won (xs ++ ys) ≡ true
won-behind [] ys e = e
won-behind (x ∷ xs) ys e = rw (won-behind xs ys e) (either (is_won x))
  where
    either : (b : Bool) → (b || true) ≡ true
    either b = grind arith

won-left : (p : Past) (line m t b : ℕ) (link : Link) → links_at p line m t ≡ link ∷ [] → is_won link ≡ true → t < b
    → any_won (links_left p line m b) ≡ true
unfolding links_left
won-left p line m t zero link here won l = absurd (omega arith)
won-left p line m t (suc b) link here won l =
    grind (arith, won-before, won-behind, won-left p line m t b link here won)

won-new : (p : Past) (line n : ℕ) (end : SnoopEnd) (k : WonLink p line n end) → snooped_at p n ≡ Some end
    → any_won (links_new p line n) ≡ true
unfolding link_for
won-new p line n end k there = grind arith

-- a link before one that was won does not own
late-unowned : (link : Link) (links : List Link) → has_late_upgrade (link ∷ links) ≡ false → any_won links ≡ true
    → owns link ≡ false
late-unowned link links none won = grind arith

-- ---- the end of a clock

-- the links at a clock behind its snoop end: none that was won comes after one that owns
ordered-behind : (r : Run) (line n : ℕ) → Timely r → KeepsBounds r.plan → n < length r.trace
    → has_late_upgrade (chain_below (past_of r) line n ++ links_new (past_of r) line n) ≡ false
ordered-behind r line n h bounds l =
    let p : Past = past_of r in
    let facts = clock-facts r line n h bounds l in
    let tied = (events-may-happen r line n [] h bounds (omega arith)).1 in
    let x : MemoryLine = run (unheld []) (events_below p line n) in
    let before = events_before_snoop p line n in
    let first = first-events p line n x facts tied.valued tied.tied in
    let ordered = ordered_run x before tied.ordered first.0 in
    let last = snoop-step p line n (run x before) facts ordered first.1 in
    let behind = ordered_run (run x before) (snoops_on p line n) ordered last.0 in
    ap has_late_upgrade (sym last.1.chain) ∙ behind.no_late_upgrade

-- an upgrade that was won by the clock, and that has not ended behind it, is among the links behind the oldest one
won-rest : (r : Run) (line n : ℕ) (out : OwnRequest) (claim : Claim) → Reaches r (n + 1) → (k : IsKeptFor r (n + 1) out)
    → begun_at (past_of r) out.number ≡ Some claim → claim.line ≡ line
    → any_won (links_left (past_of r) line (n + 1) n ++ links_new (past_of r) line n) ≡ true
won-rest r line n out claim h k begun names =
    let p : Past = past_of r in
    let long = h.long in
    let low : k.at < n + 1 = k.below in
    let within : k.at < length r.trace = omega (arith, low, long) in
    let claims : k.end.claim ≡ Some claim =
    (clock-facts r line k.at h.timely h.bounds within).settles.claimed k.end k.there
    ∙ ap (begun_at p) k.first ∙ begun in
    let w = won-link r line k.at k.end k.grant claim h.timely h.bounds within k.there claims names k.granted
    k.upgraded in
    elim (cases_lt k.at n) [
      | inl less ↦
          won-before (links_left p line (n + 1) n) (links_new p line n)
          (won-left p line (n + 1) k.at n (link_of p line k.at k.end w.awaited)
          (at-there p line (n + 1) k.at k.end w.awaited k.there k.unended w.awaits w.names) w.won less)
      | inr more ↦
          let same : k.at ≡ n = omega (arith, low, more) in
          won-behind (links_left p line (n + 1) n) (links_new p line n)
          (won-new p line n k.end (subst (λ t. WonLink p line t k.end) same w)
          (ap (snooped_at p) (sym same) ∙ k.there))
    ]

-- so the accesses of the clock on the line, but for the hits, load
pub kept-loads : (r : Run) (line n : ℕ) (out : OwnRequest) (claim : Claim) → Reaches r (n + 1) → EndsLine r line n
    → IsKeptFor r (n + 1) out → begun_at (past_of r) out.number ≡ Some claim → claim.line ≡ line
    → list_all (λ done. is_hit (past_of r) done.agent n || is_load done.access) (entries_on (past_of r) line n) ≡ true
kept-loads r line n out claim h x k begun names =
    let p : Past = past_of r in
    let long = h.long in
    let l : n < length r.trace = omega (arith, long) in
    let below = x.below in
    let facts = clock-facts r line n h.timely h.bounds l in
    let at = awaited-there p (length r.trace) n x.at x.end (answers-in-order r h.timely) below x.tied.there
    ∙ x.awaits in
    let oldest = facts.ends.oldest x.end.first x.awaited x.alone at x.names in
    let rest = links_left p line (n + 1) n in
    let late : has_late_upgrade (oldest.0 ∷ (rest ++ links_new p line n)) ≡ false = grind (arith, ordered-behind) in
    let unowned = late-unowned oldest.0 (rest ++ links_new p line n) late
    (won-rest r line n out claim h k begun names) in
    awaiting-loads r line n oldest.0 rest
    (one-end r line n x.end.first x.awaited h.timely l x.alone at x.names) oldest.1 unowned
