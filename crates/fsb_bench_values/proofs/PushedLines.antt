-- The lines whose bytes an agent has for others: each has a link, and no other request's end is awaited on it.
use Rattle.fsb_bench_values.proofs.Words
use Words.{ℕ, zero, suc, ◌+◌, ◌<◌, ◌≤◌, ◌≡◌, ◌⊎◌, Bool, true, false, List, [], ◌∷◌, ◌++◌, Option, Some, None, length}
use Words.{nat_eq, refl, sym, ap, subst, ◌∙◌, inl, inr, arith, append-nil, option_and_then, option_map, option_map_or}
use Words.{slice_get_past, both_ways, cases_Bool, cases_eq, cases_lt, eq-eqb, eqb-true, false_from_ne_true, any_where}
use Words.{from_clock, last_where, is_at, is_some_and, any_where-at, any_where-found, any_where-off, is_at-from}
use Words.{claim_given_at, given_since, gives_line_at, is_given_below, is_promised, is_pushed, promise_told, is_awaited}
use Words.{dirty-unpromised, earlier-ended, given, gives-by, written-kind, Awaited, awaited_by, purpose_of}
use Words.{responded_in, events_before_snoop, does_end_on, events_below, chain_below, is_responded_below, link_for}
use Words.{link_left, links_left, purpose_at, dirty-to, first-events, KeepsBounds, some-and, Link, Purpose, MemoryLine}
use Words.{unheld, run, is_linked, newest, owns, is_modified, kind_owns, suits, modified_is_sole, ordered_run, Kind}
use Words.{Reaches, AnswersInOrder, EndsLine, answers-in-order, at-there, begun-want, clock-facts, ended-later}
use Words.{ended-parts, ends-line, ends-on, events-may-happen, grant-first, granted-await, granted-parts, link_of}
use Words.{links_at, listed-alone, not-so, taking-at, unended-at-end, written-await, begun_at, grant_at, is_ended}
use Words.{is_granted, latest_grant, snooped_at, is_dirty, Claim, Grant, Past, SnoopEnd, Run, past_of, Timely}
use Words.{last_where-found, last_where-from, length-moments, tied-snoop, snoop_end_of-clock, does_take, Handed}
use Words.{Written}
use Rattle.fsb_line.specs.declared.purpose.Purpose.TheVariants as purposes
use Rattle.fsb_encode.specs.declared.request.Kind.TheVariants as kinds
use Rattle.fsb_bench_values.proofs.QuietLines.{sole-linked}

one-of : {X : Type 0} (a b : X) → Some a ≡ Some b → a ≡ b
one-of a b e = cc

snoop-within : (r : Run) (t : ℕ) (s : SnoopEnd) → snooped_at (past_of r) t ≡ Some s → t < length r.trace
snoop-within r t s there =
    let tied = tied-snoop r t s there in
    (snoop_end_of-clock r.trace tied.0 t tied.1.reached).within

-- ---- links

-- a link that a snoop end left is one of the chain
left-there : (p : Past) (line m t b : ℕ) (link : Link) → links_at p line m t ≡ link ∷ [] → t < b
    → (first : Link) × (links : List Link) × (links_left p line m b ≡ first ∷ links)
unfolding links_left
left-there p line m t zero link here l = absurd (omega arith)
left-there p line m t (suc b) link here l = elim (cases_lt t b) [
  | inl less ↦
      let before = left-there p line m t b link here less in
      (before.0, before.1 ++ links_at p line m b, ap (λ xs. xs ++ links_at p line m b) before.2)
  | inr more ↦
      let same : t ≡ b = omega (arith, l, more) in
      let there : links_at p line m b ≡ link ∷ [] = ap (links_at p line m) (sym same) ∙ here in
      behind (links_left p line m b) there
]
  where
    behind : (xs : List Link) → links_at p line m b ≡ link ∷ []
        → (first : Link) × (links : List Link) × (xs ++ links_at p line m b ≡ first ∷ links)
    behind [] e = (link, [], e)
    behind (x ∷ xs) e = (x, xs ++ links_at p line m b, refl)

-- so an end that is awaited on a line and has not come leaves it a link
pub awaited-link : (p : Past) (line m t : ℕ) (s : SnoopEnd) (awaited : Awaited) → t < m → snooped_at p t ≡ Some s
    → is_ended p m s.first ≡ false → awaited_by s ≡ Some awaited → awaited.line ≡ line
    → (first : Link) × (links : List Link) × (chain_below p line m ≡ first ∷ links)
unfolding chain_below
awaited-link p line m t s awaited l there unended awaits names =
    left-there p line m t m (link_of p line t s awaited) (at-there p line m t s awaited there unended awaits names) l

-- the snoop end of the newest link
record IsNewest (p : Past) (line m b : ℕ) (link : Link) : Type 0 where
  at : ℕ
  below : at < b
  end : SnoopEnd
  there : snooped_at p at ≡ Some end
  unended : is_ended p m end.first ≡ false
  awaited : Awaited
  awaits : awaited_by end ≡ Some awaited
  names : awaited.line ≡ line
  is : link ≡ link_of p line at end awaited
  later : (u : ℕ) → at < u → u < b → links_at p line m u ≡ []

newest-behind : (xs : List Link) (link : Link) → newest (xs ++ link ∷ []) ≡ Some link
newest-behind [] link = refl
newest-behind (x ∷ []) link = refl
newest-behind (x ∷ y ∷ xs) link = newest-behind (y ∷ xs) link

-- a snoop end leaves no link, or this one
record LeavesLink (p : Past) (line m t : ℕ) : Type 0 where
  end : SnoopEnd
  there : snooped_at p t ≡ Some end
  unended : is_ended p m end.first ≡ false
  awaited : Awaited
  awaits : awaited_by end ≡ Some awaited
  names : awaited.line ≡ line
  left : links_at p line m t ≡ link_of p line t end awaited ∷ []

leaves : (p : Past) (line m t : ℕ) → (links_at p line m t ≡ []) ⊎ LeavesLink p line m t
unfolding link_left
leaves p line m t = by (snooped_at p t) refl
  where
    awaiting : (s : SnoopEnd) → snooped_at p t ≡ Some s → is_ended p m s.first ≡ false → (o : Option Awaited)
        → awaited_by s ≡ o → (links_at p line m t ≡ []) ⊎ LeavesLink p line m t
    awaiting s e unended None f = inl (unfold link_left in rw (e, unended, f) refl)
    awaiting s e unended (Some awaited) f = elim (cases_Bool (nat_eq awaited.line line)) [
      | inr other ↦ inl (unfold link_left link_for in rw (e, unended, f, other) refl)
      | inl here ↦
          let names = eqb-true awaited.line line here in
          inr (record {
            end = s;
            there = e;
            unended = unended;
            awaited = awaited;
            awaits = f;
            names = names;
            left = at-there p line m t s awaited e unended f names;
          })
    ]

    by : (o : Option SnoopEnd) → snooped_at p t ≡ o
        → (links_at p line m t ≡ []) ⊎ LeavesLink p line m t
    by None e = inl (ap (λ o. option_map_or (link_left p line m t) o []) e)
    by (Some s) e = elim (cases_Bool (is_ended p m s.first)) [
      | inl ended ↦ inl (unfold link_left in rw (e, ended) refl)
      | inr unended ↦ awaiting s e unended (awaited_by s) refl
    ]

newest-says : (p : Past) (line m b : ℕ) (link : Link) → newest (links_left p line m b) ≡ Some link
    → IsNewest p line m b link
unfolding links_left
newest-says p line m zero link e = absurd (let no : ⊥ = cc in no)
newest-says p line m (suc b) link e = grind (arith, leaves, append-nil, newest-behind, newest-says p line m b link)

-- ---- the giver of a line that has a link

-- a snoop end by which a line is written back does not ask to own it
written-owns : (s : SnoopEnd) (kind : Kind) → s.kind ≡ Some kind → kind ≡ kinds.WriteBack → kind_owns (purpose_at s)
    ≡ false
unfolding purpose_at purpose_of
written-owns s kind known e = grind arith

-- who gives a line that has a link below the snoop end hands it over, being dirty on it
gives-linked : (r : Run) (a line u : ℕ) (claim : Claim) (first : Link) (links : List Link) → Timely r
    → KeepsBounds r.plan
    → u < length r.trace → claim_given_at (past_of r) a u ≡ Some claim → claim.line ≡ line
    → chain_below (past_of r) line u ≡ first ∷ links → is_dirty (past_of r) a line u ≡ true
gives-linked r a line u claim first links h bounds l gives names chain =
    let p : Past = past_of r in
    let g = given r a u claim h bounds l gives in
    let s : SnoopEnd = g.at.end in
    let facts = clock-facts r line u h bounds l in
    let settled = facts.settles.settled s claim g.at.there g.at.claimed names in
    elim (gives-by p a u s claim g.at.gives).way [
      | inl handed ↦
          let dirty : is_dirty p a claim.line u ≡ true = sym (dirty-to p u facts.goes_on a claim.line) ∙ handed.2 in
          subst (λ x. is_dirty p a x u ≡ true) names dirty
      | inr written ↦
          let fits = settled.fits in
          let x : MemoryLine = run (unheld []) (events_below p line u) in
          let tied = (events-may-happen r line u [] h bounds (omega arith)).1 in
          let kind = written-kind fits.kind s.outcome written.0
          (fits.fits (λ write handed. let both = sym written.0 ∙ handed in let no : ⊥ = cc in no)) in
          let purpose : settled.purpose ≡ purposes.WriteBack =
          written-purpose fits.kind settled.purpose kind settled.known in
          let ask = tied.tied.opened fits.agent _ settled.opened in
          let modified : is_modified (x.state fits.agent) ≡ true =
          subst (λ k. suits k (x.state fits.agent) ≡ true) purpose (tied.ordered.suited fits.agent _ ask) in
          let sole = modified_is_sole (x.state fits.agent) modified in
          let linked = sole-linked x fits.agent first links tied.ordered sole (tied.tied.chain ∙ chain) in
          let apart = tied.ordered.apart fits.agent _ ask in
          absurd (both_ways (is_linked fits.agent (first ∷ links))
          (sym (ap (is_linked fits.agent) (tied.tied.chain ∙ chain)) ∙ apart) linked)
    ]
  where
    written-purpose : (kind : Kind) (purpose : Purpose) → kind ≡ kinds.WriteBack → purpose_of kind ≡ Some purpose
        → purpose ≡ purposes.WriteBack
    written-purpose kind purpose e f =
        unfold purpose_of in one-of purpose purposes.WriteBack (sym f ∙ ap purpose_of e)

-- such an agent has the newest link of the line, and it owns
owns-newest : (r : Run) (a line u : ℕ) (first : Link) (links : List Link) → Timely r → KeepsBounds r.plan
    → u < length r.trace → is_dirty (past_of r) a line u ≡ true → chain_below (past_of r) line u ≡ first ∷ links
    → (link : Link) × (newest (chain_below (past_of r) line u) ≡ Some link) × (link.agent ≡ a) × (owns link ≡ true)
owns-newest r a line u first links h bounds l dirty chain =
    let p : Past = past_of r in
    let x : MemoryLine = run (unheld []) (events_below p line u) in
    let tied = (events-may-happen r line u [] h bounds (omega arith)).1 in
    let facts = clock-facts r line u h bounds l in
    let before = first-events p line u x facts tied.valued tied.tied in
    let y : MemoryLine = run x (events_before_snoop p line u) in
    let ordered = ordered_run x (events_before_snoop p line u) tied.ordered before.0 in
    let modified : is_modified (y.state a) ≡ true = before.1.modified a ∙ dirty in
    let there = newest-some first links in
    let newest_is : newest y.chain ≡ Some there.0 = ap newest (before.1.chain ∙ chain) ∙ there.1 in (
      there.0,
      ap newest chain ∙ there.1,
      ordered.sole_is_newest a there.0 (modified_is_sole (y.state a) modified) newest_is,
      ordered.modified_owns a there.0 modified newest_is,
    )
  where
    newest-some : (link : Link) (links : List Link) → (last : Link) × (newest (link ∷ links) ≡ Some last)
    newest-some link [] = (link, refl)
    newest-some link (next ∷ links) = newest-some next links

-- the latest grant of a line to an agent, and that its end has not come at n
record Awaits (r : Run) (a line u n : ℕ) : Type 0 where
  at : ℕ
  below : at < u
  granted : is_granted (past_of r) a line at ≡ true
  end : SnoopEnd
  there : snooped_at (past_of r) at ≡ Some end
  grant : Grant
  made : end.grant ≡ Some grant
  unended : is_ended (past_of r) n end.first ≡ false

-- a request whose end has not come where another one's does that had its snoop end before, or that is that one
late-unended : (r : Run) (line n t : ℕ) (s : SnoopEnd) → Timely r → n < length r.trace → (x : EndsLine r line n)
    → snooped_at (past_of r) t ≡ Some s → x.at ≤ t → is_ended (past_of r) n s.first ≡ false
late-unended r line n t s h l x there from =
    let p : Past = past_of r in
    let m : ℕ = length r.trace in
    let a = answers-in-order r h in
    let ends = listed-alone p n x.end.first x.alone in
    elim (cases_eq x.at t) [
      | inl same ↦
          let one = one-of x.end s (sym x.tied.there ∙ ap (snooped_at p) same ∙ there) in
          subst (λ (y : SnoopEnd). is_ended p n y.first ≡ false) one (unended-at-end p m n x.end.first a l ends)
      | inr other ↦
          not-so (is_ended p n s.first) (λ ended.
          let e = ended-parts p n s.first ended in
          let low : e.0 < n = e.1 in
          let k = a.responded e.0 s.first (omega arith) e.2 in
          let upto : k.at ≤ e.0 = k.before in
          let before = a.in_turn x.at t k.at x.end s x.tied.there there (omega (arith, other, from))
          (omega arith) k.there in
          both_ways (is_ended p n x.end.first) (unended-at-end p m n x.end.first a l ends)
          (ended-later p k.at n x.end.first (omega arith) before))
    ]

-- the giver of a line on which an end is to come at n that is older, awaits that line itself up to n
awaits-still : (r : Run) (a line u n : ℕ) → Timely r → KeepsBounds r.plan → n < length r.trace → (x : EndsLine r line n)
    → x.at < u → u ≤ n → is_dirty (past_of r) a line u ≡ true → Awaits r a line u n
unfolding links_left chain_below
awaits-still r a line u n h bounds l x above upto dirty =
    let p : Past = past_of r in
    let m : ℕ = length r.trace in
    let order = answers-in-order r h in
    let ends = listed-alone p n x.end.first x.alone in
    let early : is_ended p u x.end.first ≡ false = not-so (is_ended p u x.end.first) (λ t.
    both_ways (is_ended p n x.end.first) (unended-at-end p m n x.end.first order l ends)
    (ended-later p u n x.end.first upto t)) in
    let link = awaited-link p line u x.at x.end x.awaited above x.tied.there early x.awaits x.names in
    let own = owns-newest r a line u link.0 link.1 h bounds (omega arith) dirty link.2 in
    let k = newest-says p line u u own.0 own.1 in
    let below : k.at < u = k.below in
    let from : x.at ≤ k.at = elim (cases_lt k.at x.at) [
      | inr more ↦ more
      | inl less ↦
          let none = k.later x.at less above in
          let there = at-there p line u x.at x.end x.awaited x.tied.there early x.awaits x.names in
          absurd (let no : ⊥ = (let both = sym none ∙ there in cc) in no)
    ] in
    let agent : k.awaited.agent ≡ a = sym (ap (λ (y : Link). y.agent) k.is) ∙ own.2 in
    let grant = granted-by k.at k.end k.awaited k.end.grant refl k.there k.awaits agent k.names
    (sym (ap (λ (y : Link). owns y) k.is) ∙ own.3) in
    record {
      at = k.at;
      below = below;
      granted = grant.1;
      end = k.end;
      there = k.there;
      grant = grant.0;
      made = grant.2;
      unended = late-unended r line n k.at k.end h l x k.there from;
    }
  where
    granted-by : (t : ℕ) (s : SnoopEnd) (awaited : Awaited) (o : Option Grant) → s.grant ≡ o
        → snooped_at (past_of r) t ≡ Some s → awaited_by s ≡ Some awaited → awaited.agent ≡ a → awaited.line ≡ line
        → kind_owns (purpose_at s) ≡ true
        → (grant : Grant) × (is_granted (past_of r) a line t ≡ true) × (s.grant ≡ Some grant)
    granted-by t s awaited (Some grant) f there awaits agent names owning =
        let by = granted-await s awaited grant f awaits in (
          by.grant,
          (unfold is_granted grant_at is_some_and in
              rw (
                there,
                by.granted,
                eq-eqb by.grant.agent a (by.agent ∙ agent),
                eq-eqb by.grant.line line
                    (by.names ∙ names),
              )
              refl),
          by.granted,
        )
    granted-by t s awaited None f there awaits agent names owning =
        let by = written-await s awaited f awaits in
        let within = snoop-within r t s there in
        let settled = (clock-facts r by.claim.line t h bounds within).settles.settled s by.claim there by.claimed
        refl in
        let kind = written-kind settled.fits.kind s.outcome by.written
        (settled.fits.fits (λ write handed. let both = sym by.written ∙ handed in let no : ⊥ = cc in no)) in
        absurd (both_ways (kind_owns (purpose_at s)) (written-owns s settled.fits.kind settled.fits.known kind) owning)

-- it is granted no line since
ungranted-since : (r : Run) (a line u n v : ℕ) → Timely r → KeepsBounds r.plan → n < length r.trace
    → (w : Awaits r a line u n) → w.at < v → v ≤ n → is_granted (past_of r) a line v ≡ false
ungranted-since r a line u n v h bounds l w above upto =
    let p : Past = past_of r in
    let g = granted-parts p a line w.at w.granted in
    let same = one-of g.0 w.end (sym g.2 ∙ w.there) in
    let grant = one-of g.1 w.grant (sym g.3 ∙ ap (λ (x : SnoopEnd). x.grant) same ∙ w.made) in
    let agent : w.grant.agent ≡ a = ap (λ (x : Grant). x.agent) (sym grant) ∙ g.4 in
    let names : w.grant.line ≡ line = ap (λ (x : Grant). x.line) (sym grant) ∙ g.5 in
    let there = w.there in
    false_from_ne_true (is_granted p a line v) (λ t.
    let reaches : Reaches r (v + 1) = record { timely = h; bounds = bounds; long = omega arith } in
    let ended = earlier-ended r a line w.at v w.end w.grant reaches above t w.there w.made agent names in
    both_ways (is_ended p n w.end.first) w.unended (ended-later p v n w.end.first upto ended))

grant-made : (p : Past) (t : ℕ) (end : SnoopEnd) (grant : Grant) → snooped_at p t ≡ Some end → end.grant ≡ Some grant
    → grant_at p t ≡ Some grant
unfolding grant_at
grant-made p t end grant there made = ap (option_and_then (λ (s : SnoopEnd). s.grant)) there ∙ made

awaits-told : (p : Past) (a line m c t : ℕ) (grant : Grant) → last_where (is_granted p a line) m ≡ Some t
    → grant_at p t ≡ Some grant → is_ended p c grant.first ≡ false → is_awaited p a line m c ≡ true
unfolding is_awaited latest_grant is_some_and
awaits-told p a line m c t grant late made unended = grind arith

-- so it awaits the line
awaited-at : (r : Run) (a line u n m c : ℕ) → Timely r → KeepsBounds r.plan → n < length r.trace
    → (w : Awaits r a line u n) → w.at < m → m ≤ n + 1 → c ≤ n → is_awaited (past_of r) a line m c ≡ true
awaited-at r a line u n m c h bounds l w above upto low =
    let p : Past = past_of r in
    let from = last_where-from (is_granted p a line) m w.at above w.granted in
    let found = last_where-found (is_granted p a line) m from.0 from.1 in
    let last : from.0 ≡ w.at = elim (cases_lt w.at from.0) [
      | inr more ↦ let least : w.at ≤ from.0 = from.2 in omega (arith, more, least)
      | inl less ↦
          let below : from.0 < m = found.0 in
          absurd (both_ways (is_granted p a line from.0)
          (ungranted-since r a line u n from.0 h bounds l w less (omega arith)) found.1)
    ] in
    let below = w.below in
    let first = grant-first r a line w.at w.end w.grant (snoop-within r w.at w.end w.there) w.there w.made w.granted in
    let unended : is_ended p c w.grant.first ≡ false = grind (arith, ended-later) in
    let late : last_where (is_granted p a line) m ≡ Some w.at = from.1 ∙ ap Some last in
    awaits-told p a line m c w.at w.grant late (grant-made p w.at w.end w.grant w.there w.made) unended

-- what it gave the line for last is promised: with no grant since
promised : (p : Past) (a line m c t : ℕ) (claim : Claim) → is_awaited p a line m c ≡ true
    → last_where (gives_line_at p a line) m ≡ Some t → claim_given_at p a t ≡ Some claim
    → any_where (from_clock (t + 1) (is_granted p a line)) m ≡ false → promise_told p a line m c ≡ Some claim.first
unfolding promise_told given_since
promised p a line m c t claim awaited last given_now since =
    rw awaited (ap (option_and_then (given_since p a line m)) last
    ∙ (unfold given_since in rw since (ap (option_map (λ (x : Claim). x.first)) given_now)))

none-since : (test : ℕ → Bool) (t m : ℕ) → ((v : ℕ) → t < v → v < m → test v ≡ false)
    → any_where (from_clock (t + 1) test) m ≡ false
unfolding from_clock
none-since test t m none = grind (arith, any_where-off)

gives-line : (p : Past) (a line t : ℕ) (claim : Claim) → claim_given_at p a t ≡ Some claim → claim.line ≡ line
    → gives_line_at p a line t ≡ true
unfolding gives_line_at is_some_and
gives-line p a line t claim gives names = grind arith

gives-claim : (p : Past) (a line t : ℕ) → gives_line_at p a line t ≡ true
    → (claim : Claim) × (claim_given_at p a t ≡ Some claim) × (claim.line ≡ line)
unfolding gives_line_at
gives-claim p a line t e = grind (arith, some-and)

-- the agent gives the line for a request at t behind a snoop end whose end on the line is to come at n: it is promised
-- its bytes at n
pub promised-at-end : (r : Run) (a line n t : ℕ) (claim : Claim) → Timely r → KeepsBounds r.plan → n < length r.trace
    → (x : EndsLine r line n) → x.at < t → t ≤ n → claim_given_at (past_of r) a t ≡ Some claim → claim.line ≡ line
    → promise_told (past_of r) a line (n + 1) n ≡ Some claim.first
promised-at-end r a line n t claim h bounds l x above upto gives names =
    let p : Past = past_of r in
    let w = awaits-still r a line t n h bounds l x above upto (dirty-then t claim gives names above upto) in
    let before = w.below in
    let from = last_where-from (gives_line_at p a line) (n + 1) t (omega arith)
    (gives-line p a line t claim gives names) in
    let found = last_where-found (gives_line_at p a line) (n + 1) from.0 from.1 in
    let low : from.0 < n + 1 = found.0 in
    let last : from.0 ≡ t = elim (cases_lt t from.0) [
      | inr more ↦ let least : t ≤ from.0 = from.2 in omega (arith, more, least)
      | inl less ↦ absurd (no-later t claim gives names above w from.0 less (omega arith) found.1)
    ] in
    promised p a line (n + 1) n t claim (awaited-at r a line t n (n + 1) n h bounds l w (omega arith) (omega arith)
    (omega arith))
    (from.1 ∙ ap Some last) gives
    (none-since (is_granted p a line) t (n + 1) (λ v m k. ungranted-since r a line t n v h bounds l w (omega arith)
    (omega arith)))
  where
    order : AnswersInOrder (past_of r) (length r.trace)
    order = answers-in-order r h

    unended-at : (u : ℕ) → u ≤ n → is_ended (past_of r) u x.end.first ≡ false
    unended-at u low = not-so (is_ended (past_of r) u x.end.first) (λ e.
        both_ways (is_ended (past_of r) n x.end.first)
        (unended-at-end (past_of r) (length r.trace) n x.end.first order l
        (listed-alone (past_of r) n x.end.first x.alone))
        (ended-later (past_of r) u n x.end.first low e))

    dirty-then : (u : ℕ) (c : Claim) → claim_given_at (past_of r) a u ≡ Some c → c.line ≡ line → x.at < u → u ≤ n
        → is_dirty (past_of r) a line u ≡ true
    dirty-then u c given_then named from low =
        let link = awaited-link (past_of r) line u x.at x.end x.awaited from x.tied.there
        (unended-at u low) x.awaits x.names in
        gives-linked r a line u c link.0 link.1 h bounds (omega arith) given_then named link.2

    no-later : (t : ℕ) (claim : Claim) → claim_given_at (past_of r) a t ≡ Some claim → claim.line ≡ line → x.at < t
        → (w : Awaits r a line t n) → (u : ℕ) → t < u → u ≤ n → gives_line_at (past_of r) a line u ≡ true → ⊥
    no-later t claim gives names above w u later low e =
        let p : Past = past_of r in
        let c = gives-claim p a line u e in
        let dirty = dirty-then u c.0 c.1 c.2 (omega arith) low in
        let none = dirty-unpromised r a line u h bounds (omega arith) dirty in
        let before = w.below in
        let awaited = awaited-at r a line t n u u h bounds l w (omega arith) (omega arith) low in
        let from = last_where-from (gives_line_at p a line) u t later (gives-line p a line t claim gives names) in
        let found = last_where-found (gives_line_at p a line) u from.0 from.1 in
        let least : t ≤ from.0 = from.2 in
        let under : from.0 < u = found.0 in
        let d = gives-claim p a line from.0 found.1 in
        let told = promised p a line u u from.0 d.0 awaited from.1 d.1
        (none-since (is_granted p a line) from.0 u (λ v m k. ungranted-since r a line t n v h bounds l w (omega arith)
        (omega arith))) in
        let no : ⊥ = (let both = sym none ∙ told in cc) in no

-- ---- what an agent has for others

-- a request whose bytes an agent gives by a snoop end below m
pub record IsPushedFor (r : Run) (a m : ℕ) (claim : Claim) : Type 0 where
  pub at : ℕ
  pub below : at < m
  pub given_then : claim_given_at (past_of r) a at ≡ Some claim
  pub end : SnoopEnd
  pub there : snooped_at (past_of r) at ≡ Some end
  pub claims : end.claim ≡ Some claim
  pub first : claim.first ≡ end.first
  pub takes : does_take end.outcome ≡ true

given-parts : (p : Past) (a n q : ℕ) → is_given_below p a n q ≡ true
    → (t : ℕ) × (t < n) × (claim : Claim) × (claim_given_at p a t ≡ Some claim) × (claim.first ≡ q)
unfolding is_given_below
given-parts p a n q e = grind (arith, any_where-found, some-and)

pub pushed-parts : (p : Past) (a n r c q : ℕ) → is_pushed p a n r c q ≡ true
    → (is_given_below p a n q ≡ true) × (is_responded_below p r q ≡ false) × (is_promised p a n c q ≡ false)
unfolding is_pushed
pushed-parts p a n r c q e = grind arith

-- whose bytes it has
pub pushed-for : (r : Run) (a m s c q : ℕ) (claim : Claim) → Timely r → KeepsBounds r.plan → m ≤ length r.trace
    → is_pushed (past_of r) a m s c q ≡ true → begun_at (past_of r) q ≡ Some claim → IsPushedFor r a m claim
pushed-for r a m s c q claim h bounds l pushed begun =
    let p : Past = past_of r in
    let parts = pushed-parts p a m s c q pushed in
    let t = given-parts p a m q parts.0 in
    let low : t.0 < m = t.1 in
    let k = given r a t.0 t.2 h bounds (omega arith) t.3 in
    let same : t.2 ≡ claim = one-of t.2 claim (sym k.begun ∙ ap (begun_at p) t.4 ∙ begun) in
    record {
      at = t.0;
      below = low;
      given_then = t.3 ∙ ap Some same;
      end = k.at.end;
      there = k.at.there;
      claims = k.at.claimed ∙ ap Some same;
      first = ap (λ (x : Claim). x.first) (sym same) ∙ k.first;
      takes = taken-by k.at.end (gives-by p a t.0 k.at.end t.2 k.at.gives).way;
    }
  where
    taken-by : (s : SnoopEnd) {A B C : Type 0} → ((s.outcome ≡ Handed) × A × B) ⊎ ((s.outcome ≡ Written) × C)
        → does_take s.outcome ≡ true
    taken-by s (inl handed) = unfold does_take in rw handed.0 refl
    taken-by s (inr written) = unfold does_take in rw written.0 refl

-- the line of such a request has a link, where it has no response
pub pushed-linked : (r : Run) (a m : ℕ) (claim : Claim) → Timely r → KeepsBounds r.plan → m ≤ length r.trace
    → IsPushedFor r a m claim → is_responded_below (past_of r) m claim.first ≡ false
    → (first : Link) × (links : List Link) × (chain_below (past_of r) claim.line m ≡ first ∷ links)
unfolding is_responded_below
pushed-linked r a m claim h bounds l k silent =
    let p : Past = past_of r in
    let order = answers-in-order r h in
    let low : k.at < m = k.below in
    let w = taking-at r claim.line k.at k.end claim h bounds (omega arith) k.there k.claims refl k.takes in
    let unended = not-so (is_ended p m k.end.first) (λ t.
    let e = ended-parts p m k.end.first t in
    let under : e.0 < m = e.1 in
    let x = order.responded e.0 k.end.first (omega arith) e.2 in
    let before : x.at ≤ e.0 = x.before in
    both_ways (any_where (λ u. is_at (responded_in p u) claim.first) m) silent
    (any_where-at (λ u. is_at (responded_in p u) claim.first) m x.at (omega arith)
    (is_at-from (responded_in p x.at) claim.first (x.there ∙ ap Some (sym k.first))))) in
    awaited-link p claim.line m k.at k.end w.awaited low k.there unended w.awaits w.names

-- what began
pub begun-early : (r : Run) (q : ℕ) (claim : Claim) → begun_at (past_of r) q ≡ Some claim → q < length r.trace
unfolding begun_at past_of
begun-early r q claim e = grind (arith, length-moments, slice_get_past)

-- no end that comes is awaited on its line
pub pushed-endless : (r : Run) (a n q : ℕ) (claim : Claim) → Timely r → KeepsBounds r.plan → n < length r.trace
    → is_pushed (past_of r) a (n + 1) (n + 1) n q ≡ true → begun_at (past_of r) q ≡ Some claim
    → does_end_on (past_of r) claim.line n ≡ false
unfolding is_responded_below is_promised is_at is_some_and
pushed-endless r a n q claim h bounds l pushed begun =
    let p : Past = past_of r in
    let order = answers-in-order r h in
    let parts = pushed-parts p a (n + 1) (n + 1) n q pushed in
    let k = pushed-for r a (n + 1) (n + 1) n q claim h bounds (omega arith) pushed begun in
    let before_end : k.at < n + 1 = k.below in
    let want = begun-want r q claim h bounds (begun-early r q claim begun) begun in
    let number : claim.first ≡ q = want.first in
    not-so (does_end_on p claim.line n) (λ ends.
    let x = ends-line r claim.line n h l (ends-on p claim.line n ends) in
    let ended = listed-alone p n x.end.first x.alone in
    let answer = order.responded n x.end.first l ended in
    let upto : answer.at ≤ n = answer.before in
    let silent : (u : ℕ) → u < n + 1 → responded_in p u ≡ Some k.end.first → ⊥ = λ u low e.
    both_ways (any_where (λ t. is_at (responded_in p t) q) (n + 1)) parts.1
    (any_where-at (λ t. is_at (responded_in p t) q) (n + 1) u low
    (is_at-from (responded_in p u) q (e ∙ ap Some (sym k.first ∙ number)))) in
    elim (cases_lt x.at k.at) [
      | inl less ↦
          let told = promised-at-end r a claim.line n k.at claim h bounds l x less (omega arith) k.given_then refl in
          let there : is_promised p a (n + 1) n q ≡ true = grind arith in
          both_ways (is_promised p a (n + 1) n q) parts.2 there
      | inr from ↦ elim (cases_lt k.at x.at) [
        | inl less ↦
            let before = order.in_turn k.at x.at answer.at k.end x.end k.there x.tied.there less
            (omega arith) answer.there in
            let e = ended-parts p answer.at k.end.first before in
            let under : e.0 < answer.at = e.1 in
            let y = order.responded e.0 k.end.first (omega arith) e.2 in
            let early : y.at ≤ e.0 = y.before in
            silent y.at (omega arith) y.there
        | inr same ↦
            let at : x.at ≡ k.at = omega (arith, from, same) in
            let one = one-of x.end k.end (sym x.tied.there ∙ ap (snooped_at p) at ∙ k.there) in
            silent answer.at (omega arith) (answer.there ∙ ap (λ (y : SnoopEnd). Some y.first) one)
      ]
    ])
