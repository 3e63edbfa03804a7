-- An access that comes with an end awaited on a line is its agent's, and a load where the oldest link does not own.
use Rattle.fsb_tied.proofs.Words
use Words.{ℕ, ◌+◌, ◌<◌, ◌≡◌, Bool, true, false, not, ◌||◌, List, [], ◌∷◌, map, Some, length, nat_eq, refl, sym, ap, ◌∙◌}
use Words.{arith, both_ways, eq-eqb, or_left, or_right, list_all, list_any, is_some_and, any_where-found, Access, Item}
use Words.{Link, owns, Completed, brings_at, completed_of_item, completes_by, is_arrival, is_brought, ended_requests}
use Words.{grant_at, is_end_at, is_granted, snooped_at, is_hit, Grant, Past, SnoopEnd, Run, past_of, Need, is_load}
use Words.{locked_need, needs_after, needs_of, next_item, plain_need, Timely, Awaited, awaited_at, awaited_by}
use Words.{awaited_by_grant, entries_on, chain_below, links_left}
use Rattle.fsb_tied.proofs.AnswersInOrder.{answers-in-order}
use Rattle.fsb_tied.proofs.Awaiting.{awaited-there, awaits-grant}
use Rattle.fsb_tied.proofs.Chains.{link_of}
use Rattle.fsb_tied.proofs.CompletedAccesses.{Each, each-of-item, entries-pass}
use Rattle.fsb_tied.proofs.InTurn.{not-so}
use Rattle.fsb_tied.proofs.LinkOrder.{oldest-ends}
use Rattle.fsb_tied.proofs.OwningLinks.{granted-owns}
use Rattle.fsb_tied.proofs.ServedAccesses.{arrival-parts, grant-first, granted-parts}

-- the grant by which a line is brought to agent a at n
record IsBroughtBy (p : Past) (a n : ℕ) (need : Need) : Type 0 where
  at : ℕ
  below : at < n + 1
  end : SnoopEnd
  grant : Grant
  there : snooped_at p at ≡ Some end
  made : end.grant ≡ Some grant
  agent : grant.agent ≡ a
  names : grant.line ≡ need.line
  granted : is_granted p a need.line at ≡ true
  ends : is_end_at p n grant.first ≡ true
  brings : (grant.owns || not need.alone) ≡ true

brought-by : (p : Past) (a n : ℕ) (need : Need) → is_brought p a n need ≡ true → IsBroughtBy p a n need
unfolding is_brought brings_at grant_at is_end_at is_some_and
brought-by p a n need e = grind (arith, any_where-found, granted-parts)

-- an end at n that is awaited on the line, the only one there
pub record OneEnd (r : Run) (line n : ℕ) : Type 0 where
  pub timely : Timely r
  pub within : n < length r.trace
  pub number : ℕ
  pub alone : ended_requests (past_of r) n ≡ number ∷ []
  pub awaited : Awaited
  pub awaits : awaited_at (past_of r) n number ≡ Some awaited
  pub names : awaited.line ≡ line

-- what is brought at n is what is awaited there
record IsAwaitedGrant (r : Run) (line n a : ℕ) (need : Need) (k : OneEnd r line n) : Type 0 where
  by : IsBroughtBy (past_of r) a n need
  first : by.end.first ≡ k.number
  awaits : awaited_by by.end ≡ Some k.awaited
  agent : a ≡ k.awaited.agent
  names : need.line ≡ line

one-listed : (p : Past) (n q x : ℕ) → ended_requests p n ≡ q ∷ [] → is_end_at p n x ≡ true → x ≡ q
unfolding is_end_at
one-listed p n q x e f = grind arith

awaited-grant : (r : Run) (line n a : ℕ) (need : Need) (k : OneEnd r line n) → is_brought (past_of r) a n need ≡ true
    → IsAwaitedGrant r line n a need k
unfolding awaited_by_grant
awaited-grant r line n a need k e =
    let p : Past = past_of r in
    let by = brought-by p a n need e in
    let low = by.below in
    let within = k.within in
    let first : by.grant.first ≡ by.end.first = grind (arith, grant-first) in
    let same : by.grant.first ≡ k.number = one-listed p n k.number by.grant.first k.alone by.ends in
    let number : by.end.first ≡ k.number = sym first ∙ same in
    let at = awaited-there p (length r.trace) n by.at by.end (answers-in-order r k.timely) (omega arith) by.there in
    let awaits : awaited_by by.end ≡ Some k.awaited = sym at ∙ ap (awaited_at p n) number ∙ k.awaits in
    let both : Some (awaited_by_grant by.end.outcome by.grant) ≡ Some k.awaited = grind (arith, awaits-grant) in
    let one : awaited_by_grant by.end.outcome by.grant ≡ k.awaited = cc in
    record {
      by = by;
      first = number;
      awaits = awaits;
      agent = sym by.agent ∙ ap (λ (x : Awaited). x.agent) one;
      names = sym by.names ∙ ap (λ (x : Awaited). x.line) one ∙ k.names;
    }

-- one of the needs of an item is brought
brought-need : (p : Past) (a n : ℕ) (all needs : List Need) (test : Need → Bool)
    → list_any (completes_by p a n all) needs ≡ true → list_all test needs ≡ true
    → (need : Need) × (is_brought p a n need ≡ true) × (test need ≡ true)
unfolding completes_by
brought-need p a n all [] test e f = absurd (let no : ⊥ = cc in no)
brought-need p a n all (need ∷ needs) test e f = grind (arith, brought-need p a n all needs test)

all-true : (needs : List Need) → list_all (λ need. true) needs ≡ true
all-true [] = refl
all-true (need ∷ needs) = all-true needs

arriving : (p : Past) (a n : ℕ) (item : Item) → is_arrival p a n ≡ true → next_item p a n ≡ Some item
    → list_any (completes_by p a n (needs_of item)) (needs_of item) ≡ true
unfolding is_some_and
arriving p a n item e f = rw f at (arrival-parts p a n e).1

-- whoever has an arrival at n awaits the end
arriving-agent : (r : Run) (line n a : ℕ) (item : Item) (k : OneEnd r line n) → is_arrival (past_of r) a n ≡ true
    → next_item (past_of r) a n ≡ Some item → a ≡ k.awaited.agent
arriving-agent r line n a item k e f =
    let p : Past = past_of r in
    let needs = needs_of item in
    let b = brought-need p a n needs needs (λ need. true) (arriving p a n item e f) (all-true needs) in
    (awaited-grant r line n a b.0 k b.1).agent

each-so : (so : Completed → Type 0) (a k : ℕ) (item : Item) → ((step : Completed) → step.agent ≡ a → so step)
    → Each so (completed_of_item a k item)
each-so so a k item all =
    each-of-item so (λ need. true) a k item (λ need step of e. all (record { agent = a; step = step }) refl)
    (all-true (needs_of item))

-- an access that is no hit is of the agent that awaits the end
pub awaiting-agents : (r : Run) (line n : ℕ) (k : OneEnd r line n)
    → list_all (λ done. is_hit (past_of r) done.agent n || nat_eq done.agent k.awaited.agent)
    (entries_on (past_of r) line n)
    ≡ true
awaiting-agents r line n k =
    let p : Past = past_of r in
    let so : Completed → Type 0 = λ x. (is_hit p x.agent n || nat_eq x.agent k.awaited.agent) ≡ true in
    entries-pass r line n so (λ done. is_hit p done.agent n || nat_eq done.agent k.awaited.agent) k.timely k.within
    (λ done names h. h)
    (λ a number item e f. each-so so a number item (λ x same.
    or_left (is_hit p x.agent n) (nat_eq x.agent k.awaited.agent) (ap (λ b. is_hit p b n) same ∙ e)))
    (λ a number item e f. each-so so a number item (λ x same.
    or_right (is_hit p x.agent n) (nat_eq x.agent k.awaited.agent)
    (eq-eqb x.agent k.awaited.agent (same ∙ arriving-agent r line n a item k e f))))

-- the accesses of an item of which a line is brought by a grant that does not own are loads
abbrev LoadsUnowned : Past → ℕ → Completed → Type 0
LoadsUnowned p n x = (is_hit p x.agent n || is_load x.step.access) ≡ true

locked-alone : (whole group : List Access)
    → list_all (λ (need : Need). need.alone) (map (locked_need [] whole) group) ≡ true
unfolding locked_need
locked-alone whole [] = refl
locked-alone whole (access ∷ group) = locked-alone whole group

not-false : (b : Bool) → (b ≡ false → ⊥) → b ≡ true
not-false b h1 = grind arith

loads-of : (p : Past) (a n number : ℕ) (item : Item)
    → (list_all (λ (need : Need). need.alone) (needs_of item) ≡ true → ⊥)
    → Each (LoadsUnowned p n) (completed_of_item a number item)
unfolding completed_of_item needs_of needs_after plain_need
loads-of p a n number item h1 = grind (arith, locked-alone)

-- where the oldest link of the line does not own, the grant that it came by does not
unowned-grant : (r : Run) (line n a : ℕ) (need : Need) (link : Link) (links : List Link) (k : OneEnd r line n)
    → chain_below (past_of r) line n ≡ link ∷ links → owns link ≡ false → (g : IsAwaitedGrant r line n a need k)
    → g.by.grant.owns ≡ false
unowned-grant r line n a need link links k chain unowned g =
    let p : Past = past_of r in
    let here : ended_requests p n ≡ g.by.end.first ∷ [] = k.alone ∙ ap (λ q. q ∷ []) (sym g.first) in
    let oldest = oldest-ends p (length r.trace) line n g.by.at g.by.end k.awaited (answers-in-order r k.timely) k.within
    g.by.there here g.awaits k.names in
    let both : link ∷ links ≡ link_of p line g.by.at g.by.end k.awaited ∷ links_left p line (n + 1) n = sym chain
    ∙ oldest in
    let same : link ≡ link_of p line g.by.at g.by.end k.awaited = cc in
    not-so g.by.grant.owns (λ t.
    both_ways (owns link) unowned (ap owns same ∙ granted-owns r g.by.at g.by.end g.by.grant g.by.there g.by.made t))

brought-unowned : (r : Run) (line n a : ℕ) (item : Item) (link : Link) (links : List Link) (k : OneEnd r line n)
    → chain_below (past_of r) line n ≡ link ∷ links → owns link ≡ false → is_arrival (past_of r) a n ≡ true
    → next_item (past_of r) a n ≡ Some item → list_all (λ (need : Need). need.alone) (needs_of item) ≡ true → ⊥
brought-unowned r line n a item link links k chain unowned e f alone =
    let p : Past = past_of r in
    let needs = needs_of item in
    let b = brought-need p a n needs needs (λ need. need.alone) (arriving p a n item e f) alone in
    let g = awaited-grant r line n a b.0 k b.1 in
    let none = unowned-grant r line n a b.0 link links k chain unowned g in
    let brings : (g.by.grant.owns || not b.0.alone) ≡ true = g.by.brings in
    let alone' : b.0.alone ≡ true = b.2 in
    let brings' = rw (none, alone') at brings in
    cc

-- an access that is no hit is a load where the oldest link does not own
pub awaiting-loads : (r : Run) (line n : ℕ) (link : Link) (links : List Link) (k : OneEnd r line n)
    → chain_below (past_of r) line n ≡ link ∷ links → owns link ≡ false
    → list_all (λ done. is_hit (past_of r) done.agent n || is_load done.access) (entries_on (past_of r) line n) ≡ true
awaiting-loads r line n link links k chain unowned =
    let p : Past = past_of r in
    entries-pass r line n (LoadsUnowned p n) (λ done. is_hit p done.agent n || is_load done.access) k.timely k.within
    (λ done names h. h)
    (λ a number item e f. each-so (LoadsUnowned p n) a number item (λ x same.
    or_left (is_hit p x.agent n) (is_load x.step.access) (ap (λ b. is_hit p b n) same ∙ e)))
    (λ a number item e f. loads-of p a n number item (brought-unowned r line n a item link links k chain unowned e f))

-- such an end, of which this is known
abbrev pub one-end : (r : Run) (line n q : ℕ) (awaited : Awaited) → Timely r → n < length r.trace
    → ended_requests (past_of r) n ≡ q ∷ [] → awaited_at (past_of r) n q ≡ Some awaited → awaited.line ≡ line
    → OneEnd r line n
one-end r line n q awaited h l e f names = record {
  timely = h;
  within = l;
  number = q;
  alone = e;
  awaited = awaited;
  awaits = f;
  names = names;
}
