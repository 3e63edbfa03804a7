-- The lines that an agent gets, the IDs that it uses, and so all requests of a run whose plan keeps the bounds.
use Rattle.fsb_lawful.proofs.Words
use Words.{ℕ, zero, suc, ◌+◌, ◌-◌, ◌^◌, ◌<◌, ◌≤◌, ◌≡◌, Bool, true, false, not, ◌&&◌, ◌||◌, List, [], ◌∷◌, Option, Some}
use Words.{None, length, drop, take, nat_le, nat_lt, refl, sym, ap, subst, ◌∙◌, arith, inl, inr, add-one, if◌then◌else◌}
use Words.{filter, find, list_all, range_with_len, option_and_then, option_map, option_map_or, and_parts, cases_Bool}
use Words.{Item, first_where, first_where-found, Invalidate, Read, Upgrade, Request, Pair, if_coded_as, is_coded_as}
use Words.{kind_of, read_off, request_of, are_lawful_fields, is_lawful_request, is_lawful_item, is_lawful_script, ADS}
use Words.{BPRI, LOCK, line_at, Outcome, Who, Symmetric, Trace, known_pair_at, request_at, is_upgrade_kind, line_of}
use Words.{live_clock_of, live_request_of, requesters_before-begun, requesters_before-kept, requesters_before-start}
use Words.{winner_after-high, winner_after-low, winner_by-locked, winner_by-priority, winner_by-symmetric}
use Words.{agent_in_order, first_asking, last_if_asking, requesters_before, Requesters, then_begun, winner_after}
use Words.{winner_at, winner_by, grant_at, is_rival, line_granted_at, lines_granted, snooped_at, is_dirty, agent_at}
use Words.{claim_at, gives_line, grant_for, grant_of, grant_to, live_claim_of, moment_at, number_snooped_at, snoop_at}
use Words.{snoop_end_for, snoop_end_if_begun, snoop_end_with, Claim, Grant, Moment, Owing, Past, SnoopEnd, Run, past_of}
use Words.{past_to, run_to, Need, is_idling, items_of, needs_from, next_number, window, window_at, reply_to}
use Words.{request_begun, would_begin, free_id, id_of, is_id_used, is_missing, kind_needed, least_of, owed}
use Words.{request_of_kind, victim_of, want_for, want_of, write_back_of, length-moments, moment-at, moment_of}
use Words.{KeepsBounds, WantsLawfully}
use Rattle.std.proofs.Common.{slice_get}
use Rattle.std.proofs.lemmas.Option.{slice_get_past, slice_get_within}
use Rattle.fsb_access.specs.ScriptOrder.{script_of}
use Rattle.fsb_lawful.proofs.Cuts.{slice_get-take}
use Rattle.fsb_lawful.proofs.OwnIds.{want-few}
use Rattle.fsb_lawful.proofs.LawfulWants.{all-at, all-drop, all-filter, all-found, all-given, is_fit, window-fits}
use Rattle.fsb_lawful.proofs.LawfulWants.{window-lawful}

-- a line has its bits
abbrev pub is_line : ℕ → Bool
is_line n = nat_lt n (2 ^ 31)

then-some : {A B : Type 0} (f : A → Option B) (o : Option A) (y : B) → option_and_then f o ≡ Some y
    → (x : A) × (o ≡ Some x) × (f x ≡ Some y)
then-some f o y h1 = grind arith

map-some : {A B : Type 0} (f : A → B) (o : Option A) (y : B) → option_map f o ≡ Some y
    → (x : A) × (o ≡ Some x) × (f x ≡ y)
map-some f o y h1 = grind arith

-- the line that a request names
line-by : (w : Trace) (q line : ℕ) (o : Option Who) → winner_at w q ≡ o → line_of w q ≡ Some line
    → is_line line ≡ true
unfolding line_of
line-by w q line o h1 h2 = grind arith

claim-line : (w : Trace) (q : ℕ) (claim : Claim) → claim_at w q ≡ Some claim → is_line claim.line ≡ true
unfolding claim_at
claim-line w q claim e =
    let a = then-some (λ a. option_map (λ line. record { first = q; agent = a; line = line }) (line_of w q))
    (agent_at w q) claim e in
    let l = map-some (λ line. record { first = q; agent = a.0; line = line }) (line_of w q) claim a.2 in
    ap (λ k. is_line k.line) (sym l.2) ∙ line-by w q l.0 (winner_at w q) refl l.1

-- the line of a grant
grant-line : (p : Past) (w : Trace) (i q s : ℕ) (outcome : Outcome) (grant : Grant) (b : Bool)
    → gives_line p w q s outcome ≡ b → grant_of p w i q s outcome ≡ Some grant → is_line grant.line ≡ true
unfolding grant_of grant_for live_claim_of grant_to
grant-line p w i q s outcome grant b h1 h2 = grind (arith, claim-line)

moment-line : (r : Run) (t : ℕ) (s : SnoopEnd) (grant : Grant) → (moment_of r t).snooped ≡ Some s
    → s.grant ≡ Some grant → is_line grant.line ≡ true
unfolding moment_at snoop_at snoop_end_if_begun snoop_end_for snoop_end_with
moment-line r t s grant e g =
    let i = then-some _ (number_snooped_at (run_to r t).trace t) s e in
    let q = map-some _ (live_clock_of (run_to r t).trace i.0) s i.2 in
    grant-line _ (run_to r t).trace i.0 q.0 t _ grant _ refl (ap (λ x. x.grant) q.2 ∙ g)

length-take-most : {X : Type 0} (n : ℕ) (xs : List X) → length (take n xs) ≤ n
length-take-most zero xs = omega arith
length-take-most (suc n) [] = omega arith
length-take-most (suc n) (x ∷ xs) = let rest = length-take-most n xs in omega arith

-- the moments of the past up to a clock are those of the run
moment-is : (r : Run) (c t : ℕ) (moment : Moment) → slice_get (past_to (past_of r) c).moments t ≡ Some moment
    → moment ≡ moment_of r t
unfolding past_to past_of
moment-is r c t moment e =
    grind (arith, slice_get-take, slice_get_within, length-moments, moment-at, slice_get_past, length-take-most)

granted-line : (r : Run) (c a t line : ℕ) → line_granted_at (past_to (past_of r) c) a t ≡ Some line
    → is_line line ≡ true
unfolding line_granted_at grant_at snooped_at
granted-line r c a t line e = grind (arith, moment-is, moment-line)

least-line : (ns : List ℕ) (n : ℕ) → list_all is_line ns ≡ true → least_of ns ≡ Some n → is_line n ≡ true
unfolding least_of
least-line [] n e h = absurd (let no : ⊥ = cc in no)
least-line (m ∷ ns) n e h =
    let a = and_parts (is_line m) (list_all is_line ns) e in
    least-by (least_of ns) refl h a.0 (λ k f. least-line ns k a.1 f)
  where
    least-by : (o : Option ℕ) → least_of ns ≡ o → least_of (m ∷ ns) ≡ Some n → is_line m ≡ true
        → ((k : ℕ) → least_of ns ≡ Some k → is_line k ≡ true) → is_line n ≡ true
    least-by o h1 h2 h3 h4 = grind arith

-- a victim is a line that was granted
victim-line : (r : Run) (c a t line victim : ℕ) → victim_of (past_to (past_of r) c) a t line ≡ Some victim
    → is_line victim ≡ true
unfolding victim_of lines_granted
victim-line r c a t line victim e =
    let p : Past = past_to (past_of r) c in
    least-line (filter (λ other. is_rival p other line && is_dirty p a other t) (lines_granted p a t)) victim
    (all-filter is_line (λ other. is_rival p other line && is_dirty p a other t) (lines_granted p a t)
    (all-given is_line (line_granted_at p a) (range_with_len 0 t) (λ u y f. granted-line r c a u y f))) e

-- a free ID of an agent has its bits
id-by : (a : ℕ) (owings : List Owing) (o : Option ℕ) → a < 4 → length owings < 4
    → first_where (λ n. not (is_id_used owings (id_of a n))) (length owings + 1) ≡ o
    → nat_lt (free_id a owings) (2 ^ 8) ≡ true
unfolding free_id id_of
id-by a owings o h1 h2 h3 = grind (arith, first_where-found)

-- the items of an agent are lawful
script-by : (scripts : List (List Item)) (cache a : ℕ) (o : Option (List Item)) → slice_get scripts a ≡ o
    → list_all (is_lawful_script cache) scripts ≡ true
    → list_all (is_lawful_item cache) (script_of scripts a) ≡ true
unfolding is_lawful_script
script-by scripts cache a o h1 h2 = grind (arith, all-at)

window-by : (p : Past) (a n : ℕ) (o : Option Item) → slice_get (items_of p a) n ≡ o
    → list_all (is_lawful_item p.plan.cache) (items_of p a) ≡ true
    → list_all (is_lawful_item p.plan.cache) (window_at p a n) ≡ true
unfolding window_at
window-by p a n None e h = rw (e, window_at) refl
window-by p a n (Some item) e h =
    rw (e, window_at) (window-lawful p.plan.cache p.plan.ahead item (drop (n + 1) (items_of p a))
    (all-at (is_lawful_item p.plan.cache) (items_of p a) n item h e)
    (all-drop (is_lawful_item p.plan.cache) (n + 1) (items_of p a) h))

windows : (p : Past) (a : ℕ) (o : Option ℕ) → list_all (is_lawful_item p.plan.cache) (items_of p a) ≡ true
    → list_all (is_lawful_item p.plan.cache) (option_map_or (window_at p a) o []) ≡ true
windows p a o h1 = grind (arith, window-by)

-- a need of a window fits
need-fits : (p : Past) (a c : ℕ) (f : Need → Bool) (need : Need) → KeepsBounds p.plan
    → find f (needs_from [] (window p a c)) ≡ Some need → is_fit need ≡ true
unfolding window items_of
need-fits p a c f need k e =
    all-found is_fit f (needs_from [] (window p a c)) need
    (window-fits [] p.plan.cache (window p a c)
    (windows p a (next_number p a c)
    (script-by p.plan.scripts p.plan.cache a (slice_get p.plan.scripts a) refl k.lawful_scripts))) e

kind-lawful : (alone upgrades : Bool) (need : Need) (did : ℕ) → is_fit need ≡ true → nat_lt did (2 ^ 8) ≡ true
    → is_lawful_request
    (request_of_kind (if not alone then Read else (if upgrades then Upgrade else Invalidate)) need did) ≡ true
unfolding request_of_kind is_lawful_request are_lawful_fields is_upgrade_kind
kind-lawful alone upgrades need did h1 h2 = grind arith

victim-lawful : (victim did : ℕ) → is_line victim ≡ true → nat_lt did (2 ^ 8) ≡ true
    → is_lawful_request (write_back_of victim did) ≡ true
unfolding write_back_of is_lawful_request are_lawful_fields
victim-lawful victim did e f = rw (e, f) refl

-- what is wanted for a need is a lawful request
want-for : (r : Run) (c a : ℕ) (need : Need) (o : Option ℕ)
    → victim_of (past_to (past_of r) c) a c need.line ≡ o → is_fit need ≡ true
    → nat_lt (free_id a (owed (past_to (past_of r) c) a c)) (2 ^ 8) ≡ true
    → is_lawful_request (want_for (past_to (past_of r) c) a c (owed (past_to (past_of r) c) a c) need) ≡ true
unfolding want_for kind_needed
want-for r c a need o h1 h2 h3 = grind (arith, victim-lawful, victim-line, kind-lawful)

wanted : (r : Run) (c a : ℕ) (request : Request) (b : Bool) → KeepsBounds r.plan
    → (is_idling (past_to (past_of r) c) a c || nat_le r.plan.ahead (length (owed (past_to (past_of r) c) a c))) ≡ b
    → nat_lt (free_id a (owed (past_to (past_of r) c) a c)) (2 ^ 8) ≡ true
    → want_of (past_to (past_of r) c) a c ≡ Some request → is_lawful_request request ≡ true
unfolding want_of past_to past_of
wanted r c a request true k e did h = absurd (let no : ⊥ = (let h' = rw (e, want_of) at h in cc) in no)
wanted r c a request false k e did h =
    let p : Past = past_to (past_of r) c in
    let n = map-some (want_for p a c (owed p a c))
    (find (is_missing p a c (owed p a c)) (needs_from [] (window p a c))) request
    (let h' = rw (e, want_of) at h in h') in
    ap is_lawful_request (sym n.2)
    ∙ want-for r c a n.0 (victim_of p a c n.0.line) refl
    (need-fits p a c (is_missing p a c (owed p a c)) n.0 k n.1) did

want-lawful : (r : Run) (c a : ℕ) (request : Request) → KeepsBounds r.plan → a < 4
    → want_of (past_to (past_of r) c) a c ≡ Some request → is_lawful_request request ≡ true
unfolding past_to past_of
want-lawful r c a request k l h =
    let p : Past = past_to (past_of r) c in
    let few = k.few_ahead in
    let short = (want-few p a c request few h).0 in
    wanted r c a request (is_idling p a c || nat_le r.plan.ahead (length (owed p a c))) k refl
    (id-by a (owed p a c) (first_where (λ n. not (is_id_used (owed p a c) (id_of a n)))
    (length (owed p a c) + 1)) l (omega arith) refl) h

-- a symmetric winner is one of four agents
last-asking : (w : Trace) (d a : ℕ) (o : Option Who) → last_if_asking w d o ≡ Some (Symmetric a)
    → o ≡ Some (Symmetric a)
unfolding last_if_asking
last-asking w d a o h1 = grind arith

in-order : (first n : ℕ) → agent_in_order first n < 4
unfolding agent_in_order
in-order first n = omega arith

symmetric-four : (w : Trace) (d a first : ℕ)
    → option_map Symmetric (first_asking w d first) ≡ Some (Symmetric a) → a < 4
unfolding first_asking
symmetric-four w d a first e = grind (arith, in-order)

by-four : (w : Trace) (d a : ℕ) (requesters : Requesters) (lock priority : Bool) → line_at LOCK w d ≡ lock
    → line_at BPRI w d ≡ priority → ((b : ℕ) → requesters.0 ≡ Some (Symmetric b) → b < 4)
    → winner_by w d requesters ≡ Some (Symmetric a) → a < 4
by-four w d a requesters lock priority h1 h2 h3 h4 =
    grind (arith, last-asking, winner_by-locked, winner_by-priority, symmetric-four, winner_by-symmetric)

after-four : (w : Trace) (c a : ℕ) (requesters : Requesters) (low : Bool) → nat_lt c 2 ≡ low
    → ((b : ℕ) → requesters.0 ≡ Some (Symmetric b) → b < 4) → winner_after w c requesters ≡ Some (Symmetric a)
    → a < 4
after-four w c a requesters true e h g = grind (arith, winner_after-low)
after-four w c a requesters false e h g =
    by-four w (c - 2) a requesters (line_at LOCK w (c - 2)) (line_at BPRI w (c - 2)) refl refl h
    (sym (winner_after-high w c requesters e) ∙ g)

requester-four : (w : Trace) (c b : ℕ) → (requesters_before w c).0 ≡ Some (Symmetric b) → b < 4
unfolding then_begun
requester-four w zero b e = grind (arith, requesters_before-start)
requester-four w (suc c) b e =
    let more = subst (λ n. (requesters_before w n).0 ≡ Some (Symmetric b)) (sym (add-one c)) e in
    elim (cases_Bool (line_at ADS w c)) [
      | inl t ↦ after-four w c b (requesters_before w c) (nat_lt c 2) refl (λ k f. requester-four w c k f)
          (sym (ap (λ x. x.0) (requesters_before-begun w c t)) ∙ more)
      | inr f ↦ requester-four w c b (sym (ap (λ x. x.0) (requesters_before-kept w c f)) ∙ more)
    ]

winner-four : (w : Trace) (c a : ℕ) → winner_at w c ≡ Some (Symmetric a) → a < 4
unfolding winner_at
winner-four w c a e = after-four w c a (requesters_before w c) (nat_lt c 2) refl (λ b f. requester-four w c b f) e

-- a request that is decoded is lawful
coded-lawful : (r x : Request) (a b : Pair) (t : Bool) → is_coded_as r a b ≡ t → if_coded_as r a b ≡ Some x
    → is_lawful_request x ≡ true
unfolding if_coded_as is_coded_as
coded-lawful r x a b t h1 h2 = grind arith

decoded-lawful : (w : Trace) (q : ℕ) (x : Request) → request_at w q ≡ Some x → is_lawful_request x ≡ true
unfolding request_at request_of
decoded-lawful w q x e =
    let a = then-some _ (known_pair_at w q) x e in
    let b = then-some _ (known_pair_at w (q + 1)) x a.2 in
    let k = then-some (λ kind. if_coded_as (read_off kind a.0 b.0) a.0 b.0) (kind_of a.0.req b.0.req) x b.2 in
    coded-lawful (read_off k.0 a.0 b.0) x a.0 b.0 (is_coded_as (read_off k.0 a.0 b.0) a.0 b.0) refl k.2

reply-lawful : (x : Request) → is_lawful_request x ≡ true → is_lawful_request (reply_to x) ≡ true
unfolding reply_to is_lawful_request are_lawful_fields
reply-lawful x e = (and_parts (are_lawful_fields x.kind x.line x.chunk x.den) (nat_lt x.did (2 ^ 8)) e).1

lawful-by : (r : Run) (c : ℕ) (who : Who) (request : Request) → KeepsBounds r.plan
    → winner_at (run_to r c).trace c ≡ Some who
    → would_begin (run_to r c) (past_to (past_of r) c) c who ≡ Some request → is_lawful_request request ≡ true
unfolding would_begin live_request_of
lawful-by r c who request h1 h2 h3 =
    grind (arith, want-lawful, winner-four, map-some, then-some, reply-lawful, decoded-lawful)

-- where the plan keeps the bounds, each request that a winner would begin is lawful
pub wants-lawfully : (r : Run) → KeepsBounds r.plan → WantsLawfully r
unfolding request_begun
wants-lawfully r k = grind (arith, lawful-by)
