-- The lines of requests that an agent has outstanding: one that keeps bytes for its upgrade has a link.
use Rattle.fsb_bench_values.proofs.Words
use Words.{ℕ, ◌+◌, ◌<◌, ◌≤◌, ◌≡◌, Bool, true, false, not, ◌&&◌, ◌||◌, List, ◌∷◌, Option, Some, is_some, length, nat_eq}
use Words.{refl, sym, ap, subst, ◌∙◌, arith, list_any, and_parts, both_ways, eq-eqb, first_where, is_some_and}
use Words.{first_where-found, is_at-some, is_before-from, HasLines, HasRequestsOf, is_awaited, is_won_below, owing_by}
use Words.{Among, all-among, among-any, among-filter, awaits-by, fill-counted, kept-of, owing-there, AgentView}
use Words.{OwnRequest, slot_of, awaited_by_grant, snoop_end_below, chain_below, Link, fill_on, Reaches, begun-wanted}
use Words.{ends-last, owed-told, snoop-below, answers-in-order, awaits-grant, ended-later, ended-parts, grant-first}
use Words.{granted-parts, not-so, snooped-before-end, is_ended, snooped_at, is_last_clock, is_snoop_of, is_upgraded}
use Words.{Grant, Owing, Past, SnoopEnd, Run, past_of, outstanding_at, owed, Trace, is_dropped, is_finished}
use Words.{is_outstanding, outstanding, is_deferral, Outcome}
use Rattle.std.proofs.Common.{is_none}
use Rattle.std.specs.Bool.{beq}
use Rattle.fsb_agent_view.specs.Sound.{IsSound, is_only, is_sound_request}
use Rattle.fsb_lawful.proofs.Interface as lawful
use Rattle.fsb_run_laws.specs.RunSteps.{owing_begun}
use Rattle.fsb_bench_values.proofs.PushedLines.{awaited-link}

one-of : {X : Type 0} (a b : X) → Some a ≡ Some b → a ≡ b
one-of a b e = cc

-- ---- lines that are awaited

-- bytes that are kept are of a line that is awaited
pub kept-awaited : (held alone dirty awaited : ℕ → Bool) (w : AgentView) (out : OwnRequest) (kept : List ℕ) → IsSound w
    → HasLines held alone dirty awaited w → Among out w.outs → out.kept ≡ Some kept → awaited out.request.line ≡ true
kept-awaited held alone dirty awaited w out kept sound lines k e =
    let fills = w.buffers.fills in
    let line : ℕ = out.request.line in
    let s = all-among (is_sound_request w.lines fills) out w.outs sound.requests k in
    let two = and_parts (is_only line (slot_of w.lines line) && beq (is_some (fill_on line fills)) out.granted)
    (out.granted || is_none out.kept) s in
    let one = and_parts (is_only line (slot_of w.lines line)) (beq (is_some (fill_on line fills)) out.granted) two.0 in
    let granted = granted-kept out.granted out.kept kept e two.1 in
    let filled = filled-granted (is_some (fill_on line fills)) out.granted granted one.1 in
    sym (fill-counted line fills (awaited line) (lines.fills line)) ∙ filled
  where
    granted-kept : (b : Bool) (o : Option (List ℕ)) (kept : List ℕ) → o ≡ Some kept → (b || is_none o) ≡ true → b ≡ true
    granted-kept b o kept h1 h2 = grind arith

    filled-granted : (x y : Bool) → y ≡ true → beq x y ≡ true → x ≡ true
    filled-granted x y h1 h2 = grind arith

-- a line that an agent awaits has a link
pub awaited-linked : (r : Run) (a line m c : ℕ) → m ≤ length r.trace → is_awaited (past_of r) a line m c ≡ true → m ≤ c
    → (link : Link) × (links : List Link) × (chain_below (past_of r) line m ≡ link ∷ links)
unfolding awaited_by_grant
awaited-linked r a line m c l e upto =
    let p : Past = past_of r in
    let k = awaits-by p a line m c e in
    let below : k.at < m = k.below in
    let g = granted-parts p a line k.at k.granted in
    let same = one-of g.0 k.end (sym g.2 ∙ k.there) in
    let is = one-of g.1 k.grant (sym g.3 ∙ ap (λ (x : SnoopEnd). x.grant) same ∙ k.made) in
    let first = grant-first r a line k.at k.end k.grant (omega arith) k.there k.made k.granted in
    let names : k.grant.line ≡ line = ap (λ (x : Grant). x.line) (sym is) ∙ g.5 in
    let unended = not-so (is_ended p m k.end.first) (λ t.
    both_ways (is_ended p c k.grant.first) k.unended
    (ap (is_ended p c) first ∙ ended-later p m c k.end.first upto t)) in
    awaited-link p line m k.at k.end (awaited_by_grant k.end.outcome k.grant) below k.there unended
    (awaits-grant k.end k.grant k.made) names

-- ---- requests that are outstanding

out-dropped : (w : Trace) (c q : ℕ) → is_dropped w c q ≡ true → is_outstanding w c q ≡ false
unfolding is_outstanding
out-dropped w c q e = grind arith

out-finished : (w : Trace) (c q : ℕ) → is_finished w c q ≡ true → is_outstanding w c q ≡ false
unfolding is_outstanding
out-finished w c q e = grind arith

out-below : (w : Trace) (c q : ℕ) → is_outstanding w c q ≡ true → q < c
unfolding is_outstanding
out-below w c q e = grind arith

-- a request is not outstanding behind its last clock
last-out : (w : Trace) (e c q : ℕ) → is_last_clock w e q ≡ true → e < c → is_outstanding w c q ≡ false
unfolding is_last_clock is_dropped is_finished
last-out w e c q last l = grind (arith, out-dropped, is_at-some, is_before-from, out-finished)

-- what an agent owes is outstanding
owed-out : (r : Run) (a n : ℕ) (owing : Owing) → Reaches r n → Among owing (owed (past_of r) a n)
    → is_outstanding r.trace n owing.claim.first ≡ true
unfolding owed outstanding
owed-out r a n owing h k =
    let p : Past = past_of r in
    let q : ℕ = owing.claim.first in
    let test : Owing → Bool = λ o. nat_eq o.claim.first q in
    let parts = among-filter (λ o. nat_eq o.claim.agent a) owing (outstanding_at p n) k in
    let any = among-any test owing (outstanding_at p n) parts.0 (eq-eqb q q refl) in
    let told = subst (λ xs. list_any test xs ≡ true) (owed-told r n h) any in
    let x = lawful.any-from (is_outstanding r.trace n) (owing_begun p) test n told in
    let below : x.0 < n = out-below r.trace n x.0 x.1.there in
    grind (arith, begun-wanted)

-- so its end has not come, where it was not put off
owed-unended : (r : Run) (a n t : ℕ) (owing : Owing) (end : SnoopEnd) → Reaches r n → Among owing (owed (past_of r) a n)
    → snooped_at (past_of r) t ≡ Some end → end.first ≡ owing.claim.first → is_deferral end.outcome ≡ false
    → is_ended (past_of r) n end.first ≡ false
owed-unended r a n t owing end h k there first kept =
    let p : Past = past_of r in
    let long = h.long in
    not-so (is_ended p n end.first) (λ ended.
    let e = ended-parts p n end.first ended in
    let low : e.0 < n = e.1 in
    let gap = snooped-before-end p (length r.trace) e.0 t end (answers-in-order r h.timely) (omega arith) there e.2 in
    let reaches : Reaches r (e.0 + 1) = record { timely = h.timely; bounds = h.bounds; long = omega arith } in
    let below = snoop-below r e.0 t end reaches (omega arith) there in
    let last = ends-last r e.0 end.first end reaches e.2 below ∙ ap not kept in
    both_ways (is_outstanding r.trace n end.first) (last-out r.trace e.0 n end.first last low)
    (ap (is_outstanding r.trace n) first ∙ owed-out r a n owing h k))

upgraded-kept : (outcome : Outcome) → is_upgraded outcome ≡ true → is_deferral outcome ≡ false
unfolding is_upgraded is_deferral
upgraded-kept outcome h1 = grind arith

-- an upgrade for which bytes are kept at n: it was won below n, and its end has not come
pub record IsKeptFor (r : Run) (n : ℕ) (out : OwnRequest) : Type 0 where
  pub at : ℕ
  pub below : at < n
  pub end : SnoopEnd
  pub there : snooped_at (past_of r) at ≡ Some end
  pub first : end.first ≡ out.number
  pub upgraded : is_upgraded end.outcome ≡ true
  pub grant : Grant
  pub granted : end.grant ≡ Some grant
  pub unended : is_ended (past_of r) n end.first ≡ false

won-parts : (p : Past) (n q : ℕ) → is_won_below p n q ≡ true
    → (t : ℕ) × (t < n) × (end : SnoopEnd) × (snooped_at p t ≡ Some end) × (end.first ≡ q)
    × (is_upgraded end.outcome ≡ true) × (is_some end.grant ≡ true)
unfolding is_won_below snoop_end_below is_snoop_of
won-parts p n q e =
    let s = lawful.some-and (snoop_end_below p n q) (λ (x : SnoopEnd). is_upgraded x.outcome && is_some x.grant) e in
    let parts = and_parts (is_upgraded s.0.outcome) (is_some s.0.grant) s.2 in
    let test : ℕ → Bool = λ t. is_some_and (snooped_at p t) (is_snoop_of q) in
    let t = lawful.and-then (snooped_at p) (first_where test n) s.0 s.1 in
    let found = first_where-found test n t.0 t.1 in
    let there = lawful.some-and (snooped_at p t.0) (is_snoop_of q) found.1 in
    let same = one-of there.0 s.0 (sym there.1 ∙ t.2) in
    grind arith

pub kept-for : (r : Run) (a n : ℕ) (w : AgentView) (out : OwnRequest) (kept : List ℕ) → Reaches r n
    → HasRequestsOf (past_of r) a n (owed (past_of r) a n) w → Among out w.outs → out.kept ≡ Some kept
    → IsKeptFor r n out
kept-for r a n w out kept h requests k e =
    let p : Past = past_of r in
    let won = won-parts p n out.number (sym (kept-of p a n (owed p a n) w out requests k) ∙ ap is_some e) in
    let grant = there (won.2).grant won.6 in
    record {
      at = won.0;
      below = won.1;
      end = won.2;
      there = won.3;
      first = won.4;
      upgraded = won.5;
      grant = grant.0;
      granted = grant.1;
      unended = owed-unended r a n won.0 (owing_by a out) won.2 h
          (owing-there p a n (owed p a n) w out requests k) won.3
          won.4 (upgraded-kept (won.2).outcome won.5);
    }
  where
    there : (o : Option Grant) → is_some o ≡ true → (grant : Grant) × (o ≡ Some grant)
    there o h1 = grind arith
