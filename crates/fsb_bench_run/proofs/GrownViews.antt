-- The record of an agent is that of the agent also in the run that has grown by a clock.
use Rattle.fsb_bench_run.proofs.Words
use Words.{ℕ, zero, suc, ◌<◌, ◌≡◌, Bool, true, false, ◌&&◌, nat_eq, nat_lt, nat_le, List, [], ◌∷◌, map, length, Some}
use Words.{refl, sym, ap, subst, ◌∙◌, arith, eq-eqb, list_any-append, filter, list_all, list_any, option_and_then}
use Words.{script_of, Done, is_awaited, is_won_below, one_if, owing_by, state_told, IsViewOf, AgentView, OwnRequest}
use Words.{snoop_end_below, is_dirty_below, is_stored_below, any_where-same, first_where-found, first_where-same}
use Words.{Reaches, owing_begun, begun-wanted, owed-told, ended_requests, is_end_at, is_ended, snooped_at, GoesOn}
use Words.{GrowsTo, is_store_on, Moment, Owing, Past, Run, past_of, items_of, outstanding_at, owed, Alike, done_below}
use Words.{going-alike, holds_line-same, is_exclusive-same, latest_grant-same, owed-same, past-goes_on, want_of-alike}
use Words.{Trace, is_outstanding, outstanding}
use Rattle.std.proofs.Common.{slice_get}
use Rattle.fsb_coherent.proofs.Interface as coherent
use Rattle.fsb_lawful.proofs.Interface as lawful
use Rattle.fsb_bench_run.proofs.GrownPlaces.{placed-alike}

snooped-same : (n : ℕ) (p q : Past) (t : ℕ) → Alike n p q → t < n → snooped_at p t ≡ snooped_at q t
unfolding snooped_at
snooped-same n p q t h l = ap (option_and_then (λ (m : Moment). m.snooped)) (h.same_moments t l)

awaited-same : (n : ℕ) (p q : Past) (a line : ℕ) → Alike n p q → is_awaited p a line n n ≡ is_awaited q a line n n
unfolding is_awaited is_ended is_end_at ended_requests
awaited-same n p q a line h = grind (arith, latest_grant-same, any_where-same)

-- no entry that comes is a store below the clock
none-stored : (q : Past) (n a line x : ℕ) (entries : List Done)
    → list_all (λ (done : Done). nat_le n done.clock) entries ≡ true
    → list_any (λ (done : Done). is_store_on a line done && is_ended q done.clock x && nat_lt done.clock n) entries
    ≡ false
none-stored q n a line x [] e = refl
none-stored q n a line x (done ∷ entries) e = grind (arith, none-stored q n a line x entries)

stored-same : (n : ℕ) (p q : Past) (a line x : ℕ) → GoesOn n p q
    → is_stored_below p a line n x ≡ is_stored_below q a line n x
unfolding is_stored_below is_ended is_end_at ended_requests
stored-same n p q a line x h = grind (arith, any_where-same, list_any-append, none-stored)

dirty-same : (n : ℕ) (p q : Past) (a line : ℕ) → GoesOn n p q → is_dirty_below p a line n ≡ is_dirty_below q a line n
unfolding is_dirty_below
dirty-same n p q a line h = grind (arith, is_exclusive-same, latest_grant-same, stored-same)

won-same : (n : ℕ) (p q : Past) (x : ℕ) → Alike n p q → is_won_below p n x ≡ is_won_below q n x
unfolding is_won_below snoop_end_below
won-same n p q x h = grind (arith, snooped-same, first_where-found, first_where-same)

get-mapped : {X Y : Type 0} (f : X → Y) (xs : List X) (k : ℕ) (x : X) → slice_get xs k ≡ Some x
    → slice_get (map f xs) k ≡ Some (f x)
get-mapped f [] k x e = absurd (let h : ⊥ = cc in h)
get-mapped f (y ∷ ys) zero x e = let same : y ≡ x = cc in ap (λ z. Some (f z)) same
get-mapped f (y ∷ ys) (suc k) x e = get-mapped f ys k x e

any-filtered : {X : Type 0} (test f : X → Bool) (xs : List X) → list_any test (filter f xs) ≡ true
    → list_any test xs ≡ true
any-filtered test f [] e = e
any-filtered test f (x ∷ xs) e = grind (arith, any-filtered test f xs)

second : (a b c d e : Bool) → (a && b && c && d && e) ≡ true → b ≡ true
second true true c d e h = refl
second true false c d e h = absurd (let no : ⊥ = cc in no)
second false b c d e h = absurd (let no : ⊥ = cc in no)

began-below : (w : Trace) (c q : ℕ) → is_outstanding w c q ≡ true → nat_lt q c ≡ true
unfolding is_outstanding
began-below w c q e = second _ _ _ _ _ e

-- an outstanding request began below the clock
out-below : (r : Run) (a : ℕ) (v : AgentView) (k : ℕ) (out : OwnRequest) → Reaches r (length r.trace)
    → map (owing_by a) v.outs ≡ owed (past_of r) a (length r.trace) → slice_get v.outs k ≡ Some out
    → out.number < length r.trace
unfolding owed outstanding
out-below r a v k out h list at =
    let p = past_of r in
    let n = length r.trace in
    let test : Owing → Bool = λ owing. nat_eq owing.claim.first out.number in
    let there = get-mapped (owing_by a) v.outs k out at in
    let one = coherent.any-from test (map (owing_by a) v.outs) k (owing_by a out) there
    (eq-eqb out.number out.number refl) in
    let all = any-filtered test (λ owing. nat_eq owing.claim.agent a) (outstanding_at p n)
    (subst (λ xs. list_any test xs ≡ true) list one) in
    let told = subst (λ xs. list_any test xs ≡ true) (owed-told r n h) all in
    let k = lawful.any-from (is_outstanding r.trace n) (owing_begun p) test n told in
    grind (arith, began-below, begun-wanted)

-- a view stays that of its agent as the run grows by a clock: all that it says rests on the moments and entries
-- below it
pub view-grown : (r s : Run) (a : ℕ) (v : AgentView) → GrowsTo r s → Reaches r (length r.trace)
    → IsViewOf (past_of r) a (length r.trace) v → IsViewOf (past_of s) a (length r.trace) v
unfolding items_of
view-grown r s a v grows h k =
    let n = length r.trace in
    let p = past_of r in
    let q = past_of s in
    let goes : GoesOn n p q =
    past-goes_on r s grows.next
    (record { one_hold = grows.timely.one_hold; one_choice = grows.timely.one_choice }) in
    let alike = going-alike n p q goes in
    let plan = goes.same_plan in
    record {
      agent = record {
        number = k.agent.number;
        items = k.agent.items ∙ ap (λ plan. script_of plan.scripts a) plan;
        ahead = k.agent.ahead ∙ ap (λ plan. plan.ahead) plan;
        profile = k.agent.profile ∙ ap (λ plan. plan.profile) plan;
        cache = k.agent.cache ∙ ap (λ plan. plan.cache) plan;
      };
      placed = placed-alike n p q a n v goes (omega arith) k.placed;
      lines = record {
        states = λ line.
            let held = holds_line-same n p q a line n alike (omega arith) in
            let alone = is_exclusive-same n p q a line n alike (omega arith) in
            let dirty = dirty-same n p q a line goes in
            k.lines.states line ∙ (λ i. state_told (held i) (alone i) (dirty i));
        fills = λ line. k.lines.fills line ∙ ap one_if (awaited-same n p q a line alike);
        in_sets = k.lines.in_sets;
      };
      requests = record {
        owed = k.requests.owed ∙ owed-same n p q a n alike (omega arith);
        wanted = λ j out at.
            let below = out-below r a v j out h k.requests.owed at in
            sym (want_of-alike n p q a out.number goes (omega arith)
            (done_below n p a out.number goes.entries below goes.at_end))
            ∙ k.requests.wanted j out at;
        kept = λ j out at. k.requests.kept j out at ∙ won-same n p q out.number alike;
      };
    }
