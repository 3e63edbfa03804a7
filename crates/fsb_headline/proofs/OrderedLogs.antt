-- Two logs of the same scripts whose entries have the same clocks, agents and values are one.
use Rattle.std.proofs.Common.{◌≡◌, ◌++◌, ◌∙◌, ◌+◌, ℕ, zero, suc, Bool, true, false, List, [], ◌∷◌, ap}
use Rattle.std.proofs.Common.{arith, length, refl}
use Rattle.std.proofs.Common.{length-append, sym, take}
use Rattle.std.proofs.Common.{◌<◌, ◌^◌, map}
use Rattle.std.specs.List.{All}
use Rattle.std.specs.Prelude.{◌==◌}
use Rattle.std.proofs.lemmas.Bool.{eq-eqb}
use Rattle.fsb_access.specs.ScriptOrder.{InOrder, Step, accesses_from, accesses_of, script_of, step_of, steps_of}
use Rattle.fsb_access.specs.ScriptOrder.{steps_of_item}
use Rattle.fsb_access.specs.Replay.{ReplayState, Served, replayed_values, served_state, served_value, start_of}
use Rattle.fsb_access.specs.declared.access.Access.{Access}
use Rattle.fsb_access.specs.declared.access.Setting.{Setting}
use Rattle.fsb_access.specs.declared.item.Item.{Item}
use Rattle.fsb_access.specs.declared.log.Done.{Done}
use Rattle.fsb_headline.proofs.LogLines.{AllAlike}
use Rattle.fsb_headline.proofs.NumberSplit.{hexadecimal_injective}

abbrev value_of : Done → ℕ
value_of done = done.value

no-length : (xs : List Step) → length xs ≡ 0 → xs ≡ []
no-length [] e = refl
no-length (x ∷ xs) e = absurd (omega arith)

-- first items with as many accesses have the same ones
firsts-same : (number : ℕ) (items : List Item) (i j : ℕ)
    → length (accesses_from number (take i items)) ≡ length (accesses_from number (take j items))
    → accesses_from number (take i items) ≡ accesses_from number (take j items)
firsts-same number [] zero zero e = refl
firsts-same number [] zero (suc j) e = refl
firsts-same number [] (suc i) zero e = refl
firsts-same number [] (suc i) (suc j) e = refl
firsts-same number (item ∷ items) zero zero e = refl
firsts-same number (item ∷ items) zero (suc j) e =
    sym (no-length (accesses_from number (take (suc j) (item ∷ items))) (sym e))
firsts-same number (item ∷ items) (suc i) zero e = no-length (accesses_from number (take (suc i) (item ∷ items))) e
firsts-same number (item ∷ items) (suc i) (suc j) e =
    let own = steps_of_item number item in
    let of_i = accesses_from (number + 1) (take i items) in
    let of_j = accesses_from (number + 1) (take j items) in
    let rest : length of_i ≡ length of_j = omega (arith, length-append own of_i, length-append own of_j) in
    ap (λ (steps : List Step). own ++ steps) (firsts-same (number + 1) items i j rest)

-- an agent has as many entries in both
as-many : (agent : ℕ) (xs ys : List Done) → AllAlike xs ys → length (steps_of agent xs) ≡ length (steps_of agent ys)
unfolding AllAlike
as-many agent [] [] alike = refl
as-many agent [] (y ∷ ys) alike = absurd alike
as-many agent (x ∷ xs) [] alike = absurd alike
as-many agent (x ∷ xs) (y ∷ ys) alike =
    by (y.agent == agent) (ap (λ (a : ℕ). a == agent) alike.0.agent) refl (as-many agent xs ys alike.1)
  where
    by : (t : Bool) → (x.agent == agent) ≡ t → (y.agent == agent) ≡ t
        → length (steps_of agent xs) ≡ length (steps_of agent ys)
        → length (steps_of agent (x ∷ xs)) ≡ length (steps_of agent (y ∷ ys))
    by true e f rest = rw (e, f) (omega arith)
    by false e f rest = rw (e, f) rest

-- the first entries are of one access, and the others have the same accesses of each agent
module _ (x y : Done) (xs ys : List Done) (agents : x.agent ≡ y.agent)
    (same : (agent : ℕ) → steps_of agent (x ∷ xs) ≡ steps_of agent (y ∷ ys)) where
  step-same : step_of x ≡ step_of y
  step-same =
      let own : (x.agent == x.agent) ≡ true = eq-eqb x.agent x.agent refl in
      let others : (y.agent == x.agent) ≡ true = eq-eqb y.agent x.agent (sym agents) in
      let both = rw (own, others) at (same x.agent) in
      cc

  rest-same : (agent : ℕ) → steps_of agent xs ≡ steps_of agent ys
  rest-same agent = by (y.agent == agent) (ap (λ (a : ℕ). a == agent) agents) refl
    where
      by : (t : Bool) → (x.agent == agent) ≡ t → (y.agent == agent) ≡ t → steps_of agent xs ≡ steps_of agent ys
      by true e f = let both = rw (e, f) at (same agent) in cc
      by false e f = rw (e, f) at (same agent)

-- logs whose entries are alike, and which have the same accesses of each agent and the same values, are one
one-log : (xs ys : List Done) → AllAlike xs ys → ((agent : ℕ) → steps_of agent xs ≡ steps_of agent ys)
    → map value_of xs ≡ map value_of ys → xs ≡ ys
unfolding AllAlike
one-log [] [] alike same values = refl
one-log [] (y ∷ ys) alike same values = absurd alike
one-log (x ∷ xs) [] alike same values = absurd alike
one-log (x ∷ xs) (y ∷ ys) alike same values =
    let rest = one-log xs ys alike.1 (rest-same x y xs ys alike.0.agent same) others in
    λ i. entry i ∷ rest i
  where
    step : step_of x ≡ step_of y
    step = step-same x y xs ys alike.0.agent same

    value : x.value ≡ y.value
    value = cc

    others : map value_of xs ≡ map value_of ys
    others = cc

    entry : x ≡ y
    entry = λ i. record {
      clock = alike.0.clock i;
      agent = alike.0.agent i;
      item = (step i).item;
      part = (step i).part;
      access = (step i).access;
      value = value i;
    }

-- they have the same values where one memory serves them, and where the values have at most 64 bits
values-served : (state : ReplayState) (xs ys : List Done) → AllAlike xs ys
    → ((agent : ℕ) → steps_of agent xs ≡ steps_of agent ys) → replayed_values state xs ≡ replayed_values state ys
unfolding AllAlike
values-served state [] [] alike same = refl
values-served state [] (y ∷ ys) alike same = absurd alike
values-served state (x ∷ xs) [] alike same = absurd alike
values-served state (x ∷ xs) (y ∷ ys) alike same =
    let step = step-same x y xs ys alike.0.agent same in
    let rest = values-served (served_state state y.agent y.access) xs ys alike.1
    (rest-same x y xs ys alike.0.agent same) in
    let replayed : ℕ → Access → List ℕ = λ agent access.
    served_value state agent access ∷ replayed_values (served_state state agent access) xs in
    let first : replayed x.agent x.access ≡ replayed y.agent y.access =
    λ i. replayed (alike.0.agent i) (step i).access in
    first ∙ ap (λ (values : List ℕ). served_value state y.agent y.access ∷ values) rest

values-read : (xs ys : List Done) → AllAlike xs ys → All (λ (done : Done). done.value < 2 ^ 64) xs
    → All (λ (done : Done). done.value < 2 ^ 64) ys → map value_of xs ≡ map value_of ys
unfolding AllAlike
values-read [] [] alike p q = refl
values-read [] (y ∷ ys) alike p q = absurd alike
values-read (x ∷ xs) [] alike p q = absurd alike
values-read (x ∷ xs) (y ∷ ys) alike p q =
    let value = hexadecimal_injective x.value y.value (p 0 x (omega arith)) (q 0 y (omega arith)) alike.0.value in
    let rest = values-read xs ys alike.1 (λ k d h. p (suc k) d (omega arith)) (λ k d h. q (suc k) d (omega arith)) in
    λ i. value i ∷ rest i

steps-same : (scripts : List (List Item)) (xs ys : List Done) → InOrder scripts xs → InOrder scripts ys
    → AllAlike xs ys → (agent : ℕ) → steps_of agent xs ≡ steps_of agent ys
steps-same scripts xs ys p q alike agent =
    let f = p.follows agent in
    let g = q.follows agent in
    let script = script_of scripts agent in
    let many : length (accesses_of (take f.items script)) ≡ length (accesses_of (take g.items script)) =
    sym (ap length f.same) ∙ as-many agent xs ys alike ∙ ap length g.same in
    f.same ∙ firsts-same 0 script f.items g.items many ∙ sym g.same

-- of the same scripts, logs in order whose entries are alike are one, where their values have at most 64 bits
pub logs-same : (scripts : List (List Item)) (xs ys : List Done) → InOrder scripts xs → InOrder scripts ys
    → AllAlike xs ys → All (λ (done : Done). done.value < 2 ^ 64) xs
    → All (λ (done : Done). done.value < 2 ^ 64) ys → xs ≡ ys
logs-same scripts xs ys p q alike few more =
    one-log xs ys alike (steps-same scripts xs ys p q alike) (values-read xs ys alike few more)

-- or where one memory serves both
pub served-same : (scripts : List (List Item)) (settings : List Setting) (xs ys : List Done) → InOrder scripts xs
    → InOrder scripts ys → AllAlike xs ys → Served settings xs → Served settings ys → xs ≡ ys
served-same scripts settings xs ys p q alike served also =
    let same = steps-same scripts xs ys p q alike in
    one-log xs ys alike same (served ∙ values-served (start_of settings) xs ys alike same ∙ sym also)
