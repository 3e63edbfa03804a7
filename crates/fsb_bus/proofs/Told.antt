-- What is told to one agent alone, to all of them or to none.
use Rattle.std.proofs.Common.{◌≡◌, ◌<◌, ℕ, ◌+◌, List, [], ◌∷◌, ◌++◌, map, take, drop, length, fold, get_or, set, Option}
use Rattle.std.proofs.Common.{Some, None, zero, suc, refl, sym, ap, ◌∙◌, arith, add-one, add-zero, zero-add}
use Rattle.std.proofs.Common.{append_assoc, append-nil}
use Rattle.std.proofs.Math.Seq.{take-suc}
use Rattle.std.proofs.lemmas.Bool.Decides.{nat_tests}
use Rattle.std.proofs.lemmas.Option.{get_or_from_slice_get, same_Some}
use Rattle.std.proofs.lemmas.List.{set-get_or}
use Rattle.std.specs.Option.{option_map_or}
use Rattle.std.specs.Prelude.{slice_get, slice_set}
use Rattle.fsb_agent_view.specs.AgentEvents.{AgentEvent, agent_after}
use Rattle.fsb_agent_view.specs.AgentViews.{AgentView}
use Rattle.fsb_agent_view.specs.Arriving.{hand_by}
use Rattle.fsb_agent_view.specs.Completing.{performed_entries}
use Rattle.fsb_bench_view.specs.ToldAgents.{agents_told, bytes_owed, first_of, for_all, for_none, for_one, hit_entries}

pub told-none : (n : ℕ) (agents : List AgentView) → agents_told for_none n agents ≡ agents
told-none n [] = refl
told-none n (v ∷ vs) = ap (λ rest. v ∷ rest) (told-none (n + 1) vs)

pub told-all : (e : AgentEvent) (n : ℕ) (agents : List AgentView)
    → agents_told (for_all e) n agents ≡ map (λ v. agent_after v e) agents
told-all e n [] = refl
told-all e n (v ∷ vs) = ap (λ rest. agent_after v e ∷ rest) (told-all e (n + 1) vs)

-- agents behind the one that is told something
pub told-behind : (a n : ℕ) (e : AgentEvent) (agents : List AgentView) → a < n
    → agents_told (for_one a e) n agents ≡ agents
told-behind a n e [] above = refl
told-behind a n e (v ∷ vs) above = grind (arith, nat_tests, told-behind a (n + 1) e vs (omega (arith, above)))

-- the agent that is told something
told-here : (n : ℕ) (e : AgentEvent) (v : AgentView) (vs : List AgentView)
    → agents_told (for_one n e) n (v ∷ vs) ≡ agent_after v e ∷ vs
told-here n e v vs = grind (arith, nat_tests, told-behind n (n + 1) e vs (omega arith))

pub told-one :
    (a n k : ℕ) (e : AgentEvent) (agents : List AgentView) (v : AgentView) → n + k ≡ a → slice_get agents k ≡ Some v
    → agents_told (for_one a e) n agents ≡ slice_set agents k (agent_after v e)
told-one a n k e [] v at there = refl
told-one a n zero e (w ∷ vs) v at there =
    let same : n ≡ a = omega (arith, at) in
    ap (λ b. agents_told (for_one b e) n (w ∷ vs)) (sym same)
    ∙ told-here n e w vs
    ∙ ap (λ x. agent_after x e ∷ vs) (same_Some w v there)
told-one a n (suc k) e (w ∷ vs) v at there =
    let below : n < a = omega (arith, at) in
    grind (arith, nat_tests, below, told-one a (n + 1) k e vs v (omega (arith, at)) there)

-- one agent is told an event, if there is one
pub told-maybe : (a : ℕ) (event : Option AgentEvent) (agents : List AgentView) (v : AgentView)
    → slice_get agents a ≡ Some v
    → agents_told (λ n. option_map_or (λ e. for_one a e n) event []) 0 agents
    ≡ set agents a (option_map_or (agent_after v) event v)
told-maybe a None agents v there =
    told-none 0 agents ∙ sym (set-get_or agents a v) ∙ ap (set agents a) (get_or_from_slice_get agents a v v there)
told-maybe a (Some e) agents v there = told-one a 0 a e agents v (zero-add a) there

-- the agent at a place is as it was, as long as only those before it are told
pub told_over-at : (events : ℕ → List AgentEvent) (n : ℕ) (xs : List AgentView) (i : ℕ) (d : AgentView) → i < length xs
    → get_or (agents_told events n (take i xs) ++ drop i xs) i d ≡ get_or xs i d
told_over-at events n [] i d within = absurd (omega (arith, within))
told_over-at events n (w ∷ xs) zero d within = refl
told_over-at events n (w ∷ xs) (suc i) d within = told_over-at events (n + 1) xs i d (omega (arith, within))

told_over : (events : ℕ → List AgentEvent) (n : ℕ) (xs : List AgentView) (i : ℕ) (d : AgentView) → i < length xs
    → set (agents_told events n (take i xs) ++ drop i xs) i (fold agent_after (get_or xs i d) (events (n + i)))
    ≡ agents_told events n (take (i + 1) xs) ++ drop (i + 1) xs
told_over events n [] i d within = absurd (omega (arith, within))
told_over events n (w ∷ xs) zero d within = ap (λ m. fold agent_after w (events m) ∷ xs) (add-zero n)
told_over events n (w ∷ xs) (suc i) d within =
    let place : suc i + 1 ≡ suc (i + 1) = omega arith in
    let number : n + suc i ≡ n + 1 + i = omega arith in
    rw (place, number)
    (ap (λ rest. fold agent_after w (events n) ∷ rest) (told_over events (n + 1) xs i d (omega (arith, within))))

-- one agent more is told its events
pub told_over-more :
    (events : ℕ → List AgentEvent) (n : ℕ) (xs ys : List AgentView) (i : ℕ) (x new : AgentView) → i < length xs
    → ys ≡ agents_told events n (take i xs) ++ drop i xs → x ≡ get_or ys i x → new ≡ fold agent_after x (events (n + i))
    → set ys i new ≡ agents_told events n (take (i + 1) xs) ++ drop (i + 1) xs
told_over-more events n xs ys i x new within so_far at is =
    let same : x ≡ get_or xs i x = at ∙ ap (λ l. get_or l i x) so_far ∙ told_over-at events n xs i x within in
    ap (λ l. set l i new) so_far
    ∙ ap (λ w. set (agents_told events n (take i xs) ++ drop i xs) i w) (is
    ∙ ap (λ w. fold agent_after w (events (n + i))) same)
    ∙ told_over events n xs i x within

-- the agent at a place is as it was, as long as only those before it are changed
pub map_over-at : (f : AgentView → AgentView) (xs : List AgentView) (i : ℕ) (d : AgentView) → i < length xs
    → get_or (map f (take i xs) ++ drop i xs) i d ≡ get_or xs i d
map_over-at f [] i d within = absurd (omega (arith, within))
map_over-at f (w ∷ xs) zero d within = refl
map_over-at f (w ∷ xs) (suc i) d within = map_over-at f xs i d (omega (arith, within))

-- so it is the one of the list before
pub item-before : (f : AgentView → AgentView) (xs ys : List AgentView) (i : ℕ) (x : AgentView) → i < length xs
    → ys ≡ map f (take i xs) ++ drop i xs → x ≡ get_or ys i x → x ≡ get_or xs i x
item-before f xs ys i x within so_far at = at ∙ ap (λ l. get_or l i x) so_far ∙ map_over-at f xs i x within

first_of-none : (a : Option (List ℕ)) → first_of a None ≡ a
first_of-none None = refl
first_of-none (Some bytes) = refl

first_of-assoc : (a b c : Option (List ℕ)) → first_of a (first_of b c) ≡ first_of (first_of a b) c
first_of-assoc None b c = refl
first_of-assoc (Some bytes) b c = refl

-- the bytes of one agent more
owed-more : (number : ℕ) (vs : List AgentView) (v : AgentView)
    → bytes_owed number (vs ++ v ∷ []) ≡ first_of (bytes_owed number vs) (hand_by v number)
owed-more number [] v = first_of-none (hand_by v number)
owed-more number (w ∷ vs) v =
    ap (first_of (hand_by w number)) (owed-more number vs v)
    ∙ first_of-assoc (hand_by w number) (bytes_owed number vs) (hand_by v number)

-- the entries of one agent more
hits-more : (clock : ℕ) (vs : List AgentView) (v : AgentView)
    → hit_entries clock (vs ++ v ∷ []) ≡ hit_entries clock vs ++ performed_entries v clock
hits-more clock [] v = append-nil (performed_entries v clock)
hits-more clock (w ∷ vs) v =
    ap (λ rest. performed_entries w clock ++ rest) (hits-more clock vs v)
    ∙ sym (append_assoc (performed_entries w clock) (hit_entries clock vs) (performed_entries v clock))

-- one agent more of a list
take-more : (xs : List AgentView) (i : ℕ) (x : AgentView) → i < length xs → x ≡ get_or xs i x
    → take (i + 1) xs ≡ take i xs ++ x ∷ []
take-more xs i x within at = ap (λ n. take n xs) (add-one i) ∙ take-suc xs i x within
    ∙ ap (λ w. take i xs ++ w ∷ []) (sym at)

pub owed-next : (number : ℕ) (xs : List AgentView) (i : ℕ) (x : AgentView) → i < length xs → x ≡ get_or xs i x
    → bytes_owed number (take (i + 1) xs) ≡ first_of (bytes_owed number (take i xs)) (hand_by x number)
owed-next number xs i x within at = ap (bytes_owed number) (take-more xs i x within at) ∙ owed-more number (take i xs) x

pub hits-next : (clock : ℕ) (xs : List AgentView) (i : ℕ) (x : AgentView) → i < length xs → x ≡ get_or xs i x
    → hit_entries clock (take (i + 1) xs) ≡ hit_entries clock (take i xs) ++ performed_entries x clock
hits-next clock xs i x within at = ap (hit_entries clock) (take-more xs i x within at) ∙ hits-more clock (take i xs) x
