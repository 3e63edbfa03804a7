-- Choices join in any order and any number of times.
use Rattle.std.proofs.Common.{◌≡◌, ℕ, max, Bool, true, false, cond, List, [], ◌∷◌, ◌++◌, map, refl, sym, ap, ◌∙◌, arith}
use Rattle.std.proofs.Math.Nat.{max-zero, max_comm}
use Rattle.std.proofs.Math.Bool.{or-false, or_assoc, or_comm, or_self}
use Rattle.std.specs.List.{fold, filter}
use Rattle.fsb_hazard.specs.declared.choice.Choice.{Choice}
use Rattle.fsb_hazard.specs.declared.choice.Turn.{Turn}
use Rattle.fsb_hazard.specs.declared.choice.Turn.TheVariants.{Keep, Retry, Defer}
use Rattle.fsb_hazard.specs.declared.choice.Ask.{Ask}
use Rattle.fsb_hazard.specs.declared.line.HazardLine.{HazardLine}
use Rattle.fsb_hazard.specs.Choice.{quiet_choice, join_turns, join}
use Rattle.fsb_hazard.specs.Entry.{is_asked, choice_of, entry}

same_choice : (a b c d : Bool) (k l m n k' l' m' n' : ℕ) (s t : Turn) → a ≡ c → b ≡ d → k ≡ k' → l ≡ l' → m ≡ m'
    → n ≡ n' → s ≡ t
    → (let x : Choice = record { bnr = a; aerr = b; stall = k; trdy = l; resp = m; gap = n; turn = s } in
    let y : Choice = record { bnr = c; aerr = d; stall = k'; trdy = l'; resp = m'; gap = n'; turn = t } in x ≡ y)
same_choice a b c d k l m n k' l' m' n' s t e1 e2 e3 e4 e5 e6 e7 = cc

max_regroup : (k m n : ℕ) → max (max k m) n ≡ max k (max m n)
max_regroup k m n = omega arith

max_once : (n : ℕ) → max n n ≡ n
max_once n = omega arith

turns_swap : (s t : Turn) → join_turns s t ≡ join_turns t s
turns_swap Keep Keep = refl
turns_swap Keep Retry = refl
turns_swap Keep (Defer n) = refl
turns_swap Retry Keep = refl
turns_swap Retry Retry = refl
turns_swap Retry (Defer n) = refl
turns_swap (Defer m) Keep = refl
turns_swap (Defer m) Retry = refl
turns_swap (Defer m) (Defer n) = ap (λ k. Defer k) (max_comm m n)

turns_regroup : (s t u : Turn) → join_turns (join_turns s t) u ≡ join_turns s (join_turns t u)
turns_regroup Keep t u = refl
turns_regroup Retry t u = refl
turns_regroup (Defer k) Keep u = refl
turns_regroup (Defer k) Retry u = refl
turns_regroup (Defer k) (Defer m) Keep = refl
turns_regroup (Defer k) (Defer m) Retry = refl
turns_regroup (Defer k) (Defer m) (Defer n) = ap (λ j. Defer j) (max_regroup k m n)

turns_once : (t : Turn) → join_turns t t ≡ t
turns_once Keep = refl
turns_once Retry = refl
turns_once (Defer n) = ap (λ k. Defer k) (max_once n)

turns_nothing : (t : Turn) → join_turns t Keep ≡ t
turns_nothing Keep = refl
turns_nothing Retry = refl
turns_nothing (Defer n) = refl

pub join_commutes : (a b : Choice) → join a b ≡ join b a
join_commutes a b =
    same_choice _ _ _ _ _ _ _ _ _ _ _ _ _ _
    (or_comm a.bnr b.bnr) (or_comm a.aerr b.aerr)
    (max_comm a.stall b.stall) (max_comm a.trdy b.trdy) (max_comm a.resp b.resp) (max_comm a.gap b.gap)
    (turns_swap a.turn b.turn)

pub join_regroups : (a b c : Choice) → join (join a b) c ≡ join a (join b c)
join_regroups a b c =
    same_choice _ _ _ _ _ _ _ _ _ _ _ _ _ _
    (or_assoc a.bnr b.bnr c.bnr) (or_assoc a.aerr b.aerr c.aerr)
    (max_regroup a.stall b.stall c.stall) (max_regroup a.trdy b.trdy c.trdy) (max_regroup a.resp b.resp c.resp)
    (max_regroup a.gap b.gap c.gap)
    (turns_regroup a.turn b.turn c.turn)

pub join_once : (a : Choice) → join a a ≡ a
join_once a =
    same_choice _ _ _ _ _ _ _ _ _ _ _ _ _ _
    (or_self a.bnr) (or_self a.aerr)
    (max_once a.stall) (max_once a.trdy) (max_once a.resp) (max_once a.gap)
    (turns_once a.turn)

pub join_nothing : (a : Choice) → join a quiet_choice ≡ a
join_nothing a =
    same_choice _ _ _ _ _ _ _ _ _ _ _ _ _ _
    (or-false a.bnr) (or-false a.aerr)
    (max-zero a.stall) (max-zero a.trdy) (max-zero a.resp) (max-zero a.gap)
    (turns_nothing a.turn)

fold_from : (a : Choice) (cs : List Choice) → fold join a cs ≡ join a (fold join quiet_choice cs)
fold_from a [] = sym (join_nothing a)
fold_from a (c ∷ cs) =
    let first : join quiet_choice c ≡ c = join_commutes quiet_choice c ∙ join_nothing c in
    fold_from (join a c) cs
    ∙ join_regroups a c (fold join quiet_choice cs)
    ∙ ap (λ x. join a x) (ap (λ x. join x (fold join quiet_choice cs)) (sym first)
    ∙ sym (fold_from (join quiet_choice c) cs))

entry_of_line : Ask → HazardLine → List HazardLine → Choice
entry_of_line ask line lines = cond (is_asked ask line) (join (choice_of line) (entry lines ask)) (entry lines ask)

entry-cons : (ask : Ask) (line : HazardLine) (lines : List HazardLine)
    → entry (line ∷ lines) ask ≡ entry_of_line ask line lines
unfolding entry_of_line
entry-cons ask line lines =
    let rest : List Choice = map choice_of (filter (is_asked ask) lines) in
    let first : join quiet_choice (choice_of line) ≡ choice_of line =
    join_commutes quiet_choice (choice_of line) ∙ join_nothing (choice_of line) in
    elim (is_asked ask line) as
    (λ t. fold join quiet_choice
    (map choice_of (cond t (line ∷ filter (is_asked ask) lines) (filter (is_asked ask) lines)))
    ≡ cond t (join (choice_of line) (fold join quiet_choice rest)) (fold join quiet_choice rest)) [
      | true ↦ fold_from (join quiet_choice (choice_of line)) rest
          ∙ ap (λ c. join c (fold join quiet_choice rest)) first
      | false ↦ refl
    ]

entry_of_line-append : (asked : Bool) (said whole front back : Choice) → whole ≡ join front back
    → cond asked (join said whole) whole ≡ join (cond asked (join said front) front) back
entry_of_line-append true said whole front back h = ap (λ c. join said c) h ∙ sym (join_regroups said front back)
entry_of_line-append false said whole front back h = h

pub entry-append : (xs ys : List HazardLine) (ask : Ask) → entry (xs ++ ys) ask ≡ join (entry xs ask) (entry ys ask)
unfolding entry_of_line
entry-append [] ys ask = sym (join_commutes quiet_choice (entry ys ask) ∙ join_nothing (entry ys ask))
entry-append (line ∷ xs) ys ask =
    entry-cons ask line (xs ++ ys)
    ∙ entry_of_line-append (is_asked ask line) (choice_of line) (entry (xs ++ ys) ask) (entry xs ask)
    (entry ys ask) (entry-append xs ys ask)
    ∙ ap (λ c. join c (entry ys ask)) (sym (entry-cons ask line xs))
