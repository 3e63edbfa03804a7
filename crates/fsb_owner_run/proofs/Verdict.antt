-- No rule of ownership is broken at any clock of a timely run: the verdict on its trace is none.
use Rattle.std.proofs.Common.{ℕ, zero, suc, ◌+◌, ◌-◌, ◌<◌, ◌≡◌, Bool, true, false, ◌&&◌, not, nat_le, nat_lt, is_some, length}
use Rattle.std.proofs.Common.{List, [], ◌∷◌, None, refl, sym, ap, arith, slice_get, take, subst}
use Rattle.std.specs.List.{Contains, list_all, list_any}
use Rattle.std.specs.Option.{option_and_then, option_map}
use Rattle.std.proofs.lemmas.Bool.{and_parts, both_ways, false_from_ne_true, ltb-true}
use Rattle.fsb_count.specs.Clocks.{all_where, first_where}
use Rattle.fsb_count.specs.Options.{is_some_and}
use Rattle.fsb_count.proofs.Interface.{first_where-off}
use Rattle.fsb_trace.specs.At.{Trace}
use Rattle.fsb_timely.specs.Runs.{Run, run_to}
use Rattle.fsb_timely.specs.Timely.{Timely}
use Rattle.fsb_lawful.specs.Beginning.{KeepsBounds}
use Rattle.fsb_lawful.proofs.CutRuns.{run-twice}
use Rattle.fsb_lawful.proofs.Interface.{length-cut}
use Rattle.fsb_run_laws.specs.Reaches.{Reaches}
use Rattle.fsb_owners.specs.Joint.{Joint, alone, every_joint, is_same_joint, is_same_state, sharing, unheld}
use Rattle.fsb_owner_laws.proofs.Quiet.{any_found, same_joints}
use Rattle.fsb_owners.specs.Least.{is_some_broken, least_at, least_broken}
use Rattle.fsb_owners.specs.Rules.{is_ownership_broken, ownership_rules, ownership_verdict}
use Rattle.fsb_owner_run.proofs.Answered.{hits-repeated, never-given-again}
use Rattle.fsb_owner_run.proofs.AskedOnce.{never-twice}
use Rattle.fsb_owner_run.proofs.Cut.{cut-timely}
use Rattle.fsb_owner_run.proofs.HeldBack.{write-backs-fit}
use Rattle.fsb_owner_run.proofs.Unbroken.{holders-there, holders-told, never-in-vain, owners-there, owners-told}
use Rattle.fsb_owner_run.proofs.Unbroken.{upgrades-fit, written-kept}

-- the run up to one of its clocks
pub cut-reaches : (r : Run) (c : ℕ) → Timely r → KeepsBounds r.plan → c < length r.trace → Reaches (run_to r c) (c + 1)
unfolding run_to
cut-reaches r c h bounds l = record {
  timely = cut-timely r c h l;
  bounds = bounds;
  long = let size = length-cut r c l in omega arith;
}

-- rule j is broken at c where its test passes in the samples up to c
rule-parts : (first : List Joint) (w : Trace) (c j : ℕ) → is_ownership_broken first w c j ≡ true
    → (c < length w) × (is_some_and (slice_get (ownership_rules first) (j - 21)) (λ rule. rule (take (c + 1) w) c) ≡ true)
unfolding is_ownership_broken
rule-parts first w c j e =
    let p = and_parts (nat_lt c (length w) && nat_le 21 j) _ e in
    let q = and_parts (nat_lt c (length w)) (nat_le 21 j) p.0 in
    (ltb-true c (length w) q.0, p.1)

-- rule 21, whatever the line may have at first
pub asks-once : (first : List Joint) (r : Run) (c : ℕ) → Timely r → KeepsBounds r.plan
    → is_ownership_broken first r.trace c 21 ≡ false
unfolding run_to ownership_rules is_some_and
asks-once first r c h bounds =
    false_from_ne_true _ (λ t.
    let p = rule-parts first r.trace c 21 t in
    both_ways _ (never-twice first (run_to r c) c (cut-reaches r c h bounds p.0)) p.1)

none-passes : (rules : List (Trace → ℕ → Bool)) (v : Trace) (c k : ℕ) → list_all (λ rule. not (rule v c)) rules ≡ true
    → is_some_and (slice_get rules k) (λ rule. rule v c) ≡ false
unfolding is_some_and
none-passes [] v c k e = refl
none-passes (rule ∷ rules) v c zero e =
    let p = and_parts (not (rule v c)) (list_all (λ rule. not (rule v c)) rules) e in by-not (rule v c) p.0
  where
    by-not : (b : Bool) → not b ≡ true → b ≡ false
    by-not b h1 = grind arith
none-passes (rule ∷ rules) v c (suc k) e =
    let p = and_parts (not (rule v c)) (list_all (λ rule. not (rule v c)) rules) e in none-passes rules v c k p.1

all-kept : (first : List Joint) (r : Run) (c : ℕ) → Contains first unheld → Reaches r (c + 1) → run_to r c ≡ r → c + 1 ≡ length r.trace
    → list_all (λ rule. not (rule r.trace c)) (ownership_rules first) ≡ true
unfolding ownership_rules
all-kept first r c empty h run size =
    rw (
      never-twice first r c h,
      write-backs-fit first r c empty h,
      upgrades-fit first r c empty h,
      never-in-vain first r c empty h,
      owners-there first r c empty h,
      owners-told first r c empty h,
      holders-told first r c empty h,
      holders-there first r c empty h,
      written-kept first r c empty h,
      hits-repeated first r c h run,
      never-given-again first r c (c + 1) h size,
    ) refl

-- no rule is broken at any clock
pub unbroken : (first : List Joint) (r : Run) (c j : ℕ) → Contains first unheld → Timely r → KeepsBounds r.plan → is_ownership_broken first r.trace c j ≡ false
unfolding run_to
unbroken first r c j empty h bounds =
    false_from_ne_true _ (λ t.
    let p = rule-parts first r.trace c j t in
    let v = run_to r c in
    let kept = all-kept first v c empty (cut-reaches r c h bounds p.0) (run-twice r c c (omega arith)) (sym (length-cut r c p.0)) in
    both_ways _ (none-passes (ownership_rules first) v.trace c (j - 21) kept) p.1)

none-least : (p : ℕ → ℕ → Bool) (m n : ℕ) → ((c j : ℕ) → p c j ≡ false) → least_broken p m n ≡ None
unfolding least_broken is_some_broken least_at
none-least p m n h =
    ap (λ o. option_and_then (λ c. option_map {U = ℕ × ℕ} (λ j. (c, j)) (first_where (p c) m)) o)
    (first_where-off (λ c. is_some (first_where (p c) m)) n (λ c l.
    ap is_some (first_where-off (p c) m (λ j k. h c j))))

-- so the verdict of ownership is none
pub none-broken : (first : List Joint) (r : Run) → Contains first unheld → Timely r → KeepsBounds r.plan → ownership_verdict first r.trace ≡ None
unfolding ownership_verdict
none-broken first r empty h bounds =
    none-least (is_ownership_broken first r.trace) 32 (length r.trace) (λ c j. unbroken first r c j empty h bounds)

-- empty caches are possible where nothing else is, and where nothing is known
pub from-empty : Contains (unheld ∷ []) unheld
from-empty = (0, omega arith, refl)

there-computed : list_any (is_same_joint unheld) every_joint ≡ true
unfolding is_same_joint is_same_state every_joint sharing alone all_where unheld
there-computed = refl

pub from-any : Contains every_joint unheld
from-any =
    let f = any_found (is_same_joint unheld) every_joint there-computed in
    subst (λ x. Contains every_joint x) (sym (same_joints unheld f.0 f.2)) f.1

pub none-broken-empty : (r : Run) → Timely r → KeepsBounds r.plan → ownership_verdict (unheld ∷ []) r.trace ≡ None
none-broken-empty r h bounds = none-broken (unheld ∷ []) r from-empty h bounds

pub none-broken-unknown : (r : Run) → Timely r → KeepsBounds r.plan → ownership_verdict every_joint r.trace ≡ None
none-broken-unknown r h bounds = none-broken every_joint r from-any h bounds
