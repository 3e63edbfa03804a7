-- The canonical text of a lawful plan reads back to that plan.
use Rattle.std.proofs.Common.{◌≡◌, ℕ, ◌+◌, ◌<◌, ◌≤◌, Bool, true, false, List, [], ◌∷◌, ◌++◌, length, Result, Ok, refl}
use Rattle.std.proofs.Common.{sym, subst, arith}
use Rattle.std.specs.Prelude.{nat_le}
use Rattle.std.specs.List.{list_all}
use Rattle.std.proofs.lemmas.Bool.{leb-true, leb-false, ne_eqb, and_parts}
use Rattle.std.proofs.lemmas.List.{append-nil, append_assoc}
use Rattle.fsb_access.specs.declared.item.Item.{Item}
use Rattle.fsb_script.specs.declared.fault.ScriptFault.{ScriptFault}
use Rattle.fsb_script.specs.Places.{at_hazards}
use Rattle.fsb_script.specs.Bounds.{is_cache, is_lawful_script, is_lawful_hazard, are_lawful_hazards}
use Rattle.fsb_script.specs.Plans.{PlanView}
use Rattle.fsb_script.specs.Drafts.{beginning, said_plan, plan_at_end, BenchText}
use Rattle.fsb_script.specs.Text.{head_text, profile_text, bridge_text, settings_text, scripts_text, hazards_text}
use Rattle.fsb_script.specs.Text.{bench_text}
use Rattle.fsb_script_laws.specs.LawfulPlans.{IsLawfulPlan}
use Rattle.fsb_script_laws.proofs.Split.{GoesOn}
use Rattle.fsb_script_laws.proofs.States.{state, Before, before_place, Opening}
use Rattle.fsb_script_laws.proofs.HeadLines.{head_plan, head_goes_on, profile_goes_on, bridge_goes_on, settings_go_on}
use Rattle.fsb_script_laws.proofs.Scripts.{scripts_go_on}
use Rattle.fsb_script_laws.proofs.HazardLines.{hazards_go_on}

above : (n : ℕ) → 1024 < n → is_cache n ≡ false
above n h = rw (
  ne_eqb n 1 (λ e. omega arith),
  ne_eqb n 2 (λ e. omega arith),
  ne_eqb n 4
      (λ e. omega arith),
  ne_eqb n 8 (λ e. omega arith),
  ne_eqb n 16 (λ e. omega arith),
  ne_eqb n 32
      (λ e. omega arith),
  ne_eqb n 64 (λ e. omega arith),
  ne_eqb n 128 (λ e. omega arith),
  ne_eqb n 256
      (λ e. omega arith),
  ne_eqb n 512 (λ e. omega arith),
  ne_eqb n 1024 (λ e. omega arith),
) refl

cache_small : (n : ℕ) → is_cache n ≡ true → n ≤ 1024
cache_small n lawful = by (nat_le n 1024) refl
  where
    by : (t : Bool) → nat_le n 1024 ≡ t → n ≤ 1024
    by true e = leb-true n 1024 e
    by false e = let off : is_cache n ≡ false = above n (leb-false n 1024 e) in absurd cc

-- what stands behind the settings, which ends the text
ends : (p : PlanView) → GoesOn (state at_hazards (length p.scripts) p [] []) [] p
unfolding plan_at_end
ends p number = refl

hazards_end : (p : PlanView) → IsLawfulPlan p
    → GoesOn (state at_hazards (length p.scripts) (record p { hazards = [] }) [] []) (hazards_text p.hazards ++ []) p
unfolding are_lawful_hazards
hazards_end p lawful =
    let short : length p.hazards ≤ 4096 = leb-true (length p.hazards) 4096
    (and_parts (nat_le (length p.hazards) 4096) (list_all is_lawful_hazard p.hazards) lawful.lawful_hazards).0 in
    let few : 0 + length p.hazards ≤ 4096 = omega arith in
    hazards_go_on p.hazards (length p.scripts) (record p { hazards = [] }) [] p
    (and_parts (nat_le (length p.hazards) 4096) (list_all is_lawful_hazard p.hazards) lawful.lawful_hazards).1 few
    (ends p)

-- the scripts of a plan, of which there is one at least
scripts_end : (p : PlanView) (scripts : List (List Item)) (before : Before) (rest : List ℕ) → 1 ≤ length scripts
    → length scripts ≤ 4 → list_all (is_lawful_script p.cache) scripts ≡ true
    → GoesOn (state at_hazards (length scripts) (record p { scripts = scripts; hazards = [] }) [] []) rest
    (record p { scripts = scripts })
    → GoesOn (state (before_place before) (length scripts) (record p { scripts = []; hazards = [] }) [] [])
    (scripts_text 0 scripts ++ rest) (record p { scripts = scripts })
scripts_end p [] before rest some few lawful then_ = absurd (omega arith)
scripts_end p (script ∷ scripts) before rest some few lawful then_ =
    scripts_go_on script scripts (Opening before) (length (script ∷ scripts))
    (record p { scripts = []; hazards = [] }) rest (record p { scripts = script ∷ scripts }) (omega arith) few
    (and_parts (is_lawful_script p.cache script) (list_all (is_lawful_script p.cache) scripts) lawful).0
    (and_parts (is_lawful_script p.cache script) (list_all (is_lawful_script p.cache) scripts) lawful).1
    then_

text_is : (p : PlanView) → bench_text p ≡ head_text
    (length p.scripts) p.clocks p.cache p.ahead ++
    (profile_text p.profile ++ (bridge_text p.bridge
    ++ (settings_text p.mem ++ (scripts_text 0 p.scripts ++ (hazards_text p.hazards ++ [])))))
unfolding bench_text
text_is p = simp (append-nil, append_assoc)

pub plan_reads_back : (p : PlanView) → IsLawfulPlan p → BenchText (bench_text p) p
unfolding said_plan
plan_reads_back p lawful =
    let last : List ℕ = hazards_text p.hazards ++ [] in
    let scripts : List ℕ = scripts_text 0 p.scripts ++ last in
    let memory : List ℕ = settings_text p.mem ++ scripts in
    let bridge : List ℕ = bridge_text p.bridge ++ memory in
    let profile : List ℕ = profile_text p.profile ++ bridge in
    let agents : ℕ = length p.scripts in
    let headed : PlanView = head_plan p.clocks p.cache p.ahead in
    let profiled : PlanView = record headed { profile = p.profile } in
    let bridged : PlanView = record profiled { bridge = p.bridge } in
    let whole : GoesOn beginning (head_text agents p.clocks p.cache p.ahead ++ profile) p =
    head_goes_on agents p.clocks p.cache p.ahead profile p lawful.some_agents lawful.few_agents lawful.few_clocks
    (cache_small p.cache lawful.lawful_cache) lawful.lawful_cache lawful.some_ahead lawful.few_ahead
    (profile_goes_on agents headed p.profile bridge p refl lawful.lawful_profile
    (λ head. bridge_goes_on head agents profiled p.bridge memory p refl lawful.lawful_bridge
    (λ before. settings_go_on p.mem before agents bridged scripts p lawful.lawful_mem lawful.byte_mem
    (λ b. scripts_end p p.scripts b last lawful.some_agents lawful.few_agents lawful.lawful_scripts
    (hazards_end p lawful))))) in
    subst (λ text. GoesOn beginning text p) (sym (text_is p)) whole 1

ok_same : (p q : PlanView) (r : Result PlanView ScriptFault) → r ≡ Ok p → r ≡ Ok q → p ≡ q
ok_same p q r a b = cc

-- a text says one plan
pub own_text : (p q : PlanView) → IsLawfulPlan p → IsLawfulPlan q → bench_text p ≡ bench_text q → p ≡ q
own_text p q a b same = ok_same p q (said_plan (bench_text q))
    (subst (λ text. BenchText text p) same (plan_reads_back p a)) (plan_reads_back q b)
