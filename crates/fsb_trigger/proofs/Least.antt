-- The least match, as one sample is added.
use Rattle.std.proofs.Common.{◌≡◌, ◌-◌, ℕ, suc, Bool, true, false, cond, Option, Some, None, List, [], ◌∷◌, ◌++◌}
use Rattle.std.proofs.Common.{length, option_map, is_some, take, refl, sym, ap, ◌∙◌, arith}
use Rattle.std.proofs.lemmas.List.{length_push}
use Rattle.fsb_count.specs.Clocks.{first_where}
use Rattle.fsb_count.proofs.Interface.{first_where-same, first_where-found}
use Rattle.fsb_signal.specs.declared.sample.Sample.{Sample}
use Rattle.fsb_trigger.specs.TriggerSteps.{StepView}
use Rattle.fsb_trigger.specs.Match.{matches, chain, newest_match, least_match}
use Rattle.fsb_trigger.specs.Hunt.{kept}
use Rattle.fsb_trigger.proofs.Grows.{matches-before, chain-before}
use Rattle.fsb_trigger.proofs.Newest.{newest_match-is, some_map, none_map}

by_first : (o : Option ℕ) (b : Bool) (n d : ℕ) → o ≡ Some d
    → elim o [ Some c ↦ Some c | None ↦ cond b (Some n) None ] ≡ Some d
by_first None b n d e = absurd (let no : ⊥ = cc in no)
by_first (Some c) b n d e = e

by_newest : (o : Option ℕ) (b : Bool) (n : ℕ) → o ≡ None
    → elim o [ Some c ↦ Some c | None ↦ cond b (Some n) None ] ≡ cond b (Some n) None
by_newest None b n e = refl
by_newest (Some c) b n e = absurd (let no : ⊥ = cc in no)

first-some : (p : ℕ → Bool) (n d : ℕ) → first_where p n ≡ Some d → first_where p (suc n) ≡ Some d
unfolding first_where
first-some p n d e = by_first (first_where p n) (p n) n d e

first-none : (p : ℕ → Bool) (n : ℕ) → first_where p n ≡ None → first_where p (suc n) ≡ cond (p n) (Some n) None
unfolding first_where
first-none p n e = by_newest (first_where p n) (p n) n e

map_cond : (f : ℕ → List ℕ) (b : Bool) (n : ℕ) → option_map f (cond b (Some n) None) ≡ cond b (Some (f n)) None
map_cond f true n = refl
map_cond f false n = refl

-- the least match stays
pub least-stays : (steps : List StepView) (h : List Sample) (s : Sample) (xs : List ℕ)
    → least_match steps h ≡ Some xs → least_match steps (h ++ s ∷ []) ≡ Some xs
unfolding least_match
least-stays steps h s xs e =
    let v : List Sample = h ++ s ∷ [] in
    let i : ℕ = length steps - 1 in
    let n : ℕ = length h in
    let more : length v ≡ suc n = (let l = length_push h s in omega (arith, l)) in
    let p = some_map (chain steps h i) (first_where (matches steps h i) n) xs e in
    let found = first_where-found (matches steps h i) n p.0 p.1 in
    let same : first_where (matches steps v i) n ≡ Some p.0 =
    first_where-same (matches steps v i) (matches steps h i) n
    (record { same = λ c l. matches-before steps h s i c l }) ∙ p.1 in
    ap (λ m. option_map (chain steps v i) (first_where (matches steps v i) m)) more
    ∙ ap (option_map (chain steps v i)) (first-some (matches steps v i) n p.0 same)
    ∙ ap Some (chain-before steps h s i p.0 (let k = found.0 in omega (arith, k)) ∙ p.2)

-- the first match is the one at the new sample
pub least-new : (steps : List StepView) (h : List Sample) (s : Sample) → least_match steps h ≡ None
    → least_match steps (h ++ s ∷ []) ≡ newest_match steps (h ++ s ∷ []) (length steps - 1)
unfolding least_match
least-new steps h s e =
    let v : List Sample = h ++ s ∷ [] in
    let i : ℕ = length steps - 1 in
    let n : ℕ = length h in
    let more : length v ≡ suc n = (let l = length_push h s in omega (arith, l)) in
    let none : first_where (matches steps v i) n ≡ None =
    first_where-same (matches steps v i) (matches steps h i) n (record { same = λ c l. matches-before steps h s i c l })
    ∙ none_map (chain steps h i) (first_where (matches steps h i) n) e in
    ap (λ m. option_map (chain steps v i) (first_where (matches steps v i) m)) more
    ∙ ap (option_map (chain steps v i)) (first-none (matches steps v i) n none)
    ∙ map_cond (chain steps v i) (matches steps v i n) n
    ∙ sym (newest_match-is steps h s i)

-- what was found before stays found
pub found-stays : (steps : List StepView) (h : List Sample) (s : Sample) (n : ℕ) (found : Option (List ℕ))
    → is_some found ≡ true → kept n found ≡ least_match steps h → kept n found ≡ least_match steps (h ++ s ∷ [])
found-stays steps h s n None e is = absurd (let no : ⊥ = cc in no)
found-stays steps h s n (Some clocks) e is = sym (least-stays steps h s (take n clocks) (sym is))
