-- What a match says of a trace as one sample is added.
use Rattle.std.proofs.Common.{◌≡◌, ◌<◌, ◌≤◌, ◌-◌, ◌&&◌, ℕ, zero, suc, true, false, cond, Option, Some, None, List, []}
use Rattle.std.proofs.Common.{◌∷◌, ◌++◌, length, slice_get, nat_le, option_map, inl, inr, refl, sym, ap, ◌∙◌, arith}
use Rattle.std.specs.Option.{option_map_or}
use Rattle.std.proofs.lemmas.Bool.{cases_Bool, leb-true, le-leb}
use Rattle.std.proofs.lemmas.List.{length_push}
use Rattle.fsb_count.specs.Clocks.{any_where, last_where}
use Rattle.fsb_count.proofs.Interface.{any_where-same, slice_get-end}
use Rattle.fsb_signal.proofs.Interface.{slice_get-before}
use Rattle.fsb_signal.specs.declared.sample.Sample.{Sample}
use Rattle.fsb_trigger.specs.TriggerSteps.{StepView, step_holds, keeps_bound}
use Rattle.fsb_trigger.specs.Match.{step_holds_at, near, matches, chain, newest_match, latest}
use Rattle.fsb_trigger.proofs.Last.{last_step, last_where-same, last_where-found, any-last}

-- a step at a clock that was there
step_holds_at-before : (steps : List StepView) (h : List Sample) (s : Sample) (i c : ℕ) → c < length h
    → step_holds_at steps (h ++ s ∷ []) i c ≡ step_holds_at steps h i c
unfolding step_holds_at
step_holds_at-before steps h s i c l =
    ap (λ o. option_map_or (λ s. option_map_or (step_holds s) (slice_get steps i) false) o false)
    (slice_get-before h (s ∷ []) c l)

-- a step at the clock of the new sample
pub step_holds_at-new : (steps : List StepView) (h : List Sample) (s : Sample) (i : ℕ) (step : StepView)
    → slice_get steps i ≡ Some step → step_holds_at steps (h ++ s ∷ []) i (length h) ≡ step_holds s step
unfolding step_holds_at
step_holds_at-new steps h s i step e =
    ap (λ o. option_map_or (λ s. option_map_or (step_holds s) (slice_get steps i) false) o false) (slice_get-end h s)
    ∙ ap (λ o. option_map_or (step_holds s) o false) e

-- two functions that agree on the value that is there
same_at : (f g : ℕ → List ℕ) (o : Option ℕ) → ((d : ℕ) → o ≡ Some d → f d ≡ g d)
    → option_map_or f o [] ≡ option_map_or g o []
same_at f g None same = refl
same_at f g (Some d) same = same d refl

-- what matched before still does
pub matches-before : (steps : List StepView) (h : List Sample) (s : Sample) (i c : ℕ) → c < length h
    → matches steps (h ++ s ∷ []) i c ≡ matches steps h i c
unfolding matches
matches-before steps h s zero c l = step_holds_at-before steps h s 0 c l
matches-before steps h s (suc i) c l =
    rw (
      step_holds_at-before steps h s (suc i) c l,
      any_where-same (λ d. matches steps (h ++ s ∷ []) i d && near steps (suc i) d c)
          (λ d. matches steps h i d && near steps (suc i) d c) c
          (record {
            same = λ d k. ap (λ b. b && near steps (suc i) d c)
                (matches-before steps h s i d (omega (arith, k, l)));
          }),
    )
    refl

-- a later clock only comes nearer
nearer : (bound : Option ℕ) (c d e : ℕ) → d ≤ e → option_map_or (λ n. nat_le (c - d) n) bound true ≡ true
    → option_map_or (λ n. nat_le (c - e) n) bound true ≡ true
nearer None c d e l k = refl
nearer (Some n) c d e l k = le-leb (c - e) n (let far : c - d ≤ n = leb-true (c - d) n k in omega (arith, far, l))

bound-later : (step : StepView) (c d e : ℕ) → d ≤ e → keeps_bound step (c - d) ≡ true → keeps_bound step (c - e) ≡ true
unfolding keeps_bound
bound-later step c d e l k = nearer step.bound c d e l k

near-is : (steps : List StepView) (i d c : ℕ) (step : StepView) → slice_get steps i ≡ Some step
    → near steps i d c ≡ keeps_bound step (c - d)
unfolding near
near-is steps i d c step e = ap (λ o. option_map_or (λ step. keeps_bound step (c - d)) o false) e

-- the first step at the clock of the new sample
pub matches-first : (steps : List StepView) (h : List Sample) (s : Sample) (step : StepView)
    → slice_get steps 0 ≡ Some step → matches steps (h ++ s ∷ []) 0 (length h) ≡ step_holds s step
unfolding matches
matches-first steps h s step e = step_holds_at-new steps h s 0 step e

-- a later step there: it holds, and the latest match of the steps before is near enough
pub matches-next : (steps : List StepView) (h : List Sample) (s : Sample) (i : ℕ) (step : StepView)
    → slice_get steps (suc i) ≡ Some step
    → matches steps (h ++ s ∷ []) (suc i) (length h)
    ≡ (step_holds s step && option_map_or (λ d. keeps_bound step (length h - d))
    (last_where (matches steps h i) (length h)) false)
unfolding matches
matches-next steps h s i step e =
    let n : ℕ = length h in
    let v : List Sample = h ++ s ∷ [] in
    let same = any_where-same (λ d. matches steps v i d && near steps (suc i) d n)
    (λ d. matches steps h i d && keeps_bound step (n - d)) n
    (record {
      same = λ d k. ap (λ b. b && near steps (suc i) d n) (matches-before steps h s i d k)
          ∙ ap (λ b. matches steps h i d && b) (near-is steps (suc i) d n step e);
    }) in
    ap (λ b. b && any_where (λ d. matches steps v i d && near steps (suc i) d n) n)
    (step_holds_at-new steps h s (suc i) step e)
    ∙ ap (λ b. step_holds s step && b) (same
    ∙ any-last (matches steps h i) (λ d. keeps_bound step (n - d)) n (bound-later step n))

-- the clocks of a match that was there
pub chain-before : (steps : List StepView) (h : List Sample) (s : Sample) (i c : ℕ) → c ≤ length h
    → chain steps (h ++ s ∷ []) i c ≡ chain steps h i c
unfolding chain
chain-before steps h s zero c l = refl
chain-before steps h s (suc i) c l =
    let same = last_where-same (matches steps (h ++ s ∷ []) i) (matches steps h i) c
    (λ d k. matches-before steps h s i d (omega (arith, k, l))) in
    ap (λ o. option_map_or (chain steps (h ++ s ∷ []) i) o [] ++ c ∷ []) same
    ∙ ap (λ xs. xs ++ c ∷ [])
    (same_at (chain steps (h ++ s ∷ []) i) (chain steps h i) (last_where (matches steps h i) c)
    (λ d e. chain-before steps h s i d (let below = last_where-found (matches steps h i) c d e in
    omega (arith, below.0, l))))

same_chain : (steps : List StepView) (h : List Sample) (s : Sample) (i : ℕ) (o : Option ℕ)
    → ((d : ℕ) → o ≡ Some d → d < length h)
    → option_map (chain steps (h ++ s ∷ []) i) o ≡ option_map (chain steps h i) o
same_chain steps h s i None below = refl
same_chain steps h s i (Some d) below = ap Some (chain-before steps h s i d (let l = below d refl in omega (arith, l)))

-- the latest match, and the least one, by the match at the new sample
pub latest-found : (steps : List StepView) (h : List Sample) (s : Sample) (i : ℕ) (xs : List ℕ)
    → newest_match steps (h ++ s ∷ []) i ≡ Some xs → latest steps (h ++ s ∷ []) i ≡ Some xs
unfolding newest_match latest
latest-found steps h s i xs e =
    let v : List Sample = h ++ s ∷ [] in
    let n : ℕ = length h in
    let more : length v ≡ suc n = (let l = length_push h s in omega (arith, l)) in
    let at : length v - 1 ≡ n = omega (arith, more) in
    let here : cond (matches steps v i n) (Some (chain steps v i n)) None ≡ Some xs =
    ap (λ k. cond (matches steps v i k) (Some (chain steps v i k)) None) (sym at) ∙ e in
    elim (cases_Bool (matches steps v i n)) [
      | inl t ↦
          ap (λ m. option_map (chain steps v i) (last_where (matches steps v i) m)) more
          ∙ ap (option_map (chain steps v i)) (last_step (matches steps v i) n true t)
          ∙ sym (ap (λ b. cond b (Some (chain steps v i n)) None) t) ∙ here
      | inr f ↦ absurd (let no : None ≡ Some xs = sym (ap (λ b. cond b (Some (chain steps v i n)) None) f) ∙ here in cc)
    ]

pub latest-stays : (steps : List StepView) (h : List Sample) (s : Sample) (i : ℕ)
    → newest_match steps (h ++ s ∷ []) i ≡ None → latest steps (h ++ s ∷ []) i ≡ latest steps h i
unfolding newest_match latest
latest-stays steps h s i e =
    let v : List Sample = h ++ s ∷ [] in
    let n : ℕ = length h in
    let more : length v ≡ suc n = (let l = length_push h s in omega (arith, l)) in
    let at : length v - 1 ≡ n = omega (arith, more) in
    let here : cond (matches steps v i n) (Some (chain steps v i n)) None ≡ None =
    ap (λ k. cond (matches steps v i k) (Some (chain steps v i k)) None) (sym at) ∙ e in
    elim (cases_Bool (matches steps v i n)) [
      | inl t ↦ absurd (let no : None ≡ Some (chain steps v i n) = sym here
          ∙ ap (λ b. cond b (Some (chain steps v i n)) None) t in cc)
      | inr f ↦
          ap (λ m. option_map (chain steps v i) (last_where (matches steps v i) m)) more
          ∙ ap (option_map (chain steps v i)) (last_step (matches steps v i) n false f
          ∙ last_where-same (matches steps v i) (matches steps h i) n (λ c l. matches-before steps h s i c l))
          ∙ same_chain steps h s i (last_where (matches steps h i) n)
          (λ d k. (last_where-found (matches steps h i) n d k).0)
    ]
