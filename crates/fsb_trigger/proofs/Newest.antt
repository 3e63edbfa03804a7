-- The match at a new sample, by what is kept of the matches before it.
use Rattle.std.proofs.Common.{◌≡◌, ◌<◌, ◌≤◌, ◌+◌, ◌-◌, ◌&&◌, ℕ, zero, suc, Bool, true, false, cond, Option, Some, None}
use Rattle.std.proofs.Common.{List, [], ◌∷◌, ◌++◌, length, map, take, set, get_or, slice_get, option_map, refl, sym, ap}
use Rattle.std.proofs.Common.{◌∙◌, arith}
use Rattle.std.specs.Option.{option_map_or}
use Rattle.std.proofs.lemmas.List.{length_push, length-append, length-map, get_or-take, take_more_set, length-take-le}
use Rattle.std.proofs.Math.Seq.{get_or-append_seam}
use Rattle.std.proofs.lemmas.Option.{get_or_from_slice_get, slice_get-map, slice_get_read}
use Rattle.fsb_count.specs.Clocks.{last_where}
use Rattle.fsb_signal.specs.declared.sample.Sample.{Sample}
use Rattle.fsb_trigger.specs.declared.trigger.TriggerStep.{TriggerStep}
use Rattle.fsb_trigger.specs.TriggerSteps.{StepView, view_of, step_holds, keeps_bound}
use Rattle.fsb_trigger.specs.Match.{matches, chain, newest_match, latest}
use Rattle.fsb_trigger.specs.Hunt.{KeepsAt, kept}
use Rattle.fsb_trigger.proofs.Last.{last_where-same, last_where-found}
use Rattle.fsb_trigger.proofs.Grows.{matches-first, matches-next, matches-before, chain-before}

pub newest_match-is : (steps : List StepView) (h : List Sample) (s : Sample) (i : ℕ)
    → newest_match steps (h ++ s ∷ []) i ≡ cond (matches steps (h ++ s ∷ []) i (length h))
    (Some (chain steps (h ++ s ∷ []) i (length h))) None
unfolding newest_match
newest_match-is steps h s i =
    let v : List Sample = h ++ s ∷ [] in
    let at : length v - 1 ≡ length h = (let l = length_push h s in omega (arith, l)) in
    ap (λ k. cond (matches steps v i k) (Some (chain steps v i k)) None) at

-- a step that does not hold
not_holding : (steps : List StepView) (h : List Sample) (s : Sample) (i : ℕ) (step : StepView)
    → slice_get steps i ≡ Some step → step_holds s step ≡ false → matches steps (h ++ s ∷ []) i (length h) ≡ false
not_holding steps h s zero step e f = matches-first steps h s step e ∙ f
not_holding steps h s (suc i) step e f =
    matches-next steps h s i step e
    ∙ ap (λ b. b && option_map_or (λ d. keeps_bound step (length h - d))
    (last_where (matches steps h i) (length h)) false) f

pub newest_match-off : (steps : List StepView) (h : List Sample) (s : Sample) (i : ℕ) (step : StepView)
    → slice_get steps i ≡ Some step → step_holds s step ≡ false → newest_match steps (h ++ s ∷ []) i ≡ None
newest_match-off steps h s i step e f =
    newest_match-is steps h s i
    ∙ ap (λ b. cond b (Some (chain steps (h ++ s ∷ []) i (length h))) None) (not_holding steps h s i step e f)

-- the first step, where it holds
pub newest_match-first : (steps : List StepView) (h : List Sample) (s : Sample) (step : StepView)
    → slice_get steps 0 ≡ Some step → step_holds s step ≡ true
    → newest_match steps (h ++ s ∷ []) 0 ≡ Some (length h ∷ [])
unfolding chain
newest_match-first steps h s step e t =
    newest_match-is steps h s 0 ∙ ap (λ b. cond b (Some (length h ∷ [])) None) (matches-first steps h s step e ∙ t)

pub some_map : {X Y : Type 0} (f : X → Y) (o : Option X) (y : Y) → option_map f o ≡ Some y
    → (x : X) × (o ≡ Some x) × (f x ≡ y)
some_map f None y e = absurd (let no : ⊥ = cc in no)
some_map f (Some x) y e = (x, refl, cc)

pub none_map : {X Y : Type 0} (f : X → Y) (o : Option X) → option_map f o ≡ None → o ≡ None
none_map f None e = refl
none_map f (Some x) e = absurd (let no : ⊥ = cc in no)

-- a later step, where no match of the steps before is there
pub newest_match-gone : (steps : List StepView) (h : List Sample) (s : Sample) (i : ℕ) (step : StepView)
    → slice_get steps (suc i) ≡ Some step → step_holds s step ≡ true → latest steps h i ≡ None
    → newest_match steps (h ++ s ∷ []) (suc i) ≡ None
unfolding latest
newest_match-gone steps h s i step e t gone =
    let none = none_map (chain steps h i) (last_where (matches steps h i) (length h)) gone in
    newest_match-is steps h s (suc i)
    ∙ ap (λ b. cond b (Some (chain steps (h ++ s ∷ []) (suc i) (length h))) None)
    (matches-next steps h s i step e
    ∙ ap (λ b. b && option_map_or (λ d. keeps_bound step (length h - d))
    (last_where (matches steps h i) (length h)) false) t
    ∙ ap (λ o. option_map_or (λ d. keeps_bound step (length h - d)) o false) none)

-- a chain ends with its clock
ends : (steps : List StepView) (w : List Sample) (i c : ℕ) → (front : List ℕ) × (chain steps w i c ≡ front ++ c ∷ [])
unfolding chain
ends steps w zero c = ([], refl)
ends steps w (suc i) c = (option_map_or (chain steps w i) (last_where (matches steps w i) c) [], refl)

last_of : (arr front : List ℕ) (i d : ℕ) → i < length arr → take (i + 1) arr ≡ front ++ d ∷ [] → get_or arr i 0 ≡ d
last_of arr front i d l e =
    let long : length (take (i + 1) arr) ≡ i + 1 = length-take-le (i + 1) arr (omega (arith, l)) in
    let same : i + 1 ≡ length front + 1 = sym long ∙ ap (λ xs. length xs) e ∙ length-append front (d ∷ []) in
    let at : i ≡ length front = omega (arith, same) in
    sym (get_or-take (i + 1) arr i 0 (omega arith)) ∙ ap (λ xs. get_or xs i 0) e
    ∙ ap (λ k. get_or (front ++ d ∷ []) k 0) at
    ∙ get_or-append_seam front d [] 0

-- a later step, where it holds: the match goes on from the latest one of the steps before, where that is near enough
pub newest_match-next : (steps : List StepView) (h : List Sample) (s : Sample) (i : ℕ) (step : StepView)
    (arr : List ℕ) → slice_get steps (suc i) ≡ Some step → step_holds s step ≡ true → i < length arr
    → latest steps h i ≡ Some (take (i + 1) arr)
    → newest_match steps (h ++ s ∷ []) (suc i) ≡ cond (keeps_bound step (length h - get_or arr i 0))
    (Some (take (i + 1) arr ++ length h ∷ [])) None
unfolding latest chain
newest_match-next steps h s i step arr e t l is =
    let n : ℕ = length h in
    let v : List Sample = h ++ s ∷ [] in
    let o : Option ℕ = last_where (matches steps h i) n in
    let p = some_map (chain steps h i) o (take (i + 1) arr) is in
    let front = ends steps h i p.0 in
    let read : get_or arr i 0 ≡ p.0 = last_of arr front.0 i p.0 l (sym p.2 ∙ front.1) in
    let near : matches steps v (suc i) n ≡ keeps_bound step (n - get_or arr i 0) =
    matches-next steps h s i step e ∙ ap (λ b. b && option_map_or (λ d. keeps_bound step (n - d)) o false) t
    ∙ ap (λ o. option_map_or (λ d. keeps_bound step (n - d)) o false) p.1
    ∙ ap (λ d. keeps_bound step (n - d)) (sym read) in
    let same : last_where (matches steps v i) n ≡ Some p.0 =
    last_where-same (matches steps v i) (matches steps h i) n (λ c k. matches-before steps h s i c k) ∙ p.1 in
    let found = last_where-found (matches steps h i) n p.0 p.1 in
    let below : p.0 ≤ n = (let k = found.0 in omega (arith, k)) in
    let clocks : chain steps v (suc i) n ≡ take (i + 1) arr ++ n ∷ [] =
    ap (λ o. option_map_or (chain steps v i) o [] ++ n ∷ []) same
    ∙ ap (λ xs. xs ++ n ∷ []) (chain-before steps h s i p.0 below ∙ p.2) in
    newest_match-is steps h s (suc i) ∙ ap (λ b. cond b (Some (chain steps v (suc i) n)) None) near
    ∙ ap (λ xs. cond (keeps_bound step (n - get_or arr i 0)) (Some xs) None) clocks

kept_cond : (b : Bool) (k : ℕ) (xs : List ℕ) → kept k (cond b (Some xs) None) ≡ cond b (Some (take k xs)) None
kept_cond true k xs = refl
kept_cond false k xs = refl

-- the same as the code goes on
pub goes_on : (steps : List StepView) (h : List Sample) (s : Sample) (i clock : ℕ) (step : StepView)
    (arr : List ℕ) (result : Option (List ℕ)) → 0 < i → clock ≡ length h → slice_get steps i ≡ Some step
    → step_holds s step ≡ true → i < length arr → latest steps h (i - 1) ≡ Some (take (i - 1 + 1) arr)
    → result ≡ cond (keeps_bound step (clock - get_or arr (i - 1) 0)) (Some (set arr i clock)) None
    → kept (i + 1) result ≡ newest_match steps (h ++ s ∷ []) i
goes_on steps h s zero clock step arr result some now e t l is r = absurd (omega (arith, some))
goes_on steps h s (suc i) clock step arr result some now e t l is r =
    let at : suc i - 1 ≡ i = omega arith in
    let one : suc i ≡ i + 1 = omega arith in
    let n : ℕ = length h in
    let was : latest steps h i ≡ Some (take (i + 1) arr) = ap (latest steps h) (sym at) ∙ is
    ∙ ap (λ k. Some (take (k + 1) arr)) at in
    ap (kept (suc i + 1)) (r
    ∙ ap (λ m. cond (keeps_bound step (m - get_or arr (suc i - 1) 0)) (Some (set arr (suc i) m)) None) now)
    ∙ kept_cond (keeps_bound step (n - get_or arr (suc i - 1) 0)) (suc i + 1) (set arr (suc i) n)
    ∙ ap (λ k. cond (keeps_bound step (n - get_or arr k 0)) (Some (take (suc i + 1) (set arr (suc i) n))) None) at
    ∙ ap (λ xs. cond (keeps_bound step (n - get_or arr i 0)) (Some xs) None) (take_more_set arr (suc i) n l
    ∙ ap (λ k. take k arr ++ n ∷ []) one)
    ∙ sym (newest_match-next steps h s i step arr e t (omega (arith, l)) was)

pub begins : (steps : List StepView) (h : List Sample) (s : Sample) (i clock : ℕ) (step : StepView)
    (rest : List ℕ) → i ≡ 0 → clock ≡ length h → slice_get steps i ≡ Some step → step_holds s step ≡ true
    → Some (take (i + 1) (clock ∷ rest)) ≡ newest_match steps (h ++ s ∷ []) i
begins steps h s zero clock step rest z now e t = ap (λ k. Some (k ∷ [])) now
    ∙ sym (newest_match-first steps h s step e t)
begins steps h s (suc i) clock step rest z now e t = absurd (omega (arith, z))

pub gone : (steps : List StepView) (h : List Sample) (s : Sample) (i : ℕ) (step : StepView) → 0 < i
    → slice_get steps i ≡ Some step → step_holds s step ≡ true → latest steps h (i - 1) ≡ None
    → None ≡ newest_match steps (h ++ s ∷ []) i
gone steps h s zero step some e t is = absurd (omega (arith, some))
gone steps h s (suc i) step some e t is =
    let at : i ≡ suc i - 1 = omega arith in
    sym (newest_match-gone steps h s i step e t (ap (latest steps h) at ∙ is))

-- what is kept of a step
pub keeps-at : (chains : List (Option (List ℕ))) (steps : List StepView) (h : List Sample) (i : ℕ)
    → KeepsAt chains steps h i → kept (i + 1) (get_or chains i None) ≡ latest steps h i
keeps-at chains steps h i k =
    let p = some_map (kept (i + 1)) (slice_get chains i) (latest steps h i) k in
    ap (kept (i + 1)) (get_or_from_slice_get chains i p.0 None p.1) ∙ p.2

-- the step of a number, as the code reads it
pub step_at : (items slice : List TriggerStep) (i : ℕ) (step : TriggerStep) → slice ≡ items
    → i < length (map view_of items) → step ≡ get_or slice i step
    → slice_get (map view_of items) i ≡ Some (view_of step)
step_at items slice i step same l read =
    slice_get-map view_of items i
    ∙ ap (option_map view_of)
    (slice_get_read items (length items) i step refl (omega (arith, l, length-map items view_of)) (read
    ∙ ap (λ xs. get_or xs i step) same))

pub slice_get-set_same : {X : Type 0} (xs : List X) (i : ℕ) (x : X) → i < length xs → slice_get (set xs i x) i ≡ Some x
slice_get-set_same [] i x h = absurd (omega (arith, h))
slice_get-set_same (y ∷ ys) zero x h = refl
slice_get-set_same (y ∷ ys) (suc i) x h = slice_get-set_same ys i x (omega (arith, h))

pub slice_get-set_other : {X : Type 0} (xs : List X) (i j : ℕ) (x : X) → (i ≡ j → ⊥)
    → slice_get (set xs i x) j ≡ slice_get xs j
slice_get-set_other [] i j x ne = refl
slice_get-set_other (y ∷ ys) zero zero x ne = absurd (ne refl)
slice_get-set_other (y ∷ ys) zero (suc j) x ne = refl
slice_get-set_other (y ∷ ys) (suc i) zero x ne = refl
slice_get-set_other (y ∷ ys) (suc i) (suc j) x ne = slice_get-set_other ys i j x (λ e. ne (ap suc e))

-- eight steps without a match
pub none_kept : {X : Type 0} (i : ℕ) → i < 8
    → slice_get {X = Option X} (None ∷ None ∷ None ∷ None ∷ None ∷ None ∷ None ∷ None ∷ []) i ≡ Some None
none_kept zero l = refl
none_kept (suc zero) l = refl
none_kept (suc (suc zero)) l = refl
none_kept (suc (suc (suc zero))) l = refl
none_kept (suc (suc (suc (suc zero)))) l = refl
none_kept (suc (suc (suc (suc (suc zero))))) l = refl
none_kept (suc (suc (suc (suc (suc (suc zero)))))) l = refl
none_kept (suc (suc (suc (suc (suc (suc (suc zero))))))) l = refl
none_kept (suc (suc (suc (suc (suc (suc (suc (suc i)))))))) l = absurd (omega (arith, l))
