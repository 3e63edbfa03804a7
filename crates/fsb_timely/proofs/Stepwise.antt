-- What hazard objects were asked, step by step and as whole lists.
use Rattle.std.proofs.Common.{◌≡◌, ◌<◌, ◌≤◌, ◌+◌, ℕ, Bool, true, List, [], ◌∷◌, ◌++◌, Option, Some, length, slice_get}
use Rattle.std.proofs.Common.{refl, sym, ap, ◌∙◌, subst, arith}
use Rattle.std.proofs.lemmas.List.{length-append}
use Rattle.std.proofs.lemmas.Option.{slice_get_within}
use Rattle.fsb_count.proofs.Interface.{count_where-above, count_where-more, nth_where-there, nth_where-found}
use Rattle.fsb_count.proofs.Interface.{slice_get-end}
use Rattle.fsb_signal.proofs.Interface.{slice_get-before}
use Rattle.fsb_signal.specs.declared.lines.TheConstants.Lines.{ADS}
use Rattle.fsb_signal.specs.Samples.{line_at}
use Rattle.fsb_hazard.specs.Told.{Told}
use Rattle.fsb_trace.proofs.Interface.{line_at-agree}
use Rattle.fsb_timely.specs.Asked.{Asked, IsChosen, IsHold}
use Rattle.fsb_timely.specs.AskedSteps.{IsAskedAt, AskedInSteps, IsAskedStep}
use Rattle.fsb_timely.specs.Growth.{IsNext, IsWhole}
use Rattle.fsb_timely.specs.Runs.{Run, requests_below}
use Rattle.fsb_timely.proofs.Next.{agree_next, requests-same}

-- the first element behind a list
first_behind : {X : Type 0} (xs ys : List X) → slice_get (xs ++ ys) (length xs) ≡ slice_get ys 0
first_behind [] ys = refl
first_behind (x ∷ xs) ys = first_behind xs ys

longer : (r s : Run) → IsNext r s → length s.trace ≡ length r.trace + 1
longer r s next = ap length next.more_trace ∙ length-append r.trace (next.sample ∷ [])

-- what a run has of a clock stays when it goes on: whether a request begins there, how many began before, the hold,
-- and the
-- choice
line_there : (r s : Run) (c : ℕ) → IsNext r s → c < length r.trace → line_at ADS s.trace c ≡ line_at ADS r.trace c
line_there r s c next l = grind (arith, line_at-agree, agree_next)

count_there : (r s : Run) (c : ℕ) → IsNext r s → c ≤ length r.trace
    → requests_below s.trace c ≡ requests_below r.trace c
count_there r s c next l = ap (λ w. requests_below w c) next.more_trace ∙ requests-same r.trace next.sample c l

hold_there : (r s : Run) (c : ℕ) → IsNext r s → c < length r.holds → slice_get s.holds c ≡ slice_get r.holds c
hold_there r s c next l = grind (arith, slice_get-before)

choice_there : (r s : Run) (c : ℕ) → IsNext r s → IsWhole r → c < length r.trace → line_at ADS r.trace c ≡ true
    → slice_get s.choices (requests_below s.trace c) ≡ slice_get r.choices (requests_below r.trace c)
unfolding requests_below
choice_there r s c next whole l t = grind (arith, count_there, slice_get-before, count_where-above)

asked_on : (objects : List (Option Told)) (r s : Run) (c : ℕ) → IsNext r s → IsWhole r → c < length r.trace
    → IsAskedAt objects r c → IsAskedAt objects s c
asked_on objects r s c next whole l a = record {
  chosen = λ choice t e.
      let begins : line_at ADS r.trace c ≡ true = sym (line_there r s c next l) ∙ t in
      subst (λ k. IsChosen objects k choice) (sym (count_there r s c next (omega arith)))
      (a.chosen choice begins (sym (choice_there r s c next whole l begins) ∙ e));
  held = λ hold e. a.held hold (sym (hold_there r s c next (let h = whole.one_hold in omega arith)) ∙ e);
}

asked_back : (objects : List (Option Told)) (r s : Run) (c : ℕ) → IsNext r s → IsWhole r → c < length r.trace
    → IsAskedAt objects s c → IsAskedAt objects r c
asked_back objects r s c next whole l a = record {
  chosen = λ choice t e.
      subst (λ k. IsChosen objects k choice) (count_there r s c next (omega arith))
      (a.chosen choice (line_there r s c next l ∙ t) (choice_there r s c next whole l t ∙ e));
  held = λ hold e. a.held hold (hold_there r s c next (let h = whole.one_hold in omega arith) ∙ e);
}

pub asked-same : (objects : List (Option Told)) (r s : Run) (c : ℕ) → IsNext r s → IsWhole r → c < length r.trace
    → (IsAskedAt objects r c → IsAskedAt objects s c) × (IsAskedAt objects s c → IsAskedAt objects r c)
asked-same objects r s c next whole l = (asked_on objects r s c next whole l, asked_back objects r s c next whole l)

-- no step at all
pub asked-empty : (standing : ℕ → List (Option Told)) (r : Run) → length r.trace ≡ 0 → AskedInSteps standing r
asked-empty standing r e = record { at = λ c l. absurd (omega (arith, e, l)) }

-- a step less, and a step more
pub asked-before : (standing : ℕ → List (Option Told)) (r s : Run) → IsNext r s → IsWhole r → AskedInSteps standing s
    → AskedInSteps standing r × IsAskedAt (standing (length r.trace)) s (length r.trace)
asked-before standing r s next whole a = grind (arith, longer, asked_back)

pub asked-more : (standing : ℕ → List (Option Told)) (r s : Run) → IsNext r s → IsWhole r
    → AskedInSteps standing r × IsAskedAt (standing (length r.trace)) s (length r.trace) → AskedInSteps standing s
asked-more standing r s next whole h = grind (arith, longer, asked_on)

-- a step that adds a choice has a request that begins
begins_there : (r s : Run) (next : IsNext r s) → IsWhole r → IsWhole s → 0 < length next.choices
    → line_at ADS s.trace (length r.trace) ≡ true
unfolding requests_below
begins_there r s next old new l = grind (arith, count_where-more, count_there, length-append)

-- how many requests began before the step is how many choices there were
began_before_step : (r s : Run) → IsNext r s → IsWhole r → requests_below s.trace (length r.trace) ≡ length r.choices
began_before_step r s next whole = count_there r s (length r.trace) next (omega arith) ∙ sym whole.one_choice

choice_of_step : (r s : Run) (next : IsNext r s) → IsWhole r
    → slice_get s.choices (requests_below s.trace (length r.trace)) ≡ slice_get next.choices 0
choice_of_step r s next whole = grind (arith, began_before_step, first_behind)

hold_of_step : (r s : Run) (next : IsNext r s) → IsWhole r → slice_get s.holds (length r.trace) ≡ Some next.hold
hold_of_step r s next whole = grind (arith, slice_get-end)

pub step_asked : (objects : List (Option Told)) (r s : Run) (next : IsNext r s) → IsWhole r → IsWhole s
    → IsAskedStep objects r s next → IsAskedAt objects s (length r.trace)
step_asked objects r s next old new a = record {
  chosen = λ choice t e.
      subst (λ k. IsChosen objects k choice) (sym (began_before_step r s next old))
      (a.chosen choice (sym (choice_of_step r s next old) ∙ e));
  held = λ hold e. subst (IsHold objects (length r.trace)) (same_hold (sym (hold_of_step r s next old) ∙ e)) a.held;
}
  where
    same_hold : {x y : Bool} → Some x ≡ Some y → x ≡ y
    same_hold e = cc

pub asked_step : (objects : List (Option Told)) (r s : Run) (next : IsNext r s) → IsWhole r → IsWhole s
    → IsAskedAt objects s (length r.trace) → IsAskedStep objects r s next
asked_step objects r s next old new a = record {
  chosen = λ choice e.
      subst (λ k. IsChosen objects k choice) (began_before_step r s next old)
      (a.chosen choice (begins_there r s next old new (slice_get_within next.choices 0 choice e))
      (choice_of_step r s next old ∙ e));
  held = a.held next.hold (hold_of_step r s next old);
}

-- objects that stay
pub stays-asked : (objects : List (Option Told)) (r : Run) → IsWhole r → AskedInSteps (λ c. objects) r
    → Asked objects r.choices r.holds
unfolding requests_below
stays-asked objects r whole a = record {
  chosen = λ k choice e.
      let n = length r.trace in
      let l : k < length r.choices = slice_get_within r.choices k choice e in
      let one = whole.one_choice in
      let found = nth_where-there (line_at ADS r.trace) k n (omega (arith, l, one)) in
      let at = nth_where-found (line_at ADS r.trace) k n found.0 found.1 in
      subst (λ j. IsChosen objects j choice) at.2
      ((a.at found.0 at.0).chosen choice at.1 (ap (slice_get r.choices) at.2 ∙ e));
  held = λ c hold e. (a.at c (let l = slice_get_within r.holds c hold e in let h = whole.one_hold in
      omega arith)).held hold e;
}

pub asked-stays : (objects : List (Option Told)) (r : Run) → IsWhole r → Asked objects r.choices r.holds
    → AskedInSteps (λ c. objects) r
asked-stays objects r whole a = grind arith
