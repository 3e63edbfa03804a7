-- What a seeker searches for and a drawer draws stays.
use Rattle.std.proofs.Common.{◌≡◌, ◌∙◌, ℕ, true, Option, None, Some, List, [], ◌∷◌, ◌++◌, is_some, option_map, refl, sym}
use Rattle.std.proofs.Common.{subst}
use Rattle.fsb_count.specs.Clocks.{first_where}
use Rattle.fsb_signal.specs.declared.sample.Sample.{Sample}
use Rattle.fsb_trigger.specs.TriggerSteps.{StepView}
use Rattle.fsb_trigger.specs.Match.{least_match}
use Rattle.fsb_trigger.specs.declared.clocks.Found.{Found}
use Rattle.fsb_trigger.proofs.Interface.{least-stays}
use Rattle.fsb_wave.specs.Wave.{Stands}
use Rattle.fsb_look.specs.Looking.{Seeks, HasSought, HasDrawn}
use Rattle.fsb_look.specs.declared.find.Seeker.{Seeker}
use Rattle.fsb_look.specs.declared.wave.Drawer.{Drawer}

none_mapped : {A B : Type 0} (f : A → B) (o : Option A) → option_map f o ≡ None → o ≡ None
none_mapped f None e = refl
none_mapped f (Some a) e = absurd (let no : ⊥ = cc in no)

-- nothing is found before the first sample
none_yet : (first : Seeker) (steps : List StepView) → Seeks first steps [] → first.found ≡ None
unfolding least_match first_where
none_yet first steps s = none_mapped _ first.found s.found

-- the steps are those that it began with
pub same_steps : (first now : Seeker) (steps : List StepView) (h : List Sample) → Seeks first steps []
    → HasSought first now h → Seeks now steps h
same_steps first now steps h begun sought =
    subst (λ (s : List StepView). Seeks now s h)
    (let none = none_yet first steps begun in sym (sought.1.hunt none).searches ∙ (begun.hunt none).searches) sought.2

-- the range is that which it began with
pub same_range : (first now : Drawer) (from to : ℕ) (h : List Sample) → Stands first.wave from to []
    → HasDrawn first now h → Stands now.wave from to h
same_range first now from to h begun drawn =
    subst (λ (n : ℕ). Stands now.wave from n h) (sym drawn.2.ends ∙ begun.ends)
    (subst (λ (n : ℕ). Stands now.wave n drawn.1 h) (sym drawn.2.begins ∙ begun.begins) drawn.3)

-- the least match that was found is that of the samples with one more
pub still_found : (steps : List StepView) (h : List Sample) (x : Sample) (found : Option (List ℕ))
    → is_some found ≡ true → found ≡ least_match steps h → found ≡ least_match steps (h ++ x ∷ [])
still_found steps h x None some is = absurd (let no : ⊥ = cc in no)
still_found steps h x (Some clocks) some is = sym (least-stays steps h x clocks (sym is))

-- what was found has clocks
pub some_clocks : (found : Option Found) → is_some found ≡ true → is_some (option_map (λ f. f.clocks) found) ≡ true
some_clocks None some = absurd (let no : ⊥ = cc in no)
some_clocks (Some f) some = refl

pub some_not_none : {A : Type 0} (o : Option A) → is_some o ≡ true → o ≡ None → ⊥
some_not_none o some none = cc
