-- What is told, one event after another.
use Rattle.std.proofs.Common.{◌≡◌, List, [], ◌∷◌, ◌++◌, Option, Some, None, Result, Ok, Err, sym, ap, ◌∙◌, append-nil}
use Rattle.std.specs.Result.{OnOk}
use Rattle.std.proofs.lemmas.List.{map-append}
use Rattle.vcd_way.specs.Events.{DumpEvent}
use Rattle.vcd_course.specs.declared.event.CourseEvent.{CourseEvent}
use Rattle.vcd_course.specs.Told.{event_list, event_told}
use Rattle.vcd_scan.specs.Told.{events_told}

-- no event
pub told_none : (es : List DumpEvent) (e : Option CourseEvent) (x : List DumpEvent) → e ≡ None → event_list e ≡ x
    → es ≡ es ++ (x ++ [])
told_none es e x h k =
    let nothing : [] ≡ x ++ [] = ap event_list (sym h) ∙ k ∙ sym (append-nil x) in
    sym (append-nil es) ∙ ap (λ y. es ++ y) nothing

-- where nothing is told
pub told_nothing : (es : List DumpEvent) (x : List DumpEvent) → x ≡ [] → es ≡ es ++ (x ++ [])
told_nothing es x h = sym (append-nil es) ∙ ap (λ y. es ++ y) (sym h ∙ sym (append-nil x))

-- one event
pub told_some : (es new : List CourseEvent) (e : CourseEvent) (r : Option CourseEvent) (x : List DumpEvent)
    → r ≡ Some e → event_list r ≡ x → new ≡ es ++ e ∷ [] → events_told new ≡ events_told es ++ (x ++ [])
told_some es new e r x h k is =
    let one : event_told e ∷ [] ≡ x ++ [] = ap event_list (sym h) ∙ k ∙ sym (append-nil x) in
    ap events_told is ∙ map-append event_told es (e ∷ []) ∙ ap (λ y. events_told es ++ y) one

-- what holds of an Ok by two facts
pub on_ok_both : {T E P Q S : Type 0} (r : Result T E) → (P → Q → S) → OnOk r P → OnOk r Q → OnOk r S
on_ok_both (Ok x) f p q = f p q
on_ok_both (Err e) f p q = tt
