-- The sums of segments with one more.
use Rattle.std.proofs.Common.{◌≡◌, ◌∙◌, ℕ, ◌+◌, ◌++◌, ◌∷◌, [], List, sym, ap, append_assoc, append-nil, add_assoc, add-zero, zero-add}
use Rattle.scope_check.specs.Parts.{clocks_of}
use Rattle.scope_parts.specs.Segments.{Segment, all_of, events_in, clocks_in, judged_in, parts_behind, parts_in, told_if_judged}
use Rattle.scope_parts.proofs.Clocks.{clocks_of-append}

pub events_in-snoc : (ss : List Segment) (s : Segment) → events_in (ss ++ s ∷ []) ≡ events_in ss ++ all_of s
events_in-snoc [] s = append-nil (all_of s)
events_in-snoc (x ∷ ss) s =
    ap (λ es. all_of x ++ es) (events_in-snoc ss s) ∙ sym (append_assoc (all_of x) (events_in ss) (all_of s))

pub clocks_in-snoc : (ss : List Segment) (s : Segment) → clocks_in (ss ++ s ∷ []) ≡ clocks_in ss + clocks_of (all_of s)
clocks_in-snoc ss s = ap clocks_of (events_in-snoc ss s) ∙ clocks_of-append (events_in ss) (all_of s)

pub judged_in-snoc : (ss : List Segment) (s : Segment) → judged_in (ss ++ s ∷ []) ≡ judged_in ss + s.found.judged
judged_in-snoc [] s = add-zero s.found.judged ∙ sym (zero-add s.found.judged)
judged_in-snoc (x ∷ ss) s =
    ap (λ n. x.found.judged + n) (judged_in-snoc ss s) ∙ sym (add_assoc x.found.judged (judged_in ss) s.found.judged)

pub parts_behind-snoc : (base : ℕ) (ss : List Segment) (s : Segment)
    → parts_behind base (ss ++ s ∷ []) ≡ parts_behind base ss ++ told_if_judged (base + clocks_in ss) s.found s.end
parts_behind-snoc base [] s =
    append-nil (told_if_judged base s.found s.end) ∙ ap (λ n. told_if_judged n s.found s.end) (sym (add-zero base))
parts_behind-snoc base (x ∷ ss) s =
    let one = told_if_judged base x.found x.end in
    let more = base + clocks_of (all_of x) in
    let size : more + clocks_in ss ≡ base + clocks_in (x ∷ ss) =
    add_assoc base (clocks_of (all_of x)) (clocks_in ss)
    ∙ ap (λ n. base + n) (sym (clocks_of-append (all_of x) (events_in ss))) in
    ap (λ ps. one ++ ps) (parts_behind-snoc more ss s)
    ∙ ap (λ n. one ++ (parts_behind more ss ++ told_if_judged n s.found s.end)) size
    ∙ sym (append_assoc one (parts_behind more ss) (told_if_judged (base + clocks_in (x ∷ ss)) s.found s.end))

pub parts_in-snoc : (ss : List Segment) (s : Segment)
    → parts_in (ss ++ s ∷ []) ≡ parts_in ss ++ told_if_judged (clocks_in ss) s.found s.end
parts_in-snoc ss s =
    parts_behind-snoc 0 ss s ∙ ap (λ n. parts_in ss ++ told_if_judged n s.found s.end) (zero-add (clocks_in ss))
