-- What memory has below a clock stays as a run goes on from there.
use Rattle.std.proofs.Common.{ℕ, ◌≤◌, ◌≡◌, Bool, true, nat_eq, nat_lt, List, [], ◌∷◌, ◌++◌, length, refl, ap, ◌∙◌}
use Rattle.std.proofs.Common.{arith, append-nil}
use Rattle.std.specs.List.{filter, list_all}
use Rattle.std.proofs.lemmas.List.Elements.{filter-append}
use Rattle.fsb_access.specs.declared.log.Done.{Done}
use Rattle.fsb_access.specs.Replay.{replay, start_of}
use Rattle.fsb_timely.specs.Carried.{memory_below}
use Rattle.fsb_timely.specs.Growth.{IsNext}
use Rattle.fsb_timely.specs.Runs.{Run}

none-below : (n t : ℕ) (entries : List Done) → t ≤ n → list_all (λ done. nat_eq done.clock n) entries ≡ true
    → filter (λ done. nat_lt done.clock t) entries ≡ []
none-below n t [] l e = refl
none-below n t (done ∷ entries) l e = grind (arith, none-below n t entries l)

pub memory_below-same : (r s : Run) (t : ℕ) → IsNext r s → t ≤ length r.trace → memory_below s t ≡ memory_below r t
unfolding memory_below
memory_below-same r s t next l =
    let test : Done → Bool = λ done. nat_lt done.clock t in
    let entries : filter test s.log ≡ filter test r.log =
    ap (filter test) next.more_log
    ∙ filter-append test r.log next.entries
    ∙ ap (λ xs. filter test r.log ++ xs) (none-below (length r.trace) t next.entries l next.at_end)
    ∙ append-nil (filter test r.log) in
    λ i. (replay (start_of (next.same_plan i).mem) (entries i)).memory
