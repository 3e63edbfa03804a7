-- The sums of segments with one more.
use Rattle.std.proofs.Common.{◌≡◌, ◌∙◌, ℕ, ◌+◌, ◌++◌, ◌∷◌, [], List, sym, ap, subst}
use Rattle.scope_check.specs.Parts.{clocks_of}
use Rattle.scope_parts.specs.declared.tally.Tally.{Tally}
use Rattle.scope_parts.specs.Segments.{Segment, all_of, clocks_in, parts_in, told_if_judged}
use Rattle.scope_parts.specs.Standing.{Keeps, Tallies}
use Rattle.scope_parts.proofs.Sums.{clocks_in-snoc, judged_in-snoc, parts_in-snoc}

pub tallies_more : (t k : Tally) (ss : List Segment) (s : Segment) (clocks : ℕ) → Tallies t ss
    → clocks ≡ clocks_of (all_of s) → k.clocks ≡ t.clocks + clocks → k.judged ≡ t.judged + s.found.judged
    → Keeps k.kept (parts_in ss ++ told_if_judged t.clocks s.found s.end) → Tallies k (ss ++ s ∷ [])
tallies_more t k ss s clocks h size more judged kept = record {
  clocks = more ∙ ap (λ n. n + clocks) h.clocks ∙ ap (λ n. clocks_in ss + n) size ∙ sym (clocks_in-snoc ss s);
  judged = judged ∙ ap (λ n. n + s.found.judged) h.judged ∙ sym (judged_in-snoc ss s);
  kept = subst (λ ps. Keeps k.kept ps)
      (ap (λ n. parts_in ss ++ told_if_judged n s.found s.end) h.clocks ∙ sym (parts_in-snoc ss s)) kept;
}
