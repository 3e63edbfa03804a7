-- From the snoop end of a clock on: its events may happen, and the line of the machine after them is that of the run.
use Rattle.fsb_coherent.proofs.Words
use Words.{ℕ, ◌+◌, ◌≡◌, ◌++◌, sym, subst, ◌∙◌, ap, arith, Ordered, MemoryLine, MayRun, run, is_modified, Past}
use Words.{ClockFacts, ends_on, others_on, snoops_on, Tied, is_dirty_below, TiedThrough, events_from_snoop}
use Rattle.fsb_coherent.proofs.Behind.{TiedButDirty}
use Rattle.fsb_coherent.proofs.Clocks.{MayRun-append, run-append}
use Rattle.fsb_coherent.proofs.DirtyAfter.{dirty-after, others-served}
use Rattle.fsb_coherent.proofs.DirtyParts.{others_of}
use Rattle.fsb_coherent.proofs.EndSteps.{ends-step}
use Rattle.fsb_coherent.proofs.OtherSteps.{accesses-step}
use Rattle.fsb_coherent.proofs.SnoopStep.{snoop-step}

with-dirty : (p : Past) (line n : ℕ) (x : MemoryLine) → TiedButDirty p line n x
    → ((a : ℕ) → is_modified (x.state a) ≡ is_dirty_below p a line (n + 1)) → Tied p line (n + 1) x
with-dirty p line n x t dirty = grind arith

-- the snoop end, the end, and the accesses that come with it
pub from-snoop : (p : Past) (line n : ℕ) (x : MemoryLine) → ClockFacts p line n → Ordered x → TiedThrough p line n x
    → MayRun x (events_from_snoop p line n) × Tied p line (n + 1) (run x (events_from_snoop p line n))
unfolding events_from_snoop others_on
from-snoop p line n x facts ordered tied =
    let snoop = snoop-step p line n x facts ordered tied in
    let y : MemoryLine = run x (snoops_on p line n) in
    let end = ends-step p line n y facts.ends snoop.1 in
    let z : MemoryLine = run y (ends_on p line n) in
    let other = accesses-step p line n z (others_of p line n) facts.accesses end.tied (others-served p line n facts) in
    let dirty : (a : ℕ) → is_modified ((run z (others_on p line n)).state a) ≡ is_dirty_below p a line (n + 1) =
    grind (arith, dirty-after) in
    let last : Tied p line (n + 1) (run z (others_on p line n)) = with-dirty p line n
    (run z (others_on p line n)) other.tied dirty in
    let both : MayRun x (snoops_on p line n ++ ends_on p line n) = MayRun-append x (snoops_on p line n)
    (ends_on p line n) snoop.0 end.may in
    let after_both : run x (snoops_on p line n ++ ends_on p line n) ≡ z = grind (arith, run-append) in
    let whole : run x (snoops_on p line n ++ ends_on p line n ++ others_on p line n) ≡ run z (others_on p line n) =
    run-append x (snoops_on p line n ++ ends_on p line n) (others_on p line n)
    ∙ ap (λ w. run w (others_on p line n)) after_both in (
      MayRun-append x (snoops_on p line n ++ ends_on p line n) (others_on p line n) both
          (subst (λ w. MayRun w (others_on p line n)) (sym after_both) other.may),
      subst (Tied p line (n + 1)) (sym whole) last,
    )
