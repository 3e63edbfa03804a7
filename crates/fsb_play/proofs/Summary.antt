-- The summary of a run, line by line.
use Rattle.std.proofs.Common.{◌≡◌, ℕ, List, ◌++◌, length, refl, sym, ap, ◌∙◌}
use Rattle.fsb_access.specs.declared.log.Done.{Done}
use Rattle.fsb_plan_size.specs.AccessCount.{access_count}
use Rattle.fsb_report.specs.LogText.{end_line_text}
use Rattle.fsb_report.specs.RequestCounts.{request_counts}
use Rattle.fsb_report.specs.SummaryText.{bus_line_text, gen_line_text, summary_text}
use Rattle.fsb_report.specs.declared.counts.RequestCounts.{RequestCounts}
use Rattle.fsb_script.specs.Plans.{PlanView}
use Rattle.fsb_signal.specs.declared.sample.Sample.{Sample}
use Rattle.fsb_timely.specs.Runs.{Run}
use Rattle.fsb_play.specs.Printed.{printed_text, run_summary}
use Rattle.fsb_play.specs.declared.print.Print.{Print}
use Rattle.fsb_play.specs.declared.print.Print.TheVariants.{Summary}

-- the three lines, of a plan, a log and a trace that are the run's
pub summary-lines :
    (r : Run) (p : PlanView) (log : List Done) (w : List Sample) (seed agents items of : ℕ)
    (counts : RequestCounts) (first last bus a b c : List ℕ)
    → p ≡ r.plan → log ≡ r.log → w ≡ r.trace → of ≡ access_count p.scripts → counts ≡ request_counts w
    → first ≡ gen_line_text seed agents items → last ≡ end_line_text p.clocks (length log) of
    → bus ≡ bus_line_text counts → a ≡ first → b ≡ last → c ≡ bus
    → a ++ b ++ c ≡ run_summary seed agents items r
unfolding summary_text
summary-lines r p log w seed agents items of counts first last bus a b c e0 e1 e2 e3 e4 e5 e6 e7 e8 e9 e10 =
    rw (e8, e9, e10, e5, e6, e7, e4, e3, e2, e1, e0) refl

-- so they are what is printed, where the summary is asked for
pub summary-printed :
    (print : Print) (r : Run) (p : PlanView) (log : List Done) (w : List Sample) (seed agents items of : ℕ)
    (counts : RequestCounts) (first last bus a b c : List ℕ)
    → print ≡ Summary seed agents items
    → p ≡ r.plan → log ≡ r.log → w ≡ r.trace → of ≡ access_count p.scripts → counts ≡ request_counts w
    → first ≡ gen_line_text seed agents items → last ≡ end_line_text p.clocks (length log) of
    → bus ≡ bus_line_text counts → a ≡ first → b ≡ last → c ≡ bus
    → a ++ b ++ c ≡ printed_text print r
summary-printed print r p log w seed agents items of counts first last bus a b c is e0 e1 e2 e3 e4 e5 e6 e7 e8 e9 e10 =
    summary-lines r p log w seed agents items of counts first last bus a b c e0 e1 e2 e3 e4 e5 e6 e7 e8 e9 e10
    ∙ ap (λ (asked : Print). printed_text asked r) (sym is)
