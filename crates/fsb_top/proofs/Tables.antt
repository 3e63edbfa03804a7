-- What is shown of a trace is told as its text.
use Rattle.std.proofs.Common.{◌≡◌, ◌∙◌, ℕ, List, Option, Some, None, refl, sym, ap}
use Rattle.fsb_probe.specs.Weights.{totals_of}
use Rattle.fsb_rules.specs.Checker.{as_broken}
use Rattle.fsb_rules.specs.declared.broken.Broken.{Broken}
use Rattle.fsb_rules.proofs.Interface.{as_broken-none}
use Rattle.fsb_show.specs.declared.show.Shown.{Shown}
use Rattle.fsb_show.specs.ShowText.{show_text, told_text}
use Rattle.fsb_show.specs.Showing.{IsOfTrace}
use Rattle.fsb_signal.specs.declared.marks.Marks.{Marks}
use Rattle.fsb_signal.specs.declared.sample.Sample.{Sample}
use Rattle.fsb_table.specs.declared.row.Row.{Row}
use Rattle.fsb_table.specs.Rows.{rows_of}
use Rattle.fsb_trace.specs.Verdict.{verdict}

-- where no rule is broken, the totals and the rows are told; else neither is
told_alike : (broken : Option Broken) (clocks : ℕ) (totals sums : List ℕ) (rows all : List Row)
    → (broken ≡ None → totals ≡ sums) → (broken ≡ None → rows ≡ all)
    → told_text broken totals rows clocks ≡ told_text broken sums all clocks
unfolding told_text
told_alike None clocks totals sums rows all same_totals same_rows =
    ap (λ t. told_text None t rows clocks) (same_totals refl)
    ∙ ap (λ r. told_text None sums r clocks) (same_rows refl)
told_alike (Some first) clocks totals sums rows all same_totals same_rows = refl

-- what is shown of a trace is told as its text
pub shown_text : (weights : List (Sample → ℕ)) (totals : List ℕ) (shown : Shown) (marks : Marks) (w : List Sample)
    → IsOfTrace weights totals shown marks w
    → told_text shown.broken totals shown.rows.items shown.clocks ≡ show_text weights marks w
unfolding show_text
shown_text weights totals shown marks w of_trace =
    let accepted : (shown.broken ≡ None → verdict marks w ≡ None) =
    λ none. as_broken-none (verdict marks w) (sym of_trace.broken ∙ none) in
    told_alike shown.broken shown.clocks totals (totals_of weights w) shown.rows.items (rows_of w)
    (λ none. of_trace.weighed (accepted none)) (λ none. of_trace.rows (accepted none))
    ∙ ap (λ b. told_text b (totals_of weights w) (rows_of w) shown.clocks) of_trace.broken
    ∙ ap (λ n. told_text (as_broken (verdict marks w)) (totals_of weights w) (rows_of w) n) of_trace.clocks
