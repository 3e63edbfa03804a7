-- The printed text of a log determines it.
use Rattle.std.proofs.Common.{◌≡◌, ℕ, List}
use Rattle.std.specs.List.{All}
use Rattle.fsb_access.specs.declared.item.Item.{Item}
use Rattle.fsb_access.specs.declared.log.Done.{Done}
use Rattle.fsb_report.specs.LogText.{end_line_text, log_text}
use Rattle.fsb_headline.specs.PrintedLogs.{FitsInWords, IsLogOf}
use Rattle.fsb_headline.proofs.LogLines.{IsStamped, lines-alike}
use Rattle.fsb_headline.proofs.OrderedLogs.{logs-same}

stamped : (log : List Done) → All FitsInWords log → All IsStamped log
stamped log fits = λ k d h. record { clock = (fits k d h).clock; agent = (fits k d h).agent }

pub text-determines : (scripts : List (List Item)) (clocks of : ℕ) (xs ys : List Done) → IsLogOf scripts xs
    → IsLogOf scripts ys → log_text clocks of xs ≡ log_text clocks of ys → xs ≡ ys
unfolding log_text end_line_text
text-determines scripts clocks of xs ys p q e =
    logs-same scripts xs ys p.in_order q.in_order (lines-alike xs ys _ _ (stamped xs p.fits) (stamped ys q.fits) e)
    (λ k d h. (p.fits k d h).value) (λ k d h. (q.fits k d h).value)
