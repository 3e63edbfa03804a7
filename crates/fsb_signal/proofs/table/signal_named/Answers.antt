use Rattle.std.proofs.Common.{◌∙◌, refl}
use Rattle.fsb_signal.specs.Table.{signal_number}
use Rattle.fsb_signal.proofs.Numbers.{signal_number-found, signal_number-none, signal_number-some}
use Rattle.fsb_signal.proofs.table.signal_named.Goals as goal

pub returns-in_err-number-clause-number : goal.returns-in_err-number-clause-number
unfolding signal_number
returns-in_err-number-clause-number c = c.from_residual.ensures ∙ c.in_err-number.ensures

pub returns-in_err-number-clause-none : goal.returns-in_err-number-clause-none
unfolding signal_number
returns-in_err-number-clause-none c =
    rw c.from_residual.ensures (λ _. signal_number-none _ (c.in_err-number.ensures), λ _. refl)

pub returns-clause-number : goal.returns-clause-number
unfolding signal_number
returns-clause-number c = c.in_ok-number.ensures

pub returns-clause-found : goal.returns-clause-found
unfolding signal_number
returns-clause-found c = signal_number-found _ _ (c.in_ok-number.ensures)

pub returns-clause-none : goal.returns-clause-none
unfolding signal_number
returns-clause-none c = (λ no. cc no, λ all. absurd (signal_number-some _ _ c.in_ok-number.ensures all))
