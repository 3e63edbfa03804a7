use Rattle.std.proofs.Common.{◌≡◌, ◌∙◌, List, ℕ, refl}
use Rattle.std.specs.List.{position}
use Rattle.fsb_signal.specs.Table.{table}
use Rattle.scope_pick.specs.Names.{line_named, are_alike, without_escape}
use Rattle.scope_pick.proofs.names.line_named.Goals as goal

-- the place in the table is looked for by the name without its escape
along : (name front : List ℕ) → front ≡ without_escape name
    → position (λ e. are_alike front e.name) table ≡ line_named name
unfolding line_named
along name front h = rw h refl

pub returns-in_err-number-clause-number : goal.returns-in_err-number-clause-number
returns-in_err-number-clause-number c =
    c.from_residual.ensures ∙ c.in_err-number.ensures ∙ along _ _ c.without_escape.ensures

pub returns-clause-number : goal.returns-clause-number
returns-clause-number c = c.in_ok-number.ensures ∙ along _ _ c.without_escape.ensures
