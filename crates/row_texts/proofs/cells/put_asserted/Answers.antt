use Rattle.std.proofs.lemmas.Result.{on_ok_weaker}
use Rattle.std.proofs.Common.{◌∙◌, ◌++◌, ◌||◌, ap}
use Rattle.std.specs.Prelude.{codes}
use Rattle.row_texts.specs.Cells.{sign_text, signs_text}
use Rattle.row_texts.proofs.Steps.{three-put}
use Rattle.row_texts.proofs.cells.put_asserted.Goals as goal

pub returns : goal.returns
unfolding signs_text
returns c =
    let s = c.args.snoop in
    on_ok_weaker c.put_sign-3.result
    (λ h. three-put _ _ _ _ _ _ _ c.in_ok-put_sign.ensures
    (c.in_ok-put_sign-2.ensures ∙ ap (λ b. c.put_sign.new.text.items ++ sign_text b (codes "HITM") s.hitm) c.either-second.ensures)
    (h ∙ ap (λ b. c.put_sign-2.new.text.items ++ sign_text b (codes "DEFER") s.defer)
    (c.either-third.ensures ∙ ap (λ b. b || s.hitm) c.either-second.ensures)))
    c.put_sign-3.ensures
