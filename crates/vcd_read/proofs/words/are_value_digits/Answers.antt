use Rattle.std.proofs.Common.{◌∙◌, sym, ap}
use Rattle.std.specs.List.{list_all}
use Rattle.std.proofs.lemmas.List.{take_rest}
use Rattle.vcd_grammar.specs.Digits.{is_value_digit}
use Rattle.vcd_read.proofs.LaneRuns.{all_behind}
use Rattle.vcd_read.proofs.words.are_value_digits.Goals as goal

pub returns : goal.returns
returns c =
    let word = c.args.word.now in
    let at = c.binary_len-at.result in
    c.are_all_digits.ensures ∙ ap (list_all (λ b. is_value_digit b)) (take_rest word at)
    ∙ sym (all_behind (λ b. is_value_digit b) word at c.binary_len-at.ensures.digits)
