use Rattle.std.proofs.Common.{◌∙◌, rules, tests, map, sym, ap}
use Rattle.std.specs.List.{list_all}
use Rattle.std.specs.String.{string_bytes}
use Rattle.std.proofs.lemmas.Iterator.{YieldsList-from_slice}
use Rattle.std.proofs.lemmas.Iterator.Search.{all_from_yields_List}
use Rattle.std.proofs.lemmas.List.Folds.{list_all-map}
use Rattle.fsb_command.specs.Form.{is_word}
use Rattle.fsb_command.proofs.words.Words.may_stand.Goals as goal

pub returns : goal.returns
returns c =
    all_from_yields_List (λ s. is_word (string_bytes s)) _ _ _ c.all.ensures.ran
    (YieldsList-from_slice c.as_slice.result.now cc) (λ x b q k. search (rules, tests))
    ∙ sym (list_all-map is_word (λ s. string_bytes s) c.as_slice.result.now)
    ∙ ap (λ words. list_all is_word (map (λ s. string_bytes s) words)) c.as_slice.ensures.value
    ∙ ap (list_all is_word) c.self.view_is
