use Rattle.fsb_command.specs.Command.{form_meant}
use Rattle.fsb_command.specs.Form.{form_of}
use Rattle.p6bench.proofs.Endings.{may_end_words, no_words_of_form}
use Rattle.p6bench.proofs.call.Goals as goal

pub returns-in-Some-clause-bad_words : goal.returns-in-Some-clause-bad_words
returns-in-Some-clause-bad_words g c e =
    no_words_of_form (form_of c.args.words.now) (form_meant c.in-Some.command) c.obey.result c.obey.ensures e

pub returns-in-Some-clause-ends : goal.returns-in-Some-clause-ends
returns-in-Some-clause-ends g c =
    may_end_words (form_of c.args.words.now) (form_meant c.in-Some.command) c.obey.result
    (rw c.in-Some.is at c.in-Ok.ensures.form) c.obey.ensures
