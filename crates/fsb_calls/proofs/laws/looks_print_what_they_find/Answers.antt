use Rattle.fsb_calls.proofs.Promises.{promised}
use Rattle.fsb_calls.proofs.laws.looks_print_what_they_find.Goals as goal

pub returns-clause-told : goal.returns-clause-told
returns-clause-told g c = λ call ends. (promised call ends).line

pub returns-clause-audited_text : goal.returns-clause-audited_text
returns-clause-audited_text g c = λ call ends. (promised call ends).audited_text

pub returns-clause-tabled_text : goal.returns-clause-tabled_text
returns-clause-tabled_text g c = λ call ends. (promised call ends).tabled_text

pub returns-clause-searched_text : goal.returns-clause-searched_text
returns-clause-searched_text g c = λ call ends. (promised call ends).searched_text

pub returns-clause-drawn_text : goal.returns-clause-drawn_text
returns-clause-drawn_text g c = λ call ends. (promised call ends).drawn_text

pub returns-clause-looked_text : goal.returns-clause-looked_text
returns-clause-looked_text g c = λ call ends. (promised call ends).looked_text
