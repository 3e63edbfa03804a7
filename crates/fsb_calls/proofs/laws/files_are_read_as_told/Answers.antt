use Rattle.fsb_calls.proofs.Promises.{promised}
use Rattle.fsb_calls.proofs.laws.files_are_read_as_told.Goals as goal

pub returns-clause-judged : goal.returns-clause-judged
returns-clause-judged g c = λ call ends. (promised call ends).judged

pub returns-clause-audited : goal.returns-clause-audited
returns-clause-audited g c = λ call ends. (promised call ends).audited

pub returns-clause-tabled : goal.returns-clause-tabled
returns-clause-tabled g c = λ call ends. (promised call ends).tabled

pub returns-clause-searched : goal.returns-clause-searched
returns-clause-searched g c = λ call ends. (promised call ends).searched

pub returns-clause-drawn : goal.returns-clause-drawn
returns-clause-drawn g c = λ call ends. (promised call ends).drawn

pub returns-clause-long_read : goal.returns-clause-long_read
returns-clause-long_read g c = λ call ends. (promised call ends).long_read

pub returns-clause-memory_read : goal.returns-clause-memory_read
returns-clause-memory_read g c = λ call ends. (promised call ends).memory_read

pub returns-clause-not_read : goal.returns-clause-not_read
returns-clause-not_read g c = λ call ends. (promised call ends).not_read

pub returns-clause-looked : goal.returns-clause-looked
returns-clause-looked g c = λ call ends. (promised call ends).looked
