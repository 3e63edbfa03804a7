use Rattle.fsb_calls.proofs.Completed.{complete}
use Rattle.fsb_calls.proofs.Promises.{promised}
use Rattle.fsb_calls.proofs.laws.statuses_have_causes.Goals as goal

pub returns-clause-bad_words : goal.returns-clause-bad_words
returns-clause-bad_words g c = λ call ends. (promised call ends).bad_words

pub returns-clause-no_form : goal.returns-clause-no_form
returns-clause-no_form g c = λ call ends. (promised call ends).no_form

pub returns-clause-read_fault : goal.returns-clause-read_fault
returns-clause-read_fault g c = λ call ends. (promised call ends).read_fault

pub returns-clause-too_long : goal.returns-clause-too_long
returns-clause-too_long g c = λ call ends. (promised call ends).too_long

pub returns-clause-bad_bench : goal.returns-clause-bad_bench
returns-clause-bad_bench g c = λ call ends. (promised call ends).bad_bench

pub returns-clause-bad_dump : goal.returns-clause-bad_dump
returns-clause-bad_dump g c = λ call ends. (promised call ends).bad_dump

pub returns-clause-write_fault : goal.returns-clause-write_fault
returns-clause-write_fault g c = λ call ends. (promised call ends).write_fault

pub returns-clause-dump_fault : goal.returns-clause-dump_fault
returns-clause-dump_fault g c = λ call ends. (promised call ends).dump_fault

pub returns-clause-dump_has_name : goal.returns-clause-dump_has_name
returns-clause-dump_has_name g c = λ call ends. (promised call ends).dump_has_name

pub returns-clause-complete : goal.returns-clause-complete
returns-clause-complete g c = λ call ends.
    complete c.files_have_one_answer.ensures.not_faulty c.files_have_one_answer.ensures.not_long call
    (promised call ends)

pub returns-clause-of_run : goal.returns-clause-of_run
returns-clause-of_run g c = λ call ends. (promised call ends).of_run

pub returns-clause-of_gen : goal.returns-clause-of_gen
returns-clause-of_gen g c = λ call ends. (promised call ends).of_gen

pub returns-clause-of_check : goal.returns-clause-of_check
returns-clause-of_check g c = λ call ends. (promised call ends).of_check

pub returns-clause-of_audit : goal.returns-clause-of_audit
returns-clause-of_audit g c = λ call ends. (promised call ends).of_audit

pub returns-clause-of_show : goal.returns-clause-of_show
returns-clause-of_show g c = λ call ends. (promised call ends).of_show

pub returns-clause-of_find : goal.returns-clause-of_find
returns-clause-of_find g c = λ call ends. (promised call ends).of_find

pub returns-clause-of_wave : goal.returns-clause-of_wave
returns-clause-of_wave g c = λ call ends. (promised call ends).of_wave

pub returns-clause-of_look : goal.returns-clause-of_look
returns-clause-of_look g c = λ call ends. (promised call ends).of_look
