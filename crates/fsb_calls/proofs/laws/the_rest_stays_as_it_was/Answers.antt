use Rattle.fsb_calls.proofs.Promises.{promised}
use Rattle.fsb_calls.proofs.laws.the_rest_stays_as_it_was.Goals as goal

pub returns-clause-not_called : goal.returns-clause-not_called
returns-clause-not_called g c = λ call ends. (promised call ends).not_called

pub returns-clause-nothing_read : goal.returns-clause-nothing_read
returns-clause-nothing_read g c = λ call ends. (promised call ends).nothing_read

pub returns-clause-silent : goal.returns-clause-silent
returns-clause-silent g c = λ call ends. (promised call ends).silent

pub returns-clause-no_dump : goal.returns-clause-no_dump
returns-clause-no_dump g c = λ call ends. (promised call ends).no_dump

pub returns-clause-not_begun : goal.returns-clause-not_begun
returns-clause-not_begun g c = λ call ends. (promised call ends).not_begun

pub returns-clause-not_named : goal.returns-clause-not_named
returns-clause-not_named g c = λ call ends. (promised call ends).not_named

pub returns-clause-not_dumped : goal.returns-clause-not_dumped
returns-clause-not_dumped g c = λ call ends. (promised call ends).not_dumped

pub returns-clause-not_written : goal.returns-clause-not_written
returns-clause-not_written g c = λ call ends. (promised call ends).not_written
