use Rattle.fsb_headline.proofs.HowNoneEnds.{incomplete, no_end_of_a_check, no_end_of_a_made_run, no_end_of_a_run, no_end_of_a_search, no_end_of_a_wave, no_end_of_an_audit}
use Rattle.fsb_headline.proofs.laws.commands_end_in_their_own_statuses.Goals as goal

pub returns-clause-run : goal.returns-clause-run
returns-clause-run c = no_end_of_a_run

pub returns-clause-made : goal.returns-clause-made
returns-clause-made c = no_end_of_a_made_run

pub returns-clause-check : goal.returns-clause-check
returns-clause-check c = no_end_of_a_check

pub returns-clause-audit : goal.returns-clause-audit
returns-clause-audit c = no_end_of_an_audit

pub returns-clause-search : goal.returns-clause-search
returns-clause-search c = no_end_of_a_search

pub returns-clause-wave : goal.returns-clause-wave
returns-clause-wave c = no_end_of_a_wave

pub returns-clause-complete : goal.returns-clause-complete
returns-clause-complete c = incomplete
