use Rattle.std.proofs.Common.{sym, ◌∙◌}
use Rattle.fsb_why_open.proofs.Taking.{free, free_undecoded, taken_is}
use Rattle.fsb_why_open.proofs.ids.taken.Goals as goal

pub returns-in-Some-request : goal.returns-in-Some-request
returns-in-Some-request c = λ m h x who b plain.
    taken_is b m c.in-Some.row c.in-Some-request.request (sym c.in-Some.is ∙ c.first_taking.ensures) c.in-Some-request.is plain

pub returns-in-None-request : goal.returns-in-None-request
returns-in-None-request c = λ m h x who b plain. free_undecoded b c.in-None-request.is

pub returns-in-None : goal.returns-in-None
returns-in-None c = λ m h x who b plain. free b (sym c.in-None.is ∙ c.first_taking.ensures)
