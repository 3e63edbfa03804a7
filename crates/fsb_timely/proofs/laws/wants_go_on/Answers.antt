use Rattle.fsb_timely.proofs.GoingOn.{going-alike}
use Rattle.fsb_timely.proofs.GoingDirty.{is_dirty-alike, done_below, done_after, below_le}
use Rattle.fsb_timely.proofs.GoingWants.{owed-same, want_of-alike, is_held_back-alike}
use Rattle.fsb_timely.proofs.laws.wants_go_on.Goals as goal

pub returns-clause-owed : goal.returns-clause-owed
returns-clause-owed c = λ n p q a t h l. owed-same n p q a t (going-alike n p q h) l

pub returns-clause-dirty : goal.returns-clause-dirty
returns-clause-dirty c = λ n p q a line t h l. is_dirty-alike n p q a line t h.goes_on l (done_after n p q a t h l)

pub returns-clause-want : goal.returns-clause-want
returns-clause-want c = λ n p q a t h l. want_of-alike n p q a t h.goes_on l (done_after n p q a t h l)

pub returns-clause-held_back : goal.returns-clause-held_back
returns-clause-held_back c = λ n p q a t h l. is_held_back-alike n p q a t h.goes_on l (done_after n p q a t h l)

pub returns-clause-earlier_dirty : goal.returns-clause-earlier_dirty
returns-clause-earlier_dirty c = λ n p q a line t h l. is_dirty-alike n p q a line t h (below_le t n l)
    (done_below n p a t h.entries l h.at_end)

pub returns-clause-earlier_want : goal.returns-clause-earlier_want
returns-clause-earlier_want c = λ n p q a t h l. want_of-alike n p q a t h (below_le t n l)
    (done_below n p a t h.entries l h.at_end)

pub returns-clause-earlier_held_back : goal.returns-clause-earlier_held_back
returns-clause-earlier_held_back c =
    λ n p q a t h l. is_held_back-alike n p q a t h (below_le t n l) (done_below n p a t h.entries l h.at_end)
