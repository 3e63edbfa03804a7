-- Short traces of one line, each with one thing that a rule of ownership refuses, or just does not: all of it is computed.
use Rattle.std.proofs.Common.{◌≡◌, ℕ, refl, List, [], ◌∷◌, Option, Some, None}
use Rattle.fsb_signal.specs.declared.lines.TheConstants.Lines.{BREQ0, BREQ1, BREQ2, BPRI, ADS, AERR, HIT, HITM, DEFER}
use Rattle.fsb_signal.specs.declared.lines.TheConstants.Lines.{RS0, RS1, RS2, TRDY, DBSY, DRDY}
use Rattle.fsb_trace.specs.At.{Trace}
use Rattle.rows_timely.proofs.Interface.{clock, idle}
use Rattle.rows_owners.proofs.Judging.{judging}
use Rattle.rows_owners.proofs.Rows.{judged}

-- a read of an agent whose first read of the line is under way
abbrev asked_twice-trace : Trace
asked_twice-trace =
    clock (BREQ0 ∷ []) 0x0 0x0 0x0
    ∷ clock (BREQ0 ∷ []) 0x0 0x0 0x0
    ∷ clock (BREQ0 ∷ ADS ∷ []) 0x6 0x8 0x0
    ∷ clock [] 0x2 0x0 0x0
    ∷ clock (BREQ0 ∷ []) 0x0 0x0 0x0
    ∷ clock (BREQ0 ∷ []) 0x0 0x0 0x0
    ∷ clock (BREQ0 ∷ ADS ∷ []) 0x6 0x8 0x0
    ∷ clock [] 0x2 0x2000 0x0
    ∷ clock (RS0 ∷ RS1 ∷ RS2 ∷ DBSY ∷ DRDY ∷ []) 0x0 0x0 0x0
    ∷ clock (DBSY ∷ DRDY ∷ []) 0x0 0x0 0x0
    ∷ clock (DBSY ∷ DRDY ∷ []) 0x0 0x0 0x0
    ∷ clock (DRDY ∷ []) 0x0 0x0 0x0
    ∷ clock (RS0 ∷ RS1 ∷ RS2 ∷ DBSY ∷ DRDY ∷ []) 0x0 0x0 0x0
    ∷ clock (DBSY ∷ DRDY ∷ []) 0x0 0x0 0x0
    ∷ clock (DBSY ∷ DRDY ∷ []) 0x0 0x0 0x0
    ∷ clock (DRDY ∷ []) 0x0 0x0 0x0
    ∷ idle
    ∷ idle
    ∷ []

pub asked_twice : judged asked_twice-trace ≡ Some (7, 21)
unfolding judging
asked_twice = refl

-- a read of an agent whose first read of the line is deferred
abbrev asked_while_deferred-trace : Trace
asked_while_deferred-trace =
    clock (BREQ0 ∷ []) 0x0 0x0 0x0
    ∷ clock (BREQ0 ∷ []) 0x0 0x0 0x0
    ∷ clock (BREQ0 ∷ ADS ∷ []) 0x6 0x8 0x0
    ∷ clock [] 0x2 0x2 0x0
    ∷ idle
    ∷ idle
    ∷ clock (DEFER ∷ []) 0x0 0x0 0x0
    ∷ idle
    ∷ clock (RS1 ∷ []) 0x0 0x0 0x0
    ∷ idle
    ∷ clock (BREQ0 ∷ []) 0x0 0x0 0x0
    ∷ clock (BREQ0 ∷ []) 0x0 0x0 0x0
    ∷ clock (BREQ0 ∷ ADS ∷ []) 0x6 0x8 0x0
    ∷ clock [] 0x2 0x2000 0x0
    ∷ idle
    ∷ idle
    ∷ idle
    ∷ idle
    ∷ clock (RS0 ∷ RS1 ∷ RS2 ∷ DBSY ∷ DRDY ∷ []) 0x0 0x0 0x0
    ∷ clock (DBSY ∷ DRDY ∷ []) 0x0 0x0 0x0
    ∷ clock (DBSY ∷ DRDY ∷ []) 0x0 0x0 0x0
    ∷ clock (DRDY ∷ []) 0x0 0x0 0x0
    ∷ idle
    ∷ idle
    ∷ []

pub asked_while_deferred : judged asked_while_deferred-trace ≡ Some (13, 21)
unfolding judging
asked_while_deferred = refl

-- a write-back while the request that the owner answers is open
abbrev held_back-trace : Trace
held_back-trace =
    clock (BREQ0 ∷ []) 0x0 0x0 0x0
    ∷ clock (BREQ0 ∷ []) 0x0 0x0 0x0
    ∷ clock (BREQ0 ∷ ADS ∷ []) 0x2 0x8 0x0
    ∷ clock [] 0x2 0x0 0x0
    ∷ idle
    ∷ idle
    ∷ idle
    ∷ idle
    ∷ clock (RS0 ∷ RS1 ∷ RS2 ∷ DBSY ∷ DRDY ∷ []) 0x0 0x0 0x0
    ∷ clock (DBSY ∷ DRDY ∷ []) 0x0 0x0 0x0
    ∷ clock (DBSY ∷ DRDY ∷ []) 0x0 0x0 0x0
    ∷ clock (DRDY ∷ []) 0x0 0x0 0x0
    ∷ clock (BREQ1 ∷ []) 0x0 0x0 0x0
    ∷ clock (BREQ1 ∷ []) 0x0 0x0 0x0
    ∷ clock (BREQ1 ∷ ADS ∷ []) 0x6 0x8 0x0
    ∷ clock (BREQ0 ∷ []) 0x2 0x20000 0x0
    ∷ clock (BREQ0 ∷ []) 0x0 0x0 0x0
    ∷ clock (BREQ0 ∷ ADS ∷ []) 0x5 0x8 0x0
    ∷ clock (HITM ∷ []) 0x2 0x2000 0x0
    ∷ idle
    ∷ clock (TRDY ∷ []) 0x0 0x0 0x0
    ∷ idle
    ∷ clock (RS1 ∷ RS2 ∷ DBSY ∷ DRDY ∷ []) 0x0 0x0 0x0
    ∷ clock (DBSY ∷ DRDY ∷ []) 0x0 0x0 0x0
    ∷ clock (DBSY ∷ DRDY ∷ []) 0x0 0x0 0x0
    ∷ clock (DRDY ∷ []) 0x0 0x0 0x0
    ∷ clock (TRDY ∷ []) 0x0 0x0 0x0
    ∷ idle
    ∷ clock (RS0 ∷ RS2 ∷ DBSY ∷ DRDY ∷ []) 0x0 0x0 0x0
    ∷ clock (DBSY ∷ DRDY ∷ []) 0x0 0x0 0x0
    ∷ clock (DBSY ∷ DRDY ∷ []) 0x0 0x0 0x0
    ∷ clock (DRDY ∷ []) 0x0 0x0 0x0
    ∷ idle
    ∷ idle
    ∷ []

pub held_back : judged held_back-trace ≡ Some (18, 22)
unfolding judging
held_back = refl

-- a write-back at the snoop end of that request
abbrev held_back_at_the_end-trace : Trace
held_back_at_the_end-trace =
    clock (BREQ0 ∷ []) 0x0 0x0 0x0
    ∷ clock (BREQ0 ∷ []) 0x0 0x0 0x0
    ∷ clock (BREQ0 ∷ ADS ∷ []) 0x2 0x8 0x0
    ∷ clock [] 0x2 0x0 0x0
    ∷ idle
    ∷ idle
    ∷ idle
    ∷ idle
    ∷ clock (RS0 ∷ RS1 ∷ RS2 ∷ DBSY ∷ DRDY ∷ []) 0x0 0x0 0x0
    ∷ clock (DBSY ∷ DRDY ∷ []) 0x0 0x0 0x0
    ∷ clock (DBSY ∷ DRDY ∷ []) 0x0 0x0 0x0
    ∷ clock (DRDY ∷ []) 0x0 0x0 0x0
    ∷ clock (BREQ1 ∷ []) 0x0 0x0 0x0
    ∷ clock (BREQ1 ∷ []) 0x0 0x0 0x0
    ∷ clock (BREQ1 ∷ ADS ∷ []) 0x6 0x8 0x0
    ∷ clock [] 0x2 0x20000 0x0
    ∷ clock (BREQ0 ∷ []) 0x0 0x0 0x0
    ∷ clock (BREQ0 ∷ []) 0x0 0x0 0x0
    ∷ clock (BREQ0 ∷ ADS ∷ HITM ∷ []) 0x5 0x8 0x0
    ∷ clock [] 0x2 0x2000 0x0
    ∷ clock (TRDY ∷ []) 0x0 0x0 0x0
    ∷ idle
    ∷ clock (RS1 ∷ RS2 ∷ DBSY ∷ DRDY ∷ []) 0x0 0x0 0x0
    ∷ clock (DBSY ∷ DRDY ∷ []) 0x0 0x0 0x0
    ∷ clock (DBSY ∷ DRDY ∷ []) 0x0 0x0 0x0
    ∷ clock (DRDY ∷ []) 0x0 0x0 0x0
    ∷ clock (TRDY ∷ []) 0x0 0x0 0x0
    ∷ idle
    ∷ clock (RS0 ∷ RS2 ∷ DBSY ∷ DRDY ∷ []) 0x0 0x0 0x0
    ∷ clock (DBSY ∷ DRDY ∷ []) 0x0 0x0 0x0
    ∷ clock (DBSY ∷ DRDY ∷ []) 0x0 0x0 0x0
    ∷ clock (DRDY ∷ []) 0x0 0x0 0x0
    ∷ idle
    ∷ idle
    ∷ []

pub held_back_at_the_end : judged held_back_at_the_end-trace ≡ Some (19, 22)
unfolding judging
held_back_at_the_end = refl

-- a write-back while a cancelled request for the line is in flight
abbrev held_back_by_a_cancelled_one-trace : Trace
held_back_by_a_cancelled_one-trace =
    clock (BREQ0 ∷ []) 0x0 0x0 0x0
    ∷ clock (BREQ0 ∷ []) 0x0 0x0 0x0
    ∷ clock (BREQ0 ∷ ADS ∷ []) 0x2 0x8 0x0
    ∷ clock [] 0x2 0x0 0x0
    ∷ idle
    ∷ idle
    ∷ idle
    ∷ idle
    ∷ clock (RS0 ∷ RS1 ∷ RS2 ∷ DBSY ∷ DRDY ∷ []) 0x0 0x0 0x0
    ∷ clock (DBSY ∷ DRDY ∷ []) 0x0 0x0 0x0
    ∷ clock (DBSY ∷ DRDY ∷ []) 0x0 0x0 0x0
    ∷ clock (DRDY ∷ []) 0x0 0x0 0x0
    ∷ clock (BREQ1 ∷ []) 0x0 0x0 0x0
    ∷ clock (BREQ1 ∷ []) 0x0 0x0 0x0
    ∷ clock (BREQ1 ∷ ADS ∷ []) 0x6 0x8 0x0
    ∷ clock (BREQ0 ∷ []) 0x2 0x20000 0x0
    ∷ clock (BREQ0 ∷ []) 0x0 0x0 0x0
    ∷ clock (BREQ0 ∷ ADS ∷ AERR ∷ []) 0x5 0x8 0x0
    ∷ clock [] 0x2 0x2000 0x0
    ∷ idle
    ∷ idle
    ∷ idle
    ∷ idle
    ∷ clock (TRDY ∷ []) 0x0 0x0 0x0
    ∷ idle
    ∷ clock (RS0 ∷ RS2 ∷ DBSY ∷ DRDY ∷ []) 0x0 0x0 0x0
    ∷ clock (DBSY ∷ DRDY ∷ []) 0x0 0x0 0x0
    ∷ clock (DBSY ∷ DRDY ∷ []) 0x0 0x0 0x0
    ∷ clock (DRDY ∷ []) 0x0 0x0 0x0
    ∷ idle
    ∷ idle
    ∷ []

pub held_back_by_a_cancelled_one : judged held_back_by_a_cancelled_one-trace ≡ Some (18, 22)
unfolding judging
held_back_by_a_cancelled_one = refl

-- a write-back one clock later
abbrev free_behind_a_cancelled_one-trace : Trace
free_behind_a_cancelled_one-trace =
    clock (BREQ0 ∷ []) 0x0 0x0 0x0
    ∷ clock (BREQ0 ∷ []) 0x0 0x0 0x0
    ∷ clock (BREQ0 ∷ ADS ∷ []) 0x2 0x8 0x0
    ∷ clock [] 0x2 0x0 0x0
    ∷ idle
    ∷ idle
    ∷ idle
    ∷ idle
    ∷ clock (RS0 ∷ RS1 ∷ RS2 ∷ DBSY ∷ DRDY ∷ []) 0x0 0x0 0x0
    ∷ clock (DBSY ∷ DRDY ∷ []) 0x0 0x0 0x0
    ∷ clock (DBSY ∷ DRDY ∷ []) 0x0 0x0 0x0
    ∷ clock (DRDY ∷ []) 0x0 0x0 0x0
    ∷ clock (BREQ1 ∷ []) 0x0 0x0 0x0
    ∷ clock (BREQ1 ∷ []) 0x0 0x0 0x0
    ∷ clock (BREQ1 ∷ ADS ∷ []) 0x6 0x8 0x0
    ∷ clock [] 0x2 0x20000 0x0
    ∷ clock (BREQ0 ∷ []) 0x0 0x0 0x0
    ∷ clock (BREQ0 ∷ AERR ∷ []) 0x0 0x0 0x0
    ∷ clock (BREQ0 ∷ ADS ∷ []) 0x5 0x8 0x0
    ∷ clock [] 0x2 0x2000 0x0
    ∷ idle
    ∷ idle
    ∷ idle
    ∷ idle
    ∷ clock (TRDY ∷ []) 0x0 0x0 0x0
    ∷ idle
    ∷ clock (RS0 ∷ RS2 ∷ DBSY ∷ DRDY ∷ []) 0x0 0x0 0x0
    ∷ clock (DBSY ∷ DRDY ∷ []) 0x0 0x0 0x0
    ∷ clock (DBSY ∷ DRDY ∷ []) 0x0 0x0 0x0
    ∷ clock (DRDY ∷ []) 0x0 0x0 0x0
    ∷ idle
    ∷ idle
    ∷ []

pub free_behind_a_cancelled_one : judged free_behind_a_cancelled_one-trace ≡ None
unfolding judging
free_behind_a_cancelled_one = refl

-- after a hard failure no rule is judged
abbrev failed_hard-trace : Trace
failed_hard-trace =
    clock (BREQ0 ∷ []) 0x0 0x0 0x0
    ∷ clock (BREQ0 ∷ []) 0x0 0x0 0x0
    ∷ clock (BREQ0 ∷ ADS ∷ []) 0x2 0x8 0x0
    ∷ clock [] 0x2 0x0 0x0
    ∷ idle
    ∷ idle
    ∷ idle
    ∷ idle
    ∷ clock (RS2 ∷ []) 0x0 0x0 0x0
    ∷ idle
    ∷ idle
    ∷ idle
    ∷ clock (BREQ0 ∷ []) 0x0 0x0 0x0
    ∷ clock (BREQ0 ∷ []) 0x0 0x0 0x0
    ∷ clock (BREQ0 ∷ ADS ∷ []) 0x6 0x8 0x0
    ∷ clock [] 0x2 0x0 0x0
    ∷ idle
    ∷ idle
    ∷ idle
    ∷ idle
    ∷ clock (RS0 ∷ RS1 ∷ RS2 ∷ DBSY ∷ DRDY ∷ []) 0x0 0x0 0x0
    ∷ clock (DBSY ∷ DRDY ∷ []) 0x0 0x0 0x0
    ∷ clock (DBSY ∷ DRDY ∷ []) 0x0 0x0 0x0
    ∷ clock (DRDY ∷ []) 0x0 0x0 0x0
    ∷ idle
    ∷ idle
    ∷ []

pub failed_hard : judged failed_hard-trace ≡ None
unfolding judging
failed_hard = refl

-- nor after one of a reply
abbrev reply_failed_hard-trace : Trace
reply_failed_hard-trace =
    clock (BREQ0 ∷ []) 0x0 0x0 0x0
    ∷ clock (BREQ0 ∷ []) 0x0 0x0 0x0
    ∷ clock (BREQ0 ∷ ADS ∷ []) 0x2 0x8 0x0
    ∷ clock [] 0x2 0x2 0x0
    ∷ idle
    ∷ idle
    ∷ clock (DEFER ∷ []) 0x0 0x0 0x0
    ∷ idle
    ∷ clock (RS1 ∷ []) 0x0 0x0 0x0
    ∷ idle
    ∷ clock (BPRI ∷ []) 0x0 0x0 0x0
    ∷ clock (BPRI ∷ []) 0x0 0x0 0x0
    ∷ clock (BPRI ∷ ADS ∷ []) 0x0 0x0 0x0
    ∷ idle
    ∷ idle
    ∷ idle
    ∷ idle
    ∷ idle
    ∷ clock (RS2 ∷ []) 0x0 0x0 0x0
    ∷ idle
    ∷ idle
    ∷ idle
    ∷ clock (BREQ0 ∷ []) 0x0 0x0 0x0
    ∷ clock (BREQ0 ∷ []) 0x0 0x0 0x0
    ∷ clock (BREQ0 ∷ ADS ∷ []) 0x6 0x8 0x0
    ∷ clock [] 0x2 0x0 0x0
    ∷ idle
    ∷ idle
    ∷ idle
    ∷ idle
    ∷ clock (RS0 ∷ RS1 ∷ RS2 ∷ DBSY ∷ DRDY ∷ []) 0x0 0x0 0x0
    ∷ clock (DBSY ∷ DRDY ∷ []) 0x0 0x0 0x0
    ∷ clock (DBSY ∷ DRDY ∷ []) 0x0 0x0 0x0
    ∷ clock (DRDY ∷ []) 0x0 0x0 0x0
    ∷ idle
    ∷ idle
    ∷ []

pub reply_failed_hard : judged reply_failed_hard-trace ≡ None
unfolding judging
reply_failed_hard = refl

-- a second read of a deferred line is deferred too
abbrev deferred_twice-trace : Trace
deferred_twice-trace =
    clock (BREQ0 ∷ []) 0x0 0x0 0x0
    ∷ clock (BREQ0 ∷ []) 0x0 0x0 0x0
    ∷ clock (BREQ0 ∷ ADS ∷ []) 0x6 0x8 0x0
    ∷ clock [] 0x2 0x2 0x0
    ∷ idle
    ∷ idle
    ∷ clock (DEFER ∷ []) 0x0 0x0 0x0
    ∷ idle
    ∷ clock (BREQ1 ∷ RS1 ∷ []) 0x0 0x0 0x0
    ∷ clock (BREQ1 ∷ []) 0x0 0x0 0x0
    ∷ clock (BREQ1 ∷ ADS ∷ []) 0x6 0x8 0x0
    ∷ clock [] 0x2 0x20002 0x0
    ∷ idle
    ∷ idle
    ∷ clock (DEFER ∷ []) 0x0 0x0 0x0
    ∷ idle
    ∷ clock (RS1 ∷ []) 0x0 0x0 0x0
    ∷ idle
    ∷ idle
    ∷ []

pub deferred_twice : judged deferred_twice-trace ≡ Some (16, 31)
unfolding judging
deferred_twice = refl

-- a cancelled write-back shows that its agent has the line Modified
abbrev cancelled_write_back-trace : Trace
cancelled_write_back-trace =
    clock (BREQ0 ∷ []) 0x0 0x0 0x0
    ∷ clock (BREQ0 ∷ []) 0x0 0x0 0x0
    ∷ clock (BREQ0 ∷ ADS ∷ []) 0x6 0x8 0x0
    ∷ clock [] 0x2 0x0 0x0
    ∷ idle
    ∷ idle
    ∷ idle
    ∷ idle
    ∷ clock (RS0 ∷ RS1 ∷ RS2 ∷ DBSY ∷ DRDY ∷ []) 0x0 0x0 0x0
    ∷ clock (DBSY ∷ DRDY ∷ []) 0x0 0x0 0x0
    ∷ clock (DBSY ∷ DRDY ∷ []) 0x0 0x0 0x0
    ∷ clock (DRDY ∷ []) 0x0 0x0 0x0
    ∷ clock (BREQ0 ∷ []) 0x0 0x0 0x0
    ∷ clock (BREQ0 ∷ []) 0x0 0x0 0x0
    ∷ clock (BREQ0 ∷ ADS ∷ []) 0x5 0x8 0x0
    ∷ clock [] 0x2 0x2000 0x0
    ∷ clock (BREQ1 ∷ []) 0x0 0x0 0x0
    ∷ clock (BREQ1 ∷ AERR ∷ []) 0x0 0x0 0x0
    ∷ clock (BREQ1 ∷ ADS ∷ []) 0x6 0x8 0x0
    ∷ clock [] 0x2 0x20000 0x0
    ∷ idle
    ∷ idle
    ∷ clock (HIT ∷ []) 0x0 0x0 0x0
    ∷ idle
    ∷ clock (RS0 ∷ RS1 ∷ RS2 ∷ DBSY ∷ DRDY ∷ []) 0x0 0x0 0x0
    ∷ clock (DBSY ∷ DRDY ∷ []) 0x0 0x0 0x0
    ∷ clock (DBSY ∷ DRDY ∷ []) 0x0 0x0 0x0
    ∷ clock (DRDY ∷ []) 0x0 0x0 0x0
    ∷ idle
    ∷ idle
    ∷ []

pub cancelled_write_back : judged cancelled_write_back-trace ≡ Some (22, 26)
unfolding judging
cancelled_write_back = refl

-- an agent keeps its copy while its upgrade is under way, a cancelled one too
abbrev cancelled_upgrade-trace : Trace
cancelled_upgrade-trace =
    clock (BREQ0 ∷ []) 0x0 0x0 0x0
    ∷ clock (BREQ0 ∷ []) 0x0 0x0 0x0
    ∷ clock (BREQ0 ∷ ADS ∷ []) 0x6 0x8 0x0
    ∷ clock (BREQ1 ∷ []) 0x2 0x0 0x0
    ∷ clock (BREQ1 ∷ []) 0x0 0x0 0x0
    ∷ clock (BREQ1 ∷ ADS ∷ []) 0x6 0x8 0x0
    ∷ clock [] 0x2 0x20000 0x0
    ∷ idle
    ∷ clock (RS0 ∷ RS1 ∷ RS2 ∷ DBSY ∷ DRDY ∷ []) 0x0 0x0 0x0
    ∷ clock (HIT ∷ DBSY ∷ DRDY ∷ []) 0x0 0x0 0x0
    ∷ clock (DBSY ∷ DRDY ∷ []) 0x0 0x0 0x0
    ∷ clock (DRDY ∷ []) 0x0 0x0 0x0
    ∷ clock (RS0 ∷ RS1 ∷ RS2 ∷ DBSY ∷ DRDY ∷ []) 0x0 0x0 0x0
    ∷ clock (DBSY ∷ DRDY ∷ []) 0x0 0x0 0x0
    ∷ clock (DBSY ∷ DRDY ∷ []) 0x0 0x0 0x0
    ∷ clock (DRDY ∷ []) 0x0 0x0 0x0
    ∷ idle
    ∷ idle
    ∷ idle
    ∷ idle
    ∷ idle
    ∷ idle
    ∷ idle
    ∷ clock (BREQ2 ∷ []) 0x0 0x0 0x0
    ∷ clock (BREQ2 ∷ []) 0x0 0x0 0x0
    ∷ clock (BREQ2 ∷ ADS ∷ []) 0x2 0x8 0x0
    ∷ clock (BREQ0 ∷ []) 0x2 0x40000 0x0
    ∷ clock (BREQ0 ∷ []) 0x0 0x0 0x0
    ∷ clock (BREQ0 ∷ ADS ∷ []) 0x2 0x8 0x0
    ∷ clock (HIT ∷ HITM ∷ []) 0x0 0x2000 0x0
    ∷ idle
    ∷ clock (AERR ∷ []) 0x0 0x0 0x0
    ∷ idle
    ∷ clock (RS0 ∷ RS1 ∷ RS2 ∷ DBSY ∷ DRDY ∷ []) 0x0 0x0 0x0
    ∷ clock (DBSY ∷ DRDY ∷ []) 0x0 0x0 0x0
    ∷ clock (DBSY ∷ DRDY ∷ []) 0x0 0x0 0x0
    ∷ clock (DRDY ∷ []) 0x0 0x0 0x0
    ∷ idle
    ∷ idle
    ∷ []

pub cancelled_upgrade : judged cancelled_upgrade-trace ≡ Some (31, 27)
unfolding judging
cancelled_upgrade = refl

-- or one that is turned away, up to its end
abbrev turned_upgrade-trace : Trace
turned_upgrade-trace =
    clock (BREQ0 ∷ []) 0x0 0x0 0x0
    ∷ clock (BREQ0 ∷ []) 0x0 0x0 0x0
    ∷ clock (BREQ0 ∷ ADS ∷ []) 0x6 0x8 0x0
    ∷ clock (BREQ1 ∷ []) 0x2 0x0 0x0
    ∷ clock (BREQ1 ∷ []) 0x0 0x0 0x0
    ∷ clock (BREQ1 ∷ ADS ∷ []) 0x6 0x8 0x0
    ∷ clock [] 0x2 0x20000 0x0
    ∷ idle
    ∷ clock (RS0 ∷ RS1 ∷ RS2 ∷ DBSY ∷ DRDY ∷ []) 0x0 0x0 0x0
    ∷ clock (HIT ∷ DBSY ∷ DRDY ∷ []) 0x0 0x0 0x0
    ∷ clock (DBSY ∷ DRDY ∷ []) 0x0 0x0 0x0
    ∷ clock (DRDY ∷ []) 0x0 0x0 0x0
    ∷ clock (RS0 ∷ RS1 ∷ RS2 ∷ DBSY ∷ DRDY ∷ []) 0x0 0x0 0x0
    ∷ clock (DBSY ∷ DRDY ∷ []) 0x0 0x0 0x0
    ∷ clock (DBSY ∷ DRDY ∷ []) 0x0 0x0 0x0
    ∷ clock (DRDY ∷ []) 0x0 0x0 0x0
    ∷ idle
    ∷ idle
    ∷ idle
    ∷ idle
    ∷ idle
    ∷ idle
    ∷ idle
    ∷ clock (BREQ0 ∷ []) 0x0 0x0 0x0
    ∷ clock (BREQ0 ∷ []) 0x0 0x0 0x0
    ∷ clock (BREQ0 ∷ ADS ∷ []) 0x2 0x8 0x0
    ∷ clock (BREQ2 ∷ []) 0x0 0x2000 0x0
    ∷ clock (BREQ2 ∷ []) 0x0 0x0 0x0
    ∷ clock (BREQ2 ∷ ADS ∷ []) 0x6 0x8 0x0
    ∷ clock (DEFER ∷ []) 0x2 0x40000 0x0
    ∷ idle
    ∷ idle
    ∷ idle
    ∷ idle
    ∷ idle
    ∷ clock (RS0 ∷ []) 0x0 0x0 0x0
    ∷ clock (RS0 ∷ RS1 ∷ RS2 ∷ DBSY ∷ DRDY ∷ []) 0x0 0x0 0x0
    ∷ clock (DBSY ∷ DRDY ∷ []) 0x0 0x0 0x0
    ∷ clock (DBSY ∷ DRDY ∷ []) 0x0 0x0 0x0
    ∷ clock (DRDY ∷ []) 0x0 0x0 0x0
    ∷ idle
    ∷ idle
    ∷ []

pub turned_upgrade : judged turned_upgrade-trace ≡ Some (32, 27)
unfolding judging
turned_upgrade = refl

-- a copy dropped at the end of its bytes does not show a clock later
abbrev drop_too_soon-trace : Trace
drop_too_soon-trace =
    clock (BREQ0 ∷ []) 0x0 0x0 0x0
    ∷ clock (BREQ0 ∷ []) 0x0 0x0 0x0
    ∷ clock (BREQ0 ∷ ADS ∷ []) 0x6 0x8 0x0
    ∷ clock [] 0x2 0x0 0x0
    ∷ idle
    ∷ idle
    ∷ clock (BREQ1 ∷ []) 0x0 0x0 0x0
    ∷ clock (BREQ1 ∷ []) 0x0 0x0 0x0
    ∷ clock (BREQ1 ∷ ADS ∷ RS0 ∷ RS1 ∷ RS2 ∷ DBSY ∷ DRDY ∷ []) 0x6 0x8 0x0
    ∷ clock (DBSY ∷ DRDY ∷ []) 0x2 0x20000 0x0
    ∷ clock (DBSY ∷ DRDY ∷ []) 0x0 0x0 0x0
    ∷ clock (DRDY ∷ []) 0x0 0x0 0x0
    ∷ idle
    ∷ idle
    ∷ clock (RS0 ∷ RS1 ∷ RS2 ∷ DBSY ∷ DRDY ∷ []) 0x0 0x0 0x0
    ∷ clock (DBSY ∷ DRDY ∷ []) 0x0 0x0 0x0
    ∷ clock (DBSY ∷ DRDY ∷ []) 0x0 0x0 0x0
    ∷ clock (DRDY ∷ []) 0x0 0x0 0x0
    ∷ idle
    ∷ idle
    ∷ []

pub drop_too_soon : judged drop_too_soon-trace ≡ Some (12, 27)
unfolding judging
drop_too_soon = refl

-- but two clocks later
abbrev drop_in_time-trace : Trace
drop_in_time-trace =
    clock (BREQ0 ∷ []) 0x0 0x0 0x0
    ∷ clock (BREQ0 ∷ []) 0x0 0x0 0x0
    ∷ clock (BREQ0 ∷ ADS ∷ []) 0x6 0x8 0x0
    ∷ clock [] 0x2 0x0 0x0
    ∷ idle
    ∷ idle
    ∷ idle
    ∷ clock (BREQ1 ∷ []) 0x0 0x0 0x0
    ∷ clock (BREQ1 ∷ RS0 ∷ RS1 ∷ RS2 ∷ DBSY ∷ DRDY ∷ []) 0x0 0x0 0x0
    ∷ clock (BREQ1 ∷ ADS ∷ DBSY ∷ DRDY ∷ []) 0x6 0x8 0x0
    ∷ clock (DBSY ∷ DRDY ∷ []) 0x2 0x20000 0x0
    ∷ clock (DRDY ∷ []) 0x0 0x0 0x0
    ∷ idle
    ∷ idle
    ∷ idle
    ∷ clock (RS0 ∷ RS1 ∷ RS2 ∷ DBSY ∷ DRDY ∷ []) 0x0 0x0 0x0
    ∷ clock (DBSY ∷ DRDY ∷ []) 0x0 0x0 0x0
    ∷ clock (DBSY ∷ DRDY ∷ []) 0x0 0x0 0x0
    ∷ clock (DRDY ∷ []) 0x0 0x0 0x0
    ∷ idle
    ∷ idle
    ∷ []

pub drop_in_time : judged drop_in_time-trace ≡ None
unfolding judging
drop_in_time = refl

-- a store at the end of the bytes does not show there
abbrev store_too_soon-trace : Trace
store_too_soon-trace =
    clock (BREQ0 ∷ []) 0x0 0x0 0x0
    ∷ clock (BREQ0 ∷ []) 0x0 0x0 0x0
    ∷ clock (BREQ0 ∷ ADS ∷ []) 0x6 0x8 0x0
    ∷ clock [] 0x2 0x0 0x0
    ∷ idle
    ∷ clock (BREQ1 ∷ []) 0x0 0x0 0x0
    ∷ clock (BREQ1 ∷ []) 0x0 0x0 0x0
    ∷ clock (BREQ1 ∷ ADS ∷ []) 0x6 0x8 0x0
    ∷ clock (RS0 ∷ RS1 ∷ RS2 ∷ DBSY ∷ DRDY ∷ []) 0x2 0x20000 0x0
    ∷ clock (DBSY ∷ DRDY ∷ []) 0x0 0x0 0x0
    ∷ clock (DBSY ∷ DRDY ∷ []) 0x0 0x0 0x0
    ∷ clock (HITM ∷ DRDY ∷ []) 0x0 0x0 0x0
    ∷ idle
    ∷ clock (TRDY ∷ []) 0x0 0x0 0x0
    ∷ idle
    ∷ clock (RS1 ∷ RS2 ∷ DBSY ∷ DRDY ∷ []) 0x0 0x0 0x0
    ∷ clock (DBSY ∷ DRDY ∷ []) 0x0 0x0 0x0
    ∷ clock (DBSY ∷ DRDY ∷ []) 0x0 0x0 0x0
    ∷ clock (DRDY ∷ []) 0x0 0x0 0x0
    ∷ idle
    ∷ idle
    ∷ []

pub store_too_soon : judged store_too_soon-trace ≡ Some (11, 25)
unfolding judging
store_too_soon = refl

-- but a clock later
abbrev store_in_time-trace : Trace
store_in_time-trace =
    clock (BREQ0 ∷ []) 0x0 0x0 0x0
    ∷ clock (BREQ0 ∷ []) 0x0 0x0 0x0
    ∷ clock (BREQ0 ∷ ADS ∷ []) 0x6 0x8 0x0
    ∷ clock [] 0x2 0x0 0x0
    ∷ idle
    ∷ idle
    ∷ clock (BREQ1 ∷ []) 0x0 0x0 0x0
    ∷ clock (BREQ1 ∷ []) 0x0 0x0 0x0
    ∷ clock (BREQ1 ∷ ADS ∷ RS0 ∷ RS1 ∷ RS2 ∷ DBSY ∷ DRDY ∷ []) 0x6 0x8 0x0
    ∷ clock (DBSY ∷ DRDY ∷ []) 0x2 0x20000 0x0
    ∷ clock (DBSY ∷ DRDY ∷ []) 0x0 0x0 0x0
    ∷ clock (DRDY ∷ []) 0x0 0x0 0x0
    ∷ clock (HITM ∷ []) 0x0 0x0 0x0
    ∷ idle
    ∷ clock (TRDY ∷ []) 0x0 0x0 0x0
    ∷ idle
    ∷ clock (RS1 ∷ RS2 ∷ DBSY ∷ DRDY ∷ []) 0x0 0x0 0x0
    ∷ clock (DBSY ∷ DRDY ∷ []) 0x0 0x0 0x0
    ∷ clock (DBSY ∷ DRDY ∷ []) 0x0 0x0 0x0
    ∷ clock (DRDY ∷ []) 0x0 0x0 0x0
    ∷ idle
    ∷ idle
    ∷ []

pub store_in_time : judged store_in_time-trace ≡ None
unfolding judging
store_in_time = refl

-- a read of a line that its agent cannot have dropped yet
abbrev read_too_soon-trace : Trace
read_too_soon-trace =
    clock (BREQ0 ∷ []) 0x0 0x0 0x0
    ∷ clock (BREQ0 ∷ []) 0x0 0x0 0x0
    ∷ clock (BREQ0 ∷ ADS ∷ []) 0x6 0x8 0x0
    ∷ clock [] 0x2 0x0 0x0
    ∷ idle
    ∷ idle
    ∷ idle
    ∷ idle
    ∷ clock (RS0 ∷ RS1 ∷ RS2 ∷ DBSY ∷ DRDY ∷ []) 0x0 0x0 0x0
    ∷ clock (DBSY ∷ DRDY ∷ []) 0x0 0x0 0x0
    ∷ clock (BREQ0 ∷ DBSY ∷ DRDY ∷ []) 0x0 0x0 0x0
    ∷ clock (BREQ0 ∷ DRDY ∷ []) 0x0 0x0 0x0
    ∷ clock (BREQ0 ∷ ADS ∷ []) 0x6 0x8 0x0
    ∷ clock [] 0x2 0x2000 0x0
    ∷ idle
    ∷ idle
    ∷ idle
    ∷ idle
    ∷ clock (RS0 ∷ RS1 ∷ RS2 ∷ DBSY ∷ DRDY ∷ []) 0x0 0x0 0x0
    ∷ clock (DBSY ∷ DRDY ∷ []) 0x0 0x0 0x0
    ∷ clock (DBSY ∷ DRDY ∷ []) 0x0 0x0 0x0
    ∷ clock (DRDY ∷ []) 0x0 0x0 0x0
    ∷ idle
    ∷ idle
    ∷ []

pub read_too_soon : judged read_too_soon-trace ≡ Some (13, 24)
unfolding judging
read_too_soon = refl

-- and of one that it can
abbrev read_in_time-trace : Trace
read_in_time-trace =
    clock (BREQ0 ∷ []) 0x0 0x0 0x0
    ∷ clock (BREQ0 ∷ []) 0x0 0x0 0x0
    ∷ clock (BREQ0 ∷ ADS ∷ []) 0x6 0x8 0x0
    ∷ clock [] 0x2 0x0 0x0
    ∷ idle
    ∷ idle
    ∷ idle
    ∷ idle
    ∷ clock (RS0 ∷ RS1 ∷ RS2 ∷ DBSY ∷ DRDY ∷ []) 0x0 0x0 0x0
    ∷ clock (DBSY ∷ DRDY ∷ []) 0x0 0x0 0x0
    ∷ clock (DBSY ∷ DRDY ∷ []) 0x0 0x0 0x0
    ∷ clock (BREQ0 ∷ DRDY ∷ []) 0x0 0x0 0x0
    ∷ clock (BREQ0 ∷ []) 0x0 0x0 0x0
    ∷ clock (BREQ0 ∷ ADS ∷ []) 0x6 0x8 0x0
    ∷ clock [] 0x2 0x2000 0x0
    ∷ idle
    ∷ idle
    ∷ idle
    ∷ idle
    ∷ clock (RS0 ∷ RS1 ∷ RS2 ∷ DBSY ∷ DRDY ∷ []) 0x0 0x0 0x0
    ∷ clock (DBSY ∷ DRDY ∷ []) 0x0 0x0 0x0
    ∷ clock (DBSY ∷ DRDY ∷ []) 0x0 0x0 0x0
    ∷ clock (DRDY ∷ []) 0x0 0x0 0x0
    ∷ idle
    ∷ idle
    ∷ []

pub read_in_time : judged read_in_time-trace ≡ None
unfolding judging
read_in_time = refl
