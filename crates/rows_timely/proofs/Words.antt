-- The words of the runs that lab/worked_runs.py writes: a clock by the lines that are asserted in it, and a plan by what
-- is unusual in it.
use Rattle.fsb_signal.specs.declared.lines.TheConstants.Lines.{BREQ0, BREQ1, BREQ2, BREQ3, BPRI, LOCK, BNR, ADS, AERR}
use Rattle.fsb_signal.specs.declared.lines.TheConstants.Lines.{HIT, HITM, DEFER, RS0, TRDY, DBSY, DRDY, AP0, AP1, RP}
use Rattle.fsb_signal.specs.declared.sample.Sample.{Sample}
use Rattle.fsb_signal.specs.Samples.{known_sample}
use Rattle.fsb_access.specs.declared.item.Item.{Item}
use Rattle.fsb_access.specs.declared.log.Done.{Done}
use Rattle.fsb_script.specs.Plans.{PlanView}
use Rattle.fsb_trace.specs.At.{Trace}
use Rattle.std.proofs.Common.{ℕ, ◌*◌, List, None, replicate}
pub use Rattle.std.proofs.Common.{◌+◌, [], ◌∷◌, ◌++◌, Some}
pub use Rattle.fsb_access.specs.declared.access.Access.TheVariants.{Load, Store}
pub use Rattle.fsb_access.specs.declared.access.Operand.TheVariants.{Literal, LastPlus}
pub use Rattle.fsb_access.specs.declared.item.Item.TheVariants.{One, Locked, Idle}
pub use Rattle.fsb_hazard.specs.declared.line.HazardLine.TheVariants.{Stall, Trdy, Resp, Gap, Retry, Defer, Aerr, Bnr}
pub use Rattle.fsb_timely.specs.Runs.{Run}
pub use Rattle.rows_timely.proofs.LaidOut.{entry, idle, run_of, setting}

-- each control line, and the response code rs n of the lines RS0 to RS2; lines are asserted together as their sum
abbrev pub b0 : ℕ
b0 = BREQ0.0

abbrev pub b1 : ℕ
b1 = BREQ1.0

abbrev pub b2 : ℕ
b2 = BREQ2.0

abbrev pub b3 : ℕ
b3 = BREQ3.0

abbrev pub bpri : ℕ
bpri = BPRI.0

abbrev pub lock : ℕ
lock = LOCK.0

abbrev pub bnr : ℕ
bnr = BNR.0

abbrev pub ads : ℕ
ads = ADS.0

abbrev pub aerr : ℕ
aerr = AERR.0

abbrev pub hit : ℕ
hit = HIT.0

abbrev pub hitm : ℕ
hitm = HITM.0

abbrev pub defer : ℕ
defer = DEFER.0

abbrev pub rs : ℕ → ℕ
rs code = code * RS0.0

abbrev pub trdy : ℕ
trdy = TRDY.0

abbrev pub dbsy : ℕ
dbsy = DBSY.0

abbrev pub drdy : ℕ
drdy = DRDY.0

abbrev pub ap0 : ℕ
ap0 = AP0.0

abbrev pub ap1 : ℕ
ap1 = AP1.0

abbrev pub rp : ℕ
rp = RP.0

-- a clock in which these lines are asserted
abbrev pub on : ℕ → Sample
on lines = known_sample lines 0 0 0

-- with the words of REQ and A
abbrev pub pair : ℕ → ℕ → ℕ → Sample
pair lines req addr = known_sample lines req addr 0

-- with the data of D
abbrev pub chunk : ℕ → ℕ → Sample
chunk lines dbus = known_sample lines 0 0 dbus

-- with all three
abbrev pub full : ℕ → ℕ → ℕ → ℕ → Sample
full lines req addr dbus = known_sample lines req addr dbus

-- so many clocks in which nothing is asserted
abbrev pub idles : ℕ → Trace
idles n = replicate n idle

-- a plan of 60 clocks and 64 cache lines in profile 1, with one request of an agent at a time
abbrev pub plain : PlanView
plain = record { scripts = []; clocks = 60; cache = 64; ahead = 1; profile = 1; bridge = None; mem = []; hazards = [] }

-- the run of a plan with these scripts
abbrev pub scripted : PlanView → List (List Item) → Trace → List Done → Run
scripted plan scripts trace log = run_of (record plan { scripts = scripts }) trace log
