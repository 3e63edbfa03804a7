use Rattle.std.proofs.Common.{rules, ◌≡◌, Err}
use Rattle.fsb_check.specs.Found.{IsFound}
use Rattle.fsb_check.specs.DumpJudge.{HasJudged}
use Rattle.fsb_check.proofs.check.check_dump.Goals as goal
use Rattle.fsb_watch.proofs.Interface.{refused_alike}
use Rattle.fsb_watch.specs.Watched.{IsSeen}

pub returns-clause-checked : goal.returns-clause-checked
returns-clause-checked g c tells =
    let read = c.in_ok-clocks.ensures.read tells in (
      read.0,
      record {
        marks = read.1.marks;
        trace = read.1.trace;
        reads = read.1.reads;
        clocks_are = read.1.clocks_are;
        few = read.1.few;
        seen_all = read.1.seen_all.broken;
      },
    )

pub returns-in_err-clocks-clause-checked : goal.returns-in_err-clocks-clause-checked
returns-in_err-clocks-clause-checked g c tells =
    let same : c.from_residual.result ≡ Err c.in_err-clocks.field-0.0 = search rules in
    rw same (refused_alike (IsSeen (λ marks h. HasJudged c.watch_dump.new.watcher marks h)) IsFound _ _ _
    (c.in_err-clocks.ensures.read tells))
