use Rattle.std.proofs.Common.{rules, ◌≡◌, Err}
use Rattle.fsb_look.specs.Looked.{IsWave}
use Rattle.fsb_look.specs.Looking.{HasDrawn}
use Rattle.fsb_look.proofs.Same.{same_range}
use Rattle.fsb_look.proofs.wave.wave_of_dump.Goals as goal
use Rattle.fsb_watch.proofs.Interface.{refused_alike}
use Rattle.fsb_watch.specs.Watched.{IsSeen}

pub watch_dump-requires-clause-ready : goal.watch_dump-requires-clause-ready
watch_dump-requires-clause-ready g c = (c.args.from, c.args.to, c.new.ensures)

pub returns-clause-read : goal.returns-clause-read
returns-clause-read g c tells =
    let read = c.in_ok-watch_dump.ensures.read tells in (
      read.0,
      record {
        marks = read.1.marks;
        trace = read.1.trace;
        reads = read.1.reads;
        few = read.1.few;
        drawn = same_range _ _ c.args.from c.args.to read.1.trace c.new.ensures read.1.seen_all;
      },
    )

pub returns-in_err-watch_dump-clause-read : goal.returns-in_err-watch_dump-clause-read
returns-in_err-watch_dump-clause-read g c tells =
    let same : c.from_residual.result ≡ Err c.in_err-watch_dump.field-0.0 = search rules in
    rw same (refused_alike (IsSeen (λ marks h. HasDrawn record { wave = c.new.result } c.watch_dump.new.watcher h))
    (IsWave c.args.from c.args.to) _ _ _ (c.in_err-watch_dump.ensures.read tells))
