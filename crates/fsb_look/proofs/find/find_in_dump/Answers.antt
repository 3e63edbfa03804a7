use Rattle.std.proofs.Common.{rules, ◌≡◌, refl, [], Err, None}
use Rattle.fsb_count.specs.Clocks.{first_where}
use Rattle.fsb_trigger.specs.Hunt.{steps_in}
use Rattle.fsb_trigger.specs.Match.{least_match}
use Rattle.fsb_look.specs.Looked.{IsSearch}
use Rattle.fsb_look.specs.Looking.{HasSought, Seeks}
use Rattle.fsb_look.proofs.Same.{same_steps}
use Rattle.fsb_look.proofs.find.find_in_dump.Goals as goal
use Rattle.fsb_watch.proofs.Interface.{refused_alike}
use Rattle.fsb_watch.specs.Watched.{IsSeen}

pub watch_dump-requires-clause-ready : goal.watch_dump-requires-clause-ready
unfolding least_match first_where
watch_dump-requires-clause-ready g c = (steps_in c.args.trigger, record { hunt = λ none. c.new.ensures; found = refl })

pub returns-clause-read : goal.returns-clause-read
unfolding least_match first_where
returns-clause-read g c tells =
    let read = c.in_ok-clocks.ensures.read tells in
    let begun : Seeks record { hunt = c.new.result; found = None } (steps_in c.args.trigger) [] =
    record { hunt = λ none. c.new.ensures; found = refl } in (
      read.0,
      record {
        marks = read.1.marks;
        trace = read.1.trace;
        reads = read.1.reads;
        clocks_are = read.1.clocks_are;
        few = read.1.few;
        seen_all = (same_steps _ _ (steps_in c.args.trigger) read.1.trace begun read.1.seen_all).found;
      },
    )

pub returns-in_err-clocks-clause-read : goal.returns-in_err-clocks-clause-read
returns-in_err-clocks-clause-read g c tells =
    let same : c.from_residual.result ≡ Err c.in_err-clocks.field-0.0 = search rules in
    rw same (refused_alike
    (IsSeen (λ marks h. HasSought record { hunt = c.new.result; found = None } c.watch_dump.new.watcher h))
    (IsSearch (steps_in c.args.trigger)) _ _ _ (c.in_err-clocks.ensures.read tells))
