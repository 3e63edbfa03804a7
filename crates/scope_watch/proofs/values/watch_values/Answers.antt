use Rattle.std.proofs.Common.{rules, List, append-nil, ◌≡◌, ◌≤◌, ◌++◌, [], length, Err, length-append, refl, sym, ap, subst, ◌∙◌, arith}
use Rattle.vcd_way.specs.Events.{DumpEvent}
use Rattle.vcd_scan.specs.Wired.{wires_told}
use Rattle.vcd_scan.specs.Standing.{tokens_after, told_after}
use Rattle.vcd_joined.specs.Choosing.{of_values}
use Rattle.scope_watch.specs.Watching.{rules_for, Seen}
use Rattle.scope_watch.proofs.Steps.{sampled_at, rules-same, seen-first}
use Rattle.scope_watch.proofs.Stopping.{finishes-watcher, many-stays, not-long, not-fault, same-stop}
use Rattle.scope_watch.proofs.Texts.{Laws, watched}
use Rattle.scope_watch.proofs.values.watch_values.Goals as goal

pub take-requires : goal.take-requires
take-requires g c =
    let r = c.requires.ready in
    let b = c.requires.begun in
    let now = c.new-reader.ensures in
    let seen : List DumpEvent → Type 0 = λ es. g.W.EventWatcher.has_seen r.0 c.args.watcher.now (r.1 ++ es) in (
      r.0,
      r.1,
      of_values (rules_for c.args.sampling),
      wires_told c.args.wires,
      b.head,
      [],
      seen-first seen _ _ c.new-reader.result b.head
          (now.rules ∙ rules-same c.args.sampling c.new-course.result (sampled_at c.args.sampling) c.new-course.ensures.rules refl refl c.new-course.ensures.late)
          now.wiring (now.stands b.head b.cutter) now.fresh now.events (subst (λ x. g.W.EventWatcher.has_seen r.0 c.args.watcher.now x)
          (sym (append-nil r.1)) r.2),
      (let size = length-append b.head [] in
          omega (arith, size, b.few, b.limit)),
    )

pub watch_left-requires-clause-at : goal.watch_left-requires-clause-at
watch_left-requires-clause-at g c =
    let r = c.requires.ready in
    let b = c.requires.begun in
    let now = c.new-reader.ensures in
    let m = of_values (rules_for c.args.sampling) in
    let w = wires_told c.args.wires in
    let seen : List DumpEvent → Type 0 = λ es. g.W.EventWatcher.has_seen r.0 c.args.watcher.now (r.1 ++ es) in (
      r.0,
      r.1,
      m,
      w,
      b.head,
      c.deref.result.now,
      c.in_ok-take.ensures.seen r.0 r.1 m w b.head []
          (seen-first seen _ _ c.new-reader.result b.head
          (now.rules ∙ rules-same c.args.sampling c.new-course.result (sampled_at c.args.sampling) c.new-course.ensures.rules refl refl c.new-course.ensures.late)
          now.wiring (now.stands b.head b.cutter) now.fresh now.events
          (subst (λ x. g.W.EventWatcher.has_seen r.0 c.args.watcher.now x) (sym (append-nil r.1)) r.2)),
      (let size = length-append b.head c.deref.result.now in
          omega (arith, size, b.few, c.deref.ensures.len)),
      b.limit,
    )

pub returns-in_err-take-clause-read : goal.returns-in_err-take-clause-read
returns-in_err-take-clause-read g c = λ tells first h choice ts text has at taken.
    let same : c.from_residual.result ≡ Err c.in_err-take.field-0.0 = search rules in
    let now = c.new-reader.ensures in
    let m = of_values (rules_for c.args.sampling) in
    let w = wires_told c.args.wires in
    let left = g.S.Source.left c.args.source.now in
    let rest = c.args.behind.rest.items in
    let before : List DumpEvent → Type 0 = λ es. g.W.EventWatcher.has_seen first c.args.watcher.now (h ++ es) in
    let laws : Laws = record {
      so_far = c.texts_end_as_the_readers_say.ensures.fault_so_far;
      fault = c.texts_end_as_the_readers_say.ensures.fault;
      early = c.texts_end_as_the_readers_say.ensures.early;
      events = c.texts_end_as_the_readers_say.ensures.events;
      none = c.headers_may_be_all.ensures.fault;
      well = c.headers_may_be_all.ensures.early;
      all = c.headers_may_be_all.ensures.events;
      stays = c.faults_stay.ensures;
      gathered = c.a_header_is_gathered.ensures.at_end;
      goes_on = c.a_value_reader_goes_on.ensures.known;
    } in
    rw same (watched laws choice c.args.sampling w c.args.behind ts text left _ _ (Err c.in_err-take.field-0.0) at taken
    (λ e. absurd (not-long _ (c.in_err-take.ensures.stop _ refl) e))
    (finishes-watcher _ _ _ m w at.head _ (c.in_err-take.ensures.stop _ refl)
    (λ e. many-stays g.W.EventWatcher.most h _ _ (c.first_events_stay.ensures m w at.head rest left)
    (subst (λ x. g.W.EventWatcher.most ≤ length (h ++ told_after m w (tokens_after at.head x))) c.deref.ensures.value
    (c.in_err-take.ensures.many (ap (λ stop. Err stop) e) first h m w at.head []
    (seen-first before _ _ c.new-reader.result at.head
    (now.rules ∙ rules-same c.args.sampling c.new-course.result (sampled_at c.args.sampling) c.new-course.ensures.rules refl refl c.new-course.ensures.late)
    now.wiring (now.stands at.head at.cutter) now.fresh now.events
    (subst (λ x. g.W.EventWatcher.has_seen first c.args.watcher.now x) (sym (append-nil h)) has)))))))

pub returns-clause-read : goal.returns-clause-read
returns-clause-read g c = λ tells first h choice ts text has at taken.
    let now = c.new-reader.ensures in
    let m = of_values (rules_for c.args.sampling) in
    let w = wires_told c.args.wires in
    let left = g.S.Source.left c.args.source.now in
    let before : List DumpEvent → Type 0 = λ es. g.W.EventWatcher.has_seen first c.args.watcher.now (h ++ es) in
    let laws : Laws = record {
      so_far = c.texts_end_as_the_readers_say.ensures.fault_so_far;
      fault = c.texts_end_as_the_readers_say.ensures.fault;
      early = c.texts_end_as_the_readers_say.ensures.early;
      events = c.texts_end_as_the_readers_say.ensures.events;
      none = c.headers_may_be_all.ensures.fault;
      well = c.headers_may_be_all.ensures.early;
      all = c.headers_may_be_all.ensures.events;
      stays = c.faults_stay.ensures;
      gathered = c.a_header_is_gathered.ensures.at_end;
      goes_on = c.a_value_reader_goes_on.ensures.known;
    } in
    watched laws choice c.args.sampling w c.args.behind ts text left _ _ c.watch_left.result at taken
    (λ e. let long = c.watch_left.ensures.too_long tells e in omega (arith, long, at.taken))
    (c.watch_left.ensures.read tells first h m w at.head c.args.behind.rest.items
    (subst (λ x. Seen (λ es. g.W.EventWatcher.has_seen first c.take.new.watcher (h ++ es)) m w c.take.new.reader at.head x)
    c.deref.ensures.value (c.in_ok-take.ensures.seen first h m w at.head []
    (seen-first before _ _ c.new-reader.result at.head
    (now.rules ∙ rules-same c.args.sampling c.new-course.result (sampled_at c.args.sampling) c.new-course.ensures.rules refl refl c.new-course.ensures.late)
    now.wiring (now.stands at.head at.cutter) now.fresh now.events
    (subst (λ x. g.W.EventWatcher.has_seen first c.args.watcher.now x) (sym (append-nil h)) has)))))

pub returns-in_err-take-clause-read_fault : goal.returns-in_err-take-clause-read_fault
returns-in_err-take-clause-read_fault g c = λ e.
    let same : c.from_residual.result ≡ Err c.in_err-take.field-0.0 = search rules in
    absurd (not-fault _ (c.in_err-take.ensures.stop _ refl) (sym same ∙ e))

pub returns-in_err-take-clause-write_fault : goal.returns-in_err-take-clause-write_fault
returns-in_err-take-clause-write_fault g c = λ e first h has.
    let same : c.from_residual.result ≡ Err c.in_err-take.field-0.0 = search rules in
    let b = c.requires.begun in
    let now = c.new-reader.ensures in
    let seen : List DumpEvent → Type 0 = λ es. g.W.EventWatcher.has_seen first c.args.watcher.now (h ++ es) in
    c.in_err-take.ensures.write_fault (ap (λ stop. Err stop) (same-stop _ _ (sym same ∙ e))) first h
    (of_values (rules_for c.args.sampling)) (wires_told c.args.wires) b.head []
    (seen-first seen _ _ c.new-reader.result b.head
    (now.rules ∙ rules-same c.args.sampling c.new-course.result (sampled_at c.args.sampling) c.new-course.ensures.rules refl refl c.new-course.ensures.late)
    now.wiring (now.stands b.head b.cutter) now.fresh now.events
    (subst (λ x. g.W.EventWatcher.has_seen first c.args.watcher.now x) (sym (append-nil h)) has))

pub returns-clause-write_fault : goal.returns-clause-write_fault
returns-clause-write_fault g c = λ e first h has.
    let b = c.requires.begun in
    let now = c.new-reader.ensures in
    let m = of_values (rules_for c.args.sampling) in
    let w = wires_told c.args.wires in
    let seen : List DumpEvent → Type 0 = λ es. g.W.EventWatcher.has_seen first c.args.watcher.now (h ++ es) in
    c.watch_left.ensures.write_fault e first h m w b.head c.deref.result.now
    (c.in_ok-take.ensures.seen first h m w b.head []
    (seen-first seen _ _ c.new-reader.result b.head
    (now.rules ∙ rules-same c.args.sampling c.new-course.result (sampled_at c.args.sampling) c.new-course.ensures.rules refl refl c.new-course.ensures.late)
    now.wiring (now.stands b.head b.cutter) now.fresh now.events
    (subst (λ x. g.W.EventWatcher.has_seen first c.args.watcher.now x) (sym (append-nil h)) has)))
