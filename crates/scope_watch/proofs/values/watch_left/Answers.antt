use Rattle.std.proofs.Common.{rules, append_assoc, append-nil, ◌≡◌, ◌≤◌, ◌-◌, ◌++◌, [], Err, take, length, length-append, refl, sym, ap, subst, ◌∙◌, arith}
use Rattle.std.proofs.lemmas.List.{length-take}
use Rattle.scope_watch.specs.declared.stop.ScopeStop.TheVariants as stops
use Rattle.scope_watch.specs.Watching.{Seen, Finishes}
use Rattle.vcd_scan.specs.Ending.{told_to_end}
use Rattle.scope_watch.proofs.Headers.{piece-taken}
use Rattle.scope_watch.proofs.Stopping.{finishes-source, finishes-watcher, many-stays, same-stop, not-long, not-fault}
use Rattle.scope_watch.proofs.values.watch_left.Goals as goal

pub pieces-init : goal.pieces-init
pieces-init g c = record {
  at = (
    [],
    omega arith,
    λ tells. refl,
    λ first h m w head fed s. subst
        (λ x. Seen (λ es. g.W.EventWatcher.has_seen first c.args.watcher.now (h ++ es)) m w c.args.reader.now head x)
        (sym (append-nil fed)) s,
  );
  few = c.requires.at.8;
  len = refl;
  later = omega arith;
  name_stays = λ tells. refl;
  holds_stays = λ tells. refl;
}

pub returns-in_err-count-clause-read : goal.returns-in_err-count-clause-read
returns-in_err-count-clause-read g c = λ tells first h m w head fed s.
    let same : c.from_residual.result ≡ Err c.in_err-count.field-0.0 = search rules in
    rw same (finishes-source _ _ _ m w head _ (c.in_err-count.ensures.stop _ refl))

pub returns-in_err-count-clause-too_long : goal.returns-in_err-count-clause-too_long
returns-in_err-count-clause-too_long g c = λ tells e.
    let at = c.pieces.invariant.at in
    let same : c.from_residual.result ≡ Err c.in_err-count.field-0.0 = search rules in
    let long = c.in_err-count.ensures.too_long tells (ap (λ stop. Err stop) (same-stop _ _ (sym same ∙ e))) in
    let sum = ap length (at.2 tells) in
    let size = length-append at.0 (g.S.Source.left c.pieces.source) in
    omega (arith, long, sum, size, at.1)

pub end-requires : goal.end-requires
end-requires g c =
    let at = c.pieces.invariant.at in
    let r = c.requires.at in (
      r.0,
      r.1,
      r.2,
      r.3,
      r.4,
      r.5 ++ at.0,
      at.3 r.0 r.1 r.2 r.3 r.4 r.5 r.6,
      (let one = length-append r.4 (r.5 ++ at.0) in
          let two = length-append r.5 at.0 in
          let three = length-append r.4 r.5 in
          omega (arith, one, two, three, r.7, at.1, c.pieces.invariant.few)),
    )

pub returns-then-count-eq0-clause-read : goal.returns-then-count-eq0-clause-read
returns-then-count-eq0-clause-read g c = λ tells first h m w head fed s.
    let at = c.pieces.invariant.at in
    let zero : c.in_ok-count.count ≡ 0 = omega (arith, c.if-count-eq0.true) in
    let none = c.in_ok-count.ensures.end tells zero in
    let all = at.2 tells ∙ ap (λ x. at.0 ++ x) (c.in_ok-count.ensures.bytes tells
    ∙ (λ i. take (zero i) c.read_piece.new.room ++ none i)) ∙ append-nil at.0 in
    subst (λ x. Finishes c.end.result (λ es. g.W.EventWatcher.has_seen first c.end.new.watcher (h ++ es))
    (g.W.EventWatcher.most - length h) m w head (fed ++ x)) (sym all) (c.end.ensures.finishes first h m w head (fed ++ at.0) (at.3 first h m w head fed s))

pub returns-then-count-eq0-clause-too_long : goal.returns-then-count-eq0-clause-too_long
returns-then-count-eq0-clause-too_long g c = λ tells e. absurd (c.end.ensures.stop stops.TooLong e)

pub returns-then-count-eq0-clause-read_fault : goal.returns-then-count-eq0-clause-read_fault
returns-then-count-eq0-clause-read_fault g c = λ e. absurd (c.end.ensures.stop stops.ReadFault e)

pub take-requires : goal.take-requires
take-requires g c =
    let at = c.pieces.invariant.at in
    let now = c.in_ok-count.ensures in
    let r = c.requires.at in (
      r.0,
      r.1,
      r.2,
      r.3,
      r.4,
      r.5 ++ at.0,
      at.3 r.0 r.1 r.2 r.3 r.4 r.5 r.6,
      (let one = length-append r.4 (r.5 ++ at.0) in
          let two = length-append r.5 at.0 in
          let three = length-append r.4 r.5 in
          let part = length-take c.in_ok-count.count c.read_piece.new.room in
          omega (arith, one, two, three, part, r.7, at.1, now.few)),
    )

pub pieces-preserved : goal.pieces-preserved
pieces-preserved g c =
    let at = c.pieces.invariant.at in
    let now = c.in_ok-count.ensures in
    let piece = take c.in_ok-count.count c.read_piece.new.room in
    record {
      at = (
        at.0 ++ piece,
        (let size = length-append at.0 piece in
            let part = length-take c.in_ok-count.count c.read_piece.new.room in
            omega (arith, size, part, at.1, now.within, now.len)),
        λ tells. piece-taken _ at.0 _ piece _ (at.2 tells) (now.bytes tells),
        λ first h m w head fed s. subst
            (λ x. Seen (λ es. g.W.EventWatcher.has_seen first c.take.new.watcher (h ++ es)) m w c.take.new.reader head x)
            (append_assoc fed at.0 piece)
            (c.in_ok-take.ensures.seen first h m w head (fed ++ at.0) (at.3 first h m w head fed s)),
      );
      few = now.few;
      len = now.len ∙ c.pieces.invariant.len;
      later = omega (arith, now.later, c.pieces.invariant.later);
      name_stays = λ tells. now.name_stays tells ∙ c.pieces.invariant.name_stays tells;
      holds_stays = λ tells. now.holds_stays tells ∙ c.pieces.invariant.holds_stays tells;
    }

pub returns-in_err-take-clause-read : goal.returns-in_err-take-clause-read
returns-in_err-take-clause-read g c = λ tells first h m w head fed s.
    let same : c.from_residual-in_err-take.result ≡ Err c.in_err-take.field-0.0 = search rules in
    let at = c.pieces.invariant.at in
    let piece = take c.in_ok-count.count c.read_piece.new.room in
    let left = g.S.Source.left c.read_piece.new.source in
    let whole : ((fed ++ at.0) ++ piece) ++ left ≡ fed ++ g.S.Source.left c.args.source.now =
    ap (λ x. x ++ left) (append_assoc fed at.0 piece) ∙ append_assoc fed (at.0 ++ piece) left
    ∙ ap (λ x. fed ++ x) (sym (piece-taken _ at.0 _ piece left (at.2 tells) (c.in_ok-count.ensures.bytes tells))) in
    rw same (finishes-watcher _ _ _ m w head _ (c.in_err-take.ensures.stop _ refl)
    (λ e. subst (λ x. g.W.EventWatcher.most - length h ≤ length (told_to_end m w head x)) whole
    (many-stays g.W.EventWatcher.most h _ _ (c.first_events_stay.ensures m w head ((fed ++ at.0) ++ piece) left)
    (c.in_err-take.ensures.many (ap (λ stop. Err stop) e) first h m w head (fed ++ at.0) (at.3 first h m w head fed s)))))

pub returns-in_err-take-clause-too_long : goal.returns-in_err-take-clause-too_long
returns-in_err-take-clause-too_long g c = λ tells e.
    let same : c.from_residual-in_err-take.result ≡ Err c.in_err-take.field-0.0 = search rules in
    absurd (not-long _ (c.in_err-take.ensures.stop _ refl) (sym same ∙ e))

pub returns-in_err-take-clause-read_fault : goal.returns-in_err-take-clause-read_fault
returns-in_err-take-clause-read_fault g c = λ e.
    let same : c.from_residual-in_err-take.result ≡ Err c.in_err-take.field-0.0 = search rules in
    absurd (not-fault _ (c.in_err-take.ensures.stop _ refl) (sym same ∙ e))

pub returns-in_err-count-clause-write_fault : goal.returns-in_err-count-clause-write_fault
returns-in_err-count-clause-write_fault g c = λ e first h m w head fed s.
    let same : c.from_residual.result ≡ Err c.in_err-count.field-0.0 = search rules in
    absurd (c.in_err-count.ensures.stop stops.WriteFault (ap (λ stop. Err stop) (same-stop _ _ (sym same ∙ e))))
