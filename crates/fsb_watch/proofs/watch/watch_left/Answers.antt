use Rattle.std.proofs.Common.{rules, ◌≡◌, ◌∙◌, ◌++◌, ◌+◌, ℕ, Err, [], ap, refl, arith}
use Rattle.fsb_watch.specs.Watched.{IsSeen}
use Rattle.fsb_watch.specs.Watching.{Stood, HasTaken}
use Rattle.fsb_watch.proofs.Showing.{stands_first}
use Rattle.fsb_watch.proofs.WholeTexts.{read_not, takes_so_far, read_past, taken_all, taken_more, read_end}
use Rattle.fsb_watch.proofs.WholeTexts.{no_read_fault}
use Rattle.std.proofs.lemmas.List.{length-append, length-take}
use Rattle.fsb_watch.proofs.watch.watch_left.Goals as goal

pub loop-taken-init : goal.loop-taken-init
loop-taken-init g c = record {
  taken = ([], stands_first _ _ _ c.in_ok-pieces.ensures, refl, λ tells. refl);
  within = omega arith;
  size = omega (arith, c.in_ok-piece.ensures.len);
  later = omega arith;
  name_stays = λ tells. refl;
  holds_stays = λ tells. refl;
}

pub returns-in_err-count-clause-read : goal.returns-in_err-count-clause-read
returns-in_err-count-clause-read g c tells =
    let at = c.loop-taken.invariant.taken in
    let same : c.from_residual-in_err-count.result ≡ Err c.in_err-count.field-0.0 = search rules in
    rw same (read_not {X = ℕ} (IsSeen (g.W.Watcher.has_seen c.args.watcher.now c.take_piece.new.watcher)) _ _ _
    (c.in_err-count.ensures.stop _ refl) (λ memory.
    takes_so_far _ at.0 _ _ _ (at.3 tells) (c.in_err-count.ensures.memory tells (ap (λ stop. Err stop) memory))
    (let room = length-take (c.min.result + 1) c.deref_mut.result.now in
    omega (
      arith,
      room,
      at.2,
      c.min.ensures,
      c.loop-taken-test.true,
      c.loop-taken.invariant.size,
      c.deref_mut.ensures.len,
    ))))

pub returns-in_err-count-clause-name_stays : goal.returns-in_err-count-clause-name_stays
returns-in_err-count-clause-name_stays g c tells =
    c.take_piece.ensures.name_stays tells ∙ c.loop-taken.invariant.name_stays tells

pub returns-in_err-count-clause-holds_stays : goal.returns-in_err-count-clause-holds_stays
returns-in_err-count-clause-holds_stays g c tells =
    c.take_piece.ensures.holds_stays tells ∙ c.loop-taken.invariant.holds_stays tells

pub end-requires : goal.end-requires
end-requires g c =
    let at = c.loop-taken.invariant.taken in (
      c.args.watcher.now,
      at.0,
      c.requires,
      taken_all _ at.0 _ _ _ _ (c.in_ok-count.ensures.taken c.args.watcher.now at.0 c.requires at.1)
          (omega (arith, c.if-count-eq0.true)),
    )

pub returns-then-count-eq0-clause-read : goal.returns-then-count-eq0-clause-read
returns-then-count-eq0-clause-read g c tells =
    let at = c.loop-taken.invariant.taken in
    let zero : c.in_ok-count.count ≡ 0 = omega (arith, c.if-count-eq0.true) in
    let taken = c.in_ok-count.ensures.taken c.args.watcher.now at.0 c.requires at.1 in
    let stood : Stood g.W.Watcher.has_seen c.args.watcher.now c.take_piece.new.watcher c.take_piece.new.pieces
    at.0 = taken_all _ at.0 _ _ _ _ taken zero in
    read_end _ _ _ _ at.0 _ _ _ _ tells taken zero
    (c.in_ok-count.ensures.end tells
    (let room = length-take (c.min.result + 1) c.deref_mut.result.now in
    omega (arith, room, c.deref_mut.ensures.len, c.loop-taken.invariant.size, c.min.ensures)) zero) (at.3 tells)
    (omega (arith, at.2, c.loop-taken-test.true))
    (c.end.ensures c.args.watcher.now at.0 c.requires stood)

pub returns-then-count-eq0-clause-read_fault : goal.returns-then-count-eq0-clause-read_fault
returns-then-count-eq0-clause-read_fault g c fault =
    let at = c.loop-taken.invariant.taken in
    let zero : c.in_ok-count.count ≡ 0 = omega (arith, c.if-count-eq0.true) in
    let stood : Stood g.W.Watcher.has_seen c.args.watcher.now c.take_piece.new.watcher c.take_piece.new.pieces at.0 =
    taken_all _ at.0 _ _ _ _ (c.in_ok-count.ensures.taken c.args.watcher.now at.0 c.requires at.1) zero in
    absurd (no_read_fault _ _ _ fault (c.end.ensures c.args.watcher.now at.0 c.requires stood))

pub returns-then-count-eq0-clause-name_stays : goal.returns-then-count-eq0-clause-name_stays
returns-then-count-eq0-clause-name_stays g c tells =
    c.take_piece.ensures.name_stays tells ∙ c.loop-taken.invariant.name_stays tells

pub returns-then-count-eq0-clause-holds_stays : goal.returns-then-count-eq0-clause-holds_stays
returns-then-count-eq0-clause-holds_stays g c tells =
    c.take_piece.ensures.holds_stays tells ∙ c.loop-taken.invariant.holds_stays tells

pub loop-taken-preserved : goal.loop-taken-preserved
loop-taken-preserved g c =
    let at = c.loop-taken.invariant.taken in
    let now : HasTaken (Stood g.W.Watcher.has_seen c.args.watcher.now c.take_piece.new.watcher
    c.take_piece.new.pieces) at.0 (g.S.Source.left c.loop-taken.source)
    (g.S.Source.left c.take_piece.new.source) c.in_ok-count.count g.S.Source.tells =
    c.in_ok-count.ensures.taken c.args.watcher.now at.0 c.requires at.1 in
    record {
      taken = (
        at.0 ++ now.bytes,
        now.stands,
        (let size = length-append at.0 now.bytes in
            omega (arith, size, at.2, now.size)),
        λ tells. taken_more _ at.0 now.bytes _ _ (at.3 tells) (now.read tells),
      );
      within = (let room = length-take (c.min.result + 1) c.deref_mut.result.now in
          omega (arith, room, c.in_ok-count.ensures.within, c.min.ensures, c.loop-taken-test.true));
      size = c.loop-taken.invariant.size;
      later = omega (arith, c.take_piece.ensures.later, c.loop-taken.invariant.later);
      name_stays = λ tells. c.take_piece.ensures.name_stays tells ∙ c.loop-taken.invariant.name_stays tells;
      holds_stays = λ tells. c.take_piece.ensures.holds_stays tells ∙ c.loop-taken.invariant.holds_stays tells;
    }

pub take_piece-requires-clause-room : goal.take_piece-requires-clause-room
take_piece-requires-clause-room g c =
    let at = c.loop-taken.invariant.taken in (
      c.args.watcher.now,
      at.0,
      c.requires,
      at.1,
      (let room = length-take (c.min.result + 1) c.deref_mut.result.now in
          omega (
            arith,
            room,
            at.2,
            c.min.ensures,
            c.loop-taken-test.true,
            c.loop-taken.invariant.size,
            c.deref_mut.ensures.len,
          )),
    )

pub returns-clause-read : goal.returns-clause-read
returns-clause-read g c tells =
    let at = c.loop-taken.invariant.taken in
    read_past {X = ℕ} (λ clocks text. Unit {0}) at.0 _ _ (at.3 tells)
    (omega (arith, at.2, c.loop-taken.invariant.within, c.loop-taken-test.false))
