use Rattle.std.proofs.Common.{rules, append_assoc, ◌≡◌, ◌≤◌, ◌-◌, ◌+◌, ◌++◌, Ok, Err, take, drop, length, length-append, refl, sym, ap, subst, ◌∙◌, arith}
use Rattle.std.proofs.lemmas.List.{length-take, append-nil}
use Rattle.scope_watch.specs.Heading.{Fed}
use Rattle.scope_watch.proofs.Headers.{headed-stop, long-text, headed-end, headed-inside, headed-fault, piece-taken, piece-cut}
use Rattle.scope_watch.proofs.Prefaces.{no-dump, is-dump-over, is-dump-end, over-header, late-over, fault-dump}
use Rattle.vcd_way.specs.Wide.{wide_rules}
use Rattle.scope_watch.proofs.begin.read_left.Goals as goal

pub returns-in_err-count-clause-read : goal.returns-in_err-count-clause-read
returns-in_err-count-clause-read g c = λ tells.
    let at = c.pieces.invariant.at in
    let same : c.from_residual-in_err-count.result ≡ Err c.in_err-count.field-0.0 = search rules in
    rw same (headed-stop _ _ _ (c.in_err-count.ensures.stop _ refl)
    (λ e.
    let long = ap (λ stop. Err stop) e in (
      long-text _ at.0 _ _ (at.3 tells) at.2 (c.in_err-count.ensures.too_long tells long),
      is-dump-over c.pieces.preface at.0 _ _ at.4 (at.3 tells)
          (late-over c.pieces.preface at.0 _ at.4 at.5 at.2 (c.in_err-count.ensures.late long)) at.5,
    )))

pub returns-then-count-eq0-clause-read : goal.returns-then-count-eq0-clause-read
returns-then-count-eq0-clause-read g c = λ tells.
    let at = c.pieces.invariant.at in
    let zero : c.in_ok-count.count ≡ 0 = omega (arith, c.if-count-eq0.true) in
    let none = c.in_ok-count.ensures.end tells zero in
    headed-end c.at_end.result at.0 _ _ _ (c.at_end.ensures.ended at.0 at.1)
    (at.3 tells ∙ ap (λ x. at.0 ++ x) (c.in_ok-count.ensures.bytes tells
    ∙ (λ i. take (zero i) c.read_piece.new.room ++ none i)) ∙ append-nil at.0)
    none (sym at.2) (is-dump-end c.pieces.preface at.0 at.4 at.5)

pub pieces-preserved : goal.pieces-preserved
pieces-preserved g c =
    let at = c.pieces.invariant.at in
    let now = c.in_ok-count.ensures in
    let piece = take c.in_ok-count.count c.read_piece.new.room in
    record {
      at = (
        at.0 ++ piece,
        subst (λ x. Fed (Ok x) c.feed.new.reader at.0 piece) c.in-Ok-None.field-0-is (c.in-Ok-None.ensures at.0 at.1),
        (let size = length-append at.0 piece in
            let part = length-take c.in_ok-count.count c.read_piece.new.room in
            omega (arith, size, part, at.2, now.within, now.len)),
        λ tells. piece-taken _ at.0 _ piece _ (at.3 tells) (now.bytes tells),
        c.take.ensures at.0 at.4,
        sym c.is_too_long.ensures ∙ c.if-is_too_long.false,
      );
      few = now.few;
      len = now.len ∙ c.pieces.invariant.len;
      later = omega (arith, now.later, c.pieces.invariant.later);
      name_stays = λ tells. now.name_stays tells ∙ c.pieces.invariant.name_stays tells;
      holds_stays = λ tells. now.holds_stays tells ∙ c.pieces.invariant.holds_stays tells;
    }

pub inside-requires : goal.inside-requires
inside-requires g c =
    let at = c.pieces.invariant.at in
    let now = c.in_ok-count.ensures in
    let used = c.in-Ok-Some.used in
    let count = c.in_ok-count.count in
    let room = c.read_piece.new.room in
    let piece = take count room in
    let fed = subst (λ x. Fed (Ok x) c.feed.new.reader at.0 piece) c.in-Ok-Some.field-0-is
    (c.in-Ok-Some.ensures at.0 at.1) in (
      at.0 ++ take used piece,
      fed.1,
      (let size = length-append at.0 (take used piece) in
          let first = length-take used piece in
          let part = length-take count room in
          let last = length-take (count - used) (drop used room) in
          omega (arith, size, first, part, last, at.2, now.within, now.len, fed.0)),
      now.few,
    )

pub returns-in-Ok-Some-clause-read : goal.returns-in-Ok-Some-clause-read
returns-in-Ok-Some-clause-read g c = λ tells.
    let at = c.pieces.invariant.at in
    let now = c.in_ok-count.ensures in
    let used = c.in-Ok-Some.used in
    let count = c.in_ok-count.count in
    let room = c.read_piece.new.room in
    let piece = take count room in
    let rest = take (count - used) (drop used room) in
    let left = g.S.Source.left c.read_piece.new.source in
    let fed = subst (λ x. Fed (Ok x) c.feed.new.reader at.0 piece) c.in-Ok-Some.field-0-is
    (c.in-Ok-Some.ensures at.0 at.1) in
    let part = length-take count room in
    let read = c.take.ensures at.0 at.4 in
    let few : used ≤ count = omega (arith, fed.0, part) in
    let whole = piece-taken _ at.0 _ piece left (at.3 tells) (now.bytes tells) in
    let cut = whole ∙ ap (λ x. (at.0 ++ x) ++ left) (piece-cut room count used few) in
    let size : c.pieces.taken + count + length left ≡ length (g.S.Source.left c.args.source.now) =
    (let sum = ap length whole in
    let one = length-append (at.0 ++ piece) left in
    let two = length-append at.0 piece in
    omega (arith, sum, one, two, part, at.2, now.within, now.len)) in
    headed-inside c.inside.result (at.0 ++ take used piece) rest _ left _
    (c.inside.ensures.begun (at.0 ++ take used piece) fed.1)
    (cut ∙ ap (λ x. x ++ left) (sym (append_assoc at.0 (take used piece) rest))
    ∙ append_assoc (at.0 ++ take used piece) rest left) size
    (is-dump-over c.take.new.self (at.0 ++ piece) _ left read whole
    (over-header c.take.new.self (at.0 ++ piece) (at.0 ++ take used piece) rest read
    (ap (λ x. at.0 ++ x) (piece-cut room count used few) ∙ sym (append_assoc at.0 (take used piece) rest))
    (fed.1.header wide_rules (record { widest = refl; skips_preface = refl })))
    (sym c.is_too_long.ensures ∙ c.if-is_too_long.false))

pub returns-in_err-read_rest-in-Err-Bad-clause-read : goal.returns-in_err-read_rest-in-Err-Bad-clause-read
returns-in_err-read_rest-in-Err-Bad-clause-read g c = λ tells.
    let at = c.pieces.invariant.at in
    let now = c.in_ok-count.ensures in
    let piece = take c.in_ok-count.count c.read_piece.new.room in
    let same : c.from_residual-in_err-read_rest-in-Err-Bad.result ≡ Err c.in_err-read_rest-in-Err-Bad.field-0.0 =
    search rules in
    let whole = piece-taken _ at.0 _ piece _ (at.3 tells) (now.bytes tells) in
    rw same (headed-stop _ _ _ (c.in_err-read_rest-in-Err-Bad.ensures.stop _ refl)
    (λ e. (
      long-text _ (at.0 ++ piece) _ _ whole
          (let size = length-append at.0 piece in
          let part = length-take c.in_ok-count.count c.read_piece.new.room in
          omega (arith, size, part, at.2, now.within, now.len))
          (c.in_err-read_rest-in-Err-Bad.ensures.too_long tells (ap (λ stop. Err stop) e)),
      fault-dump c.take.new.self at.0 piece _ _ _ (c.take.ensures at.0 at.4)
          (subst (λ x. Fed (Err x) c.feed.new.reader at.0 piece) c.in-Err-Bad.field-0-is (c.in-Err-Bad.ensures at.0 at.1))
          whole (sym c.is_too_long.ensures ∙ c.if-is_too_long.false),
    )))

pub returns-in-Err-Bad-clause-read : goal.returns-in-Err-Bad-clause-read
returns-in-Err-Bad-clause-read g c = λ tells.
    let at = c.pieces.invariant.at in
    let piece = take c.in_ok-count.count c.read_piece.new.room in
    let whole = piece-taken _ at.0 _ piece _ (at.3 tells) (c.in_ok-count.ensures.bytes tells) in
    let shown = subst (λ x. Fed (Err x) c.feed.new.reader at.0 piece) c.in-Err-Bad.field-0-is
    (c.in-Err-Bad.ensures at.0 at.1) in
    rw c.in-Err-Bad.field-0-is (
      headed-fault at.0 piece _ _ c.in-Err-Bad.fault shown whole,
      fault-dump c.take.new.self at.0 piece _ _ c.in-Err-Bad.fault (c.take.ensures at.0 at.4) shown whole
          (sym c.is_too_long.ensures ∙ c.if-is_too_long.false),
    )

pub take-requires : goal.take-requires
take-requires g c =
    let at = c.pieces.invariant.at in
    let part = length-take c.in_ok-count.count c.read_piece.new.room in
    (at.0, at.4, omega (arith, part, at.2, c.in_ok-count.ensures.few))

pub returns-then-is_too_long-clause-read : goal.returns-then-is_too_long-clause-read
returns-then-is_too_long-clause-read g c = λ tells.
    let at = c.pieces.invariant.at in
    let piece = take c.in_ok-count.count c.read_piece.new.room in
    no-dump c.take.new.self (at.0 ++ piece) _ _ (c.take.ensures at.0 at.4)
    (piece-taken _ at.0 _ piece _ (at.3 tells) (c.in_ok-count.ensures.bytes tells))
    (sym c.is_too_long.ensures ∙ c.if-is_too_long.true)
