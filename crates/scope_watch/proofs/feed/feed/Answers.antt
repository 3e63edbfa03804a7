use Rattle.std.proofs.Common.{rules, ◌≡◌, Err, refl}
use Rattle.scope_watch.proofs.Headers.{byte-fault}
use Rattle.scope_watch.proofs.feed.feed.Goals as goal

pub returns-in_err-feed_byte : goal.returns-in_err-feed_byte
returns-in_err-feed_byte c = λ fed o.
    let same : c.from_residual.result ≡ Err c.in_err-feed_byte.field-0.0 = search rules in
    rw same (byte-fault _ _ fed c.args.piece.now c.loop-at.at _ _ c.loop-at-test.true refl
    (c.in_err-feed_byte.ensures _ (c.loop-at.invariant fed o)))
