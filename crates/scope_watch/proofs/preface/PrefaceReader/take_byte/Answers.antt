use Rattle.std.proofs.Common.{◌+◌, refl}
use Rattle.scope_watch.proofs.Prefaces.{no-dollar, with-byte}
use Rattle.scope_watch.proofs.preface.PrefaceReader.take_byte.Goals as goal

pub returns : goal.returns
returns c = λ fed h.
    let old = c.args.self.now in
    with-byte old (record { count = old.count + 1; starts = c.is_white-self.result; is_over = old.is_over }) fed c.args.byte h
    c.if-self.false (no-dollar old.starts c.args.byte c.else-self-2.either) c.if-self.false refl c.is_white-self.ensures
