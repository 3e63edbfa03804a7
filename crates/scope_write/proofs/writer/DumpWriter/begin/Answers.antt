use Rattle.scope_write.proofs.Growing.{dump-none}
use Rattle.scope_write.proofs.writer.DumpWriter.begin.Goals as goal

pub returns-clause-whole : goal.returns-clause-whole
returns-clause-whole g c tells = rw (dump-none c.args.there) (c.in_ok-put_header.ensures.whole tells)
