-- What the trait promises of a sink that tells what it holds is not said here.
use Rattle.std.proofs.Common.{refl}
use Rattle.fsb_io.proofs.file.FileSinkSink.TheImpl.Goals as goal

pub begin-tells : goal.begin-tells
begin-tells g c = record {
  begun = λ told. cc told;
  holds_stays = λ told. cc told;
  name_stays = λ told. cc told;
  cause = c.ensures.cause;
}

pub write-tells : goal.write-tells
write-tells g c = record {
  within = c.ensures.within;
  some = c.ensures.some;
  appends = λ told. cc told;
  holds_stays = λ told. cc told;
  name_stays = λ _. refl;
  cause = c.ensures.cause;
}
